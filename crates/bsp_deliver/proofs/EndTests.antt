-- The tests at the end of a superstep, one after the other.
use Rattle.std.proofs.Common.{◌≡◌, ℕ, ◌≤◌, ◌&&◌, Bool, true, false, Option, None, Some, List, All, map, length, not, if◌then◌else◌, refl, sym, ap, ◌∙◌, get_or}
use Rattle.std.specs.List.{list_all}
use Rattle.std.proofs.Math.Bool.{and-false}
use Rattle.std.proofs.lemmas.Bool.{eq-eqb, false≢true}
use Rattle.std.proofs.lemmas.List.Folds.{list_any_none}
use Rattle.bsp_model.specs.declared.fault.SyncFault.{SyncFault}
use Rattle.bsp_model.specs.declared.fault.SyncFault.TheVariants.{MixedEnd, TagMismatch}
use Rattle.bsp_table.specs.declared.area.Area.{Area}
use Rattle.bsp_table.specs.NextTable.{are_alike, table_fault}
use Rattle.bsp_table.proofs.NextTables.{are_alike-map}
use Rattle.bsp_step.specs.declared.outcome.Ended.{Ended}
use Rattle.bsp_step.specs.declared.outcome.Ended.TheVariants.{Sync, Halt}
use Rattle.bsp_step.specs.OutcomeParts.{OutcomeParts}
use Rattle.bsp_deliver.specs.SyncFault.{is_sync, some_sync, some_halt, same_tag, sync_fault}

same_tag_itself : (tag : Option ℕ) → same_tag tag tag ≡ true
same_tag_itself None = refl
same_tag_itself (Some n) = eq-eqb n n refl

and_right : (a b : Bool) → (a && b) ≡ false → a ≡ true → b ≡ false
and_right true b none one = none
and_right false b none one = absurd (false≢true one)

-- processes that all ended alike
pub alike : (os : List OutcomeParts) (e : Ended) → All (λ (o : OutcomeParts). o.ended ≡ e) os → (some_sync os && some_halt os) ≡ false
alike os Sync all =
    ap (λ (h : Bool). some_sync os && h) (list_any_none (λ (o : OutcomeParts). not (is_sync o.ended)) os (λ k d l. ap (λ (x : Ended). not (is_sync x)) (all k d l)))
    ∙ and-false (some_sync os)
alike os Halt all = ap (λ (s : Bool). s && some_halt os) (list_any_none (λ (o : OutcomeParts). is_sync o.ended) os (λ k d l. ap is_sync (all k d l)))

pub none_halts : (os : List OutcomeParts) → (some_sync os && some_halt os) ≡ false → some_sync os ≡ true → some_halt os ≡ false
none_halts os same syncs = and_right (some_sync os) (some_halt os) same syncs

abbrev same_choices : OutcomeParts → List OutcomeParts → Bool
same_choices first os = list_all (λ (o : OutcomeParts). same_tag first.tag o.tag) os

abbrev fault_by : Bool → Bool → Bool → Option SyncFault → Option SyncFault
fault_by syncs halts same later = if syncs && halts then Some MixedEnd else (if not syncs then None else (if not same then Some TagMismatch else later))

-- where all end by sync
all_sync : (os : List OutcomeParts) (slots : List (List Area)) (first : OutcomeParts) (same : Bool) → 1 ≤ length os → first ≡ get_or os 0 first → some_sync os ≡ true → some_halt os ≡ false → same_choices first os ≡ same
    → fault_by true false same (table_fault slots (map (λ (o : OutcomeParts). o.pops) os) (map (λ (o : OutcomeParts). o.pushes) os)) ≡ sync_fault os slots
all_sync os slots first same l e syncs halts choices =
    let alike : are_alike same_tag (map (λ (o : OutcomeParts). o.tag) os) ≡ same = are_alike-map same_tag (λ (o : OutcomeParts). o.tag) os first l e (same_tag_itself first.tag) ∙ choices in
    λ i. fault_by (sym syncs i) (sym halts i) (sym alike i) (table_fault slots (map (λ (o : OutcomeParts). o.pops) os) (map (λ (o : OutcomeParts). o.pushes) os))

pub tag_mismatch : (os : List OutcomeParts) (slots : List (List Area)) (first : OutcomeParts) → 1 ≤ length os → first ≡ get_or os 0 first → some_sync os ≡ true → some_halt os ≡ false → same_choices first os ≡ false
    → Some TagMismatch ≡ sync_fault os slots
tag_mismatch os slots first l e syncs halts choices = all_sync os slots first false l e syncs halts choices

pub fault_of_table : (os : List OutcomeParts) (slots : List (List Area)) (first : OutcomeParts) → 1 ≤ length os → first ≡ get_or os 0 first → some_sync os ≡ true → some_halt os ≡ false → same_choices first os ≡ true
    → table_fault slots (map (λ (o : OutcomeParts). o.pops) os) (map (λ (o : OutcomeParts). o.pushes) os) ≡ sync_fault os slots
fault_of_table os slots first l e syncs halts choices = all_sync os slots first true l e syncs halts choices

if_none : {X : Type 0} (b : Bool) (x : X) (rest : Option X) → (if b then Some x else rest) ≡ None → b ≡ false
if_none true x rest none = absurd (cc)
if_none false x rest none = refl

-- where there is no fault, all ended alike
pub not_mixed : (os : List OutcomeParts) (slots : List (List Area)) → sync_fault os slots ≡ None → (some_sync os && some_halt os) ≡ false
not_mixed os slots none = if_none (some_sync os && some_halt os) MixedEnd _ none
