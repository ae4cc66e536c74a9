-- Outcomes that are gathered: a turn begins behind them, and ends.
use Rattle.std.proofs.Common.{◌≡◌, ◌<◌, ℕ, ◌+◌, List, [], ◌∷◌, ◌++◌, Option, length, refl, sym, ap, ◌∙◌, subst, arith}
use Rattle.std.proofs.lemmas.List.{length_push}
use Rattle.bsp_model.specs.LocalParts.{LocalParts}
use Rattle.bsp_model.specs.declared.fault.Fault.{Fault}
use Rattle.bsp_step.specs.declared.lists.Lists.{Lists}
use Rattle.bsp_step.specs.declared.lists.TurnEnd.{TurnEnd}
use Rattle.bsp_step.specs.declared.open_lists.OpenLists.{OpenLists}
use Rattle.bsp_step.specs.OutcomeParts.{IsOutcome}
use Rattle.bsp_step.specs.Inside.Outcomes.{outcomes_of, AreSameLists, HasLists}
use Rattle.bsp_step.specs.Inside.Gathered.{Gathered, begun, count_of_issued, gathered_in, rows_in, no_lists, AreBefore, HasNothing, IsGathered, IsEnded, outcome_by}
use Rattle.bsp_step.proofs.OutcomeColumns.{same-outcomes, outcomes-push, lawful-push}

none_before : (l : Lists) → l ≡ rows_in no_lists → (n : ℕ) → AreBefore l n
none_before l is n =
    subst (λ (m : Lists). AreBefore m n) (sym is)
    record { faults = λ k above. refl; stores = λ k above. refl; tags = λ k above. refl; puts = omega arith; gets = omega arith; sends = omega arith; pops = omega arith; pushes = omega arith; lines = omega arith }

-- no outcomes, and a turn that has issued nothing
pub none_gathered : IsGathered [] [] no_lists 0
none_gathered =
    record {
      outcomes = record { count = refl; beside = λ k l. absurd (omega (arith, l)); lawful = λ k l. absurd (omega (arith, l)) };
      before = none_before (rows_in no_lists) refl 0;
      count = refl;
    }

-- a turn begins behind outcomes
pub begun_behind : (ends : List TurnEnd) (memories : List (List ℕ)) (old : Lists) (new : OpenLists) → ((k : ℕ) → k < length ends → AreSameLists old k (rows_in new) k) → HasNothing new → gathered_in ends memories new ≡ begun (outcomes_of ends memories old)
begun_behind ends memories old new same nothing =
    let earlier = same-outcomes ends memories old (rows_in new) same in
    λ i. record { earlier = earlier i; puts = nothing.puts i; gets = nothing.gets i; sends = nothing.sends i; pops = nothing.pops i; pushes = nothing.pushes i; lines = nothing.lines i }

-- The turn under way ends, and leaves one outcome more; behind it a turn begins.
pub turn_ended : (ends : List TurnEnd) (memories : List (List ℕ)) (l new : OpenLists) (now : Gathered) (place requests : ℕ) (end : TurnEnd) (fault : Option Fault) (tag : Option ℕ) (local : LocalParts) → IsGathered ends memories l requests → gathered_in ends memories l ≡ now → place ≡ length ends
    → IsEnded l place end.stored fault tag local new → ((k : ℕ) → k < place → AreSameLists (rows_in l) k (rows_in new) k) → IsOutcome (outcome_by now end fault tag local)
    → IsGathered (ends ++ end ∷ []) (memories ++ local.memory ∷ []) new 0 × (gathered_in (ends ++ end ∷ []) (memories ++ local.memory ∷ []) new ≡ begun (now.earlier ++ outcome_by now end fault tag local ∷ []))
turn_ended ends memories l new now place requests end fault tag local are is there at_end before lawful =
    let n = length ends in
    let more = length (ends ++ end ∷ []) in
    let one : more ≡ n + 1 = length_push ends end in
    let o = outcome_by (gathered_in ends memories l) end fault tag local in
    let ended : IsEnded l n end.stored fault tag local new = subst (λ (p : ℕ). IsEnded l p end.stored fault tag local new) there at_end in
    let same : (k : ℕ) → k < n → AreSameLists (rows_in l) k (rows_in new) k = λ k below. before k (omega (arith, below, there)) in
    let has : HasLists end.stored (rows_in new) n local.memory o =
    record {
      beside = ended.beside;
      stores = ended.stores;
      puts = ended.puts;
      rare = record { faults = ended.faults; gets = ended.gets; sends = ended.sends; pops = ended.pops; pushes = ended.pushes; tags = ended.tags; lines = ended.lines };
    } in
    let kept : IsOutcome o = subst (λ (g : Gathered). IsOutcome (outcome_by g end fault tag local)) (sym is) lawful in
    let nothing = ended.nothing in
    let made : gathered_in (ends ++ end ∷ []) (memories ++ local.memory ∷ []) new ≡ begun (outcomes_of ends memories (rows_in l) ++ o ∷ []) =
    let outcomes = outcomes-push ends memories (rows_in l) (rows_in new) end local.memory end.stored o are.outcomes.count same has refl in
    λ i. record { earlier = outcomes i; puts = nothing.puts i; gets = nothing.gets i; sends = nothing.sends i; pops = nothing.pops i; pushes = nothing.pushes i; lines = nothing.lines i } in (
      record {
        outcomes = lawful-push ends memories (rows_in l) (rows_in new) end local.memory end.stored o are.outcomes same has refl kept kept.short_memory;
        before = subst (AreBefore (rows_in new)) (sym one) ended.behind;
        count = ap count_of_issued (sym made);
      },
      made ∙ ap (λ (g : Gathered). begun (g.earlier ++ outcome_by g end fault tag local ∷ [])) is,
    )
