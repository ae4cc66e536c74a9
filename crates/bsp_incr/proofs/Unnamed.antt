-- What a batch leaves to the processes that it does not name.
use Rattle.std.proofs.Common.{◌≡◌, List, [], ◌∷◌, ℕ, get_or, refl, sym, ◌∙◌, arith, map, ap, zero, suc}
use Rattle.std.specs.Prelude.{Contains}
use Rattle.std.specs.List.{flat_map}
use Rattle.std.proofs.lemmas.List.{get_or-set_other}
use Rattle.std.proofs.lemmas.List.Elements.{Contains-append_left, Contains-append_right}
use Rattle.bsp_model.specs.declared.input.Input.{Input}
use Rattle.bsp_incr.specs.declared.edit.Edit.{Edit}
use Rattle.bsp_incr.specs.declared.edit.Edit.TheVariants.{Word, Arg, Limit, Prices}
use Rattle.bsp_incr.specs.declared.reply.Place.{Place}
use Rattle.bsp_incr.specs.Edits.{edited, edited_by}
use Rattle.bsp_incr.specs.Named.{arg_pids, word_pids}

-- an edit changes no list of these but that of the process that it names
abbrev IsLocal : (Input → List (List ℕ)) → (Edit → List ℕ) → Type 0
IsLocal of pids = (i : Input) (e : Edit) (p : ℕ) → (Contains (pids e) p → ⊥) → get_or (of (edited_by i e)) p [] ≡ get_or (of i) p []

memories : IsLocal (λ (i : Input). i.mems) word_pids
memories i (Word pid addr value) p away = get_or-set_other i.mems pid p _ [] (λ e. away (0, omega arith, sym e))
memories i (Arg pid index value) p away = refl
memories i (Limit n) p away = refl
memories i (Prices g l) p away = refl

arguments : IsLocal (λ (i : Input). i.args) arg_pids
arguments i (Word pid addr value) p away = refl
arguments i (Arg pid index value) p away = get_or-set_other i.args pid p _ [] (λ e. away (0, omega arith, sym e))
arguments i (Limit n) p away = refl
arguments i (Prices g l) p away = refl

unnamed_same : (of : Input → List (List ℕ)) (pids : Edit → List ℕ) → IsLocal of pids → (i : Input) (batch : List Edit) (p : ℕ) → (Contains (flat_map pids batch) p → ⊥) → get_or (of (edited i batch)) p [] ≡ get_or (of i) p []
unnamed_same of pids local i [] p away = refl
unnamed_same of pids local i (e ∷ later) p away =
    unnamed_same of pids local (edited_by i e) later p (λ c. away (Contains-append_right (pids e) (flat_map pids later) p c))
    ∙ local i e p (λ c. away (Contains-append_left (pids e) (flat_map pids later) p c))

pub same_memory : (i : Input) (batch : List Edit) (p : ℕ) → (Contains (flat_map word_pids batch) p → ⊥) → get_or (edited i batch).mems p [] ≡ get_or i.mems p []
same_memory = unnamed_same (λ (i : Input). i.mems) word_pids memories

pub same_args : (i : Input) (batch : List Edit) (p : ℕ) → (Contains (flat_map arg_pids batch) p → ⊥) → get_or (edited i batch).args p [] ≡ get_or i.args p []
same_args = unnamed_same (λ (i : Input). i.args) arg_pids arguments

-- a process of a place is one of those of the places
pub has_place : (places : List Place) (q : Place) → Contains places q → Contains (map (λ (x : Place). x.pid) places) q.pid
has_place [] q (k, l, at) = absurd (omega arith)
has_place (x ∷ places) q (zero, l, at) = (0, omega arith, ap (λ (y : Place). y.pid) at)
has_place (x ∷ places) q (suc k, l, at) = let h = has_place places q (k, omega arith, at) in (suc h.0, omega (arith, h.1), h.2)
