-- The processes that an update touches are enough to be compared.
use Rattle.std.proofs.Common.{◌≡◌, ◌≢◌, ◌<◌, ◌≤◌, ◌==◌, ◌&&◌, ℕ, Bool, true, false, cond, not, List, length, map, get_or, replicate, arith, refl, sym, ap, ◌∙◌}
use mathlib.Core.Bool.{beq}
use Rattle.std.proofs.lemmas.Bool.Decides.{nat_tests}
use Rattle.std.proofs.lemmas.Bool.{false≢true}
use Rattle.std.proofs.lemmas.List.{get_or_default, get_or-replicate, length-replicate}
use Rattle.bsp_model.specs.Limits.{most_processes}
use Rattle.bsp_model.proofs.Inputs.{lawful_input}
use Rattle.bsp_model.proofs.Replaced.{length-replaced}
use Rattle.bsp_run.specs.declared.result.RunResult.{RunResult}
use Rattle.bsp_run.specs.Run.{Run}
use Rattle.bsp_run.specs.Result.{result_of}
use Rattle.bsp_incr.specs.declared.edit.Edit.{Edit}
use Rattle.bsp_incr.specs.declared.reply.Update.{Update}
use Rattle.bsp_incr.specs.Edits.{edited}
use Rattle.bsp_incr.specs.Named.{with_members}
use Rattle.bsp_incr.proofs.Lawful.{edited_count}
use Rattle.bsp_incr.proofs.Members.{out_of_members}
use Rattle.bsp_step.specs.Turn.{turn_of}
use Rattle.bsp_engine.specs.Inside.Touched.{compared_processes, IsUpdateBetween, HaveSameOutside}
use Rattle.bsp_engine.specs.Untouched.{touched, at_limit, end_alike, HasTheSame}
use Rattle.bsp_engine.proofs.Endings.{count_result_lines, count_result_memories}
use Rattle.bsp_engine.proofs.Untouched.{untouched_stay}

-- how runs end

pub end_otherwise : (a b : RunResult) → length a.costs ≢ length b.costs → false ≡ end_alike a b
end_otherwise a b e =
    let no : (length a.costs == length b.costs) ≡ false = grind (arith, nat_tests) in
    sym (ap (λ c. c && cond (at_limit a.status) (at_limit b.status) (not (at_limit b.status))) no)

beq-is : (x y : Bool) → beq x y ≡ cond x y (not y)
beq-is true true = refl
beq-is true false = refl
beq-is false true = refl
beq-is false false = refl

pub end_by : (a b : RunResult) (x y : Bool) → length a.costs ≡ length b.costs → x ≡ at_limit a.status → y ≡ at_limit b.status → beq x y ≡ end_alike a b
end_by a b x y e h k =
    let yes : (length a.costs == length b.costs) ≡ true = grind (arith, nat_tests) in
    beq-is x y ∙ (λ i. cond (h i) (k i) (not (k i))) ∙ sym (ap (λ c. c && cond (at_limit a.status) (at_limit b.status) (not (at_limit b.status))) yes)

-- of a process that is not compared a run after a batch gives the same

same_outside : (old new : RunResult) (set : List Bool) (n : ℕ) → length old.memories ≡ n → length new.memories ≡ n → length old.lines ≡ n → length new.lines ≡ n → length set ≡ n
    → ((p : ℕ) → p < n → get_or set p false ≡ false → HasTheSame old new p) → HaveSameOutside set old new
same_outside old new set n a b c d e same =
    record {
      memories = record { count = a ∙ sym b; one_each = e ∙ sym b; same = λ p l out. (same p (omega (arith, l, b)) out).memory };
      lines = record { count = c ∙ sym d; one_each = e ∙ sym d; same = λ p l out. (same p (omega (arith, l, d)) out).lines };
    }

pub compared_are_enough : (old : Run) (batch : List Edit) (update : Update) (new : Run) → IsUpdateBetween old batch update new → HaveSameOutside (compared_processes (result_of old) (result_of new) batch update) (result_of old) (result_of new)
compared_are_enough old batch update new h =
    let runs = h.runs in
    let turn = turn_of h.acts h.ending in
    let n = length h.input.mems in
    let k = length (result_of old).memories in
    let many : k ≡ n = count_result_memories turn h.input old runs.before in
    let ps = touched batch update in
    let none : List Bool = replicate k false in
    let compared = compared_processes (result_of old) (result_of new) batch update in
    let long : length compared ≡ n =
    elim (end_alike (result_of old) (result_of new)) as (λ b. length (cond b (with_members none ps) (replicate k true)) ≡ n) [
      | true ↦ length-replaced none ps _ ∙ length-replicate k false ∙ many
      | false ↦ length-replicate k true ∙ many
    ] in
    let same : (p : ℕ) → p < n → get_or compared p false ≡ false → HasTheSame (result_of old) (result_of new) p = λ p l.
    let here : p < k = omega (arith, l, many) in
    elim (end_alike (result_of old) (result_of new)) as (λ b. end_alike (result_of old) (result_of new) ≡ b → get_or (cond b (with_members none ps) (replicate k true)) p false ≡ false → HasTheSame (result_of old) (result_of new) p) [
      | true ↦ λ e out.
          let within : p < length (with_members none ps) = omega (arith, here, length-replaced none ps (map (λ _. true) ps), length-replicate k false) in
          untouched_stay turn h.looks h.input batch update old new runs e p l (out_of_members none ps p (get_or_default (with_members none ps) p true false within ∙ out)).1
      | false ↦ λ e out. absurd (false≢true (sym out ∙ get_or-replicate k p true false here))
    ] refl in
    same_outside (result_of old) (result_of new) compared n many
    (count_result_memories turn (edited h.input batch) new runs.after ∙ edited_count h.input batch)
    (count_result_lines turn h.input old runs.before)
    (count_result_lines turn (edited h.input batch) new runs.after ∙ edited_count h.input batch) long same

-- there are few enough processes for a set
pub few_compared : (old : Run) (batch : List Edit) (update : Update) (new : Run) → IsUpdateBetween old batch update new → length (result_of old).memories ≤ most_processes
few_compared old batch update new h = omega (arith, count_result_memories (turn_of h.acts h.ending) h.input old h.runs.before, (lawful_input h.input h.runs.lawful).few_processes)
