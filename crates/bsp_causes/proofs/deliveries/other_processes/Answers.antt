use Rattle.std.proofs.Common.{◌≡◌, ◌∷◌, [], ◌++◌, ℕ, Bool, sym, ap, ◌∙◌, arith, true, false}
use Rattle.bsp_causes.specs.Inside.Parts.{is_other}
use Rattle.bsp_causes.proofs.Filtered.{passes_more, fails_more}
use Rattle.bsp_causes.proofs.deliveries.other_processes.Goals as goal
use Rattle.bsp_causes.proofs.deliveries.other_processes.Goals.{then-is_other+in_ok-push, else-is_other}

pub loop-q-preserved : goal.loop-q-preserved
loop-q-preserved c =
    let test : ℕ → Bool = is_other c.args.part c.args.old.now c.args.new.now c.args.d in
    let q = c.loop-q.q in
    elim c.if-is_other.branch [
      | then-is_other+in_ok-push w ↦
          let passes : test q ≡ true = sym c.is_other.ensures ∙ w.if-is_other.true in
          w.processes-is ∙ w.in_ok-push.ensures.ok ∙ ap (λ xs. xs ++ q ∷ []) c.loop-q.invariant ∙ sym (passes_more test 0 q q (omega arith) passes)
      | else-is_other w ↦
          let fails : test q ≡ false = sym c.is_other.ensures ∙ w.if-is_other.false in
          w.processes-is ∙ c.loop-q.invariant ∙ sym (fails_more test 0 q q (omega arith) fails)
    ]
