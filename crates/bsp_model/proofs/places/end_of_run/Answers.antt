use Rattle.std.proofs.Common.{◌≡◌, ◌<◌, ◌≤◌, ◌+◌, ◌-◌, ℕ, List, get_or, inl, inr, subst, sym, arith}
use Rattle.std.proofs.lemmas.Bool.{cases_lt}
use Rattle.bsp_model.proofs.places.end_of_run.Goals as goal

-- Behind numbers that ascend by one, a number that is not further up is the next one.
next_number : (ps : List ℕ) (place end : ℕ) → place < end → get_or ps (end - 1) 0 ≡ get_or ps place 0 + ((end - 1) - place) → get_or ps (end - 1) 0 < get_or ps end 0
    → get_or ps end 0 - get_or ps place 0 ≤ end - place → get_or ps end 0 ≡ get_or ps place 0 + (end - place)
next_number ps place end some last above few = omega (arith, some, last, above, few)

pub loop-end-preserved : goal.loop-end-preserved
loop-end-preserved c k from before =
    let ps = c.args.processes.now in
    let end = c.loop-end.end in
    elim (cases_lt k end) [
      | inl earlier ↦ c.loop-end.invariant k from earlier
      | inr later ↦
          let here : k ≡ end = omega (arith, later, before) in
          let some : c.args.place < end = omega (arith, c.loop-end.auto.end) in
          subst (λ n. get_or ps n 0 ≡ get_or ps c.args.place 0 + (n - c.args.place)) (sym here)
          (next_number ps c.args.place end some (c.loop-end.invariant (end - 1) (omega (arith, some)) (omega (arith, some)))
          (c.requires.ascending (end - 1) end (omega (arith, some)) (omega (arith, c.loop-end-test.true))) (omega (arith, c.if-processes-end.false)))
    ]
