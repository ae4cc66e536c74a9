use Rattle.std.proofs.Common.{ℕ, List, length, sym, ap, ◌∙◌, arith}
use Rattle.bsp_model.proofs.ProcessSets.{processes_from_head}
use Rattle.bsp_model.proofs.process_set.MembersIterator.next.Goals as goal

pub returns-clause-steps : goal.returns-clause-steps
returns-clause-steps c = sym c.self.view_is ∙ processes_from_head c.self.inside.set c.self.inside.from c.in_ok-process.process (sym c.next.ensures.first ∙ c.in_ok-process.was)

pub returns-clause-goes : goal.returns-clause-goes
returns-clause-goes c =
    let fewer =
    ap (λ (xs : List ℕ). length xs)
    (sym c.self.view_is ∙ processes_from_head c.self.inside.set c.self.inside.from c.in_ok-process.process (sym c.next.ensures.first ∙ c.in_ok-process.was)) in
    record { on = λ _. (tt, tt, omega (arith, fewer)); keeps = tt; rests = λ _. tt }
