use Rattle.std.proofs.Common.{◌∷◌, ◌-◌, [], ℕ, drop, length, subst, take, arith}
use Rattle.bsp_engine.specs.Talk.{Goes, said}
use Rattle.bsp_engine.proofs.Flowing.{take_next}
use Rattle.bsp_engine.proofs.Logs.{part_failed, part_untaken, says_more, says_one}
use Rattle.bsp_engine.proofs.conversation.say_all.Goals as goal

pub loop-at-preserved : goal.loop-at-preserved
loop-at-preserved g c =
    record {
      within = omega (arith, c.in-Ok.ensures.bound);
      gone = rw (← take_next c.loop-at.at c.in-Ok.n c.args.text.now) (says_more _ _ _ _ _ c.loop-at.invariant.gone (says_one _ _ _ c.in-Ok.ensures.said));
    }

pub returns-in_default-clause-err : goal.returns-in_default-clause-err
returns-in_default-clause-err g c = part_failed _ _ _ c.loop-at.at c.args.text.now c.loop-at.invariant.gone c.in_default.ensures.failed

pub returns-then-n-eq0-clause-err : goal.returns-then-n-eq0-clause-err
returns-then-n-eq0-clause-err g c =
    part_untaken _ _ _ c.loop-at.at c.args.text.now c.loop-at.invariant.gone
    (subst (λ (n : ℕ). Goes (g.T.Terminal.log c.loop-at.terminal) (g.T.Terminal.log c.say.new.self) (said (take n (take (length c.args.text.now - c.loop-at.at) (drop c.loop-at.at c.args.text.now))) ∷ [])) c.if-n-eq0.true c.in-Ok.ensures.said)
