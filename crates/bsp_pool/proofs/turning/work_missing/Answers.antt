use Rattle.std.proofs.Common.{◌≡◌, ◌∙◌, ap, sym, arith}
use Rattle.std.specs.Prelude.{Some}
use Rattle.bsp_pool.specs.Inside.Turning.{made_unless}
use Rattle.bsp_pool.proofs.TurnLists.{missing_of-more, missing_of-all}
use Rattle.bsp_pool.proofs.turning.work_missing.Goals as goal
use Rattle.bsp_pool.proofs.turning.work_missing.Goals.{in-Some, in-None+in_ok-work-in-None}

pub loop-number-preserved : goal.loop-number-preserved
loop-number-preserved g c =
    let before = c.loop-number.invariant in
    let does = g.W.Work.does c.args.work.now in
    let len = c.push_reserved.ensures.len in
    let same = c.push_reserved.ensures.capacity in
    let is : c.match-kept-number.push_reserved ≡ made_unless c.index-kept-number.result (does c.index-inputs-number.result) =
    elim c.match-kept-number.branch [
      | in-Some w ↦ w.push_reserved-is ∙ ap (λ o. made_unless o (does c.index-inputs-number.result)) (sym w.in-Some.is)
      | in-None+in_ok-work-in-None w ↦
          w.push_reserved-is ∙ (ap Some w.in_ok-work-in-None.ensures ∙ ap (λ o. made_unless o (does c.index-inputs-number.result)) (sym w.in-None.is))
    ] in
    record {
      many = omega arith;
      room = omega arith;
      made = missing_of-more does c.args.inputs.now c.args.kept.now c.loop-number.number c.loop-number.made.items c.push_reserved.new.self.items c.index-inputs-number.result c.index-kept-number.result c.match-kept-number.push_reserved c.loop-number-test.true c.requires.kept before.made c.index-inputs-number.is c.index-kept-number.is is c.push_reserved.ensures.items;
    }

pub returns-clause-made : goal.returns-clause-made
returns-clause-made g c =
    c.loop-number.invariant.made ∙ missing_of-all (g.W.Work.does c.args.work.now) c.args.inputs.now c.args.kept.now c.loop-number.number c.loop-number-test.false
