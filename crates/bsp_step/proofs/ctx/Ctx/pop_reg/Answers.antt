use Rattle.std.proofs.Common.{◌≡◌, ◌++◌, ◌∷◌, [], Some, ap, sym, subst, ◌∙◌, arith}
use Rattle.std.proofs.lemmas.Grind.{common_steps}
use Rattle.bsp_table.specs.Table.{newest_under}
use Rattle.bsp_step.specs.Context.{Context}
use Rattle.bsp_step.specs.CtxInside.{context_of, IsContext}
use Rattle.bsp_step.specs.Inside.Gathered.{Gathered}
use Rattle.bsp_step.proofs.Boxed.{with_issued}
use Rattle.bsp_step.proofs.Finding.{AreSlots-push}
use Rattle.bsp_step.proofs.ctx.Ctx.pop_reg.Goals as goal

pub invariant_of-self-2 : goal.invariant_of-self-2
invariant_of-self-2 c =
    let old = c.self.invariant in
    let now = context_of c.self.inside in
    let v = c.self.inside.view.now in
    let slot = c.in-Some.slot in
    let found : newest_under v.table v.pid c.args.start now.pops ≡ Some slot = grind arith in
    let made : with_issued now c.add_pop.new.self ≡ record now { pops = now.pops ++ slot ∷ [] } =
    ap (with_issued now) (c.in_ok-add_pop.ensures.ok ∙ ap (λ (g : Gathered). record g { pops = g.pops ++ slot ∷ [] }) c.deref_mut.ensures.value) in
    let kept : IsContext (record now { pops = now.pops ++ slot ∷ [] }) =
    record {
      view = old.view;
      memory = old.memory;
      left = old.left;
      few_requests = grind (arith, common_steps);
      placed = old.placed;
      asked = old.asked;
      addressed = old.addressed;
      popped = AreSlots-push v.table v.pid now.pops c.args.start slot old.popped found;
      pushed = old.pushed;
      tag = old.tag;
      lines = old.lines;
      little_work = old.little_work;
    } in
    subst (λ (d : Context). IsContext d) (sym made) kept
