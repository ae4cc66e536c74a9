use Rattle.std.proofs.Common.{◌≡◌, ◌+◌, ◌∙◌, length, arith}
use Rattle.std.proofs.lemmas.Grind.{common_steps}
use Rattle.bsp_step.specs.CtxInside.{context_of}
use Rattle.bsp_step.proofs.Limits.{put-within, few_placed}
use Rattle.bsp_step.proofs.ctx.Ctx.put_words.Goals as goal

pub add_put-requires : goal.add_put-requires
add_put-requires c =
    few_placed (context_of c.self.inside) c.args.self.now c.deref_mut.result.now c.args.pid c.args.area (c.args.offset + c.args.len) (c.self.view_is ∙ c.in_ok-start.ensures.passes.0) c.deref_mut.ensures.value c.in_ok-start.ensures.passes.2

pub invariant_of-self-2 : goal.invariant_of-self-2
invariant_of-self-2 c =
    let long : length c.as_slice.result.now ≡ c.args.len = grind (arith, common_steps) in
    put-within (context_of c.self.inside) c.args.self.now c.deref_mut.result.now c.add_put.new.self c.args.pid c.args.len c.args.area c.args.offset c.in_ok-start.start c.as_slice.result.now
    c.self.invariant (c.self.view_is ∙ c.in_ok-start.ensures.passes.0) c.deref_mut.ensures.value c.in_ok-start.ensures.passes.2 c.in_ok-start.ensures.start long c.in_ok-add_put.ensures.ok
