use Rattle.std.proofs.Common.{◌+◌, ◌∙◌, length, refl}
use Rattle.bsp_step.specs.CtxInside.{context_of}
use Rattle.bsp_step.proofs.Limits.{put-within, few_placed}
use Rattle.bsp_step.proofs.ctx.Ctx.put.Goals as goal

pub add_put-requires : goal.add_put-requires
add_put-requires c =
    few_placed (context_of c.self.inside) c.args.self.now c.deref_mut.result.now c.args.pid c.args.area (c.args.offset + length c.args.words.now) (c.self.view_is ∙ c.in_ok-start.ensures.passes.0) c.deref_mut.ensures.value c.in_ok-start.ensures.passes.2

pub invariant_of-self-2 : goal.invariant_of-self-2
invariant_of-self-2 c =
    put-within (context_of c.self.inside) c.args.self.now c.deref_mut.result.now c.add_put.new.self c.args.pid (length c.args.words.now) c.args.area c.args.offset c.in_ok-start.start c.args.words.now
    c.self.invariant (c.self.view_is ∙ c.in_ok-start.ensures.passes.0) c.deref_mut.ensures.value c.in_ok-start.ensures.passes.2 c.in_ok-start.ensures.start refl c.in_ok-add_put.ensures.ok
