use Rattle.std.proofs.Common.{◌+◌, ◌∙◌, length, ap, arith}
use Rattle.bsp_step.specs.Context.{Context}
use Rattle.bsp_step.specs.CtxInside.{context_of}
use Rattle.bsp_step.proofs.Limits.{get-within, few_placed}
use Rattle.bsp_step.proofs.ctx.Ctx.get.Goals as goal

pub add_get-requires : goal.add_get-requires
add_get-requires c =
    few_placed (context_of c.self.inside) c.args.self.now c.deref_mut.result.now c.args.pid c.args.area (c.args.offset + c.args.len) (c.self.view_is ∙ c.in_ok-start.ensures.passes.0) c.deref_mut.ensures.value c.in_ok-start.ensures.passes.2

pub invariant_of-self-2 : goal.invariant_of-self-2
invariant_of-self-2 c =
    get-within (context_of c.self.inside) c.args.self.now c.deref_mut.result.now c.add_get.new.self c.args.pid c.args.area c.args.offset c.args.into c.args.len c.in_ok-start.start
    c.self.invariant (c.self.view_is ∙ c.in_ok-start.ensures.passes.0) c.deref_mut.ensures.value c.in_ok-start.ensures.passes.2 (omega (arith, c.memory_len-own.ensures.len, ap (λ (d : Context). length d.memory) c.self.view_is)) c.in_ok-start.ensures.start c.in_ok-add_get.ensures.ok
