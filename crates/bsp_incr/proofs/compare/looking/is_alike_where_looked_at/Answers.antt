use Rattle.std.proofs.Common.{◌≡◌, length, ap, sym, ◌∙◌, refl, arith}
use Rattle.bsp_model.specs.Memory.{rest_of_page}
use Rattle.bsp_step.specs.ViewParts.{ViewParts}
use Rattle.bsp_step.proofs.WhereLookedAt.{Decides-where_looked_at, all_looked_at, not_where_looked_at, alike_more}
use Rattle.bsp_incr.proofs.compare.looking.is_alike_where_looked_at.Goals as goal

pub returns-then-not-are_alike_from : goal.returns-then-not-are_alike_from
returns-then-not-are_alike_from g c =
    let a = c.loop-address.address in
    let long : c.len.result ≡ length c.args.old.now.memory = c.len.ensures ∙ ap (λ (v : ViewParts). length v.memory) c.old.view_is in
    not_where_looked_at (g.P.Program.looks c.args.program.now c.args.old.now) c.args.old.now.memory c.args.new.now c.words_from-before.result.now c.words_from-after.result.now a c.are_alike_from-in-loop-address.result
    (c.words_from-before.ensures ∙ ap (λ (v : ViewParts). rest_of_page v.memory a) c.old.view_is)
    c.words_from-after.ensures
    c.requires (omega (arith, c.loop-address-test.true)) c.are_alike_from-in-loop-address.ensures c.if-not-are_alike_from.true

pub loop-address-preserved : goal.loop-address-preserved
loop-address-preserved g c =
    let a = c.loop-address.address in
    alike_more (g.P.Program.looks c.args.program.now c.args.old.now) c.args.old.now.memory c.args.new.now c.words_from-before.result.now c.words_from-after.result.now a _
    (c.words_from-before.ensures ∙ ap (λ (v : ViewParts). rest_of_page v.memory a) c.old.view_is)
    c.words_from-after.ensures
    c.requires refl c.loop-address.invariant (c.are_alike_from-in-loop-address.ensures.0 c.if-not-are_alike_from.false)

pub returns-2 : goal.returns-2
returns-2 g c =
    let long : c.len.result ≡ length c.args.old.now.memory = c.len.ensures ∙ ap (λ (v : ViewParts). length v.memory) c.old.view_is in
    sym ((Decides-where_looked_at (g.P.Program.looks c.args.program.now c.args.old.now) c.args.old.now.memory c.args.new.now).1 (λ a l h. c.loop-address.invariant a (omega (arith, c.loop-address-test.false)) h))

pub returns : goal.returns
returns g c =
    all_looked_at (g.P.Program.looks c.args.program.now c.args.old.now) c.args.old.now.memory c.args.new.now c.in-Some.before.now c.in-Some-in_one_piece.after.now c.are_alike_from.result
    (c.in-Some.ensures ∙ ap (λ (v : ViewParts). v.memory) c.old.view_is) c.in-Some-in_one_piece.ensures c.are_alike_from.ensures
