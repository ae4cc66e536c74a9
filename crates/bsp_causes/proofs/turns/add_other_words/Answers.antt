use Rattle.std.proofs.Common.{length, refl, ap, ◌∙◌, arith}
use Rattle.bsp_model.specs.Memory.{rest_of_page}
use Rattle.bsp_step.specs.ViewParts.{ViewParts}
use Rattle.bsp_causes.proofs.OtherWords.{page_more}
use Rattle.bsp_step.proofs.WhereLookedAt.{inside_page}
use Rattle.bsp_causes.proofs.turns.add_other_words.Goals as goal

pub loop-address-preserved : goal.loop-address-preserved
loop-address-preserved g c =
    let m = c.args.old.now.memory in
    let n = c.args.new.now.memory in
    let a = c.loop-address.address in
    let before = c.words_from-before.result.now in
    let after = c.words_from-after.result.now in
    let first = c.words_from-before.ensures ∙ ap (λ (v : ViewParts). rest_of_page v.memory a) c.old.view_is in
    let second = c.words_from-after.ensures ∙ ap (λ (v : ViewParts). rest_of_page v.memory a) c.new.view_is in
    let long = ap (λ (v : ViewParts). length v.memory) c.old.view_is in
    record {
      inside = (inside_page m before a first (omega (arith, c.loop-address-test.true, c.len.ensures, long))).1;
      added = page_more (g.P.Program.looks c.args.program.now c.args.old.now) m n before after c.args.words.now c.loop-address.words c.add_other_words_from.new.words a _ first second refl c.loop-address.invariant.added c.in_ok-add_other_words_from.ensures;
    }
