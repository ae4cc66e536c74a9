use Rattle.std.proofs.Common.{◌≡◌, ◌∙◌, length, refl, sym, arith}
use Rattle.std.proofs.lemmas.Bool.Decides.{nat_tests}
use Rattle.std.proofs.lemmas.List.{nil_from_length}
use Rattle.bsp_model.proofs.Pages.{words_behind}
use Rattle.bsp_model.proofs.memory_ref.MemoryRef.in_one_piece.Goals as goal

pub returns-then-is_empty : goal.returns-then-is_empty
returns-then-is_empty c =
    let m = c.self.inside in
    let none : length m.pages.now ≡ 0 = grind (arith, nat_tests) in
    sym (words_behind m.pages.now m.last.now m.last.now m.len (nil_from_length m.pages.now none) (omega (arith, c.self.invariant.count, none)) refl) ∙ c.self.view_is
