use Rattle.std.proofs.Common.{arith}
use Rattle.std.proofs.lemmas.Bool.Decides.{nat_tests}
use Rattle.bsp_model.proofs.Pages.{words_len}
use Rattle.bsp_model.proofs.memory.Memory.count_of_pages.Goals as goal

pub returns-then-is_empty-clause-most : goal.returns-then-is_empty-clause-most
returns-then-is_empty-clause-most c = let size = words_len _ _ _ _ c.self.view_is in omega (arith, c.len-full.ensures, c.self.inside.pages.ok.0)

pub returns-then-is_empty-clause-none : goal.returns-then-is_empty-clause-none
returns-then-is_empty-clause-none c =
    let size = words_len _ _ _ _ c.self.view_is in
    grind (arith, nat_tests, size, c.len-full.ensures, c.self.inside.pages.ok.0, c.self.inside.last.ok.0)

pub returns-else-is_empty-clause-most : goal.returns-else-is_empty-clause-most
returns-else-is_empty-clause-most c =
    let size = words_len _ _ _ _ c.self.view_is in
    grind (arith, nat_tests, size, c.len-full.ensures, c.self.inside.pages.ok.0, c.self.inside.last.ok.0)

pub returns-else-is_empty-clause-none : goal.returns-else-is_empty-clause-none
returns-else-is_empty-clause-none c =
    let size = words_len _ _ _ _ c.self.view_is in
    grind (arith, nat_tests, size, c.len-full.ensures, c.self.inside.pages.ok.0, c.self.inside.last.ok.0)
