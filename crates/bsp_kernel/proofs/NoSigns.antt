-- That no number is negative, as a test of all.
use Rattle.std.proofs.Common.{◌≡◌, Bool, true, false, List, refl}
use Rattle.std.specs.Prelude.{not}
use Rattle.std.specs.List.{list_all, list_any}
use Rattle.toml.specs.Data.{Data}
use Rattle.bsp_engine.specs.Tree.{elements, is_negative}
use Rattle.bsp_engine.proofs.Walks.{some_other}
use Rattle.bsp_kernel.specs.Shapes.{has_negative_number}

not_not : (a : Bool) → a ≡ not (not a)
not_not true = refl
not_not false = refl

pub signs : (ds : List Data) → list_any is_negative ds ≡ not (list_all (λ w. not (is_negative w)) ds)
signs ds = some_other is_negative (λ w. not (is_negative w)) (λ w. not_not (is_negative w)) ds

abbrev pub has_no_sign : Data → Bool
has_no_sign d = list_all (λ w. not (is_negative w)) (elements d)

pub code_signs : (ds : List Data) → list_any has_negative_number ds ≡ not (list_all has_no_sign ds)
code_signs ds = some_other has_negative_number has_no_sign (λ d. signs (elements d)) ds
