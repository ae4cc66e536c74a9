use Rattle.std.proofs.Common.{◌≡◌, ◌&&◌, Bool, true, map, length, ap, sym, ◌∙◌}
use Rattle.std.specs.Prelude.{is_some}
use Rattle.std.specs.List.{list_all}
use Rattle.std.proofs.lemmas.List.{length-map}
use Rattle.toml.specs.Data.{as_array}
use Rattle.toml.specs.View.{view}
use Rattle.bsp_engine.specs.Tree.{elements}
use Rattle.bsp_kernel.specs.Shapes.{is_instruction}
use Rattle.bsp_kernel.proofs.shapes.is_code.Goals as goal

pub returns-then-is_array : goal.returns-then-is_array
returns-then-is_array c =
    let d = view c.args.value.now in
    let values = c.elements-values.result.now in
    let same : map view values ≡ elements d = c.elements-values.ensures in
    let count : length values ≡ length (elements d) = sym (length-map values view) ∙ ap length same in
    let is : is_some (as_array d) ≡ true = sym c.is_array.ensures ∙ c.if-is_array.true in
    c.are_instructions.ensures ∙ (λ i. list_all (is_instruction (count i)) (same i))
    ∙ sym (ap (λ (b : Bool). b && list_all (is_instruction (length (elements d))) (elements d)) is)
