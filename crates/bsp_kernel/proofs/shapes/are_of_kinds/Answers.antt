use Rattle.std.proofs.Common.{◌≢◌, map, length, arith}
use Rattle.std.proofs.lemmas.List.{length-map}
use Rattle.toml.specs.View.{view}
use Rattle.bsp_kernel.proofs.KindLists.{are_of_kinds-other}
use Rattle.bsp_kernel.proofs.shapes.are_of_kinds.Goals as goal

pub returns-then-kinds-values : goal.returns-then-kinds-values
returns-then-kinds-values c =
    let values = c.args.values.now in
    let other : length c.args.kinds.now ≢ length (map view values) = λ same. omega (arith, length-map values view, c.if-kinds-values.true) in
    are_of_kinds-other c.args.kinds.now c.args.places (map view values) other
