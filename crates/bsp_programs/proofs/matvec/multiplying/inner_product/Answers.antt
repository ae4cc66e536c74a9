use Rattle.std.proofs.Common.{◌∙◌, ◌^◌, ◌<◌, sym, arith, add-zero}
use Rattle.std.proofs.Math.Nat.{mod-eq_of_lt}
use Rattle.std.proofs.lemmas.Slice.Zip.{zip_end}
use Rattle.bsp_programs.proofs.Multiplying.{zip-past}
use Rattle.bsp_programs.proofs.matvec.multiplying.inner_product.Goals as goal

pub returns : goal.returns
returns c =
    let end = zip_end c.args.row.now c.args.vector.now c.loop-a.yielded c.into_iter-a-iterator.result c.loop-a.a-iterator c.next.new.self c.next.result (cc) (cc c.zip-a-items.ensures.second.0) c.loop-a.yielded_by c.in-None.is c.next.ensures.steps in
    let none = zip-past c.args.row.now c.args.vector.now _ end in
    let all = rw (none, add-zero) at c.loop-a.invariant in
    let small : c.loop-a.sum < 2 ^ 64 = omega arith in
    sym (mod-eq_of_lt small) ∙ all
