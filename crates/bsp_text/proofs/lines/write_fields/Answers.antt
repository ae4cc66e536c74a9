use Rattle.std.proofs.Common.{◌≤◌, ◌-◌, drop, get_or, length, arith}
use Rattle.bsp_text.proofs.Numbering.{few_digits, field_before}
use Rattle.bsp_text.proofs.lines.write_fields.Goals as goal

pub write_digits-at-requires : goal.write_digits-at-requires
write_digits-at-requires c =
    let h = c.loop-left.invariant in
    let n = get_or c.args.numbers.now (c.loop-left.left - 1) 0 in
    let short = few_digits n (omega (arith, c.type_inv.numbers (c.loop-left.left - 1))) in
    (omega (arith, short, h.fits), omega (arith, h.before, c.requires.inside))

pub overflow_sub-at : goal.overflow_sub-at
overflow_sub-at c =
    let h = c.loop-left.invariant in
    let n = get_or c.args.numbers.now (c.loop-left.left - 1) 0 in
    let short = few_digits n (omega (arith, c.type_inv.numbers (c.loop-left.left - 1))) in
    omega (arith, short, h.fits, c.write_digits-at.ensures.start)

pub loop-left-preserved : goal.loop-left-preserved
loop-left-preserved c =
    let h = c.loop-left.invariant in
    let n = get_or c.args.numbers.now (c.loop-left.left - 1) 0 in
    let start = c.write_digits-at.result in
    let buf = c.write_digits-at.new.buf in
    let short = few_digits n (omega (arith, c.type_inv.numbers (c.loop-left.left - 1))) in
    let written = c.write_digits-at.ensures in
    let long = c.write_digits-at.auto.buf in
    let high : start ≤ length buf = omega (arith, written.start, h.before, c.requires.inside, long) in
    record {
      few = omega (arith, h.few);
      before = omega (arith, h.before, written.start);
      short = omega (arith, short, h.short, written.start);
      fits = omega (arith, short, h.fits, written.start);
      written = field_before c.args.numbers.now c.loop-left.room buf (drop c.args.end c.args.room.now) c.loop-left.left c.loop-left.at start (omega arith) h.few (omega (arith, short, h.fits, written.start)) high written.written h.written;
    }
