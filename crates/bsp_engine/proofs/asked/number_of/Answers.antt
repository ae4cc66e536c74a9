use Rattle.std.proofs.Common.{arith, get_or}
use Rattle.std.proofs.lemmas.Bool.Decides.{nat_tests}
use Rattle.bsp_engine.proofs.AskedNumbers.{all_read, too_large, value_of_digit}
use Rattle.bsp_engine.proofs.asked.number_of.Goals as goal

pub returns-in_err-tens : goal.returns-in_err-tens
returns-in_err-tens c =
    too_large c.args.word.now c.loop-byte.number c.loop-byte.byte-index _ c.loop-byte-test.true c.loop-byte.invariant.same (omega (arith, c.in_err-tens.ensures)) c.from_residual.ensures

pub returns-in_err-number : goal.returns-in_err-number
returns-in_err-number c =
    let byte = get_or c.args.word.now c.loop-byte.byte-index 0 in
    let digit = c.if-not-is_ascii_digit.ensures.cases in
    too_large c.args.word.now c.loop-byte.number c.loop-byte.byte-index _ c.loop-byte-test.true c.loop-byte.invariant.same
    (omega (arith, c.in_err-number.ensures, c.from.ensures, c.in_ok-tens.ensures, value_of_digit byte digit.0 digit.1)) c.from_residual-in_err-number.ensures

pub returns : goal.returns
returns c =
    all_read c.args.word.now c.loop-byte.number c.loop-byte.byte-index (grind (arith, nat_tests, c.if-is_empty.ensures)) c.loop-byte-test.false c.loop-byte.invariant.fits c.loop-byte.invariant.same
