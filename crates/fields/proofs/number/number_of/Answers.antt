use Rattle.std.proofs.Common.{arith}
use Rattle.fields.specs.Laws.Numbers.{number_more, number_below, digit_at}
use Rattle.fields.proofs.number.number_of.Goals as goal

-- the number so far has at most 17 digits
pub overflow_mul-n : goal.overflow_mul-n
overflow_mul-n c = omega (arith, c.loop-byte.invariant, number_below c.args.bytes.now c.requires.digits c.loop-byte.byte-index 17 (omega arith) (omega arith))

pub overflow_sub-byte : goal.overflow_sub-byte
overflow_sub-byte c = (digit_at c.args.bytes.now c.requires.digits c.loop-byte.byte-index c.loop-byte-test.true).0

pub overflow_add-n : goal.overflow_add-n
overflow_add-n c =
    let less = number_below c.args.bytes.now c.requires.digits c.loop-byte.byte-index 17 (omega arith) (omega arith) in
    let digit = digit_at c.args.bytes.now c.requires.digits c.loop-byte.byte-index c.loop-byte-test.true in
    omega (arith, c.loop-byte.invariant)

pub loop-byte-preserved : goal.loop-byte-preserved
loop-byte-preserved c = omega (arith, c.loop-byte.invariant, number_more c.args.bytes.now c.requires.digits c.loop-byte.byte-index c.loop-byte-test.true)
