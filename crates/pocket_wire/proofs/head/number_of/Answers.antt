use Rattle.std.proofs.Common.{◌≡◌, ◌+◌, ◌*◌, ℕ, min, arith}
use Rattle.std.proofs.lemmas.Int.Digits.{digits_value_more}
use Rattle.pocket_wire.proofs.head.number_of.Goals as goal

-- a clipped number keeps clipping
clips : (before value digit after : ℕ) → before ≡ min value 1048577 → after ≡ min (before * 10 + digit) 1048577 → after ≡ min (value * 10 + digit) 1048577
clips before value digit after p q = grind (arith, p, q)

pub loop-digit-preserved : goal.loop-digit-preserved
loop-digit-preserved c =
    let more = digits_value_more 10 c.args.digits.now c.loop-digit.digit-index c.loop-digit-test.true in
    rw more (clips c.loop-digit.number _ _ c.push_digit-number.result c.loop-digit.invariant c.push_digit-number.ensures)
