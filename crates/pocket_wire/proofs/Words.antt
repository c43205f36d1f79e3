-- The words that dice tell after one more call.
use Rattle.std.proofs.Common.{◌≡◌, ℕ, zero, suc, ◌+◌, ◌-◌, ◌^◌, ◌%◌, min, nat_lt, Bool, true, false, Some, None, length, length-append, if◌then◌else◌, refl, ap, arith}
use Rattle.pocket_wire.specs.Outside.{AddsAnswer, told, counted_words}

-- as many as calls
pub length-counted_words : (start n : ℕ) → length (counted_words start n) ≡ n
length-counted_words start zero = refl
length-counted_words start (suc n) = simp length-append (omega (arith, length-counted_words start n))

-- one more call adds its word, until the count is at its end
pub adds_word : (start calls next : ℕ) → next ≡ min (calls + 1) (2 ^ 64 - 1)
    → AddsAnswer (told calls (counted_words start calls)) (told next (counted_words start next)) ((start + calls) % 2 ^ 64)
adds_word start calls next is = by (nat_lt calls (2 ^ 64 - 1)) (nat_lt next (2 ^ 64 - 1)) refl refl
  where
    by : (v w : Bool) → nat_lt calls (2 ^ 64 - 1) ≡ v → nat_lt next (2 ^ 64 - 1) ≡ w
        → AddsAnswer (if v then Some (counted_words start calls) else None) (if w then Some (counted_words start next) else None)
        ((start + calls) % 2 ^ 64)
    by false w p q = tt
    by true false p q = let len = length-counted_words start calls in grind (arith, len, is, q)
    by true true p q =
        let same : next ≡ suc calls = grind (arith, is, q) in
        ap (counted_words start) same
