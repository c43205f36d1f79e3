-- What is printed for a number is read as that number.
use Rattle.std.proofs.Common.{◌≡◌, ℕ, suc, ℤ, pos, negsuc, ◌^◌, ◌<◌, List, [], ◌∷◌, ◌++◌, length, get_or, true, false, nat_lt, Some, decimal, refl, sym, ap, ◌∙◌, arith, append-nil, lt-ltb, ne_eqb}
use Rattle.std.proofs.lemmas.Bool.Decides.{nat_tests}
use Rattle.std.proofs.lemmas.Fmt.{decimal_is_IsNumeral, decimal_nonempty}
use Rattle.std.specs.Char.{digit_value}
use Rattle.std.specs.Fmt.{signed_decimal}
use Rattle.std.specs.Str.Parse.{AllDigits}
use Rattle.fast_float.specs.Text.{Parts, text_of, digits_of, IsWellFormed}
use Rattle.fast_float.proofs.Writing.{scan-text_of}
use Rattle.json.specs.Print.{IsNumber}
use Rattle.json.proofs.Printed.Decimals.{IsNumber-signed_decimal}
use Rattle.serde_json.specs.Read.{is_integer}
use Rattle.pocket_types.specs.Profile.{size_of}
use Rattle.pocket_json.specs.Reading.{from_zero, below_zero, whole_of}

no_minus : (ds rest : List ℕ) → AllDigits 10 ds → 0 < length ds → get_or (ds ++ rest) 0 0 ≡ 45 → ⊥
no_minus [] rest h some e = omega arith
no_minus (d ∷ ds) rest h some e = let digit : digit_value d < 10 = h.0 in let is : d ≡ 45 = e in grind arith

whole_below : (p : Parts) → IsWellFormed p → whole_of (45 ∷ text_of p) ≡ below_zero p
unfolding whole_of
whole_below p h = ap below_zero (scan-text_of p h)

whole_from : (p : Parts) → IsWellFormed p → 0 < length p.whole → whole_of (text_of p) ≡ from_zero p
unfolding whole_of
whole_from p h some = rw (ne_eqb (get_or (text_of p) 0 0) 45 (no_minus p.whole _ h.whole_digits some)) (ap from_zero (scan-text_of p h))

abbrev digits : List ℕ → Parts
digits ds = record { whole = ds; point = false; fraction = []; exponent_negative = false; exponent = []; len = length (ds ++ []) }

formed : (n : ℕ) → n < 2 ^ 64 → IsWellFormed (digits (decimal n))
formed n h =
    let e = decimal_is_IsNumeral n h in
    record { whole_digits = e.0.1; fraction_digits = tt; exponent_digits = tt; no_point = λ _. refl; no_exponent = λ _. refl; len_is = refl }

is_whole : (n : ℕ) → n < 2 ^ 64 → is_integer (digits (decimal n)) ≡ true
is_whole n h = rw (lt-ltb _ _ (decimal_nonempty n h))

value_is : (n : ℕ) → n < 2 ^ 64 → digits_of (digits (decimal n)) ≡ n
value_is n h = let e = decimal_is_IsNumeral n h in rw append-nil e.1

whole_decimal : (n : ℕ) → n < 2 ^ 53 → whole_of (decimal n) ≡ Some (pos n)
whole_decimal n h =
    let wide : n < 2 ^ 64 = omega arith in
    ap whole_of (sym (append-nil (decimal n))) ∙ whole_from (digits (decimal n)) (formed n wide) (decimal_nonempty n wide)
    ∙ rw (is_whole n wide, value_is n wide) (rw (lt-ltb _ _ h))

whole_negative : (n : ℕ) → suc n < 2 ^ 53 → whole_of (45 ∷ decimal (suc n)) ≡ Some (negsuc n)
whole_negative n h =
    let wide : suc n < 2 ^ 64 = omega arith in
    let some : 0 < suc n = omega arith in
    ap (λ ds. whole_of (45 ∷ ds)) (sym (append-nil (decimal (suc n)))) ∙ whole_below (digits (decimal (suc n))) (formed (suc n) wide)
    ∙ rw (is_whole (suc n) wide, value_is (suc n) wide) (rw (lt-ltb _ _ some, lt-ltb _ _ h))

below_from : (n : ℕ) → nat_lt n (2 ^ 53) ≡ true → n < 2 ^ 53
below_from n h = grind (arith, nat_tests)

pub whole_printed : (n : ℤ) → nat_lt (size_of n) (2 ^ 53) ≡ true → whole_of (signed_decimal n) ≡ Some n
whole_printed (pos n) h = whole_decimal n (below_from n h)
whole_printed (negsuc n) h = whole_negative n (below_from (suc n) h)

pub number_printed : (n : ℤ) → nat_lt (size_of n) (2 ^ 53) ≡ true → IsNumber (signed_decimal n)
number_printed (pos n) h = let small = below_from n h in IsNumber-signed_decimal (pos n) (omega arith)
number_printed (negsuc n) h = let small = below_from (suc n) h in IsNumber-signed_decimal (negsuc n) (omega arith)
