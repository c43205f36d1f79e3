-- The numbers that few digits are.
use Rattle.std.proofs.Common.{◌≡◌, ◌<◌, ◌≤◌, ◌^◌, ℕ, zero, suc, List, Result, Ok, true, length, arith, rules, lit<}
use Rattle.std.specs.List.{list_all}
use Rattle.std.specs.Str.Parse.{digits_value, ParsesUnsigned}
use Rattle.std.proofs.lemmas.Str.Parse.{IsNumeralModel, digits_value_short, numerals_by_value, parse_gives}
use Rattle.pocket_types.specs.Names.{is_digit}

own : IsNumeralModel (λ ds. list_all is_digit ds ≡ true) (digits_value 10)
own = numerals_by_value _ (search rules)

-- a power of ten isn't 0
pub ten_power : (n : ℕ) → 0 < 10 ^ n
ten_power zero = lit< tt
ten_power (suc n) = omega (arith, ten_power n)

-- few digits are a small number
pub few_digits : (text : List ℕ) (most : ℕ) → list_all is_digit text ≡ true → length text ≤ most → digits_value 10 text < 10 ^ most
few_digits text most digits few = digits_value_short own text most digits few

-- they are read
pub reads_digits : {E : Type 0} (text : List ℕ) (r : Result ℕ E) → ParsesUnsigned 64 10 text r → list_all is_digit text ≡ true → 0 < length text → length text ≤ 15
    → r ≡ Ok (digits_value 10 text)
reads_digits text r parsed digits some few = parse_gives own 64 text r parsed digits some (omega (arith, few_digits text 15 digits few))
