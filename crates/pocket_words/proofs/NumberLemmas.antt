-- Digits that are no number of 64 bits.
use Rattle.std.proofs.Common.{◌≡◌, ◌<◌, ◌≤◌, ◌^◌, ◌&&◌, ℕ, Bool, true, false, List, Result, Ok, Err, None, length, nat_le, refl, arith, rules}
use Rattle.std.specs.List.{list_all}
use Rattle.std.specs.Str.Parse.{digits_value, ParsesUnsigned}
use Rattle.std.proofs.lemmas.Grind.{common_steps}
use Rattle.std.proofs.lemmas.Str.Parse.{IsNumeralModel, numerals_by_value, parse_digits}
use Rattle.pocket_types.specs.Names.{is_digit}
use Rattle.pocket_words.specs.Forms.{is_number, in_range, number_in}

own : IsNumeralModel (λ ds. list_all is_digit ds ≡ true) (digits_value 10)
own = numerals_by_value _ (search rules)

-- a number past 64 bits is in no range of such numbers
past : (least most n : ℕ) → most < 2 ^ 64 → 2 ^ 64 ≤ n → None ≡ in_range least most n
past least most n fits large = go (nat_le least n && nat_le n most) refl
  where
    go : (b : Bool) → (nat_le least n && nat_le n most) ≡ b → None ≡ in_range least most n
    go true e = absurd (grind (arith, common_steps, e, fits, large))
    go false e = rw e refl

-- digits that aren't read as a number of 64 bits are in no range of such numbers
pub unread : {E : Type 0} (least most : ℕ) (text : List ℕ) (r : Result ℕ E) (e : E) → ParsesUnsigned 64 10 text r → r ≡ Err e → is_number text ≡ true → most < 2 ^ 64
    → None ≡ number_in least most text
unread least most text (Ok n) e parsed is number fits = absurd cc
unread least most text (Err d) e parsed is number fits =
    let digits : list_all is_digit text ≡ true = grind (arith, common_steps, number) in
    let some : 0 < length text = grind (arith, common_steps, number) in
    let large : 2 ^ 64 ≤ digits_value 10 text = grind (arith, some, parse_digits own 64 text (Err d) parsed digits) in
    rw number (past least most (digits_value 10 text) fits large)
