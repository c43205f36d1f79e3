-- The id of a new record has an id's form.
use Rattle.std.proofs.Common.{◌≡◌, ◌<◌, ◌+◌, ◌-◌, ◌/◌, ◌%◌, ◌==◌, ℕ, zero, suc, Bool, true, false, nat_lt, List, [], ◌∷◌, ◌++◌, length, Option, Some, None, Ok, IfSome, IsTrue, if◌then◌else◌, refl, ap, arith, mod-lt, length-append, unwrap_or}
use Rattle.std.specs.List.{list_all}
use Rattle.std.proofs.lemmas.Bool.{and_from, and_parts}
use Rattle.std.proofs.lemmas.Bool.Decides.{nat_tests}
use Rattle.pocket_types.specs.Names.{id_letter, id_part, is_id, is_id_byte, made_id}
use Rattle.pocket_types.specs.declared.ids.Id.{Id}
use Rattle.pocket_types.specs.declared.json.Jv.{Jv}
use Rattle.pocket_check.specs.Bodies.{given_id}
use Rattle.pocket_check.proofs.IdLemmas.{HasIdForm, given_form}

-- ---- ids that words make

early_letter : (n : ℕ) → n < 26 → is_id_byte (97 + n) ≡ true
early_letter n h = grind (arith, nat_tests)

late_letter : (n : ℕ) → n < 10 → is_id_byte (48 + n) ≡ true
late_letter n h = grind (arith, nat_tests)

early : (n : ℕ) → nat_lt n 26 ≡ true → n < 26
early n h = grind (arith, nat_tests)

late : (n : ℕ) → nat_lt n 26 ≡ false → n < 36 → n - 26 < 10
late n h l = grind (arith, nat_tests)

letter : (n : ℕ) → n < 36 → is_id_byte (id_letter n) ≡ true
letter n l = by (nat_lt n 26) refl
  where
    by : (b : Bool) → nat_lt n 26 ≡ b → is_id_byte (if b then 97 + n else 48 + (n - 26)) ≡ true
    by true h = early_letter n (early n h)
    by false h = late_letter (n - 26) (late n h l)

part_letters : (n word : ℕ) → list_all is_id_byte (id_part n word) ≡ true
part_letters zero word = refl
part_letters (suc n) word = and_from _ _ (letter (word % 36) (mod-lt word (omega arith))) (part_letters n (word / 36))

part_length : (n word : ℕ) → length (id_part n word) ≡ n
part_length zero word = refl
part_length (suc n) word = ap suc (part_length n (word / 36))

letters_both : (xs ys : List ℕ) → list_all is_id_byte xs ≡ true → list_all is_id_byte ys ≡ true → list_all is_id_byte (xs ++ ys) ≡ true
letters_both [] ys h g = g
letters_both (x ∷ xs) ys h g =
    let parts = and_parts (is_id_byte x) (list_all is_id_byte xs) h in
    and_from (is_id_byte x) (list_all is_id_byte (xs ++ ys)) parts.0 (letters_both xs ys parts.1 g)

long_enough : (n : ℕ) → n ≡ 15 → (n == 15) ≡ true
long_enough n e = grind (arith, nat_tests)

made_form : (first second : ℕ) → IsTrue (is_id (made_id first second))
made_form first second =
    and_from _ _
    (long_enough (length (made_id first second)) (omega (arith, length-append (id_part 8 first) (id_part 7 second), part_length 8 first, part_length 7 second)))
    (letters_both (id_part 8 first) (id_part 7 second) (part_letters 8 first) (part_letters 7 second))

-- the id given, or the one that the words make
pub new_form : (body : Jv) (given : Option Id) (first second : ℕ) → given_id body ≡ Ok given → IsTrue (is_id (unwrap_or given (made_id first second)))
new_form body given first second e = by given (given_form body given e)
  where
    by : (o : Option Id) → IfSome o HasIdForm → IsTrue (is_id (unwrap_or o (made_id first second)))
    by None h = made_form first second
    by (Some id) h = h
