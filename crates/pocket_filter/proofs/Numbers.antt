-- Where a number ends, and which it is.
use Rattle.std.proofs.Common.{◌≡◌, ◌+◌, ◌<◌, ◌≤◌, ◌==◌, ◌^◌, ℕ, suc, ℤ, List, [], ◌∷◌, ◌++◌, length, take, drop, slice_index, true, false, Bool, cond, nat_lt, Some, None, refl, sym, ap, ◌∙◌, subst, arith, one-add, zero-add, ne_eqb}
use Rattle.std.proofs.lemmas.Bool.{eqb-true, ltb-true, ltb-false}
use Rattle.std.proofs.lemmas.Bool.Decides.{nat_tests}
use Rattle.std.proofs.lemmas.List.{length-drop}
use Rattle.std.proofs.lemmas.List.Sums.{prefix_len-le-length}
use Rattle.std.proofs.lemmas.List.Folds.{length-prefix_len}
use Rattle.std.proofs.lemmas.Str.{digit_value_digit}
use Rattle.std.proofs.lemmas.Str.Parse.{digit_from_value}
use Rattle.std.specs.Char.{digit_value}
use Rattle.std.specs.List.{prefix_len}
use Rattle.std.specs.Str.{IsUtf8, IsCharBoundary}
use Rattle.std.specs.Str.Parse.{AllDigits, IsNumeral, digits_value}
use Rattle.pocket_types.specs.Names.{is_digit}
use Rattle.pocket_filter.specs.Tokens.{Lexeme, Number}
use Rattle.pocket_filter.specs.Lexing.{minus_text, with_minus, IsNumber, Spells, TakesLongest, BeginsNoToken, is_quote, is_blank, BeginsNoSeparator}
use Rattle.pocket_filter.specs.Scanning.{class, sign_len, in_range}
use Rattle.std.specs.Int.RustNames.{unsigned_abs}
use Rattle.pocket_filter.proofs.Separators.{no_separator}
use Rattle.pocket_filter.proofs.Fronts.{AreAscii, longest_by, none_by, boundary_after, take_add}
use Rattle.pocket_filter.proofs.Spelled.{class_of, class_is, spelled_some}

-- ---- digits

from_digit : (b : ℕ) → is_digit b ≡ true → (48 ≤ b) × (b ≤ 57)
from_digit b h = grind (arith, nat_tests)

to_digit : (b : ℕ) → 48 ≤ b → b ≤ 57 → is_digit b ≡ true
to_digit b low high = grind (arith, nat_tests)

-- what stands at the front are digits
digits_front : (bytes : List ℕ) → AllDigits 10 (take (prefix_len is_digit bytes) bytes)
digits_front [] = tt
digits_front (b ∷ bytes) = go (is_digit b) refl (digits_front bytes)
  where
    go : (t : Bool) → is_digit b ≡ t → AllDigits 10 (take (prefix_len is_digit bytes) bytes) → AllDigits 10 (take (prefix_len is_digit (b ∷ bytes)) (b ∷ bytes))
    go true e more =
        let range = from_digit b e in
        let value = digit_value_digit b range in
        let small : digit_value b < 10 = omega arith in
        rw (e, one-add) (small, more)
    go false e more = rw e tt

-- digits, and those that follow
pub digits_run : (digits rest : List ℕ) → AllDigits 10 digits → prefix_len is_digit (digits ++ rest) ≡ length digits + prefix_len is_digit rest
digits_run [] rest h = sym (zero-add (prefix_len is_digit rest))
digits_run (d ∷ digits) rest h =
    let range = digit_from_value d h.0 in
    let more = digits_run digits rest h.1 in
    let here : is_digit d ≡ true = to_digit d range.0 range.1 in
    rw here (omega arith)

ascii_digits : (digits : List ℕ) → AllDigits 10 digits → AreAscii digits
ascii_digits [] h = tt
ascii_digits (d ∷ digits) h = let range = digit_from_value d h.0 in let high = range.1 in (omega arith, ascii_digits digits h.1)

-- ---- tokens

-- the digits at the front, after a minus
abbrev digits_of : List ℕ → List ℕ
digits_of bytes = drop (sign_len 45 (slice_index bytes 0)) bytes

abbrev pub number_len : List ℕ → ℕ
number_len bytes = sign_len 45 (slice_index bytes 0) + prefix_len is_digit (digits_of bytes)

not_number : (token : List ℕ) (l : Lexeme) → class (slice_index token 0) ≡ 2 → Spells token l → (n : ℤ) × IsNumber token n
not_number token (Number n) h s = (n, s)
not_number token l h s = let apart : 2 ≡ class_of l = sym h ∙ class_is token l s in absurd (omega arith)

digits_fit : (digits rest : List ℕ) → IsNumeral 10 digits → (0 < prefix_len is_digit (digits_of (digits ++ rest))) × (length digits ≤ number_len (digits ++ rest))
digits_fit [] rest h = let some : 0 < 0 = h.0 in absurd (omega arith)
digits_fit (d ∷ digits) rest h =
    let range = digit_from_value d h.1.0 in
    let low : 48 ≤ d = range.0 in
    let run : prefix_len is_digit (d ∷ (digits ++ rest)) ≡ suc (length digits) + prefix_len is_digit rest = digits_run (d ∷ digits) rest h.1 in
    let apart : (d == 45) ≡ false = ne_eqb d 45 (λ e. omega arith) in
    rw apart (omega arith, omega arith)

number_fits : (minus : Bool) (digits rest : List ℕ) → IsNumeral 10 digits → let bytes = (minus_text minus ++ digits) ++ rest in (0 < prefix_len is_digit (digits_of bytes)) × (length (minus_text minus ++ digits) ≤ number_len bytes)
number_fits true digits rest h =
    let run = digits_run digits rest h.1 in
    let some = h.0 in
    (omega arith, omega arith)
number_fits false digits rest h = digits_fit digits rest h

token_fits : (bytes token rest : List ℕ) (l : Lexeme) → class (slice_index bytes 0) ≡ 2 → bytes ≡ token ++ rest → Spells token l → (0 < prefix_len is_digit (digits_of bytes)) × (length token ≤ number_len bytes)
token_fits bytes [] rest l h e s = absurd (spelled_some l s)
token_fits bytes (b ∷ token) rest l h e s =
    let n = not_number (b ∷ token) l (ap (λ s. class (slice_index s 0)) (sym e) ∙ h) s in
    let fits = number_fits n.1.0 n.1.1 rest n.1.2 in
    let P : List ℕ → List ℕ → Type 0 = λ bs t. (0 < prefix_len is_digit (digits_of bs)) × (length t ≤ number_len bs) in
    subst (λ bs. P bs (b ∷ token)) (sym e) (subst (λ t. P (t ++ rest) t) (sym n.1.3) fits)

-- where no digit follows, no token begins
pub no_number : (bytes : List ℕ) → class (slice_index bytes 0) ≡ 2 → prefix_len is_digit (digits_of bytes) ≡ 0 → BeginsNoToken bytes
no_number bytes h none = none_by bytes (λ token rest l e s. let fits = token_fits bytes token rest l h e s in let some = fits.0 in omega arith)

-- digits after the first bytes
front_from : (bytes : List ℕ) (start : ℕ) (minus : Bool) → take start bytes ≡ minus_text minus → 0 < prefix_len is_digit (drop start bytes)
    → (n : ℤ) × IsNumber (take (start + prefix_len is_digit (drop start bytes)) bytes) n
front_from bytes start minus sign some =
    let digits = take (prefix_len is_digit (drop start bytes)) (drop start bytes) in
    let long : length digits ≡ prefix_len is_digit (drop start bytes) = length-prefix_len is_digit (drop start bytes) in
    let whole = take_add start (prefix_len is_digit (drop start bytes)) bytes ∙ ap (λ s. s ++ digits) sign in
    (with_minus minus (digits_value 10 digits), (minus, digits, (omega arith, digits_front (drop start bytes)), whole, refl))

front_number : (b : ℕ) (bytes : List ℕ) (t : Bool) → (b == 45) ≡ t → 0 < prefix_len is_digit (digits_of (b ∷ bytes)) → (n : ℤ) × IsNumber (take (number_len (b ∷ bytes)) (b ∷ bytes)) n
front_number b bytes true e some =
    let start : sign_len 45 b ≡ 1 = rw e refl in
    let P : ℕ → Type 0 = λ k. 0 < prefix_len is_digit (drop k (b ∷ bytes)) → (n : ℤ) × IsNumber (take (k + prefix_len is_digit (drop k (b ∷ bytes))) (b ∷ bytes)) n in
    subst P (sym start) (front_from (b ∷ bytes) 1 true (ap (λ x. x ∷ []) (eqb-true b 45 e))) some
front_number b bytes false e some =
    let start : sign_len 45 b ≡ 0 = rw e refl in
    let P : ℕ → Type 0 = λ k. 0 < prefix_len is_digit (drop k (b ∷ bytes)) → (n : ℤ) × IsNumber (take (k + prefix_len is_digit (drop k (b ∷ bytes))) (b ∷ bytes)) n in
    subst P (sym start) (front_from (b ∷ bytes) 0 false refl) some

number_ascii : (bytes : List ℕ) (n : ℤ) → IsNumber bytes n → AreAscii bytes
number_ascii bytes n (true, digits, numeral, e, v) = subst AreAscii (sym e) (let small : 45 < 128 = omega arith in (small, ascii_digits digits numeral.1))
number_ascii bytes n (false, digits, numeral, e, v) = subst AreAscii (sym e) (ascii_digits digits numeral.1)

-- what is at the front of bytes that begin with a minus or a digit
pub number_found : (bytes : List ℕ) → IsUtf8 bytes → class (slice_index bytes 0) ≡ 2 → 0 < prefix_len is_digit (digits_of bytes)
    → (n : ℤ) × IsNumber (take (number_len bytes) bytes) n × TakesLongest bytes (number_len bytes) (Number n) × IsCharBoundary bytes (number_len bytes)
number_found [] utf8 h some = cc
number_found (b ∷ bytes) utf8 h some =
    let start = sign_len 45 b in
    let n = front_number b bytes (b == 45) refl some in
    let rest = prefix_len-le-length is_digit (drop start (b ∷ bytes)) in
    let left = length-drop start (b ∷ bytes) in
    let within : number_len (b ∷ bytes) ≤ length (b ∷ bytes) = omega arith in
    let positive : 0 < number_len (b ∷ bytes) = omega arith in (
      n.0,
      n.1,
      longest_by (b ∷ bytes) (number_len (b ∷ bytes)) (Number n.0) within n.1 (λ token rest l e s. (token_fits (b ∷ bytes) token rest l h e s).1),
      boundary_after (b ∷ bytes) (number_len (b ∷ bytes)) utf8 positive within (number_ascii _ n.0 n.1),
    )

-- a minus or a digit is no quote, and begins no separator
pub number_start : (b : ℕ) → class b ≡ 2 → (is_quote b ≡ false) × ((bytes : List ℕ) → slice_index bytes 0 ≡ b → BeginsNoSeparator bytes)
number_start b h =
    let quote : is_quote b ≡ false = no_quote b h in
    (quote, λ bytes e. no_separator bytes (ap is_blank e ∙ no_blank b h) (λ f _. let slash : b ≡ 47 = sym e ∙ f in no_slash b h slash))
  where
    no_quote : (b : ℕ) → class b ≡ 2 → is_quote b ≡ false
    no_quote b h = grind (arith, nat_tests)

    no_blank : (b : ℕ) → class b ≡ 2 → is_blank b ≡ false
    no_blank b h = grind (arith, nat_tests)

    no_slash : (b : ℕ) → class b ≡ 2 → b ≡ 47 → ⊥
    no_slash b h e = grind (arith, nat_tests)

pub range_some : (n m : ℤ) → in_range n ≡ Some m → (n ≡ m) × (unsigned_abs m < 2 ^ 53)
range_some n m h = go (nat_lt (unsigned_abs n) (2 ^ 53)) refl h
  where
    go : (t : Bool) → nat_lt (unsigned_abs n) (2 ^ 53) ≡ t → cond t (Some n) None ≡ Some m → (n ≡ m) × (unsigned_abs m < 2 ^ 53)
    go true e f = let same : n ≡ m = cc in (same, subst (λ z. unsigned_abs z < 2 ^ 53) same (ltb-true _ _ e))
    go false e f = cc

pub range_none : (n : ℤ) → in_range n ≡ None → unsigned_abs n < 2 ^ 53 → ⊥
range_none n h small = go (nat_lt (unsigned_abs n) (2 ^ 53)) refl h
  where
    go : (t : Bool) → nat_lt (unsigned_abs n) (2 ^ 53) ≡ t → cond t (Some n) None ≡ None → ⊥
    go true e f = cc
    go false e f = let large : 2 ^ 53 ≤ unsigned_abs n = ltb-false _ _ e in omega arith
