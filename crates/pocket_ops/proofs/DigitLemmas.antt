-- Numbers of two digits as they are printed and read, and steps that may fail.
use Rattle.std.proofs.Common.{◌≡◌, ℕ, ◌+◌, ◌-◌, ◌*◌, ◌/◌, ◌%◌, ◌<◌, ◌≤◌, Bool, true, false, cond, ◌&&◌, nat_lt, List, [], ◌∷◌, refl, ap, ◌∙◌, arith, Option, Some, None, pos}
use Rattle.std.specs.Option.{option_and_then}
use Rattle.std.specs.Char.{is_ascii_digit, IsAsciiDigit, digit_char}
use Rattle.std.proofs.lemmas.Bool.Decides.{nat_tests}
use Rattle.std.proofs.lemmas.Option.{none-some, same_Some}
use Rattle.std.specs.Str.{IsAscii, IsUtf8}
use Rattle.std.proofs.lemmas.Str.{IsUtf8-from_ascii}
use Rattle.std.proofs.lemmas.Str.Ascii.{IsAscii-nil, IsAscii-cons}
use Rattle.jiff_core.proofs.CalendarLemmas.{days_in_month_bounds}
use Rattle.pocket_ops.specs.declared.calendar.Civil.{Civil}
use Rattle.pocket_ops.specs.Calendar.{IsCivil}
use Rattle.pocket_ops.specs.Dates.{civil_text}
use Rattle.pocket_ops.specs.DateReading.{pair_of, pair_below}

-- where a test guards a result, the result comes only by the test
pub guarded : {A : Type 0} (b : Bool) (u : Option A) (x : A) → cond b u None ≡ Some x → (b ≡ true) × (u ≡ Some x)
guarded true u x e = (refl, e)
guarded false u x e = absurd (none-some x e)

-- a chain has a result only where its first step has
pub chained : {A B : Type 0} (f : A → Option B) (o : Option A) (y : B) → option_and_then f o ≡ Some y → (x : A) × (o ≡ Some x) × (f x ≡ Some y)
chained f (Some x) y e = (x, refl, e)
chained f None y e = absurd (none-some y e)

pub both_true : (a b : Bool) → (a && b) ≡ true → (a ≡ true) × (b ≡ true)
both_true true true e = (refl, refl)
both_true true false e = absurd cc
both_true false b e = absurd cc

pub digit_char-is : (d : ℕ) → d < 10 → digit_char d ≡ 48 + d
digit_char-is d h = grind (arith, nat_tests)

pub is_digit : (c : ℕ) → is_ascii_digit c ≡ true → IsAsciiDigit c
is_digit c e = grind (arith, nat_tests)

pub digit_test : (c : ℕ) → 48 ≤ c → c ≤ 57 → is_ascii_digit c ≡ true
digit_test c low high = grind (arith, nat_tests)

pair_at : (a b : ℕ) → a < 10 → b < 10 → pair_of (48 + a) (48 + b) ≡ Some (a * 10 + b)
unfolding pair_of
pair_at a b h k =
    rw (digit_test (48 + a) (omega arith) (omega arith), digit_test (48 + b) (omega arith) (omega arith))
    (ap Some (omega arith))

-- a number that is printed is read
pub pair_of-printed : (n : ℕ) → n < 100 → pair_of (digit_char (n / 10)) (digit_char (n % 10)) ≡ Some n
pair_of-printed n h =
    rw (digit_char-is (n / 10) (omega arith), digit_char-is (n % 10) (omega arith), pair_at (n / 10) (n % 10) (omega arith) (omega arith))
    (ap Some (omega arith))

-- and what is read is the number as it is printed
pub printed_pair : (a b n : ℕ) → pair_of a b ≡ Some n → (n < 100) × (digit_char (n / 10) ≡ a) × (digit_char (n % 10) ≡ b)
unfolding pair_of
printed_pair a b n e =
    let w = guarded _ _ _ e in
    let d = both_true _ _ w.0 in
    let first = is_digit a d.0 in
    let second = is_digit b d.1 in
    let value : (a - 48) * 10 + (b - 48) ≡ n = same_Some _ _ w.1 in (
      omega arith,
      digit_char-is (n / 10) (omega arith) ∙ omega arith,
      digit_char-is (n % 10) (omega arith) ∙ omega arith,
    )

pub pair_below-printed : (limit n : ℕ) → n < limit → limit ≤ 100 → pair_below limit (digit_char (n / 10)) (digit_char (n % 10)) ≡ Some n
unfolding pair_below
pair_below-printed limit n h k =
    let test : nat_lt n limit ≡ true = grind (arith, nat_tests) in
    rw (pair_of-printed n (omega arith), test)

pub printed_below : (limit a b n : ℕ) → pair_below limit a b ≡ Some n → (n < limit) × (n < 100) × (digit_char (n / 10) ≡ a) × (digit_char (n % 10) ≡ b)
unfolding pair_below
printed_below limit a b n e =
    let w = chained (λ k. cond (nat_lt k limit) (Some k) None) (pair_of a b) n e in
    let g = guarded (nat_lt w.0 limit) (Some w.0) n w.2 in
    let same : w.0 ≡ n = same_Some _ _ g.1 in
    let test : nat_lt w.0 limit ≡ true = g.0 in
    let below : w.0 < limit = grind (arith, nat_tests) in
    let p = printed_pair a b n (rw same at w.1) in
    (rw same at below, p.0, p.1, p.2)

-- ---- printed dates are ASCII

record Plain (bytes : List ℕ) : Type 0 where
  ascii : IsAscii bytes

plain_end : Plain (90 ∷ [])
plain_end = record { ascii = IsAscii-cons 90 [] (omega arith) IsAscii-nil }

plain_byte : (b : ℕ) {rest : List ℕ} → b < 128 → Plain rest → Plain (b ∷ rest)
plain_byte b {rest} h p = record { ascii = IsAscii-cons b rest h p.ascii }

plain_digit : (d : ℕ) {rest : List ℕ} → d < 10 → Plain rest → Plain (digit_char d ∷ rest)
plain_digit d {rest} h p = let e = digit_char-is d h in plain_byte (digit_char d) (omega (arith, e)) p

plain_pair : (n : ℕ) {rest : List ℕ} → n < 100 → Plain rest → Plain (digit_char (n / 10) ∷ digit_char (n % 10) ∷ rest)
plain_pair n h p = plain_digit (n / 10) (omega arith) (plain_digit (n % 10) (omega arith) p)

plain_civil_text : (c : Civil) → IsCivil c → Plain (civil_text c)
unfolding civil_text
plain_civil_text c h =
    let short = days_in_month_bounds (pos c.year) c.month in
    plain_pair (c.year / 100) (omega (arith, h)) (plain_pair (c.year % 100) (omega arith) (plain_byte 45 (omega arith)
    (plain_pair c.month (omega (arith, h)) (plain_byte 45 (omega arith)
    (plain_pair c.day (omega (arith, h, short)) (plain_byte 32 (omega arith)
    (plain_pair c.hour (omega (arith, h)) (plain_byte 58 (omega arith)
    (plain_pair c.minute (omega (arith, h)) (plain_byte 58 (omega arith)
    (plain_pair c.second (omega (arith, h)) (plain_byte 46 (omega arith)
    (plain_digit (c.millisecond / 100) (omega (arith, h)) (plain_pair (c.millisecond % 100) (omega arith) plain_end))))))))))))))

pub IsUtf8-civil_text : (c : Civil) → IsCivil c → IsUtf8 (civil_text c)
IsUtf8-civil_text c h = IsUtf8-from_ascii (civil_text c) (plain_civil_text c h).ascii
