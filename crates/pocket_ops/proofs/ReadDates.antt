-- What is read is a date as it is written.
use Rattle.std.proofs.Common.{◌≡◌, ℕ, suc, ◌+◌, ◌*◌, ◌/◌, ◌%◌, ◌<◌, ◌≤◌, ◌⊎◌, inl, inr, Bool, true, false, cond, ◌&&◌, ◌||◌, nat_lt, nat_le, List, [], ◌∷◌, ◌++◌, length, take, drop, refl, sym, ap, ◌∙◌, arith, Option, Some, None, ℤ, pos, negsuc, ◌+ℤ◌, ◌-ℤ◌, ◌*ℤ◌, int_lt, ◌≤ℤ◌}
use Rattle.std.specs.Prelude.{◌==◌, slice_index}
use Rattle.std.specs.List.{prefix_len, All}
use Rattle.std.specs.Option.{option_and_then, MatchOption}
use Rattle.std.specs.Char.{is_ascii_digit, IsAsciiDigit, digit_char}
use Rattle.std.specs.Int.{IsInRange}
use Rattle.std.proofs.lemmas.Bool.Decides.{nat_tests}
use Rattle.std.proofs.lemmas.Int.{ints}
use Rattle.std.proofs.lemmas.List.{take-append-drop}
use Rattle.std.proofs.lemmas.List.Elements.{All-cons}
use Rattle.std.proofs.lemmas.List.Folds.{length-prefix_len}
use Rattle.std.proofs.lemmas.Option.{none-some, same_Some}
use Rattle.jiff_core.specs.Calendar.{days_from_civil, days_in_month}
use Rattle.jiff_core.proofs.SignedLemmas.{signed_arith}
use Rattle.pocket_types.specs.Names.{IsMoment}
use Rattle.pocket_ops.specs.Dates.{two_digits, clock_text, clock_millis, day_text, Zone, unwritten, utc, ahead, behind, zone_text, zone_millis, IsZone, Seconds, no_seconds, whole, fraction, seconds_text, seconds_millis, IsSeconds, fraction_millis, Time, no_time, at, time_text, time_millis, IsTime, written_millis, IsDateOf}
use Rattle.pocket_ops.specs.DateReading.{pair_of, pair_below, clock_of, zone_of, fraction_of, after_seconds_of, seconds_of, after_minutes_of, clock_and_rest_of, after_day_of, number_of_day, day_of_text, in_range, date_of}
use Rattle.pocket_ops.proofs.PrintedDates.{date_of-printed}
use Rattle.pocket_ops.proofs.DigitLemmas.{guarded, chained, both_true, is_digit, printed_pair, printed_below}

le_true : (a b : ℕ) → nat_le a b ≡ true → a ≤ b
le_true a b e = grind (arith, nat_tests)

both_false : (a b : Bool) → (a || b) ≡ false → (a ≡ false) × (b ≡ false)
both_false true b e = absurd cc
both_false false b e = (refl, e)

not_less_than : (a b : ℤ) → int_lt a b ≡ false → b ≤ℤ a
not_less_than a b e = grind (arith, ints)

same_byte : (a b : ℕ) → (a == b) ≡ true → a ≡ b
same_byte a b e = grind (arith, nat_tests)

five : (t : List ℕ) → length t ≡ 5 → t ≡ slice_index t 0 ∷ slice_index t 1 ∷ slice_index t 2 ∷ slice_index t 3 ∷ slice_index t 4 ∷ []
five (a ∷ b ∷ c ∷ d ∷ e ∷ []) h = refl
five _ h = absurd (omega (arith, h))

-- five bytes between which a colon stands
five_are : (t : List ℕ) (a b c d : ℕ) → length t ≡ 5 → slice_index t 2 ≡ 58 → a ≡ slice_index t 0 → b ≡ slice_index t 1 → c ≡ slice_index t 3 → d ≡ slice_index t 4 → a ∷ b ∷ 58 ∷ c ∷ d ∷ [] ≡ t
five_are t a b c d h colon p q r s = let e = five t h in cc

abbrev IsClock : List ℕ → ℤ → Type 0
IsClock t x = (hour : ℕ) × (minute : ℕ) × (hour < 24) × (minute < 60) × (clock_text hour minute ≡ t) × (clock_millis hour minute ≡ x)

clock_is : (t : List ℕ) (x : ℤ) → clock_of t ≡ Some x → IsClock t x
unfolding clock_of
clock_is t x e =
    let second = λ (hour : ℕ). option_and_then (λ minute. Some (clock_millis hour minute)) (pair_below 60 (slice_index t 3) (slice_index t 4)) in
    let first = pair_below 24 (slice_index t 0) (slice_index t 1) in
    let w = guarded ((length t == 5) && (slice_index t 2 == 58)) (option_and_then second first) x e in
    let tests = both_true _ _ w.0 in
    let h = chained second first x w.1 in
    let m = chained (λ minute. Some (clock_millis h.0 minute)) (pair_below 60 (slice_index t 3) (slice_index t 4)) x h.2 in
    let hour = printed_below 24 (slice_index t 0) (slice_index t 1) h.0 h.1 in
    let minute = printed_below 60 (slice_index t 3) (slice_index t 4) m.0 m.1 in
    (h.0, m.0, hour.0, minute.0, five_are t _ _ _ _ (same_byte _ _ tests.0) (same_byte _ _ tests.1) hour.2 hour.3 minute.2 minute.3, same_Some _ _ m.2)

none_left : (t : List ℕ) → suc (length t) ≡ 1 → t ≡ []
none_left [] h = refl
none_left (c ∷ t) h = absurd (omega (arith, h))

abbrev HasZone : List ℕ → ℤ → Type 0
HasZone t x = (zone : Zone) × IsZone zone × (zone_text zone ≡ t) × (zone_millis zone ≡ x)

abbrev taken_off : Option ℤ → Option ℤ
taken_off = option_and_then (λ millis. Some (pos 0 -ℤ millis))

zone_at : (c : ℕ) (t : List ℕ) (x : ℤ) (z p m : Bool) → (c == 90) ≡ z → (c == 43) ≡ p → (c == 45) ≡ m → cond z (cond (length (c ∷ t) == 1) (Some (pos 0)) None) (cond p (clock_of t) (cond m (taken_off (clock_of t)) None)) ≡ Some x → HasZone (c ∷ t) x
zone_at c t x true p m is_z is_p is_m e =
    let w = guarded (length (c ∷ t) == 1) (Some (pos 0)) x e in
    let end = none_left t (same_byte _ _ w.0) in
    let byte = same_byte c 90 is_z in
    (utc, tt, rw (byte, end) refl, same_Some _ _ w.1)
zone_at c t x false true m is_z is_p is_m e =
    let byte = same_byte c 43 is_p in
    let k = clock_is t x e in
    (ahead k.0 k.1, (k.2, k.3), rw (byte, k.4) refl, k.5)
zone_at c t x false false true is_z is_p is_m e =
    let byte = same_byte c 45 is_m in
    let w = chained (λ millis. Some (pos 0 -ℤ millis)) (clock_of t) x e in
    let k = clock_is t w.0 w.1 in
    (behind k.0 k.1, (k.2, k.3), rw (byte, k.4) refl, rw k.5 (same_Some _ _ w.2))
zone_at c t x false false false is_z is_p is_m e = absurd (none-some x e)

zone_is : (t : List ℕ) (x : ℤ) → zone_of t ≡ Some x → HasZone t x
unfolding zone_of
zone_is [] x e = (unwritten, tt, refl, same_Some _ _ e)
zone_is (c ∷ t) x e =
    let some : (length (c ∷ t) == 0) ≡ false = grind (arith, nat_tests) in
    zone_at c t x (c == 90) (c == 43) (c == 45) refl refl refl (rw some at e)

-- ---- the fraction

leading_digits_at : (c : ℕ) (t : List ℕ) (b : Bool) → is_ascii_digit c ≡ b → All IsAsciiDigit (take (prefix_len is_ascii_digit t) t) → All IsAsciiDigit (take (cond b (1 + prefix_len is_ascii_digit t) 0) (c ∷ t))
leading_digits_at c t true e h =
    let more : 1 + prefix_len is_ascii_digit t ≡ suc (prefix_len is_ascii_digit t) = omega arith in
    rw more (All-cons IsAsciiDigit c (take (prefix_len is_ascii_digit t) t) (is_digit c e) h)
leading_digits_at c t false e h = λ k d lt. absurd (omega (arith, lt))

leading_digits : (t : List ℕ) → All IsAsciiDigit (take (prefix_len is_ascii_digit t) t)
leading_digits [] = λ k d lt. absurd (omega (arith, lt))
leading_digits (c ∷ t) = leading_digits_at c t (is_ascii_digit c) refl (leading_digits t)

abbrev HasFraction : List ℕ → ℤ → Type 0
HasFraction t x = (digits : List ℕ) × (zone : Zone) × IsInRange 1 9 (length digits) × All IsAsciiDigit digits × IsZone zone × (digits ++ zone_text zone ≡ t) × (pos (fraction_millis digits) -ℤ zone_millis zone ≡ x)

few_digits : (n m : ℕ) → n ≡ m → (nat_lt 0 m && nat_lt m 10) ≡ true → IsInRange 1 9 n
few_digits n m e h =
    let w = both_true _ _ h in
    let low : nat_lt 0 m ≡ true = w.0 in
    let high : nat_lt m 10 ≡ true = w.1 in
    grind (arith, nat_tests)

fraction_is : (t : List ℕ) (x : ℤ) → fraction_of t ≡ Some x → HasFraction t x
unfolding fraction_of
fraction_is t x e =
    let n = prefix_len is_ascii_digit t in
    let off = λ (zone : ℤ). Some (pos (fraction_millis (take n t)) -ℤ zone) in
    let w = guarded (nat_lt 0 n && nat_lt n 10) (option_and_then off (zone_of (drop n t))) x e in
    let z = chained off (zone_of (drop n t)) x w.1 in
    let zone = zone_is (drop n t) z.0 z.1 in
    (take n t, zone.0, few_digits _ n (length-prefix_len is_ascii_digit t) w.0, leading_digits t, zone.1, rw zone.2 (take-append-drop n t), rw zone.3 (same_Some _ _ z.2))

-- ---- seconds

-- what a text has behind the minutes or the seconds
abbrev HasSeconds : List ℕ → ℤ → Type 0
HasSeconds t x = (seconds : Seconds) × (zone : Zone) × IsSeconds seconds × IsZone zone × (seconds_text seconds ++ zone_text zone ≡ t) × (seconds_millis seconds -ℤ zone_millis zone ≡ x)

abbrev HasEither : List ℕ → ℤ → Type 0
HasEither t x = ((zone : Zone) × IsZone zone × (zone_text zone ≡ t) × (pos 0 -ℤ zone_millis zone ≡ x)) ⊎ ((rest : List ℕ) × (46 ∷ rest ≡ t) × HasFraction rest x)

zone_alone : (t : List ℕ) (x : ℤ) → taken_off (zone_of t) ≡ Some x → (zone : Zone) × IsZone zone × (zone_text zone ≡ t) × (pos 0 -ℤ zone_millis zone ≡ x)
zone_alone t x e =
    let w = chained (λ millis. Some (pos 0 -ℤ millis)) (zone_of t) x e in
    let zone = zone_is t w.0 w.1 in
    (zone.0, zone.1, zone.2, rw zone.3 (same_Some _ _ w.2))

after_seconds_at : (c : ℕ) (t : List ℕ) (x : ℤ) (dot : Bool) → (c == 46) ≡ dot → cond dot (fraction_of t) (taken_off (zone_of (c ∷ t))) ≡ Some x → HasEither (c ∷ t) x
after_seconds_at c t x true is_dot e = inr (t, rw (same_byte c 46 is_dot) refl, fraction_is t x e)
after_seconds_at c t x false is_dot e = inl (zone_alone (c ∷ t) x e)

after_seconds_is : (t : List ℕ) (x : ℤ) → after_seconds_of t ≡ Some x → HasEither t x
unfolding after_seconds_of
after_seconds_is [] x e = inl (zone_alone [] x e)
after_seconds_is (c ∷ t) x e = after_seconds_at c t x (c == 46) refl e

with_seconds : (second : ℕ) (rest : List ℕ) (millis : ℤ) → second < 60 → HasEither rest millis → HasSeconds (58 ∷ two_digits second ++ rest) (pos (second * 1_000) +ℤ millis)
with_seconds second rest millis h (inl z) =
    (whole second, z.0, h, z.1, rw z.2 refl, rw (← z.3) (omega (arith, signed_arith)))
with_seconds second rest millis h (inr f) =
    let digits = f.2.0 in
    let zone = f.2.1 in
    let text : digits ++ zone_text zone ≡ f.0 = f.2.5 in
    (fraction second digits, zone, (h, f.2.2, f.2.3), f.2.4, rw (← f.1, ← text) refl, rw (← f.2.6) (omega (arith, signed_arith)))

two_and_rest : (t : List ℕ) (a b : ℕ) → 2 ≤ length t → a ≡ slice_index t 0 → b ≡ slice_index t 1 → a ∷ b ∷ drop 2 t ≡ t
two_and_rest (c ∷ d ∷ t) a b h p q = cc
two_and_rest _ a b h p q = absurd (omega (arith, h))

unless : {A : Type 0} (b : Bool) (u : Option A) (x : A) → cond b None u ≡ Some x → (b ≡ false) × (u ≡ Some x)
unless true u x e = absurd (none-some x e)
unless false u x e = (refl, e)

at_least : (n m : ℕ) → nat_lt n m ≡ false → m ≤ n
at_least n m e = grind (arith, nat_tests)

seconds_is : (t : List ℕ) (x : ℤ) → seconds_of t ≡ Some x → HasSeconds (58 ∷ t) x
unfolding seconds_of
seconds_is t x e =
    let second = pair_below 60 (slice_index t 0) (slice_index t 1) in
    let sum = λ (s : ℕ). λ (rest : ℤ). Some (pos (s * 1_000) +ℤ rest) in
    let behind_it = λ (s : ℕ). option_and_then (sum s) (after_seconds_of (drop 2 t)) in
    let w = unless (nat_lt (length t) 2) (option_and_then behind_it second) x e in
    let s = chained behind_it second x w.1 in
    let r = chained (sum s.0) (after_seconds_of (drop 2 t)) x s.2 in
    let number = printed_below 60 (slice_index t 0) (slice_index t 1) s.0 s.1 in
    let text : two_digits s.0 ++ drop 2 t ≡ t = two_and_rest t _ _ (at_least _ _ w.0) number.2 number.3 in
    let found = with_seconds s.0 (drop 2 t) r.0 number.0 (after_seconds_is (drop 2 t) r.0 r.1) in
    let value : pos (s.0 * 1_000) +ℤ r.0 ≡ x = same_Some _ _ r.2 in
    rw (text, value) at found

after_minutes_at : (c : ℕ) (t : List ℕ) (x : ℤ) (colon : Bool) → (c == 58) ≡ colon → cond colon (seconds_of t) (taken_off (zone_of (c ∷ t))) ≡ Some x → HasSeconds (c ∷ t) x
after_minutes_at c t x true is_colon e = rw (same_byte c 58 is_colon) (seconds_is t x e)
after_minutes_at c t x false is_colon e =
    let z = zone_alone (c ∷ t) x e in
    (no_seconds, z.0, tt, z.1, z.2, z.3)

after_minutes_is : (t : List ℕ) (x : ℤ) → after_minutes_of t ≡ Some x → HasSeconds t x
unfolding after_minutes_of
after_minutes_is [] x e = let z = zone_alone [] x e in (no_seconds, z.0, tt, z.1, z.2, z.3)
after_minutes_is (c ∷ t) x e = after_minutes_at c t x (c == 58) refl e

-- ---- the time

abbrev HasClock : List ℕ → ℤ → Type 0
HasClock t x = (hour : ℕ) × (minute : ℕ) × (seconds : Seconds) × (zone : Zone) × (hour < 24) × (minute < 60) × IsSeconds seconds × IsZone zone × (clock_text hour minute ++ (seconds_text seconds ++ zone_text zone) ≡ t) × (clock_millis hour minute +ℤ (seconds_millis seconds -ℤ zone_millis zone) ≡ x)

with_clock : (t front back : List ℕ) (clock rest x : ℤ) → front ++ back ≡ t → clock +ℤ rest ≡ x → IsClock front clock → HasSeconds back rest → HasClock t x
with_clock t front back clock rest x text value c s = (
  c.0,
  c.1,
  s.0,
  s.1,
  c.2,
  c.3,
  s.2,
  s.3,
  ap (λ b. clock_text c.0 c.1 ++ b) s.4 ∙ (ap (λ f. f ++ back) c.4 ∙ text),
  rw (c.5, s.5) value,
)

clock_and_rest_is : (t : List ℕ) (x : ℤ) → clock_and_rest_of t ≡ Some x → HasClock t x
unfolding clock_and_rest_of
clock_and_rest_is t x e =
    let sum = λ (clock : ℤ). λ (rest : ℤ). Some (clock +ℤ rest) in
    let behind_it = λ (clock : ℤ). option_and_then (sum clock) (after_minutes_of (drop 5 t)) in
    let w = unless (nat_lt (length t) 5) (option_and_then behind_it (clock_of (take 5 t))) x e in
    let k = chained behind_it (clock_of (take 5 t)) x w.1 in
    let r = chained (sum k.0) (after_minutes_of (drop 5 t)) x k.2 in
    with_clock t (take 5 t) (drop 5 t) k.0 r.0 x (take-append-drop 5 t) (same_Some _ _ r.2) (clock_is (take 5 t) k.0 k.1) (after_minutes_is (drop 5 t) r.0 r.1)

either_true : (a b : Bool) → (a || b) ≡ true → (a ≡ true) ⊎ (b ≡ true)
either_true true b e = inl refl
either_true false b e = inr e

separator_is : (c : ℕ) → ((c == 32) || (c == 84)) ≡ true → (c ≡ 32) ⊎ (c ≡ 84)
separator_is c e = elim (either_true _ _ e) [ inl space ↦ inl (same_byte c 32 space) | inr t ↦ inr (same_byte c 84 t) ]

abbrev HasTime : List ℕ → ℤ → Type 0
HasTime t x = (time : Time) × IsTime time × (time_text time ≡ t) × (time_millis time ≡ x)

regroup : (a b c : ℤ) → a +ℤ b -ℤ c ≡ a +ℤ (b -ℤ c)
regroup a b c = omega (arith, signed_arith)

at_time : (c : ℕ) (t : List ℕ) (x : ℤ) → (c ≡ 32) ⊎ (c ≡ 84) → HasClock t x → HasTime (c ∷ t) x
at_time c t x separator k =
    (at c k.0 k.1 k.2 k.3, (separator, k.4, k.5, k.6, k.7), ap (λ rest. c ∷ rest) k.8, regroup (clock_millis k.0 k.1) (seconds_millis k.2) (zone_millis k.3) ∙ k.9)

after_day_is : (t : List ℕ) (x : ℤ) → after_day_of t ≡ Some x → HasTime t x
unfolding after_day_of
after_day_is [] x e = (no_time, tt, refl, same_Some _ _ e)
after_day_is (c ∷ t) x e =
    let some : (length (c ∷ t) == 0) ≡ false = grind (arith, nat_tests) in
    let w = guarded ((c == 32) || (c == 84)) (clock_and_rest_of t) x (rw some at e) in
    at_time c t x (separator_is c w.0) (clock_and_rest_is t x w.1)

-- ---- the day

abbrev IsDay : ℕ → ℕ → ℕ → ℤ → Type 0
IsDay year month day x = IsInRange 1 12 month × IsInRange 1 (days_in_month (pos year) month) day × (days_from_civil (pos year) month day ≡ x)

number_of_day_is : (year month day : ℕ) (x : ℤ) → number_of_day year month day ≡ Some x → IsDay year month day x
unfolding number_of_day
number_of_day_is year month day x e =
    let w = guarded (nat_le 1 month && nat_le month 12 && nat_le 1 day && nat_le day (days_in_month (pos year) month)) (Some (days_from_civil (pos year) month day)) x e in
    let a = both_true (nat_le 1 month && nat_le month 12 && nat_le 1 day) (nat_le day (days_in_month (pos year) month)) w.0 in
    let b = both_true (nat_le 1 month && nat_le month 12) (nat_le 1 day) a.0 in
    let c = both_true (nat_le 1 month) (nat_le month 12) b.0 in
    let month_low : nat_le 1 month ≡ true = c.0 in
    let month_high : nat_le month 12 ≡ true = c.1 in
    let day_low : nat_le 1 day ≡ true = b.1 in
    let day_high : nat_le day (days_in_month (pos year) month) ≡ true = a.1 in
    ((le_true _ _ month_low, le_true _ _ month_high), (le_true _ _ day_low, le_true _ _ day_high), same_Some _ _ w.1)

ten_and_rest : (t : List ℕ) (a b c d m n p q : ℕ) → 10 ≤ length t → slice_index t 4 ≡ 45 → slice_index t 7 ≡ 45 → a ≡ slice_index t 0 → b ≡ slice_index t 1 → c ≡ slice_index t 2 → d ≡ slice_index t 3 → m ≡ slice_index t 5 → n ≡ slice_index t 6 → p ≡ slice_index t 8 → q ≡ slice_index t 9 → a ∷ b ∷ c ∷ d ∷ 45 ∷ m ∷ n ∷ 45 ∷ p ∷ q ∷ drop 10 t ≡ t
ten_and_rest (t0 ∷ t1 ∷ t2 ∷ t3 ∷ t4 ∷ t5 ∷ t6 ∷ t7 ∷ t8 ∷ t9 ∷ t) a b c d m n p q h d1 d2 e0 e1 e2 e3 e5 e6 e8 e9 = cc
ten_and_rest _ a b c d m n p q h d1 d2 e0 e1 e2 e3 e5 e6 e8 e9 = absurd (omega (arith, h))

abbrev HasDay : List ℕ → ℤ → Type 0
HasDay t x = (year : ℕ) × (month : ℕ) × (day : ℕ) × (year ≤ 9999) × IsDay year month day x × (day_text year month day ++ drop 10 t ≡ t)

-- two bytes that print a number
abbrev ArePair : ℕ → ℕ → ℕ → Type 0
ArePair tens ones n = (n < 100) × (digit_char (n / 10) ≡ tens) × (digit_char (n % 10) ≡ ones)

with_day : (t : List ℕ) (c y m d : ℕ) (x : ℤ) → 10 ≤ length t → slice_index t 4 ≡ 45 → slice_index t 7 ≡ 45 → ArePair (slice_index t 0) (slice_index t 1) c → ArePair (slice_index t 2) (slice_index t 3) y → ArePair (slice_index t 5) (slice_index t 6) m → ArePair (slice_index t 8) (slice_index t 9) d → number_of_day (c * 100 + y) m d ≡ Some x → HasDay t x
with_day t c y m d x long dash dash_2 cs ys ms ds e =
    let front : (c * 100 + y) / 100 ≡ c = omega arith in
    let back : (c * 100 + y) % 100 ≡ y = omega arith in (
      c * 100 + y,
      m,
      d,
      omega arith,
      number_of_day_is (c * 100 + y) m d x e,
      rw (front, back) (ten_and_rest t _ _ _ _ _ _ _ _ long dash dash_2 cs.1 cs.2 ys.1 ys.2 ms.1 ms.2 ds.1 ds.2),
    )

day_is : (t : List ℕ) (x : ℤ) → 10 ≤ length t → day_of_text t ≡ Some x → HasDay t x
unfolding day_of_text
day_is t x long e =
    let on_day = λ (c : ℕ). λ (y : ℕ). λ (m : ℕ). λ (d : ℕ). number_of_day (c * 100 + y) m d in
    let day = pair_of (slice_index t 8) (slice_index t 9) in
    let month = pair_of (slice_index t 5) (slice_index t 6) in
    let year = pair_of (slice_index t 2) (slice_index t 3) in
    let century = pair_of (slice_index t 0) (slice_index t 1) in
    let in_month = λ (c : ℕ). λ (y : ℕ). λ (m : ℕ). option_and_then (on_day c y m) day in
    let in_year = λ (c : ℕ). λ (y : ℕ). option_and_then (in_month c y) month in
    let in_century = λ (c : ℕ). option_and_then (in_year c) year in
    let w = guarded ((slice_index t 4 == 45) && (slice_index t 7 == 45)) (option_and_then in_century century) x e in
    let dashes = both_true (slice_index t 4 == 45) (slice_index t 7 == 45) w.0 in
    let c = chained in_century century x w.1 in
    let y = chained (in_year c.0) year x c.2 in
    let m = chained (in_month c.0 y.0) month x y.2 in
    let d = chained (on_day c.0 y.0 m.0) day x m.2 in
    with_day t c.0 y.0 m.0 d.0 x long (same_byte (slice_index t 4) 45 dashes.0) (same_byte (slice_index t 7) 45 dashes.1)
    (printed_pair (slice_index t 0) (slice_index t 1) c.0 c.1) (printed_pair (slice_index t 2) (slice_index t 3) y.0 y.1)
    (printed_pair (slice_index t 5) (slice_index t 6) m.0 m.1) (printed_pair (slice_index t 8) (slice_index t 9) d.0 d.1) d.2

-- ---- the whole

in_range_is : (v m : ℤ) → in_range v ≡ Some m → (v ≡ m) × IsMoment v
unfolding in_range
in_range_is v m e =
    let w = unless (int_lt v (negsuc 62_135_596_799_999) || int_lt (pos 253_402_300_799_999) v) (Some v) m e in
    let tests = both_false _ _ w.0 in
    (same_Some _ _ w.1, (not_less_than _ _ tests.0, not_less_than _ _ tests.1))

date_is : (t : List ℕ) (m : ℤ) → date_of t ≡ Some m → IsDateOf t m
unfolding date_of
date_is t m e =
    let sum = λ (day : ℤ). λ (rest : ℤ). in_range (day *ℤ pos 86_400_000 +ℤ rest) in
    let behind_it = λ (day : ℤ). option_and_then (sum day) (after_day_of (drop 10 t)) in
    let w = unless (nat_lt (length t) 10) (option_and_then behind_it (day_of_text t)) m e in
    let d = chained behind_it (day_of_text t) m w.1 in
    let r = chained (sum d.0) (after_day_of (drop 10 t)) m d.2 in
    let day = day_is t d.0 (at_least _ _ w.0) d.1 in
    let time = after_day_is (drop 10 t) r.0 r.1 in
    let range = in_range_is (d.0 *ℤ pos 86_400_000 +ℤ r.0) m r.2 in (
      record { year = day.0; month = day.1; day = day.2; time = time.0 },
      (day.3, day.4.0, day.4.1, time.1),
      rw time.2 day.5,
      rw (day.4.2, time.3) range.0,
      rw range.0 at range.1,
    )

-- a text that stands for a moment is read as that moment
pub read_back : (t : List ℕ) (m : ℤ) → IsDateOf t m → date_of t ≡ Some m
read_back t m d =
    let range : IsMoment (written_millis d.0) = rw d.3 d.4 in
    rw (d.2, d.3) at (date_of-printed d.0 d.1 range)

-- the function and the relation say the same
pub forms : (t : List ℕ) (r : Option ℤ) → r ≡ date_of t → MatchOption r ((m : ℤ) → ¬ IsDateOf t m) (λ m. IsDateOf t m)
forms t None e = λ m d. none-some m (e ∙ read_back t m d)
forms t (Some m) e = date_is t m (sym e)
