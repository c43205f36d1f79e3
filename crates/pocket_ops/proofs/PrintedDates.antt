-- Dates as they are printed are read.
use Rattle.std.proofs.Common.{◌≡◌, ℕ, suc, ◌+◌, ◌*◌, ◌/◌, ◌%◌, ◌<◌, ◌≤◌, inl, inr, true, false, nat_lt, nat_le, List, [], ◌∷◌, ◌++◌, length, refl, ap, ◌∙◌, arith, Some, ℤ, pos, negsuc, ◌+ℤ◌, ◌-ℤ◌, ◌*ℤ◌, int_lt}
use Rattle.std.specs.Prelude.{◌==◌}
use Rattle.std.specs.List.{prefix_len, All}
use Rattle.std.specs.Char.{is_ascii_digit, IsAsciiDigit, digit_char}
use Rattle.std.specs.Int.{IsInRange}
use Rattle.std.proofs.lemmas.Bool.Decides.{nat_tests}
use Rattle.std.proofs.lemmas.List.Elements.{All-cons}
use Rattle.std.proofs.Math.Seq.{take-append_seam, drop-append_seam}
use Rattle.jiff_core.specs.Calendar.{days_from_civil, days_in_month}
use Rattle.jiff_core.proofs.CalendarLemmas.{days_in_month_bounds}
use Rattle.jiff_core.proofs.SignedLemmas.{signed_arith}
use Rattle.pocket_types.specs.Names.{IsMoment}
use Rattle.pocket_ops.specs.declared.calendar.Civil.{Civil}
use Rattle.pocket_ops.specs.Calendar.{civil_millis, IsCivil}
use Rattle.pocket_ops.specs.Dates.{two_digits, clock_text, clock_millis, day_text, Zone, unwritten, utc, ahead, behind, zone_text, zone_millis, IsZone, Seconds, no_seconds, whole, fraction, seconds_text, seconds_millis, IsSeconds, three_digits, civil_text, fraction_millis, Time, no_time, at, time_text, time_millis, IsTime, Written, written_text, written_millis, IsWrittenDate}
use Rattle.pocket_ops.specs.DateReading.{clock_of, zone_of, fraction_of, after_seconds_of, seconds_of, after_minutes_of, clock_and_rest_of, after_day_of, number_of_day, day_of_text, in_range, date_of}
use Rattle.pocket_ops.proofs.CalendarLemmas.{not_less}
use Rattle.pocket_ops.proofs.DigitLemmas.{pair_of-printed, pair_below-printed, digit_test, digit_char-is}

clock_of-printed : (hour minute : ℕ) → hour < 24 → minute < 60 → clock_of (clock_text hour minute) ≡ Some (clock_millis hour minute)
unfolding clock_of
clock_of-printed hour minute h k =
    rw (pair_below-printed 24 hour h (omega arith), pair_below-printed 60 minute k (omega arith))

zone_of-printed : (zone : Zone) → IsZone zone → zone_of (zone_text zone) ≡ Some (zone_millis zone)
unfolding zone_of
zone_of-printed unwritten h = refl
zone_of-printed utc h = refl
zone_of-printed (ahead hour minute) h = clock_of-printed hour minute h.0 h.1
zone_of-printed (behind hour minute) h = rw (clock_of-printed hour minute h.0 h.1)

no_digits : (zone : Zone) → prefix_len is_ascii_digit (zone_text zone) ≡ 0
no_digits unwritten = refl
no_digits utc = refl
no_digits (ahead hour minute) = refl
no_digits (behind hour minute) = refl

all_digits : (digits : List ℕ) (zone : Zone) → All IsAsciiDigit digits → prefix_len is_ascii_digit (digits ++ zone_text zone) ≡ length digits
all_digits [] zone h = no_digits zone
all_digits (d ∷ digits) zone h =
    let first = h 0 0 (omega arith) in
    rw (digit_test d first.0 first.1, all_digits digits zone (λ k x lt. h (suc k) x (omega (arith, lt)))) (omega arith)

fraction_of-printed : (digits : List ℕ) (zone : Zone) → IsInRange 1 9 (length digits) → All IsAsciiDigit digits → IsZone zone → fraction_of (digits ++ zone_text zone) ≡ Some (pos (fraction_millis digits) -ℤ zone_millis zone)
unfolding fraction_of
fraction_of-printed digits zone h k z =
    let some : nat_lt 0 (length digits) ≡ true = grind (arith, nat_tests) in
    let few : nat_lt (length digits) 10 ≡ true = grind (arith, nat_tests) in
    rw (all_digits digits zone k, some, few, drop-append_seam digits (zone_text zone), take-append_seam digits (zone_text zone), zone_of-printed zone z)

-- behind the minutes and seconds, where no more of the time follows
after_seconds_of-zone : (zone : Zone) → IsZone zone → after_seconds_of (zone_text zone) ≡ Some (pos 0 -ℤ zone_millis zone)
unfolding after_seconds_of zone_of
after_seconds_of-zone unwritten h = refl
after_seconds_of-zone utc h = refl
after_seconds_of-zone (ahead hour minute) h = rw (clock_of-printed hour minute h.0 h.1)
after_seconds_of-zone (behind hour minute) h = rw (clock_of-printed hour minute h.0 h.1)

after_minutes_of-zone : (zone : Zone) → IsZone zone → after_minutes_of (zone_text zone) ≡ Some (pos 0 -ℤ zone_millis zone)
unfolding after_minutes_of zone_of
after_minutes_of-zone unwritten h = refl
after_minutes_of-zone utc h = refl
after_minutes_of-zone (ahead hour minute) h = rw (clock_of-printed hour minute h.0 h.1)
after_minutes_of-zone (behind hour minute) h = rw (clock_of-printed hour minute h.0 h.1)

seconds_of-printed : (second : ℕ) (rest : List ℕ) (millis : ℤ) → second < 60 → after_seconds_of rest ≡ Some millis → seconds_of (two_digits second ++ rest) ≡ Some (pos (second * 1_000) +ℤ millis)
unfolding seconds_of
seconds_of-printed second rest millis h e =
    let long : nat_lt (length (two_digits second ++ rest)) 2 ≡ false = grind (arith, nat_tests) in
    rw (long, pair_below-printed 60 second h (omega arith), e)

after_minutes_of-printed : (seconds : Seconds) (zone : Zone) → IsSeconds seconds → IsZone zone → after_minutes_of (seconds_text seconds ++ zone_text zone) ≡ Some (seconds_millis seconds -ℤ zone_millis zone)
unfolding after_minutes_of after_seconds_of
after_minutes_of-printed no_seconds zone h z = after_minutes_of-zone zone z
after_minutes_of-printed (whole second) zone h z =
    seconds_of-printed second (zone_text zone) _ h (after_seconds_of-zone zone z) ∙ ap Some (omega (arith, signed_arith))
after_minutes_of-printed (fraction second digits) zone h z =
    seconds_of-printed second (46 ∷ digits ++ zone_text zone) _ h.0 (fraction_of-printed digits zone h.1 h.2 z) ∙ ap Some (omega (arith, signed_arith))

-- ---- the whole

clock_and_rest_of-printed : (hour minute : ℕ) (rest : List ℕ) (millis : ℤ) → hour < 24 → minute < 60 → after_minutes_of rest ≡ Some millis → clock_and_rest_of (clock_text hour minute ++ rest) ≡ Some (clock_millis hour minute +ℤ millis)
unfolding clock_and_rest_of
clock_and_rest_of-printed hour minute rest millis h k e =
    let long : nat_lt (length (clock_text hour minute ++ rest)) 5 ≡ false = grind (arith, nat_tests) in
    rw (long, clock_of-printed hour minute h k, e)

after_day_of-printed : (time : Time) → IsTime time → after_day_of (time_text time) ≡ Some (time_millis time)
unfolding after_day_of
after_day_of-printed no_time h = refl
after_day_of-printed (at separator hour minute seconds zone) h =
    let rest = clock_and_rest_of-printed hour minute _ _ h.1 h.2 (after_minutes_of-printed seconds zone h.3 h.4) in
    let some : (length (time_text (at separator hour minute seconds zone)) == 0) ≡ false = grind (arith, nat_tests) in
    elim h.0 [
      | inl space ↦ rw (some, space, rest) (ap Some (omega (arith, signed_arith)))
      | inr t ↦ rw (some, t, rest) (ap Some (omega (arith, signed_arith)))
    ]

number_of_day-is : (year month day : ℕ) → IsInRange 1 12 month → IsInRange 1 (days_in_month (pos year) month) day → number_of_day year month day ≡ Some (days_from_civil (pos year) month day)
unfolding number_of_day
number_of_day-is year month day h k =
    let a : nat_le 1 month ≡ true = grind (arith, nat_tests) in
    let b : nat_le month 12 ≡ true = grind (arith, nat_tests) in
    let c : nat_le 1 day ≡ true = grind (arith, nat_tests) in
    let d : nat_le day (days_in_month (pos year) month) ≡ true = grind (arith, nat_tests) in
    rw (a, b, c, d)

day_of_text-printed : (year month day : ℕ) (rest : List ℕ) → year ≤ 9999 → IsInRange 1 12 month → IsInRange 1 (days_in_month (pos year) month) day → day_of_text (day_text year month day ++ rest) ≡ Some (days_from_civil (pos year) month day)
unfolding day_of_text
day_of_text-printed year month day rest low h k =
    let whole_year : year / 100 * 100 + year % 100 ≡ year = omega arith in
    rw (pair_of-printed (year / 100) (omega arith), pair_of-printed (year % 100) (omega arith), pair_of-printed month (omega (arith, h)), pair_of-printed day (omega (arith, k, days_in_month_bounds (pos year) month)), whole_year, number_of_day-is year month day h k)

in_range-is : (m : ℤ) → IsMoment m → in_range m ≡ Some m
unfolding in_range
in_range-is m h =
    let low : int_lt m (negsuc 62_135_596_799_999) ≡ false = not_less _ _ h.0 in
    let high : int_lt (pos 253_402_300_799_999) m ≡ false = not_less _ _ h.1 in
    rw (low, high)

-- a date as it is written is read as the moment that is written
pub date_of-printed : (w : Written) → IsWrittenDate w → IsMoment (written_millis w) → date_of (written_text w) ≡ Some (written_millis w)
unfolding date_of
date_of-printed w h range =
    let long : nat_lt (length (written_text w)) 10 ≡ false = grind (arith, nat_tests) in
    rw (long, day_of_text-printed w.year w.month w.day (time_text w.time) h.0 h.1 h.2, after_day_of-printed w.time h.3, in_range-is (written_millis w) range)

-- ---- the text of a moment is one of these

three_digits-digits : (n : ℕ) → n < 1000 → All IsAsciiDigit (three_digits n)
three_digits-digits n h =
    let a = digit_char-is (n / 100) (omega arith) in
    let b = digit_char-is (n % 100 / 10) (omega arith) in
    let c = digit_char-is (n % 100 % 10) (omega arith) in
    All-cons IsAsciiDigit (digit_char (n / 100)) (two_digits (n % 100)) (omega (arith, a), omega (arith, a))
    (All-cons IsAsciiDigit (digit_char (n % 100 / 10)) (digit_char (n % 100 % 10) ∷ []) (omega (arith, b), omega (arith, b))
    (All-cons IsAsciiDigit (digit_char (n % 100 % 10)) [] (omega (arith, c), omega (arith, c)) (λ k d lt. absurd (omega (arith, lt)))))

fraction_millis-three : (n : ℕ) → n < 1000 → fraction_millis (three_digits n) ≡ n
fraction_millis-three n h =
    rw (digit_char-is (n / 100) (omega arith), digit_char-is (n % 100 / 10) (omega arith), digit_char-is (n % 100 % 10) (omega arith))
    (omega arith)

abbrev as_written : Civil → Written
as_written c = record { year = c.year; month = c.month; day = c.day; time = at 32 c.hour c.minute (fraction c.second (three_digits c.millisecond)) utc }

civil_text-written : (c : Civil) → civil_text c ≡ written_text (as_written c)
unfolding civil_text
civil_text-written c = refl

sum_with_time : (days : ℤ) (hour minute second milli : ℕ) → days +ℤ (pos (hour * 3_600_000 + minute * 60_000) +ℤ pos (second * 1_000 + milli) -ℤ pos 0) ≡ days +ℤ pos (hour * 3_600_000 + minute * 60_000 + second * 1_000 + milli)
sum_with_time days hour minute second milli = omega (arith, signed_arith)

civil_millis-written : (c : Civil) → IsCivil c → written_millis (as_written c) ≡ civil_millis c
unfolding civil_millis
civil_millis-written c h =
    rw (fraction_millis-three c.millisecond h.6) (sum_with_time (days_from_civil (pos c.year) c.month c.day *ℤ pos 86_400_000) c.hour c.minute c.second c.millisecond)

-- the text of a date and a time of day is read as its moment
pub date_of-civil : (c : Civil) → IsCivil c → IsMoment (civil_millis c) → date_of (civil_text c) ≡ Some (civil_millis c)
date_of-civil c h range =
    let ok : IsWrittenDate (as_written c) = (h.0.1, h.1, h.2, (inl refl, h.3, h.4, (h.5, (omega arith, omega arith), three_digits-digits c.millisecond h.6), tt)) in
    let same = civil_millis-written c h in
    rw (civil_text-written c, ← same) (date_of-printed (as_written c) ok (rw same range))
