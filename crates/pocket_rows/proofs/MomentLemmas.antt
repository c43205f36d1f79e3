-- The text of each moment is read as that moment.
use Rattle.std.proofs.Common.{◌≡◌, ◌≢◌, ◌≤◌, ◌<◌, ◌+◌, ℕ, zero, suc, ℤ, pos, ◌+ℤ◌, ◌-ℤ◌, unsigned_abs, [], inl, inr, Some, refl, sym, ap, ◌∙◌, arith}
use Rattle.std.specs.Int.{IsInRange}
use Rattle.std.proofs.lemmas.Bool.{cases_order}
use Rattle.jiff_core.specs.Calendar.{days_from_civil, days_in_month, day_count, IsCivilDate}
use Rattle.jiff_core.proofs.SignedLemmas.{signed_arith}
use Rattle.jiff_core.proofs.CalendarLemmas.{days_from_civil-day_count, days_in_month_bounds}
use Rattle.jiff_core.proofs.MarchLemmas.{day_count-early}
use Rattle.jiff_core.proofs.DateLemmas.{days_from_civil-day, days_from_civil-next_month, days_from_civil-next_year, days_from_civil-max}
use Rattle.pocket_types.specs.Names.{IsMoment}
use Rattle.pocket_ops.specs.Calendar.{civil_of, civil_millis, day_of, time_of, IsCivil}
use Rattle.pocket_ops.specs.DateReading.{date_of}
use Rattle.pocket_ops.specs.Dates.{date_text, civil_text}
use Rattle.pocket_ops.proofs.CalendarLemmas.{civil_of-is, civil_millis-is, nonnegative}
use Rattle.pocket_ops.proofs.PrintedDates.{date_of-civil}

-- ---- each day has a date

-- the date of the day that is so many days behind 0001-01-01
record DayDate (n : ℕ) : Type 0 where
  year : ℕ
  month : ℕ
  day : ℕ
  low : 1 ≤ year
  high : year ≤ 9999
  month_in : IsInRange 1 12 month
  day_in : IsInRange 1 (days_in_month (pos year) month) day
  days : days_from_civil (pos year) month day ≡ pos n -ℤ pos 719_162

day_count-first : day_count (pos 1) 1 1 ≡ 3_652_791
day_count-first = day_count-early (pos 1) 10000 1 1 refl (omega arith) (omega arith) (omega arith)

first_day : DayDate 0
first_day = record {
  year = 1;
  month = 1;
  day = 1;
  low = omega arith;
  high = omega arith;
  month_in = (omega arith, omega arith);
  day_in = (omega arith, omega arith);
  days = omega (arith, signed_arith, days_from_civil-day_count (pos 1) 1 1, day_count-first);
}

-- the day behind one that isn't the last of its month
day_behind : (n : ℕ) (x : DayDate n) → x.day < days_in_month (pos x.year) x.month → DayDate (suc n)
day_behind n x h = record {
  year = x.year;
  month = x.month;
  day = x.day + 1;
  low = x.low;
  high = x.high;
  month_in = x.month_in;
  day_in = (omega arith, omega arith);
  days = omega (arith, signed_arith, x.days, days_from_civil-day (pos x.year) x.month x.day (x.day + 1) x.day_in.0 (omega arith));
}

-- the first day behind a month that isn't the last of its year
month_behind : (n : ℕ) (x : DayDate n) → x.day ≡ days_in_month (pos x.year) x.month → x.month < 12 → DayDate (suc n)
month_behind n x last h =
    let long = days_in_month_bounds (pos x.year) (x.month + 1) in
    record {
      year = x.year;
      month = x.month + 1;
      day = 1;
      low = x.low;
      high = x.high;
      month_in = (omega arith, omega arith);
      day_in = (omega arith, omega (arith, long));
      days = omega (arith, signed_arith, x.days, days_from_civil-next_month (pos x.year) x.month x.day x.month_in.0 last);
    }

-- the first day behind a year
year_behind : (n : ℕ) (x : DayDate n) → x.day ≡ days_in_month (pos x.year) x.month → x.month ≡ 12 → x.year < 9999 → DayDate (suc n)
year_behind n x last december h =
    let end : x.day ≡ 31 = last ∙ ap (days_in_month (pos x.year)) december in
    let days : days_from_civil (pos x.year) 12 31 ≡ pos n -ℤ pos 719_162 = (λ i. days_from_civil (pos x.year) (sym december i) (sym end i)) ∙ x.days in
    record {
      year = x.year + 1;
      month = 1;
      day = 1;
      low = omega arith;
      high = omega arith;
      month_in = (omega arith, omega arith);
      day_in = (omega arith, omega arith);
      days = omega (arith, signed_arith, days, days_from_civil-next_year (pos x.year) (pos (x.year + 1)) (omega (arith, signed_arith)) (omega (arith, signed_arith)));
    }

-- behind 9999-12-31 no day is counted
last_day : (n : ℕ) (x : DayDate n) → x.day ≡ days_in_month (pos x.year) x.month → x.month ≡ 12 → x.year ≡ 9999 → n ≡ 3_652_058
last_day n x last december end =
    let day : x.day ≡ 31 = last ∙ ap (days_in_month (pos x.year)) december in
    let days : days_from_civil (pos 9999) 12 31 ≡ pos n -ℤ pos 719_162 = (λ i. days_from_civil (pos (sym end i)) (sym december i) (sym day i)) ∙ x.days in
    omega (arith, signed_arith, days, days_from_civil-max)

next_day : (n : ℕ) → n < 3_652_058 → DayDate n → DayDate (suc n)
next_day n h x =
    elim (cases_order x.day (days_in_month (pos x.year) x.month)) [
      | inr (inl less) ↦ day_behind n x less
      | inr (inr more) ↦ absurd (omega (arith, x.day_in))
      | inl last ↦ elim (cases_order x.month 12) [
        | inr (inl less) ↦ month_behind n x last less
        | inr (inr more) ↦ absurd (omega (arith, x.month_in))
        | inl december ↦ elim (cases_order x.year 9999) [
          | inr (inl less) ↦ year_behind n x last december less
          | inr (inr more) ↦ absurd (omega (arith, x.high))
          | inl end ↦ absurd (omega (arith, last_day n x last december end))
        ]
      ]
    ]

date_of_day : (n : ℕ) → n ≤ 3_652_058 → DayDate n
date_of_day zero h = first_day
date_of_day (suc n) h = next_day n (omega arith) (date_of_day n (omega arith))

-- ---- each moment has a date and a time of day

-- the days from 0001-01-01 to the day of a moment
since_first : (m : ℤ) → IsMoment m → pos (unsigned_abs (day_of m +ℤ pos 719_162)) ≡ day_of m +ℤ pos 719_162
since_first m h = nonnegative (day_of m +ℤ pos 719_162) (omega (arith, signed_arith, h))

days_counted : (m : ℤ) → IsMoment m → unsigned_abs (day_of m +ℤ pos 719_162) ≤ 3_652_058
days_counted m h = omega (arith, signed_arith, h, since_first m h)

days_again : (m : ℤ) → IsMoment m → pos (unsigned_abs (day_of m +ℤ pos 719_162)) -ℤ pos 719_162 ≡ day_of m
days_again m h = omega (arith, signed_arith, since_first m h)

time_below : (m : ℤ) → time_of m < 86_400_000
time_below m = omega (arith, signed_arith)

pub civil_of-form : (m : ℤ) → IsMoment m → IsCivil (civil_of m) × (civil_millis (civil_of m) ≡ m)
civil_of-form m h =
    let x = date_of_day (unsigned_abs (day_of m +ℤ pos 719_162)) (days_counted m h) in
    let t = time_of m in
    let below = time_below m in
    let date : IsCivilDate (pos x.year) x.month x.day = ((omega (arith, signed_arith, x.high), omega (arith, signed_arith, x.high)), x.month_in, x.day_in) in
    let days : days_from_civil (pos x.year) x.month x.day ≡ day_of m = x.days ∙ days_again m h in
    let e = civil_of-is m x.year x.month x.day t x.high date days refl in
    (rw e ((x.low, x.high), x.month_in, x.day_in, omega (arith, below), omega arith, omega arith, omega arith), rw e (civil_millis-is m x.year x.month x.day t days refl))

-- ---- the text of a moment

pub date_text-read : (m : ℤ) → IsMoment m → date_of (date_text m) ≡ Some m
date_text-read m h =
    let c = civil_of-form m h in
    date_of-civil (civil_of m) c.0 (rw c.1 h) ∙ ap Some c.1

pub date_text-filled : (m : ℤ) → date_text m ≢ []
unfolding civil_text
date_text-filled m e = cc
