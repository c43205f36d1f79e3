-- The date and the time of day of a moment, in UTC, by the civil calendar. A moment is its milliseconds since 1970-01-01 00:00.
use Rattle.std.specs.Prelude.{ℕ, zero, suc, ◌+◌, ◌*◌, ◌/◌, ◌%◌, ◌<◌, if◌then◌else◌, ℤ, pos, ◌+ℤ◌, ◌-ℤ◌, ◌*ℤ◌, int_lt, unsigned_abs}
use Rattle.std.specs.Int.{IsInRange, int_div_euclid, int_rem_euclid}
use Rattle.jiff_core.specs.Calendar.{days_from_civil, days_in_month, weekday_number}
use Rattle.pocket_ops.specs.declared.calendar.Civil.{Civil}

-- milliseconds since midnight
abbrev pub millis_of_day : Civil → ℕ
millis_of_day c = c.hour * 3_600_000 + c.minute * 60_000 + c.second * 1_000 + c.millisecond

-- the moment of a date and a time of day
unfoldable pub civil_millis : Civil → ℤ
civil_millis c = days_from_civil (pos c.year) c.month c.day *ℤ pos 86_400_000 +ℤ pos (millis_of_day c)

-- the calendar has the date, in the years 1 to 9999, and a clock shows the time
abbrev pub IsCivil : Civil → Type 0
IsCivil c =
    IsInRange 1 9999 c.year × IsInRange 1 12 c.month × IsInRange 1 (days_in_month (pos c.year) c.month) c.day
    × (c.hour < 24) × (c.minute < 60) × (c.second < 60) × (c.millisecond < 1000)

-- ---- the way back, by counting

-- the day of a moment, 0 for 1970-01-01
abbrev pub day_of : ℤ → ℤ
day_of m = int_div_euclid m (pos 86_400_000)

-- milliseconds since midnight
abbrev pub time_of : ℤ → ℕ
time_of m = unsigned_abs (int_rem_euclid m (pos 86_400_000))

-- how many of the spans 1 to n begin on the day or before it, where `first` gives each span's first day
unfoldable pub count_begun : (ℕ → ℤ) → ℤ → ℕ → ℕ
count_begun first day zero = 0
count_begun first day (suc n) = count_begun first day n + (if int_lt day (first (suc n)) then 0 else 1)

-- the year of a day from 0001-01-01 to 9999-12-31: so many years have begun since the year 1
abbrev pub year_of : ℤ → ℕ
year_of day = count_begun (λ year. days_from_civil (pos year) 1 1) day 9999

-- the month: so many have begun in the year
abbrev pub month_of : ℤ → ℕ
month_of day = count_begun (λ month. days_from_civil (pos (year_of day)) month 1) day 12

abbrev pub day_of_month : ℤ → ℕ
day_of_month day = unsigned_abs (day -ℤ days_from_civil (pos (year_of day)) (month_of day) 1) + 1

-- the date and the time of day of a moment in range: the one of which it is the moment
unfoldable pub civil_of : ℤ → Civil
civil_of m = record {
  year = year_of (day_of m);
  month = month_of (day_of m);
  day = day_of_month (day_of m);
  hour = time_of m / 3_600_000;
  minute = time_of m / 60_000 % 60;
  second = time_of m / 1_000 % 60;
  millisecond = time_of m % 1_000;
}

-- 0 for Sunday to 6 for Saturday
abbrev pub weekday_of : ℤ → ℕ
weekday_of m = (weekday_number (day_of m) + 1) % 7
