-- The text of a moment, and the texts that are dates with the moments that they stand for.
use Rattle.std.specs.Prelude.{◌≡◌, ℕ, ◌+◌, ◌-◌, ◌*◌, ◌/◌, ◌%◌, ◌<◌, ◌≤◌, ◌⊎◌, List, [], ◌∷◌, ◌++◌, length, get_or, ℤ, pos, ◌+ℤ◌, ◌-ℤ◌, ◌*ℤ◌}
use Rattle.std.specs.List.{All}
use Rattle.std.specs.Int.{IsInRange}
use Rattle.std.specs.Char.{digit_char, IsAsciiDigit}
use Rattle.jiff_core.specs.Calendar.{days_from_civil, days_in_month}
use Rattle.pocket_types.specs.Names.{IsMoment}
use Rattle.pocket_ops.specs.declared.calendar.Civil.{Civil}
use Rattle.pocket_ops.specs.Calendar.{civil_of}

abbrev pub two_digits : ℕ → List ℕ
two_digits n = digit_char (n / 10) ∷ digit_char (n % 10) ∷ []

abbrev pub three_digits : ℕ → List ℕ
three_digits n = digit_char (n / 100) ∷ two_digits (n % 100)

abbrev pub four_digits : ℕ → List ℕ
four_digits n = two_digits (n / 100) ++ two_digits (n % 100)

-- YYYY-MM-DD
abbrev pub day_text : ℕ → ℕ → ℕ → List ℕ
day_text year month day = four_digits year ++ 45 ∷ two_digits month ++ 45 ∷ two_digits day

-- HH:MM
abbrev pub clock_text : ℕ → ℕ → List ℕ
clock_text hour minute = two_digits hour ++ 58 ∷ two_digits minute

-- ---- the text of a moment

-- YYYY-MM-DD HH:MM:SS.mmmZ
unfoldable pub civil_text : Civil → List ℕ
civil_text c =
    day_text c.year c.month c.day ++ 32 ∷ clock_text c.hour c.minute ++ 58 ∷ two_digits c.second ++ 46 ∷ three_digits c.millisecond ++ 90 ∷ []

-- the text of a moment is that of its date and time of day in UTC
abbrev pub date_text : ℤ → List ℕ
date_text m = civil_text (civil_of m)

-- ---- texts that are dates

-- a zone as it is written: nothing or Z for UTC, or the hours and minutes by which its clocks are ahead of UTC or behind it
pub data Zone : Type 0 where
  unwritten : Zone
  utc : Zone
  ahead : ℕ → ℕ → Zone
  behind : ℕ → ℕ → Zone

abbrev pub zone_text : Zone → List ℕ
zone_text unwritten = []
zone_text utc = 90 ∷ []
zone_text (ahead hour minute) = 43 ∷ clock_text hour minute
zone_text (behind hour minute) = 45 ∷ clock_text hour minute

abbrev pub IsZone : Zone → Type 0
IsZone unwritten = Unit {0}
IsZone utc = Unit {0}
IsZone (ahead hour minute) = (hour < 24) × (minute < 60)
IsZone (behind hour minute) = (hour < 24) × (minute < 60)

abbrev pub clock_millis : ℕ → ℕ → ℤ
clock_millis hour minute = pos (hour * 3_600_000 + minute * 60_000)

-- by how many milliseconds its clocks are ahead of UTC
abbrev pub zone_millis : Zone → ℤ
zone_millis unwritten = pos 0
zone_millis utc = pos 0
zone_millis (ahead hour minute) = clock_millis hour minute
zone_millis (behind hour minute) = pos 0 -ℤ clock_millis hour minute

-- what may stand behind the minutes: no seconds, seconds, or seconds and the digits of a fraction
pub data Seconds : Type 0 where
  no_seconds : Seconds
  whole : ℕ → Seconds
  fraction : ℕ → List ℕ → Seconds

abbrev pub seconds_text : Seconds → List ℕ
seconds_text no_seconds = []
seconds_text (whole second) = 58 ∷ two_digits second
seconds_text (fraction second digits) = 58 ∷ two_digits second ++ 46 ∷ digits

abbrev pub IsSeconds : Seconds → Type 0
IsSeconds no_seconds = Unit {0}
IsSeconds (whole second) = second < 60
IsSeconds (fraction second digits) = (second < 60) × IsInRange 1 9 (length digits) × All IsAsciiDigit digits

-- the digit at a place of a fraction, 0 behind its end
abbrev pub digit_at : List ℕ → ℕ → ℕ
digit_at digits k = get_or digits k 48 - 48

-- three digits count
abbrev pub fraction_millis : List ℕ → ℕ
fraction_millis digits = digit_at digits 0 * 100 + digit_at digits 1 * 10 + digit_at digits 2

abbrev pub seconds_millis : Seconds → ℤ
seconds_millis no_seconds = pos 0
seconds_millis (whole second) = pos (second * 1_000)
seconds_millis (fraction second digits) = pos (second * 1_000 + fraction_millis digits)

-- what may stand behind the day: nothing, or a separator, hours, minutes, perhaps seconds and perhaps a zone
pub data Time : Type 0 where
  no_time : Time
  at : ℕ → ℕ → ℕ → Seconds → Zone → Time

abbrev pub time_text : Time → List ℕ
time_text no_time = []
time_text (at separator hour minute seconds zone) =
    separator ∷ clock_text hour minute ++ (seconds_text seconds ++ zone_text zone)

-- the separator is a space or T
abbrev pub IsTime : Time → Type 0
IsTime no_time = Unit {0}
IsTime (at separator hour minute seconds zone) =
    ((separator ≡ 32) ⊎ (separator ≡ 84)) × (hour < 24) × (minute < 60) × IsSeconds seconds × IsZone zone

-- milliseconds after midnight in UTC of the day that is written
abbrev pub time_millis : Time → ℤ
time_millis no_time = pos 0
time_millis (at separator hour minute seconds zone) =
    clock_millis hour minute +ℤ seconds_millis seconds -ℤ zone_millis zone

-- a date as it is written
pub record Written : Type 0 where
  pub year : ℕ
  pub month : ℕ
  pub day : ℕ
  pub time : Time

abbrev pub written_text : Written → List ℕ
written_text w = day_text w.year w.month w.day ++ time_text w.time

-- the calendar has the day; a year 0 may be written, since a zone may lead from it into the year 1
abbrev pub IsWrittenDate : Written → Type 0
IsWrittenDate w =
    (w.year ≤ 9999) × IsInRange 1 12 w.month × IsInRange 1 (days_in_month (pos w.year) w.month) w.day × IsTime w.time

-- the moment that is written
abbrev pub written_millis : Written → ℤ
written_millis w = days_from_civil (pos w.year) w.month w.day *ℤ pos 86_400_000 +ℤ time_millis w.time

-- a text is a date and stands for a moment, which is in the years 1 to 9999
abbrev pub IsDateOf : List ℕ → ℤ → Type 0
IsDateOf text m = (w : Written) × IsWrittenDate w × (written_text w ≡ text) × (written_millis w ≡ m) × IsMoment m
