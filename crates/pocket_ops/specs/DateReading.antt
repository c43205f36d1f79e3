-- The moment that a text stands for, as a function: each field is read at its place.
use Rattle.std.specs.Prelude.{ℕ, ◌+◌, ◌-◌, ◌*◌, ◌==◌, ◌&&◌, ◌||◌, nat_lt, nat_le, if◌then◌else◌, List, length, take, drop, slice_index, ℤ, pos, negsuc, ◌+ℤ◌, ◌-ℤ◌, ◌*ℤ◌, int_lt, Option, Some, None, option_and_then}
use Rattle.std.specs.List.{prefix_len}
use Rattle.std.specs.Char.{is_ascii_digit}
use Rattle.jiff_core.specs.Calendar.{days_from_civil, days_in_month}
use Rattle.pocket_ops.specs.Dates.{clock_millis, fraction_millis}

infixl 10 ◌>>=◌
abbrev pub ◌>>=◌ : {A B : Type 0} → Option A → (A → Option B) → Option B
o >>= f = option_and_then f o

-- a number of two digits
unfoldable pub pair_of : ℕ → ℕ → Option ℕ
pair_of tens ones =
    if is_ascii_digit tens && is_ascii_digit ones then Some ((tens - 48) * 10 + (ones - 48)) else None

-- a number of two digits that is below a limit
unfoldable pub pair_below : ℕ → ℕ → ℕ → Option ℕ
pair_below limit tens ones = do
  n ← pair_of tens ones
  if nat_lt n limit then Some n else None

-- HH:MM, in milliseconds
unfoldable pub clock_of : List ℕ → Option ℤ
clock_of t =
    if length t == 5 && slice_index t 2 == 58 then (do
      hour ← pair_below 24 (slice_index t 0) (slice_index t 1)
      minute ← pair_below 60 (slice_index t 3) (slice_index t 4)
      Some (clock_millis hour minute))
    else None

-- by how many milliseconds a zone's clocks are ahead of UTC
unfoldable pub zone_of : List ℕ → Option ℤ
zone_of t =
    if length t == 0 then Some (pos 0)
    else if slice_index t 0 == 90 then (if length t == 1 then Some (pos 0) else None)
    else if slice_index t 0 == 43 then clock_of (drop 1 t)
    else if slice_index t 0 == 45 then (do
      millis ← clock_of (drop 1 t)
      Some (pos 0 -ℤ millis))
    else None

-- a fraction and a zone
unfoldable pub fraction_of : List ℕ → Option ℤ
fraction_of t =
    let digits = prefix_len is_ascii_digit t in
    if nat_lt 0 digits && nat_lt digits 10 then (do
      zone ← zone_of (drop digits t)
      Some (pos (fraction_millis (take digits t)) -ℤ zone))
    else None

-- what stands behind the seconds
unfoldable pub after_seconds_of : List ℕ → Option ℤ
after_seconds_of t =
    if slice_index t 0 == 46 then fraction_of (drop 1 t) else (do
      zone ← zone_of t
      Some (pos 0 -ℤ zone))

-- seconds and what stands behind them
unfoldable pub seconds_of : List ℕ → Option ℤ
seconds_of t =
    if nat_lt (length t) 2 then None else (do
      second ← pair_below 60 (slice_index t 0) (slice_index t 1)
      rest ← after_seconds_of (drop 2 t)
      Some (pos (second * 1_000) +ℤ rest))

-- what stands behind the minutes
unfoldable pub after_minutes_of : List ℕ → Option ℤ
after_minutes_of t =
    if slice_index t 0 == 58 then seconds_of (drop 1 t) else (do
      zone ← zone_of t
      Some (pos 0 -ℤ zone))

-- HH:MM and what stands behind it
unfoldable pub clock_and_rest_of : List ℕ → Option ℤ
clock_and_rest_of t =
    if nat_lt (length t) 5 then None else (do
      clock ← clock_of (take 5 t)
      rest ← after_minutes_of (drop 5 t)
      Some (clock +ℤ rest))

-- what stands behind the day
unfoldable pub after_day_of : List ℕ → Option ℤ
after_day_of t =
    if length t == 0 then Some (pos 0)
    else if slice_index t 0 == 32 || slice_index t 0 == 84 then clock_and_rest_of (drop 1 t)
    else None

-- the day number of a date, where the calendar has it
unfoldable pub number_of_day : ℕ → ℕ → ℕ → Option ℤ
number_of_day year month day =
    if nat_le 1 month && nat_le month 12 && nat_le 1 day && nat_le day (days_in_month (pos year) month) then
    Some (days_from_civil (pos year) month day)
    else None

-- YYYY-MM-DD
unfoldable pub day_of_text : List ℕ → Option ℤ
day_of_text t =
    if slice_index t 4 == 45 && slice_index t 7 == 45 then (do
      century ← pair_of (slice_index t 0) (slice_index t 1)
      year ← pair_of (slice_index t 2) (slice_index t 3)
      month ← pair_of (slice_index t 5) (slice_index t 6)
      day ← pair_of (slice_index t 8) (slice_index t 9)
      number_of_day (century * 100 + year) month day)
    else None

-- a moment in the years 1 to 9999
unfoldable pub in_range : ℤ → Option ℤ
in_range m = if int_lt m (negsuc 62_135_596_799_999) || int_lt (pos 253_402_300_799_999) m then None else Some m

unfoldable pub date_of : List ℕ → Option ℤ
date_of t =
    if nat_lt (length t) 10 then None else (do
      day ← day_of_text t
      rest ← after_day_of (drop 10 t)
      in_range (day *ℤ pos 86_400_000 +ℤ rest))
