-- The date of a day, found by counting, is the one whose day it is.
use Rattle.std.proofs.Common.{◌≡◌, ℕ, zero, suc, ◌+◌, ◌-◌, ◌*◌, ◌/◌, ◌%◌, ◌<◌, ◌≤◌, min, ℤ, pos, negsuc, ◌+ℤ◌, ◌-ℤ◌, ◌*ℤ◌, ◌≤ℤ◌, ◌<ℤ◌, int_lt, Bool, ◌⊎◌, inl, inr, true, false, refl, arith, unsigned_abs}
use Rattle.std.proofs.lemmas.Bool.{cases_order, cases_lt}
use Rattle.std.proofs.lemmas.Int.{ints, by_lt_z}
use Rattle.jiff_core.specs.Calendar.{IsCivilDate, days_from_civil, day_count}
use Rattle.jiff_core.proofs.CalendarLemmas.{days_from_civil-day_count, day_count-day_of_year, day_count-lt_year, day_count-lt_month, day_count-later_year, day_count-day, days_in_month_bounds}
use Rattle.jiff_core.proofs.MarchLemmas.{day_count-early}
use Rattle.jiff_core.proofs.SignedLemmas.{signed_arith}
use Rattle.pocket_ops.specs.Calendar.{count_begun, year_of, day_of, time_of, civil_of, civil_millis}

less_by : (a b : ℤ) (t : Bool) → int_lt a b ≡ t → a <ℤ b → int_lt a b ≡ true
less_by a b true e h = e
less_by a b false e h = absurd (omega (arith, ints, e, h))

pub is_less : (a b : ℤ) → a <ℤ b → int_lt a b ≡ true
is_less a b h = less_by a b (int_lt a b) refl h

not_less_by : (a b : ℤ) (t : Bool) → int_lt a b ≡ t → b ≤ℤ a → int_lt a b ≡ false
not_less_by a b true e h = absurd (omega (arith, ints, e, h))
not_less_by a b false e h = e

pub not_less : (a b : ℤ) → b ≤ℤ a → int_lt a b ≡ false
not_less a b h = not_less_by a b (int_lt a b) refl h

count_begun-step : (first : ℕ → ℤ) (day : ℤ) (own n : ℕ) → ((k : ℕ) → 1 ≤ k → k ≤ own → first k ≤ℤ day) → ((k : ℕ) → own < k → k ≤ suc n → day <ℤ first k) → (suc n < suc own) ⊎ (suc own ≤ suc n) → count_begun first day n ≡ min n own → count_begun first day (suc n) ≡ min (suc n) own
unfolding count_begun
count_begun-step first day own n here later (inl lt) known =
    let same : int_lt day (first (suc n)) ≡ false = not_less _ _ (here (suc n) (omega arith) (omega arith)) in
    rw (same, known) (omega (arith, lt))
count_begun-step first day own n here later (inr le) known =
    let same : int_lt day (first (suc n)) ≡ true = is_less _ _ (later (suc n) (omega arith) (omega arith)) in
    rw (same, known) (omega (arith, le))

-- the spans that have begun on a day are those up to its own
pub count_begun-is : (first : ℕ → ℤ) (day : ℤ) (own n : ℕ) → ((k : ℕ) → 1 ≤ k → k ≤ own → first k ≤ℤ day) → ((k : ℕ) → own < k → k ≤ n → day <ℤ first k) → count_begun first day n ≡ min n own
unfolding count_begun
count_begun-is first day own zero here later = omega arith
count_begun-is first day own (suc n) here later =
    count_begun-step first day own n here later (cases_lt (suc n) (suc own)) (count_begun-is first day own n here (λ k above up. later k above (omega arith)))

-- a day comes after the first days of the years up to its own
year_here_at : (k y m d : ℕ) → IsCivilDate (pos y) m d → k ≤ y → (k ≡ y) ⊎ ((k < y) ⊎ (y < k)) → days_from_civil (pos k) 1 1 ≤ℤ days_from_civil (pos y) m d
year_here_at k y m d h le (inl same) =
    rw same (omega (arith, signed_arith, h, days_from_civil-day_count (pos y) 1 1, days_from_civil-day_count (pos y) m d, day_count-day_of_year (pos y) m d h.2.0))
year_here_at k y m d h le (inr (inl lt)) =
    omega (arith, signed_arith, h, days_from_civil-day_count (pos k) 1 1, days_from_civil-day_count (pos y) m d, day_count-later_year (pos k) (pos y) (omega (arith, signed_arith)) (omega (arith, signed_arith)), day_count-day_of_year (pos y) m d h.2.0)
year_here_at k y m d h le (inr (inr gt)) = absurd (omega arith)

year_here : (k y m d : ℕ) → IsCivilDate (pos y) m d → k ≤ y → days_from_civil (pos k) 1 1 ≤ℤ days_from_civil (pos y) m d
year_here k y m d h le = year_here_at k y m d h le (cases_order k y)

-- and before those of later years
year_later : (k y m d : ℕ) → IsCivilDate (pos y) m d → y < k → days_from_civil (pos y) m d <ℤ days_from_civil (pos k) 1 1
year_later k y m d h lt =
    omega (arith, signed_arith, days_from_civil-day_count (pos k) 1 1, days_from_civil-day_count (pos y) m d, day_count-lt_year (pos y) m d (pos k) 1 1 h (omega arith) (omega (arith, signed_arith)))

pub year_of-is : (y m d : ℕ) → y ≤ 9999 → IsCivilDate (pos y) m d → year_of (days_from_civil (pos y) m d) ≡ y
year_of-is y m d h date =
    let count = count_begun-is (λ year. days_from_civil (pos year) 1 1) (days_from_civil (pos y) m d) y 9999 (λ k low high. year_here k y m d date high) (λ k above high. year_later k y m d date above) in
    omega (arith, count)

month_here_at : (k y m d : ℕ) → IsCivilDate (pos y) m d → 1 ≤ k → k ≤ m → (k ≡ m) ⊎ ((k < m) ⊎ (m < k)) → days_from_civil (pos y) k 1 ≤ℤ days_from_civil (pos y) m d
month_here_at k y m d h low le (inl same) =
    rw same (omega (arith, signed_arith, h, days_from_civil-day_count (pos y) m 1, days_from_civil-day_count (pos y) m d, day_count-day (pos y) m 1 d (omega arith) h.2.0))
month_here_at k y m d h low le (inr (inl lt)) =
    let first : IsCivilDate (pos y) k 1 = (h.0, (low, omega (arith, h)), (omega arith, omega (arith, days_in_month_bounds (pos y) k))) in
    omega (arith, signed_arith, h, days_from_civil-day_count (pos y) k 1, days_from_civil-day_count (pos y) m d, day_count-lt_month (pos y) k 1 m d first h.2.0 lt)
month_here_at k y m d h low le (inr (inr gt)) = absurd (omega arith)

month_here : (k y m d : ℕ) → IsCivilDate (pos y) m d → 1 ≤ k → k ≤ m → days_from_civil (pos y) k 1 ≤ℤ days_from_civil (pos y) m d
month_here k y m d h low le = month_here_at k y m d h low le (cases_order k m)

month_later : (k y m d : ℕ) → IsCivilDate (pos y) m d → m < k → days_from_civil (pos y) m d <ℤ days_from_civil (pos y) k 1
month_later k y m d h lt =
    omega (arith, signed_arith, days_from_civil-day_count (pos y) k 1, days_from_civil-day_count (pos y) m d, day_count-lt_month (pos y) m d k 1 h (omega arith) lt)

months_begun-is : (y m d : ℕ) → IsCivilDate (pos y) m d → count_begun (λ month. days_from_civil (pos y) month 1) (days_from_civil (pos y) m d) 12 ≡ m
months_begun-is y m d date =
    let count = count_begun-is (λ month. days_from_civil (pos y) month 1) (days_from_civil (pos y) m d) m 12 (λ k low high. month_here k y m d date low high) (λ k above high. month_later k y m d date above) in
    omega (arith, count, date)

days_gone : (y m d : ℕ) → 1 ≤ d → unsigned_abs (days_from_civil (pos y) m d -ℤ days_from_civil (pos y) m 1) + 1 ≡ d
days_gone y m d low =
    let gone : days_from_civil (pos y) m d -ℤ days_from_civil (pos y) m 1 ≡ pos (d - 1) = omega (arith, signed_arith, days_from_civil-day_count (pos y) m 1, days_from_civil-day_count (pos y) m d, day_count-day (pos y) m 1 d (omega arith) low) in
    rw gone (omega (arith, low))

-- the date and time of day whose day and time are those of a moment
pub civil_of-is : (millis : ℤ) (y m d t : ℕ) → y ≤ 9999 → IsCivilDate (pos y) m d → days_from_civil (pos y) m d ≡ day_of millis → t ≡ time_of millis → civil_of millis ≡ record { year = y; month = m; day = d; hour = t / 3_600_000; minute = t / 60_000 % 60; second = t / 1_000 % 60; millisecond = t % 1_000 }
unfolding civil_of
civil_of-is millis y m d t h date same time =
    rw (← same, ← time, year_of-is y m d h date, months_begun-is y m d date, days_gone y m d date.2.0)

day_count-year_1 : day_count (pos 1) 1 1 ≡ 3_652_791
day_count-year_1 = day_count-early (pos 1) 10000 1 1 refl (omega arith) (omega arith) (omega arith)

-- a day from 0001-01-01 on is in the year 1 or later
pub year_from_1 : (y : ℤ) (m d : ℕ) → IsCivilDate y m d → negsuc 719_161 ≤ℤ days_from_civil y m d → pos 1 ≤ℤ y
year_from_1 y m d date low =
    by_lt_z y (pos 1)
    (λ lt. absurd (omega (arith, signed_arith, low, days_from_civil-day_count y m d, day_count-lt_year y m d (pos 1) 1 1 date (omega arith) lt, day_count-year_1)))
    (λ le. le)

pub nonnegative : (z : ℤ) → pos 0 ≤ℤ z → pos (unsigned_abs z) ≡ z
nonnegative (pos n) h = refl
nonnegative (negsuc n) h = absurd (omega (arith, signed_arith, h))

time_is : (t : ℕ) → t / 3_600_000 * 3_600_000 + t / 60_000 % 60 * 60_000 + t / 1_000 % 60 * 1_000 + t % 1_000 ≡ t
time_is t = omega arith

day_and_time : (millis : ℤ) → day_of millis *ℤ pos 86_400_000 +ℤ pos (time_of millis) ≡ millis
day_and_time millis = omega (arith, signed_arith)

-- and its moment is that one
pub civil_millis-is : (millis : ℤ) (y m d t : ℕ) → days_from_civil (pos y) m d ≡ day_of millis → t ≡ time_of millis → civil_millis (record { year = y; month = m; day = d; hour = t / 3_600_000; minute = t / 60_000 % 60; second = t / 1_000 % 60; millisecond = t % 1_000 }) ≡ millis
unfolding civil_millis
civil_millis-is millis y m d t same time =
    rw (time_is t, same, time) (day_and_time millis)
