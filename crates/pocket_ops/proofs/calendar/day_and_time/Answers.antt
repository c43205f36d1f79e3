use Rattle.std.proofs.Common.{negsuc, ◌≤ℤ◌, arith}
use Rattle.jiff_core.specs.Date.{epoch_day}
use Rattle.jiff_core.proofs.SignedLemmas.{signed_casts}
use Rattle.pocket_ops.proofs.CalendarLemmas.{year_from_1}
use Rattle.pocket_ops.proofs.calendar.day_and_time.Goals as goal

pub returns-clause-year : goal.returns-clause-year
returns-clause-year c =
    let date = c.from_days_since_min-date.result in
    let low : negsuc 719_161 ≤ℤ epoch_day date = omega (arith, signed_casts, c.from_days_since_min-date.ensures, c.millis.ensures) in
    (year_from_1 date.year date.month date.day (date.year_in, date.month_in, date.day_in) low, date.year_in.1)
