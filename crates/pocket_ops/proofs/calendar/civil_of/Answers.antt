use Rattle.std.proofs.Common.{◌≡◌, ◌≤◌, pos, unsigned_abs, sym, arith}
use mir.Syntax.{w16}
use Rattle.jiff_core.specs.Calendar.{IsCivilDate}
use Rattle.jiff_core.proofs.SignedLemmas.{signed_casts, back_small}
use Rattle.pocket_ops.proofs.CalendarLemmas.{civil_of-is, civil_millis-is, nonnegative}
use Rattle.pocket_ops.proofs.calendar.civil_of.Goals as goal

pub returns-clause-value : goal.returns-clause-value
returns-clause-value c =
    let date = c.day_and_time-time.result.0 in
    let t = c.day_and_time-time.result.1 in
    let year : pos (unsigned_abs date.year) ≡ date.year = nonnegative date.year (omega (arith, signed_casts, c.day_and_time-time.ensures)) in
    let small : unsigned_abs date.year ≤ 9999 = omega (arith, signed_casts, c.day_and_time-time.ensures) in
    let is_date : IsCivilDate (pos (unsigned_abs date.year)) date.month date.day = rw year (date.year_in, date.month_in, date.day_in) in
    let day = rw (← year) at c.day_and_time-time.ensures.day in
    let e = civil_of-is c.args.moment (unsigned_abs date.year) date.month date.day t small is_date day c.day_and_time-time.ensures.time in
    rw (back_small w16 date.year (omega (arith, signed_casts, small)), c.from.ensures, c.from-2.ensures) (sym e)

pub returns-clause-millis : goal.returns-clause-millis
returns-clause-millis c =
    let date = c.day_and_time-time.result.0 in
    let year : pos (unsigned_abs date.year) ≡ date.year = nonnegative date.year (omega (arith, signed_casts, c.day_and_time-time.ensures)) in
    let day = rw (← year) at c.day_and_time-time.ensures.day in
    rw (back_small w16 date.year (omega (arith, signed_casts, c.day_and_time-time.ensures)), c.from.ensures, c.from-2.ensures)
    (civil_millis-is c.args.moment (unsigned_abs date.year) date.month date.day c.day_and_time-time.result.1 day c.day_and_time-time.ensures.time)
