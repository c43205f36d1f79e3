-- The values of macros at a moment.
use Rattle.std.specs.Prelude.{if◌then◌else◌, ℤ, pos, negsuc, ◌+ℤ◌, ◌-ℤ◌, int_lt}
use Rattle.jiff_core.specs.Calendar.{days_in_month}
use Rattle.pocket_types.specs.declared.resolved.Macro.{Macro}
use Rattle.pocket_types.specs.declared.resolved.Macro.TheVariants.{Now, Second, Minute, Hour, Day, Month, Year, Weekday, Yesterday, Tomorrow, TodayStart, TodayEnd, MonthStart, MonthEnd, YearStart, YearEnd}
use Rattle.pocket_types.specs.declared.values.Value.{Value}
use Rattle.pocket_types.specs.declared.values.Value.TheVariants.{Num, Text}
use Rattle.pocket_ops.specs.declared.calendar.Civil.{Civil}
use Rattle.pocket_ops.specs.Calendar.{civil_of, weekday_of}
use Rattle.pocket_ops.specs.Dates.{date_text, civil_text}

-- 24 hours earlier, but not before the year 1
abbrev pub day_earlier : ℤ → ℤ
day_earlier m = if int_lt (m -ℤ pos 86_400_000) (negsuc 62_135_596_799_999) then negsuc 62_135_596_799_999 else m -ℤ pos 86_400_000

-- 24 hours later, but not after the year 9999
abbrev pub day_later : ℤ → ℤ
day_later m = if int_lt (pos 253_402_300_799_999) (m +ℤ pos 86_400_000) then pos 253_402_300_799_999 else m +ℤ pos 86_400_000

-- 00:00:00.000 of the day
abbrev pub day_start : Civil → Civil
day_start c = record c { hour = 0; minute = 0; second = 0; millisecond = 0 }

-- 23:59:59.999 of the day
abbrev pub day_end : Civil → Civil
day_end c = record c { hour = 23; minute = 59; second = 59; millisecond = 999 }

-- the start of the month's first day
abbrev pub month_start : Civil → Civil
month_start c = day_start (record c { day = 1 })

-- the end of the month's last day
abbrev pub month_end : Civil → Civil
month_end c = day_end (record c { day = days_in_month (pos c.year) c.month })

-- the start of 1 January
abbrev pub year_start : Civil → Civil
year_start c = day_start (record c { month = 1; day = 1 })

-- the end of 31 December
abbrev pub year_end : Civil → Civil
year_end c = day_end (record c { month = 12; day = 31 })

-- the value of a macro at a moment
unfoldable pub macro_value : Macro → ℤ → Value
macro_value Now m = Text (date_text m)
macro_value Second m = Num (pos (civil_of m).second)
macro_value Minute m = Num (pos (civil_of m).minute)
macro_value Hour m = Num (pos (civil_of m).hour)
macro_value Day m = Num (pos (civil_of m).day)
macro_value Month m = Num (pos (civil_of m).month)
macro_value Year m = Num (pos (civil_of m).year)
macro_value Weekday m = Num (pos (weekday_of m))
macro_value Yesterday m = Text (date_text (day_earlier m))
macro_value Tomorrow m = Text (date_text (day_later m))
macro_value TodayStart m = Text (civil_text (day_start (civil_of m)))
macro_value TodayEnd m = Text (civil_text (day_end (civil_of m)))
macro_value MonthStart m = Text (civil_text (month_start (civil_of m)))
macro_value MonthEnd m = Text (civil_text (month_end (civil_of m)))
macro_value YearStart m = Text (civil_text (year_start (civil_of m)))
macro_value YearEnd m = Text (civil_text (year_end (civil_of m)))
