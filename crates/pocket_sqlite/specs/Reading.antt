-- What is read of the table's rows.
use Rattle.std.specs.Prelude.{◌≡◌, ◌⊎◌, ℕ, ◌+◌, ◌-◌, List, length, map, slice_get, Some, IsUtf8}
use Rattle.sqlite_value.specs.declared.value.Value.{Value}
use Rattle.sqlite_value.specs.declared.value.Value.TheVariants.{Text}
use Rattle.sqlite_value.specs.Order.{Row, column}
use Rattle.pocket_types.specs.Order.{IsBefore}
use Rattle.pocket_keeper.specs.declared.rows.KeptRow.{KeptRow}

-- a row's key and value, as the table has them
abbrev pub cells : KeptRow → Value × Value
cells row = (Text row.key, Text row.value)

-- the two values of a row that the selection shows
abbrev pub shown : Row → Value × Value
shown found = (column found 0, column found 1)

-- these rows are those that were found, in their order
abbrev pub AreRead : List Row → List KeptRow → Type 0
AreRead found rows = map shown found ≡ map cells rows

-- the value is this text
abbrev pub Holds : Value → List ℕ → Type 0
Holds value text = value ≡ Text text

-- the value is a text in UTF-8
abbrev pub IsText : Value → Type 0
IsText value = (text : List ℕ) × Holds value text × IsUtf8 text

-- a row's key and value are texts in UTF-8
abbrev pub IsReadable : Row → Type 0
IsReadable found = IsText (column found 0) × IsText (column found 1)

-- the row's key doesn't stand after that of the last of these rows
abbrev pub IsBehind : List KeptRow → Row → Type 0
IsBehind rows found =
    (last : KeptRow) × (key : List ℕ) × (slice_get rows (length rows - 1) ≡ Some last) × Holds (column found 0) key × ¬ (IsBefore last.key key)

-- the second row's key doesn't stand after the first's
abbrev pub IsMisplaced : Row → Row → Type 0
IsMisplaced first second = (last : List ℕ) × (key : List ℕ) × Holds (column first 0) last × Holds (column second 0) key × ¬ (IsBefore last key)

-- one of the rows can't be read, or its key doesn't stand after that of the row before it
abbrev pub AreFaulty : List Row → Type 0
AreFaulty found =
    ((at : ℕ) × (row : Row) × (slice_get found at ≡ Some row) × ¬ (IsReadable row))
    ⊎ ((at : ℕ) × (first : Row) × (second : Row) × (slice_get found at ≡ Some first) × (slice_get found (at + 1) ≡ Some second) × IsMisplaced first second)
