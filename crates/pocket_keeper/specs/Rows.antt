-- Rows in the order of their keys.
use Rattle.std.specs.Prelude.{List}
use Rattle.pocket_types.specs.Order.{Rises}
use Rattle.pocket_keeper.specs.declared.rows.KeptRow.{KeptRow}

-- each key stands before those of all later rows
abbrev pub IsRising : List KeptRow → Type 0
IsRising rows = Rises (λ row. row.key) rows
