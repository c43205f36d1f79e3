-- Where a key stands in rows that rise.
use Rattle.std.specs.Prelude.{◌≡◌, ℕ, ◌<◌, ◌≤◌, suc, List, [], ◌∷◌, ◌++◌, take, drop, length}
use Rattle.pocket_keeper.specs.declared.rows.KeptRow.{KeptRow}
use Rattle.pocket_keeper.specs.Keeping.{rows_before, rows_after, rows_without}

-- the row of the key stands at this place
pub record HasRowAt (key : List ℕ) (rows : List KeptRow) (at : ℕ) : Type 0 where
  pub within : at < length rows
  pub before : rows_before key rows ≡ take at rows
  pub after : rows_after key rows ≡ drop (suc at) rows
  pub others : rows_without (key ∷ []) rows ≡ take at rows ++ drop (suc at) rows

-- there is no row of the key, and its place would be this one
pub record HasRoomAt (key : List ℕ) (rows : List KeptRow) (at : ℕ) : Type 0 where
  pub within : at ≤ length rows
  pub before : rows_before key rows ≡ take at rows
  pub after : rows_after key rows ≡ drop at rows
  pub others : rows_without (key ∷ []) rows ≡ rows
