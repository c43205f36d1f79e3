-- What rows take of the limits.
use Rattle.std.specs.Prelude.{◌≡◌, List, length, sum_by, All}
use Rattle.pocket_types.specs.declared.records.Collection.{Collection}
use Rattle.pocket_keeper.specs.declared.rows.KeptRow.{KeptRow}
use Rattle.pocket_store.specs.Stores.{AreWithinLimits, IsGoodRow, collections_in, records_in, tokens_in}
use Rattle.pocket_store.specs.declared.limits.Counts.{Counts}

-- the counts of rows that pass no limit
pub record AreCounts (rows : List KeptRow) (counts : Counts) : Type 0 where
  pub collections : counts.collections ≡ length (collections_in rows)
  pub records : counts.records ≡ length (records_in rows)
  pub store : counts.store ≡ sum_by (λ row. length row.value) (records_in rows)
  pub tokens : counts.tokens ≡ length (tokens_in rows)
  pub within : AreWithinLimits rows

-- the rows are good, and pass no limit
pub record AreJudged (rows : List KeptRow) (cs : List Collection) : Type 0 where
  pub good : All (IsGoodRow rows cs) rows
  pub within : AreWithinLimits rows
