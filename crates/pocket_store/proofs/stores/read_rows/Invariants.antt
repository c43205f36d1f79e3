use Rattle.std.proofs.Common.{◌≡◌, length, take, All}
use Rattle.pocket_store.specs.Drafts.{shelves_of}
use Rattle.pocket_store.specs.Limits.{AreCounts}
use Rattle.pocket_store.specs.Stores.{IsGoodRow}
use Rattle.pocket_store.proofs.StoreLemmas.{AreRead}
use Rattle.pocket_store.proofs.stores.read_rows.Given as goal

abbrev pub invariant-loop-row : goal.invariant-loop-row
invariant-loop-row l = record {
  good : All (IsGoodRow l.rows l.collections) (take l.row-index l.rows);
  counts : AreCounts (take l.row-index l.rows) l.counts;
  lengths : length l.recs.items ≡ length l.collections;
  read : AreRead l.rows l.collections (take l.row-index l.rows) (shelves_of l.collections l.recs.items) l.tokens.items;
}
