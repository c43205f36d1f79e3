use Rattle.std.proofs.Common.{take}
use Rattle.pocket_store.specs.Stores.{AreReadable}
use Rattle.pocket_store.proofs.good_collections.readable_collections.Given as goal

abbrev pub invariant-loop-row : goal.invariant-loop-row
invariant-loop-row l = AreReadable (take l.row-index l.rows) l.collections.items
