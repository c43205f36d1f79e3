use Rattle.std.proofs.Common.{◌≡◌, ◌≤◌, take}
use Rattle.pocket_tables.specs.Deltas.{shelf_changes}
use Rattle.pocket_tables.specs.Keyed.{places_wanted}
use Rattle.pocket_tables.proofs.reserving.shelves_put.Given as goal

abbrev pub invariant-loop-change : goal.invariant-loop-change
invariant-loop-change l = record {
  count : l.count ≡ places_wanted (shelf_changes (take l.change-index l.changes));
  few : l.count ≤ l.change-index;
}
