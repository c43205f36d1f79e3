use Rattle.std.proofs.Common.{◌≡◌, ◌≤◌, take}
use Rattle.pocket_tables.specs.Deltas.{rec_changes}
use Rattle.pocket_tables.specs.Keyed.{places_wanted}
use Rattle.pocket_tables.proofs.reserving.recs_put.Given as goal

abbrev pub invariant-loop-change : goal.invariant-loop-change
invariant-loop-change l = record {
  count : l.count ≡ places_wanted (rec_changes (take l.change-index l.changes) l.name);
  few : l.count ≤ l.change-index;
}
