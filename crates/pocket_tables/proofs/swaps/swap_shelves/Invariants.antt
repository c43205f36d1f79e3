use Rattle.std.proofs.Common.{◌≡◌, ◌++◌, map, take, drop}
use Rattle.std.specs.Prelude.{vec_capacity}
use Rattle.pocket_tables.proofs.ShelfLemmas.{ShelvesSoFar}
use Rattle.pocket_tables.proofs.StepLemmas.{shelf_led_back}
use Rattle.pocket_tables.proofs.swaps.swap_shelves.Given as goal

abbrev pub invariant-loop-change : goal.invariant-loop-change
invariant-loop-change l = record {
  so_far : ShelvesSoFar l.fn.collections.items l.collections.items (take l.change-index l.fn.changes) (drop l.change-index l.fn.changes) (vec_capacity l.fn.collections);
  capacity : vec_capacity l.collections ≡ vec_capacity l.fn.collections;
  changes : l.changes ≡ map (shelf_led_back l.fn.collections.items) (take l.change-index l.fn.changes) ++ drop l.change-index l.fn.changes;
}
