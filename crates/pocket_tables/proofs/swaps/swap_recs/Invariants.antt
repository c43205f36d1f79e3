use Rattle.std.proofs.Common.{◌≡◌, ◌++◌, map, take, drop}
use Rattle.pocket_tables.proofs.DrawerLemmas.{SwappedSoFar}
use Rattle.pocket_tables.proofs.StepLemmas.{rec_led_back}
use Rattle.pocket_tables.proofs.swaps.swap_recs.Given as goal

abbrev pub invariant-loop-change : goal.invariant-loop-change
invariant-loop-change l = record {
  swapped : SwappedSoFar l.fn.drawers l.drawers (take l.change-index l.fn.changes) (drop l.change-index l.fn.changes);
  changes : l.changes ≡ map (rec_led_back l.fn.drawers) (take l.change-index l.fn.changes) ++ drop l.change-index l.fn.changes;
}
