use Rattle.std.proofs.Common.{take}
use Rattle.pocket_tables.specs.Drawers.{HaveDrawers, AreNoSmaller}
use Rattle.pocket_tables.proofs.reserving.add_drawers.Given as goal

abbrev pub invariant-loop-change : goal.invariant-loop-change
invariant-loop-change l = record {
  kept : AreNoSmaller l.fn.drawers.items l.drawers.items;
  there : HaveDrawers l.drawers.items (take l.change-index l.changes);
}
