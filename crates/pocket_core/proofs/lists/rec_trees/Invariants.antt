use Rattle.std.proofs.Common.{◌≡◌, ◌≤◌, take}
use Rattle.pocket_core.specs.Lists as lists
use Rattle.pocket_core.proofs.lists.rec_trees.Given as goal

abbrev pub invariant-loop-id : goal.invariant-loop-id
invariant-loop-id g l = record {
  trees : l.trees ≡ lists.rec_trees l.tables.world l.ask l.collection l.display (take l.id-index l.ids);
  steps : l.fn.steps ≤ l.steps;
}
