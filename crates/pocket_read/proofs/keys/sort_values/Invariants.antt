use Rattle.std.proofs.Common.{◌≡◌, ◌≤◌, map, take}
use Rattle.pocket_read.specs.Sorting.{sort_value}
use Rattle.pocket_read.proofs.keys.sort_values.Given as goal

abbrev pub invariant-loop-term : goal.invariant-loop-term
invariant-loop-term g l = record {
  values : l.values.items ≡ map (sort_value l.tables.world l.ask l.collection.name l.rec) (take l.term-index l.terms);
  steps : l.fn.steps ≤ l.steps;
}
