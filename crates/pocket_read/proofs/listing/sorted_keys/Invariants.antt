use Rattle.std.proofs.Common.{◌≡◌, ◌≤◌, map, take}
use Rattle.pocket_read.specs.Sorting.{key_of}
use Rattle.pocket_read.proofs.listing.sorted_keys.Given as goal

abbrev pub invariant-loop-rec : goal.invariant-loop-rec
invariant-loop-rec g l = record {
  keys : l.keys.items ≡ map (λ r. key_of l.tables.world l.ask l.collection.name l.terms r.now) (take l.rec-index l.recs);
  steps : l.fn.steps ≤ l.steps;
}
