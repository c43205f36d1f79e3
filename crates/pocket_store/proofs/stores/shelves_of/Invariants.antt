use Rattle.std.proofs.Common.{◌≡◌, ◌+◌, ◌++◌, length, reverse}
use Rattle.pocket_store.specs.Drafts.{shelves_of}
use Rattle.pocket_store.proofs.stores.shelves_of.Given as goal

-- what is left of the collections, and behind it the shelves so far
abbrev pub invariant-loop : goal.invariant-loop
invariant-loop l = record {
  whole : shelves_of l.fn.collections.items l.fn.recs.items ≡ shelves_of l.collections.items l.recs.items ++ reverse l.shelves.items;
  same : length l.recs.items ≡ length l.collections.items;
  left : length l.collections.items + l.counter ≡ l.end;
}
