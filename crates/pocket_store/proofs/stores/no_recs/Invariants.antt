use Rattle.std.proofs.Common.{◌≡◌, take}
use Rattle.pocket_store.specs.Drafts.{no_recs}
use Rattle.pocket_store.proofs.stores.no_recs.Given as goal

abbrev pub invariant-loop-collection : goal.invariant-loop-collection
invariant-loop-collection l = l.recs.items ≡ no_recs (take l._collection-index l.collections)
