use Rattle.pocket_store.proofs.good_recs.holds_kept.Goals as goal

pub returns-in-Refs : goal.returns-in-Refs
returns-in-Refs c = rw (c.in-Relation.is, c.in-Refs.is) (rw c.as_slice.ensures at c.are_kept.ensures)
