use Rattle.std.proofs.Common.{Bool}
use Rattle.std.specs.Prelude.{MatchBool}
use Rattle.pocket_store.specs.Stores.{FitsAmong, IsCollectionRow}
use Rattle.pocket_store.proofs.ListLemmas.{ok_map}
use Rattle.pocket_store.proofs.ReadableLemmas.{collection_by}
use Rattle.pocket_store.proofs.good_collections.is_good_collection.Goals as goal

pub returns : goal.returns
returns c =
    let rows = c.args.rows.now in
    let cs = c.args.collections.now in
    let d = c.in-Some.collection in
    let keeps = rw c.in-Some.is at c.in_ok-collection.ensures in
    ok_map (λ (b : Bool). MatchBool b (FitsAmong rows cs d) (¬ FitsAmong rows cs d))
    (λ (b : Bool). MatchBool b (IsCollectionRow rows cs c.args.row.now) (¬ IsCollectionRow rows cs c.args.row.now))
    c.fits_among.result (collection_by rows cs c.args.row.now d keeps) c.fits_among.ensures
