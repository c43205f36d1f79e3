use Rattle.pocket_store.proofs.ReadableLemmas.{adds_collection}
use Rattle.pocket_store.proofs.good_collections.readable_collections.Goals as goal

pub loop-row-preserved : goal.loop-row-preserved
loop-row-preserved c =
    adds_collection c.args.rows.now c.loop-row.row-index c.row-item.result c.loop-row.collections.items _ c.requires c.loop-row-test.true c.row-item.is
    c.loop-row.invariant c.in_ok-add_collection.ensures
