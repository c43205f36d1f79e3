use Rattle.pocket_check.proofs.SetLemmas.{seen_more}
use Rattle.pocket_check.proofs.items.text_set.Goals as goal

pub loop-item-preserved : goal.loop-item-preserved
loop-item-preserved g c =
    seen_more g.T.Item.text c.args.items.now c.loop-item.item-index c.item-item.result c.loop-item.set c.insert.new.self c.as_str.result c.loop-item-test.true c.item-item.is c.as_str.ensures c.loop-item.invariant c.in_ok-insert.ensures.updates
