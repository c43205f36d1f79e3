use Rattle.pocket_check.proofs.SetLemmas.{kept_more, seen_more}
use Rattle.pocket_check.proofs.items.once.Goals as goal

pub loop-item-preserved : goal.loop-item-preserved
loop-item-preserved g c = record {
  seen = seen_more g.T.Item.text c.args.items.now c.loop-item.item-index c.item-item.result c.loop-item.seen c.insert.new.self c.as_str.result c.loop-item-test.true c.item-item.is c.as_str.ensures c.loop-item.invariant.seen c.in_ok-is_new.ensures.updates;
  kept = kept_more g.T.Item.text c.args.items.now c.loop-item.kept.items c.push_where.new.kept.items c.loop-item.item-index c.item-item.result c.loop-item.seen c.as_str.result c.in_ok-is_new.is_new c.loop-item-test.true c.item-item.is c.as_str.ensures
      c.loop-item.invariant.seen c.in_ok-is_new.ensures.added c.in_ok-push_where.ensures c.loop-item.invariant.kept;
}
