use Rattle.std.proofs.Common.{◌≡◌, map, take}
use Rattle.pocket_types.specs.Lists.{once}
use Rattle.pocket_check.specs.TextSets.{IsSetOf}
use Rattle.pocket_check.proofs.items.once.Given as goal

abbrev pub invariant-loop-item : goal.invariant-loop-item
invariant-loop-item g l = record {
  seen : IsSetOf l.seen (map g.T.Item.text (take l.item-index l.items));
  kept : map g.T.Item.text l.kept.items ≡ once (map g.T.Item.text (take l.item-index l.items));
}
