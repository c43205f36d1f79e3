use Rattle.std.proofs.Common.{map, take}
use Rattle.pocket_check.specs.TextSets.{IsSetOf}
use Rattle.pocket_check.proofs.items.text_set.Given as goal

abbrev pub invariant-loop-item : goal.invariant-loop-item
invariant-loop-item g l = IsSetOf l.set (map g.T.Item.text (take l.item-index l.items))
