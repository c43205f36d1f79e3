use Rattle.std.proofs.Common.{◌≡◌, map, take}
use Rattle.pocket_check.specs.Bodies.{items_without}
use Rattle.pocket_check.proofs.items.items_without.Given as goal

abbrev pub invariant-loop-item : goal.invariant-loop-item
invariant-loop-item g l = map g.T.Item.text l.left.items ≡ items_without (map g.T.Item.text (take l.item-index l.items)) (g.T.Item.texts l.fn.gone)
