use Rattle.std.proofs.Common.{◌≡◌, map, take}
use Rattle.pocket_ops.specs.Trees.{text_jv}
use Rattle.pocket_ops.proofs.trees.texts_jv.Given as goal

abbrev pub invariant-loop-item : goal.invariant-loop-item
invariant-loop-item g l = l.trees ≡ map text_jv (map g.T.Item.text (take l.item-index l.items))
