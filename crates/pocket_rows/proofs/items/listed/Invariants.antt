use Rattle.std.proofs.Common.{◌≡◌, All, map, take}
use Rattle.pocket_ops.specs.Trees.{text_jv}
use Rattle.pocket_types.specs.Sound.{IsItem}
use Rattle.pocket_rows.proofs.items.listed.Given as goal

abbrev pub invariant-loop-tree : goal.invariant-loop-tree
invariant-loop-tree l = All IsItem l.items.items × (take l.tree-index l.trees ≡ map text_jv l.items.items)
