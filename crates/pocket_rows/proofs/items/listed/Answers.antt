use Rattle.std.proofs.Common.{◌≡◌, ◌++◌, ◌∷◌, [], arith}
use Rattle.std.proofs.lemmas.Grind.{common_steps}
use Rattle.pocket_rows.proofs.CellLemmas.{listed-none, listed-more, listed-end}
use Rattle.pocket_rows.proofs.items.listed.Goals as goal

pub returns-in_default : goal.returns-in_default
returns-in_default c = listed-none c.args.trees.now c.loop-tree.tree-index c.tree-item.result c.loop-tree-test.true c.tree-item.is c.in_default.ensures

pub loop-tree-preserved : goal.loop-tree-preserved
loop-tree-preserved c =
    let e : c.push.new.self.items ≡ c.loop-tree.items.items ++ c.in-Some.item.now ∷ [] = grind (arith, common_steps) in
    listed-more c.args.trees.now c.loop-tree.tree-index c.tree-item.result c.loop-tree.items.items c.push.new.self.items c.in-Some.item.now c.loop-tree-test.true c.tree-item.is c.loop-tree.invariant c.in-Some.ensures e

pub returns : goal.returns
returns c = listed-end c.args.trees.now c.loop-tree.tree-index c.loop-tree.items.items c.from_vec.result c.loop-tree-test.false c.from_vec.ensures c.loop-tree.invariant
