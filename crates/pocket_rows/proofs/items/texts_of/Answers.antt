use Rattle.std.proofs.Common.{◌≡◌, ◌++◌, ◌∷◌, [], ap, sym, subst, ◌∙◌, Some, arith}
use Rattle.std.proofs.lemmas.Grind.{common_steps}
use Rattle.pocket_rows.proofs.FieldLemmas.{text_is, text_none}
use Rattle.pocket_rows.proofs.ReadLemmas.{ReadSo, read_begin, read_more, read_none, read_end}
use Rattle.pocket_rows.specs.FieldReading.{text_read}
use Rattle.pocket_rows.proofs.items.texts_of.Goals as goal

pub loop-tree-init : goal.loop-tree-init
loop-tree-init c = subst (ReadSo text_read c.args.trees.now 0) (sym c.new-texts.ensures.items) (read_begin text_read c.args.trees.now)

pub returns-in_default : goal.returns-in_default
returns-in_default c =
    sym (read_none text_read c.args.trees.now c.loop-tree.tree-index c.tree-item.result c.loop-tree.texts.items c.loop-tree-test.true c.tree-item.is (text_none c.tree-item.result c.in_default.ensures) c.loop-tree.invariant)

pub loop-tree-preserved : goal.loop-tree-preserved
loop-tree-preserved c =
    let e : c.push.new.self.items ≡ c.loop-tree.texts.items ++ c.in-Some.text.now ∷ [] = grind (arith, common_steps) in
    subst (ReadSo text_read c.args.trees.now _) (sym e)
    (read_more text_read c.args.trees.now c.loop-tree.tree-index c.tree-item.result c.loop-tree.texts.items c.in-Some.text.now c.loop-tree-test.true c.tree-item.is (text_is c.tree-item.result c.in-Some.text.now c.in-Some.ensures) c.loop-tree.invariant)

pub returns : goal.returns
returns c =
    ap (λ x. Some x) c.from_vec.ensures ∙ sym (read_end text_read c.args.trees.now c.loop-tree.tree-index c.loop-tree.texts.items c.loop-tree-test.false c.loop-tree.invariant)
