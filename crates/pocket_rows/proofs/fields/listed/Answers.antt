use Rattle.std.proofs.Common.{Some, ap, sym, subst, ◌∙◌}
use Rattle.pocket_rows.proofs.ReadLemmas.{ReadSo, read_begin, read_more, read_none, read_end}
use Rattle.pocket_rows.specs.FieldReading.{field_read}
use Rattle.pocket_rows.proofs.fields.listed.Goals as goal

pub loop-tree-init : goal.loop-tree-init
loop-tree-init c = subst (ReadSo field_read c.args.trees.now 0) (sym c.new-fields.ensures.items) (read_begin field_read c.args.trees.now)

pub returns-in_default : goal.returns-in_default
returns-in_default c =
    sym
    (read_none field_read c.args.trees.now c.loop-tree.tree-index c.tree-item.result c.loop-tree.fields.items c.loop-tree-test.true c.tree-item.is (sym c.in_ok-field.ensures ∙ c.in_default.is)
    c.loop-tree.invariant)

pub loop-tree-preserved : goal.loop-tree-preserved
loop-tree-preserved c =
    subst (ReadSo field_read c.args.trees.now _) (sym c.in_ok-push.ensures.items)
    (read_more field_read c.args.trees.now c.loop-tree.tree-index c.tree-item.result c.loop-tree.fields.items c.in-Some.field c.loop-tree-test.true c.tree-item.is (sym c.in_ok-field.ensures ∙ c.in-Some.is)
    c.loop-tree.invariant)

pub returns : goal.returns
returns c =
    ap (λ x. Some x) c.from_vec.ensures ∙ sym (read_end field_read c.args.trees.now c.loop-tree.tree-index c.loop-tree.fields.items c.loop-tree-test.false c.loop-tree.invariant)
