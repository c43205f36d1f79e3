use Rattle.pocket_types.specs.declared.records.Kind.TheVariants as kind
use Rattle.pocket_ops.specs.Trees.{field_members}
use Rattle.pocket_ops.proofs.TreeLemmas.{five_parts}
use Rattle.pocket_ops.proofs.collection_trees.relation_field_jv.Goals as goal

pub returns : goal.returns
returns c =
    c.map_of.ensures (field_members (kind.Relation c.args.target.now c.args.most c.args.cascade) c.args.field.now)
    (five_parts _ _ _ _ _ _ _ _ _ _ _ c.new-members.ensures.items c.in_ok-push_flag.ensures (rw c.as_str.ensures.text at c.in_ok-push_text.ensures) c.in_ok-push_most.ensures c.in_ok-push_named.ensures c.in_ok-push_unique.ensures)
