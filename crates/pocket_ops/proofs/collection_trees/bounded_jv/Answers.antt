use Rattle.std.proofs.Common.{[], ◌∷◌, codes}
use Rattle.pocket_ops.specs.Trees.{text_jv, flag_jv}
use Rattle.pocket_ops.proofs.TreeLemmas.{three_parts}
use Rattle.pocket_ops.proofs.collection_trees.bounded_jv.Goals as goal

pub returns : goal.returns
returns c =
    let f = c.args.field.now in
    c.map_of.ensures
    ((codes "hidden", flag_jv f.hidden) ∷ (codes "max", c.args.max) ∷ (codes "min", c.args.min) ∷ (codes "name", text_jv f.name) ∷ (codes "required", flag_jv f.required) ∷ (codes "type", text_jv c.args.kind.now) ∷ (codes "unique", flag_jv f.unique) ∷ [])
    (three_parts _ _ _ _ _ _ _ c.new-members.ensures.items c.in_ok-push_bounds.ensures c.in_ok-push_named.ensures c.in_ok-push_flag.ensures)
