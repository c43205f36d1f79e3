use Rattle.std.proofs.Common.{◌≡◌, [], ◌∷◌, codes, subst}
use Rattle.std.specs.Result.{IfOk}
use Rattle.pocket_types.specs.declared.json.Jv.{Jv}
use Rattle.pocket_types.specs.Maps.{map_jv}
use Rattle.pocket_ops.specs.Trees.{text_jv, flag_jv, bound_jv}
use Rattle.pocket_ops.proofs.collection_trees.number_field_jv.Goals as goal

pub returns : goal.returns
returns c =
    let f = c.args.field.now in
    let P : Jv → Jv → Type 0 = λ max min. IfOk c.bounded_jv.result (λ tree. tree ≡ map_jv ((codes "hidden", flag_jv f.hidden) ∷ (codes "max", max) ∷ (codes "min", min) ∷ (codes "name", text_jv f.name) ∷ (codes "required", flag_jv f.required) ∷ (codes "type", text_jv (codes "number")) ∷ (codes "unique", flag_jv f.unique) ∷ [])) in
    subst (λ min. P (bound_jv c.args.max) min) c.bound_jv-2.ensures (subst (λ max. P max c.bound_jv-2.result) c.bound_jv.ensures c.bounded_jv.ensures)
