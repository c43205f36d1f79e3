use Rattle.std.proofs.Common.{◌≡◌, subst, sym, rules}
use Rattle.pocket_types.specs.declared.json.Jv.{the_lemmas}
use Rattle.pocket_types.specs.declared.json.Jv.TheOpen as jv
use Rattle.pocket_types.specs.declared.json.Jv.TheViews.{roll-Jv}
use Rattle.pocket_rows.proofs.FieldSoundness.{members_shallow}
use Rattle.pocket_rows.specs.Cells.{AreShallow}
use Rattle.pocket_rows.proofs.fields.field_of.Goals as goal

pub field_of_members-requires : goal.field_of_members-requires
field_of_members-requires c =
    let e : c.args.tree.now ≡ roll-Jv (jv.Map c.in-Map.members) = search (rules, the_lemmas) in
    subst AreShallow (sym c.as_slice.ensures) (members_shallow c.args.tree.now c.in-Map.members e c.requires)
