use Rattle.std.proofs.Common.{◌≡◌, sym, subst, false, IfSome}
use Rattle.pocket_types.specs.Kinds.{is_multiple}
use Rattle.pocket_tables.proofs.ReadLemmas.{found_single}
use Rattle.pocket_tables.proofs.values.own_equals.Goals as goal

pub cell_equals-requires : goal.cell_equals-requires
cell_equals-requires c =
    subst (λ o. IfSome o (λ x. is_multiple x.0.kind ≡ false)) (sym c.in-Some.ensures)
    (found_single (λ f. is_multiple f.kind ≡ false) c.args.collection.now.fields c.args.rec.now.cells c.args.field.now c.requires)
