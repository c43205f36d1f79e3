use Rattle.std.proofs.Common.{Option, Some, None, IfSome, Bor, sym, subst}
use Rattle.std.specs.Option.{option_copied}
use Rattle.pocket_types.specs.declared.json.Jv.{Jv}
use Rattle.pocket_types.specs.Sound.{IsCellTree}
use Rattle.pocket_rows.proofs.FieldSoundness.{value_shallow}
use Rattle.pocket_rows.proofs.members.cell_tree_under.Goals as goal

-- what holds of a copied value holds of the borrowed one
borrowed : (found : Option (Bor Jv)) → IfSome (option_copied found) IsCellTree → IfSome found (λ tree. IsCellTree tree.now)
borrowed None h = h
borrowed (Some tree) h = h

pub returns-clause-shallow : goal.returns-clause-shallow
returns-clause-shallow c =
    borrowed c.value_under.result
    (subst (λ found. IfSome found IsCellTree) (sym c.value_under.ensures) (value_shallow c.args.key.now c.args.members.now c.requires))
