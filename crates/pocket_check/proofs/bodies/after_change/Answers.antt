use Rattle.std.proofs.Common.{◌+◌, ◌∙◌, IfSome, sym, ap, subst}
use Rattle.std.specs.Option.{option_copied}
use Rattle.pocket_types.specs.Sound.{IsCellTree}
use Rattle.pocket_check.specs.Changes.{IsWithin}
use Rattle.pocket_check.proofs.ChangeLemmas.{changed_within}
use Rattle.pocket_check.proofs.ReadingLemmas.{asked_shallow}
use Rattle.pocket_check.proofs.bodies.after_change.Goals as goal

pub read_cell-requires : goal.read_cell-requires
read_cell-requires c =
    subst (λ o. IfSome o IsCellTree) (sym c.in_ok-tree.ensures ∙ ap option_copied c.in-Some.is) (asked_shallow c.args.field.now c.args.members.now c.args.change c.requires.shallow)

pub returns-clause-grows : goal.returns-clause-grows
returns-clause-grows c times h =
    subst (IsWithin (times + 1)) (sym c.in_ok-cell.ensures)
    (changed_within times c.args.change c.by_now.result.now c.in_ok-given.given (subst (IsWithin times) (sym c.by_now.ensures) h) c.in_ok-given.ensures.small)
