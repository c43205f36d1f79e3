use Rattle.std.proofs.Common.{◌≡◌, All, subst}
use Rattle.pocket_rows.proofs.CellLemmas.{refs-no_ids, IsIdText}
use Rattle.pocket_rows.proofs.cells.refs_cell.Goals as goal

pub returns : goal.returns
returns c =
    let h = rw c.in-Some.is at c.in_ok-items.ensures in
    let none = rw c.in-None.is at c.in_ok-ids.ensures in
    let d : c.as_slice.result.now ≡ c.in-Some.items = cc in
    refs-no_ids c.args.most c.args.tree.now c.in-Some.items h (subst (λ x. ¬ All IsIdText x) d none)
