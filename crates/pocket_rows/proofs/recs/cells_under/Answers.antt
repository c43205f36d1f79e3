use Rattle.std.proofs.Common.{◌≡◌, ◌+◌, ◌++◌, ◌∷◌, [], drop, subst, sym, arith}
use Rattle.std.proofs.lemmas.Grind.{common_steps}
use Rattle.pocket_rows.proofs.RecLemmas.{AreBegun, cells_more, cells_end}
use Rattle.pocket_rows.specs.Cells.{MayHaveCells}
use Rattle.pocket_rows.proofs.recs.cells_under.Goals as goal

pub loop-field-preserved : goal.loop-field-preserved
loop-field-preserved c =
    let fields = c.args.fields.now in
    let ms = c.args.members.now in
    let h = rw c.in-Some.is at c.in_ok-cell.ensures in
    let e : c.push.new.self.items ≡ c.loop-field.cells.items ++ c.in-Some.cell ∷ [] = grind (arith, common_steps) in
    subst (λ cells. AreBegun fields (drop (c.loop-field.field-index + 1) fields) ms cells) (sym e)
    (cells_more fields ms c.loop-field.cells.items c.loop-field.field-index c.field-item.result c.in-Some.cell c.loop-field-test.true c.field-item.is h c.loop-field.invariant)

pub returns : goal.returns
returns c =
    let fields = c.args.fields.now in
    let e : drop c.loop-field.field-index fields ≡ [] = grind (arith, common_steps) in
    subst (λ cells. MayHaveCells fields c.args.members.now cells) (sym c.from_vec.ensures)
    (cells_end fields (drop c.loop-field.field-index fields) c.args.members.now c.loop-field.cells.items e c.loop-field.invariant)
