use Rattle.pocket_tables.proofs.LawLemmas.{shape_from}
use Rattle.pocket_tables.proofs.laws.fitting_cells_have_shape.Goals as goal

pub returns : goal.returns
returns c = λ k r fit. shape_from k.fields r.cells fit
