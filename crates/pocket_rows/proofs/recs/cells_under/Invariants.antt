use Rattle.std.proofs.Common.{drop}
use Rattle.pocket_rows.proofs.RecLemmas.{AreBegun}
use Rattle.pocket_rows.proofs.recs.cells_under.Given as goal

abbrev pub invariant-loop-field : goal.invariant-loop-field
invariant-loop-field l = AreBegun l.fields (drop l.field-index l.fields) l.members l.cells.items
