use Rattle.std.proofs.Common.{◌≡◌, map, take}
use Rattle.pocket_check.specs.Cells.{zero_cell}
use Rattle.pocket_check.proofs.values.zero_cells.Given as goal

abbrev pub invariant-loop-field : goal.invariant-loop-field
invariant-loop-field l = l.cells.items ≡ map (λ f. zero_cell f.kind) (take l.field-index l.collection.fields)
