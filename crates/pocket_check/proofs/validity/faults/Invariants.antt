use Rattle.std.proofs.Common.{◌≡◌, ◌≤◌, filter_map, length, take, zip}
use Rattle.pocket_check.specs.Validity.{field_fault}
use Rattle.pocket_check.proofs.validity.faults.Given as goal

-- what is wrong with the fields so far
abbrev pub invariant-loop-field : goal.invariant-loop-field
invariant-loop-field g l = record {
  faults : l.found ≡ filter_map (field_fault l.tables.world l.collection l.rec) (take (length l.yielded) (zip l.collection.fields l.rec.cells));
  steps : l.fn.steps ≤ l.steps;
}
