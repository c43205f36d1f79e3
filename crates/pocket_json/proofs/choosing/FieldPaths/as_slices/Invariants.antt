use Rattle.std.proofs.Common.{◌≡◌, take}
use Rattle.pocket_json.specs.Choosing.{lent}
use Rattle.pocket_json.proofs.choosing.FieldPaths.as_slices.Given as goal

abbrev pub invariant-loop-path : goal.invariant-loop-path
invariant-loop-path l = lent l.paths.items ≡ take l.path-index l.path-items
