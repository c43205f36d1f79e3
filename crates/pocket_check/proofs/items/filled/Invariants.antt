use Rattle.std.proofs.Common.{◌≡◌, filter, take}
use Rattle.pocket_check.specs.Cells.{is_filled}
use Rattle.pocket_check.proofs.items.filled.Given as goal

abbrev pub invariant-loop-text : goal.invariant-loop-text
invariant-loop-text l = l.kept.items ≡ filter is_filled (take l.text-index l.texts)
