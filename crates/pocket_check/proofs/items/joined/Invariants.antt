use Rattle.std.proofs.Common.{◌≡◌, ◌++◌, take}
use Rattle.pocket_check.proofs.items.joined.Given as goal

abbrev pub invariant-loop-item : goal.invariant-loop-item
invariant-loop-item g l = l.items.items ≡ l.first ++ take l.item-index l.second
