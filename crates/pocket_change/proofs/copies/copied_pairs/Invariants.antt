use Rattle.std.proofs.Common.{◌≡◌, take}
use Rattle.pocket_change.proofs.copies.copied_pairs.Given as goal

abbrev pub invariant-loop-pair : goal.invariant-loop-pair
invariant-loop-pair l = l.copies ≡ take l.pair-index l.pair-items
