use Rattle.std.proofs.Common.{◌≡◌, length}
use Rattle.pocket_ops.specs.Likeness.{pieces_of, has_any}
use Rattle.pocket_ops.proofs.likeness.has_any.Given as goal

abbrev pub invariant-loop-piece : goal.invariant-loop-piece
invariant-loop-piece l = has_any (pieces_of l.pattern) ≡ has_any (pieces_of l.fn.pattern)

abbrev pub decreases-loop-piece : goal.decreases-loop-piece
decreases-loop-piece l = length l.pattern
