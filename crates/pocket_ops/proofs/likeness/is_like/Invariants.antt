use Rattle.std.proofs.Common.{length}
use Rattle.pocket_ops.specs.Searching.{IsOnWay, turns_left}
use Rattle.pocket_ops.proofs.likeness.is_like.Given as goal

abbrev pub invariant-loop-found : goal.invariant-loop-found
invariant-loop-found l = IsOnWay l.text l.pattern l.search

abbrev pub decreases-loop-found : goal.decreases-loop-found
decreases-loop-found l = turns_left (length l.pattern) l.search
