use Rattle.std.proofs.Common.{◌≡◌, map}
use Rattle.pocket_filter.specs.Operands.{part_of}
use Rattle.pocket_filter.proofs.operands.parts.Given as goal

-- one part for each piece so far
abbrev pub invariant-loop-written : goal.invariant-loop-written
invariant-loop-written l = l.found.items ≡ map (λ s. part_of s.now) l.yielded
