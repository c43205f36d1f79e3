use Rattle.std.proofs.Common.{◌≡◌, map}
use Rattle.pocket_read.specs.Terms.{part_named}
use Rattle.pocket_read.proofs.terms.parts_of.Given as goal

-- one part for each piece so far
abbrev pub invariant-loop-name : goal.invariant-loop-name
invariant-loop-name l = l.parts.items ≡ map (λ s. part_named s.now) l.yielded
