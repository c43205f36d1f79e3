use Rattle.std.proofs.Common.{◌≡◌, map}
use Rattle.pocket_expand.proofs.names.names_in.Given as goal

-- one name for each piece so far
abbrev pub invariant-loop-name : goal.invariant-loop-name
invariant-loop-name l = l.found.items ≡ map (λ s. s.now) l.yielded
