use Rattle.std.proofs.Common.{◌≡◌, map}
use Rattle.std.specs.Prelude.{◌==◌}
use Rattle.std.specs.List.{slice_split}
use Rattle.pocket_expand.proofs.names.paths_in.Given as goal

-- one path for each piece so far
abbrev pub invariant-loop-path : goal.invariant-loop-path
invariant-loop-path l = l.paths.items ≡ map (λ s. slice_split (λ b. b == 46) s.now) l.yielded
