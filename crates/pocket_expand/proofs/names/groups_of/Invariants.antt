use Rattle.std.proofs.Common.{◌≡◌, take}
use Rattle.pocket_expand.specs.Names.{grouped}
use Rattle.pocket_expand.proofs.names.groups_of.Given as goal

abbrev pub invariant-loop-path : goal.invariant-loop-path
invariant-loop-path l = l.groups.entries ≡ grouped (take l.path-index l.paths)
