use Rattle.std.proofs.Common.{◌≡◌, take, fold}
use Rattle.pocket_types.specs.Paths.{begun, with_prefix}
use Rattle.pocket_types.proofs.paths.add_begun.Given as goal

abbrev pub invariant-loop-len : goal.invariant-loop-len
invariant-loop-len l = l.prefixes.items ≡ fold with_prefix l.fn.prefixes.items (take l.len (begun l.prefix))
