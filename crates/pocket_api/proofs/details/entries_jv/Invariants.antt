use Rattle.std.proofs.Common.{◌≡◌, ◌++◌, map}
use Rattle.pocket_types.specs.Maps.{member_of}
use Rattle.pocket_api.proofs.details.entries_jv.Given as goal

abbrev pub invariant-loop-key : goal.invariant-loop-key
invariant-loop-key l = (l.fn.entries.entries ≡ l.yielded ++ l.key-iterator) × (l.members.items ≡ map member_of l.yielded)
