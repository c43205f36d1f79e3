use Rattle.std.proofs.Common.{◌≡◌, map}
use Rattle.pocket_json.proofs.choosing.keys_of.Given as goal

abbrev pub invariant-loop-key : goal.invariant-loop-key
invariant-loop-key l = l.keys.items ≡ map (λ s. s.now) l.yielded
