use Rattle.std.proofs.Common.{◌≡◌, map, take}
use Rattle.pocket_read.proofs.page.ids_of_keys.Given as goal

abbrev pub invariant-loop-key : goal.invariant-loop-key
invariant-loop-key l = l.ids.items ≡ map (λ k. k.id) (take l.key-index l.keys)
