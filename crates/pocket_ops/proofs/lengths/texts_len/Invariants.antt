use Rattle.std.proofs.Common.{◌≡◌, ◌+◌, length, take, map}
use Rattle.std.specs.List.{join_with_byte}
use Rattle.pocket_types.specs.Json.{quoted}
use Rattle.pocket_ops.specs.Lengths.{held}
use Rattle.pocket_ops.proofs.lengths.texts_len.Given as goal

abbrev pub invariant-loop-i : goal.invariant-loop-i
invariant-loop-i g l = l.len ≡ held (2 + length (join_with_byte 44 (map (λ x. quoted (g.T.Item.text x)) (take l.i l.items))))
