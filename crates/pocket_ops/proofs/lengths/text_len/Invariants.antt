use Rattle.std.proofs.Common.{◌≡◌, ◌+◌, length, take, flat_map}
use Rattle.pocket_types.specs.Json.{escape_byte}
use Rattle.pocket_ops.specs.Lengths.{held}
use Rattle.pocket_ops.proofs.lengths.text_len.Given as goal

abbrev pub invariant-loop-byte : goal.invariant-loop-byte
invariant-loop-byte l = l.len ≡ held (2 + length (flat_map escape_byte (take l.byte-index l.byte-items)))
