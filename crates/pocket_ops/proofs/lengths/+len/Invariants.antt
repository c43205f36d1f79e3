use Rattle.std.proofs.Common.{◌≡◌, ◌+◌, length, take, map}
use Rattle.std.specs.List.{join_with_byte}
use Rattle.pocket_types.specs.Json.{printed, printed_member}
use Rattle.pocket_ops.specs.Lengths.{held}
use Rattle.pocket_ops.proofs.lengths.+len.Given as goal

abbrev pub invariant-items_len-loop-i : goal.invariant-items_len-loop-i
invariant-items_len-loop-i l = l.len ≡ held (2 + length (join_with_byte 44 (map printed (take l.i l.items))))

abbrev pub invariant-members_len-loop-i : goal.invariant-members_len-loop-i
invariant-members_len-loop-i l = l.len ≡ held (2 + length (join_with_byte 44 (map printed_member (take l.i l.members))))
