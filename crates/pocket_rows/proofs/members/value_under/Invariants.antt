use Rattle.std.proofs.Common.{◌≡◌, drop}
use Rattle.pocket_rows.specs.Cells.{value_under}
use Rattle.pocket_rows.proofs.members.value_under.Given as goal

-- the key isn't that of a member so far
abbrev pub invariant-loop-member : goal.invariant-loop-member
invariant-loop-member l = value_under l.key l.members ≡ value_under l.key (drop l.member-index l.members)
