use Rattle.std.proofs.Common.{◌≡◌, take}
use Rattle.pocket_ops.proofs.copies.+copy.Given as goal

abbrev pub invariant-copied_items-loop-item : goal.invariant-copied_items-loop-item
invariant-copied_items-loop-item l = l.copies ≡ take l.item-index l.item-items

abbrev pub invariant-copied_members-loop-member : goal.invariant-copied_members-loop-member
invariant-copied_members-loop-member l = l.copies ≡ take l.member-index l.member-items
