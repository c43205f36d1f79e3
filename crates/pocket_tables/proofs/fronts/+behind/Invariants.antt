use Rattle.std.proofs.Common.{◌≡◌, ◌∷◌, map, take}
use Rattle.std.specs.List.{join_with_byte}
use Rattle.std.specs.Option.{option_copied}
use Rattle.pocket_types.specs.Json.{printed, printed_member}
use Rattle.pocket_tables.specs.Fronts.{then_behind}
use Rattle.pocket_tables.proofs.fronts.+behind.Given as goal

abbrev pub invariant-behind_items-loop-i : goal.invariant-behind_items-loop-i
invariant-behind_items-loop-i l = option_copied l.rest ≡ then_behind (91 ∷ join_with_byte 44 (map printed (take l.i l.items))) (option_copied l.text)

abbrev pub invariant-behind_members-loop-i : goal.invariant-behind_members-loop-i
invariant-behind_members-loop-i l = option_copied l.rest ≡ then_behind (123 ∷ join_with_byte 44 (map printed_member (take l.i l.members))) (option_copied l.text)
