use Rattle.std.proofs.Common.{◌≡◌, map, take}
use Rattle.std.specs.Prelude.{filter_map}
use Rattle.pocket_types.specs.Maps.{member_of}
use Rattle.pocket_json.specs.Choosing.{choose_paths, cuts_of_member, kept_member, lent}
use Rattle.pocket_json.proofs.choosing.+choose.Given as goal

abbrev pub invariant-cut_items-loop-item : goal.invariant-cut_items-loop-item
invariant-cut_items-loop-item l = l.kept ≡ map (λ item. choose_paths item (lent l.paths)) (take l.item-index l.item-items)

abbrev pub invariant-cut_members-loop-member : goal.invariant-cut_members-loop-member
invariant-cut_members-loop-member l =
    l.kept ≡ map member_of (filter_map (kept_member (lent l.paths)) (map cuts_of_member (take l.member-index l.member-items)))
