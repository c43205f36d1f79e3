use Rattle.std.proofs.Common.{◌≡◌, ◌++◌, [], drop, option_map, true}
use Rattle.std.specs.List.{list_all}
use Rattle.json.specs.Value.{items_view, members_view}
use Rattle.pocket_types.specs.Profile.{texts_utf8, entry_utf8}
use Rattle.pocket_json.specs.Reading.{trees_of, entries_of}
use Rattle.pocket_json.proofs.convert.+tree.Given as goal

abbrev pub invariant-trees-loop-item : goal.invariant-trees-loop-item
invariant-trees-loop-item l =
    (trees_of (items_view l.item-items) ≡ option_map (λ rest. l.found.items ++ rest) (trees_of (items_view (drop l.item-index l.item-items))))
    × (list_all texts_utf8 l.found.items ≡ true)

abbrev pub invariant-entries-loop-member : goal.invariant-entries-loop-member
invariant-entries-loop-member l =
    (entries_of (members_view l.member-items) [] ≡ entries_of (members_view (drop l.member-index l.member-items)) l.found.entries)
    × (list_all entry_utf8 l.found.entries ≡ true)
