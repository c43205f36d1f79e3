-- Maps of JSON, as their keys with the values.
use Rattle.std.specs.Prelude.{ℕ, List, ◌∷◌, map}
use Rattle.std.specs.BTreeMap.{insert_entry}
use Rattle.std.specs.Cmp.Lexicographic.{slice_cmp}
use Rattle.std.specs.Ordering.{nat_cmp}
use Rattle.pocket_types.specs.declared.json.Jv.{Jv}
use Rattle.pocket_types.specs.declared.json.Jv.TheOpen as jv
use Rattle.pocket_types.specs.declared.json.Jv.TheViews.{roll-Jv, roll-Member}
use Rattle.pocket_types.specs.declared.json.Member.{Member}

-- a member of a map
abbrev pub member_of : List ℕ × Jv → Member
member_of m = roll-Member (record { key = m.0; value = m.1 })

-- a map of keys with their values
abbrev pub map_jv : List (List ℕ × Jv) → Jv
map_jv members = roll-Jv (jv.Map (map member_of members))

-- Members in byte order of their keys, with one more. Of equal keys the later value counts.
unfoldable pub put : List ℕ → Jv → List (List ℕ × Jv) → List (List ℕ × Jv)
put key value members = insert_entry (slice_cmp nat_cmp) members key value
