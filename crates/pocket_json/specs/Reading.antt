-- The tree that bytes are: JSON whose numbers are whole and below 2^53 in size, with at most 32 levels.
use Rattle.std.specs.Prelude.{◌≡◌, ℕ, ◌^◌, ◌==◌, ◌&&◌, ℤ, pos, neg_ℤ, List, [], ◌∷◌, drop, slice_index, nat_lt, if◌then◌else◌, Option, Some, None, option_map, option_and_then, IsUtf8}
use Rattle.fast_float.specs.Text.{minus, Parts, scan, digits_of}
use Rattle.json.specs.Json as json
use Rattle.json.specs.Lex.{tokens}
use Rattle.serde_json.specs.Read.{is_integer}
use Rattle.pocket_types.specs.declared.json.Jv.{Jv}
use Rattle.pocket_types.specs.declared.json.Jv.TheOpen as jv
use Rattle.pocket_types.specs.declared.json.Jv.TheViews.{roll-Jv}
use Rattle.pocket_types.specs.Maps.{map_jv, put}
use Rattle.pocket_types.specs.Profile.{max_levels}

-- ---- numbers

-- a whole number from 0, below 2^53
abbrev pub from_zero : Parts → Option ℤ
from_zero p = if is_integer p && nat_lt (digits_of p) (2 ^ 53) then Some (pos (digits_of p)) else None

-- the same behind a minus, where 0 is none
abbrev pub below_zero : Parts → Option ℤ
below_zero p = if is_integer p && nat_lt 0 (digits_of p) && nat_lt (digits_of p) (2 ^ 53) then Some (neg_ℤ (pos (digits_of p))) else None

-- the number that a number of the grammar is, where it is one of the profile
unfoldable pub whole_of : List ℕ → Option ℤ
whole_of s = if slice_index s 0 == minus then below_zero (scan (drop 1 s)) else from_zero (scan s)

-- ---- trees

-- the tree of a value of the grammar, whose numbers must be of the profile, also where a later key replaces them
abbrev mutual
  pub tree_of : json.Json → Option Jv
  tree_of json.null = Some (roll-Jv jv.Null)
  tree_of (json.boolean b) = Some (roll-Jv (jv.Flag b))
  tree_of (json.number s) = option_map (λ n. roll-Jv (jv.Num n)) (whole_of s)
  tree_of (json.string s) = Some (roll-Jv (jv.Text s))
  tree_of (json.array js) = option_map (λ trees. roll-Jv (jv.List trees)) (trees_of js)
  tree_of (json.object ms) = option_map map_jv (entries_of ms [])

  pub trees_of : json.Items → Option (List Jv)
  trees_of json.no_items = Some []
  trees_of (json.item j js) = option_and_then (λ tree. option_map (λ trees. tree ∷ trees) (trees_of js)) (tree_of j)

  -- the members put one after another among those found
  pub entries_of : json.Members → List (List ℕ × Jv) → Option (List (List ℕ × Jv))
  entries_of json.no_members found = Some found
  entries_of (json.member key j ms) found = option_and_then (λ tree. entries_of ms (put key tree found)) (tree_of j)

-- ---- bytes

-- the one value of the grammar that a text is
abbrev pub document : List ℕ → Option json.Json
document text = option_and_then (λ p. json.if_last p.0 p.1) (json.value max_levels (tokens text))

-- the tree that a text is
abbrev pub read : List ℕ → Option Jv
read text = option_and_then tree_of (document text)

-- bytes are JSON of the profile, and this is their tree
abbrev pub IsJson : List ℕ → Jv → Type 0
IsJson bytes tree = IsUtf8 bytes × (read bytes ≡ Some tree)
