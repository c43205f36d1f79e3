-- A tree cut down to what a `fields` text names: a key that a path names last is kept whole, a key that paths lead through is cut down to what they
-- choose inside, and `*` keeps each other key whole. Lists are cut item by item, and what is neither a list nor a map is kept.
use denote.Ref.{Bor}
use Rattle.std.specs.Prelude.{ℕ, ℤ, ◌≡◌, ◌==◌, Bool, true, false, List, [], ◌∷◌, map, filter_map, codes, Option, Some, None, option_map, if◌then◌else◌}
use Rattle.std.specs.List.{list_any, slice_split}
use Rattle.std.specs.Str.{bytes_eq}
use Rattle.pocket_types.specs.Maps.{map_jv}
use Rattle.pocket_types.specs.declared.json.Jv.{Jv, fold-Jv}
use Rattle.pocket_types.specs.declared.json.Jv.TheOpen as jv
use Rattle.pocket_types.specs.declared.json.Jv.TheOpen.{Jv-F, Member-F}
use Rattle.pocket_types.specs.declared.json.Jv.TheViews.{roll-Jv}
use Rattle.pocket_types.specs.declared.json.Member.{Member, fold-Member}

-- ---- paths

-- keys, each of the level below the one before
abbrev pub KeyPath : Type 0
KeyPath = List (List ℕ)

-- the paths of a text: they stand between commas, and the keys of each between dots
abbrev pub paths_of : List ℕ → List KeyPath
paths_of text = map (slice_split (λ b. b == 46)) (slice_split (λ b. b == 44) text)

-- what follows a key in a path that begins with it
abbrev pub behind_key : List ℕ → KeyPath → Option KeyPath
behind_key key [] = None
behind_key key (first ∷ rest) = if bytes_eq first key then Some rest else None

-- what follows a key in each path that begins with it
abbrev pub rests_behind : List ℕ → List KeyPath → List KeyPath
rests_behind key paths = filter_map (behind_key key) paths

-- a path with no key left
abbrev pub has_ended : KeyPath → Bool
has_ended [] = true
has_ended (key ∷ rest) = false

-- whether a path ends with a key at this level
abbrev pub names_last : List ℕ → List KeyPath → Bool
names_last key paths = list_any has_ended (rests_behind key paths)

-- ---- trees

-- a tree, and what paths choose of it
pub record Cuts : Type 0 where
  pub whole : Jv
  pub cut : List KeyPath → Jv

-- What is kept under a key, by what the paths have behind it. No path begins with the key: all where `*` stands, or else nothing.
-- One ends with it: all. All go on: what they choose.
abbrev pub kept_value : Bool → List KeyPath → Cuts → Option Jv
kept_value star [] value = if star then Some value.whole else None
kept_value star (rest ∷ rests) value = Some (if list_any has_ended (rest ∷ rests) then value.whole else value.cut (rest ∷ rests))

-- what paths keep of a key with its value
abbrev pub kept_member : List KeyPath → List ℕ × Cuts → Option (List ℕ × Jv)
kept_member paths m = option_map (λ value. (m.0, value)) (kept_value (names_last (codes "*") paths) (rests_behind m.0 paths) m.1)

-- a tree that is neither a list nor a map: paths choose all of it
abbrev pub leaf : Jv → Cuts
leaf tree = record { whole = tree; cut = λ paths. tree }

-- one level: a list is cut item by item, and a map member by member
abbrev pub cuts_step : Jv-F Cuts (List ℕ × Cuts) → Cuts
cuts_step jv.Null = leaf (roll-Jv jv.Null)
cuts_step (jv.Flag b) = leaf (roll-Jv (jv.Flag b))
cuts_step (jv.Num n) = leaf (roll-Jv (jv.Num n))
cuts_step (jv.Text t) = leaf (roll-Jv (jv.Text t))
cuts_step (jv.List items) = record {
  whole = roll-Jv (jv.List (map (λ x. x.whole) items));
  cut = λ paths. roll-Jv (jv.List (map (λ x. x.cut paths) items));
}
cuts_step (jv.Map members) = record {
  whole = map_jv (map (λ m. (m.0, m.1.whole)) members);
  cut = λ paths. map_jv (filter_map (kept_member paths) members);
}

abbrev pub cuts_member : Member-F Cuts (List ℕ × Cuts) → List ℕ × Cuts
cuts_member m = (m.key, m.value)

-- a tree with all its cuts
abbrev pub cuts : Jv → Cuts
cuts = fold-Jv Cuts (List ℕ × Cuts) cuts_step cuts_member

abbrev pub cuts_of_member : Member → List ℕ × Cuts
cuts_of_member = fold-Member Cuts (List ℕ × Cuts) cuts_step cuts_member

-- a tree cut down to what paths choose
abbrev pub choose_paths : Jv → List KeyPath → Jv
choose_paths tree = (cuts tree).cut

-- a tree cut down to what a text names
abbrev pub choose : Jv → List ℕ → Jv
choose tree text = choose_paths tree (paths_of text)

-- the same where a text is given, or else the whole tree
abbrev pub choose_by : Option (List ℕ) → Jv → Jv
choose_by None tree = tree
choose_by (Some text) tree = choose tree text

-- paths that are borrowed
abbrev pub lent : List (Bor KeyPath) → List KeyPath
lent paths = map (λ path. path.now) paths

-- ---- laws

-- a key with its tree, and what paths choose of that
abbrev pub entry_cuts : List ℕ × Jv → List ℕ × Cuts
entry_cuts e = (e.0, record { whole = e.1; cut = choose_paths e.1 })

-- the choice in a tree by the choices in what it holds
pub record CutsByLevel : Type 0 where
  pub null : (paths : List KeyPath) → choose_paths (roll-Jv jv.Null) paths ≡ roll-Jv jv.Null
  pub flag : (b : Bool) (paths : List KeyPath) → choose_paths (roll-Jv (jv.Flag b)) paths ≡ roll-Jv (jv.Flag b)
  pub number : (n : ℤ) (paths : List KeyPath) → choose_paths (roll-Jv (jv.Num n)) paths ≡ roll-Jv (jv.Num n)
  pub text : (t : List ℕ) (paths : List KeyPath) → choose_paths (roll-Jv (jv.Text t)) paths ≡ roll-Jv (jv.Text t)
  pub list : (items : List Jv) (paths : List KeyPath)
      → choose_paths (roll-Jv (jv.List items)) paths ≡ roll-Jv (jv.List (map (λ item. choose_paths item paths) items))
  pub members : (es : List (List ℕ × Jv)) (paths : List KeyPath)
      → choose_paths (map_jv es) paths ≡ map_jv (filter_map (kept_member paths) (map entry_cuts es))
