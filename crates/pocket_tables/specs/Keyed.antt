-- Lists in which items stand by a key, and changes of such lists.
use Rattle.std.specs.Prelude.{◌≡◌, ◌+◌, ℕ, Bool, false, List, [], ◌∷◌, ◌++◌, length, map, filter, find, Option, ⊤}
use Rattle.std.specs.List.{list_any}
use Rattle.std.specs.Option.{option_to_list}
use Rattle.std.specs.Str.{bytes_eq}
use Rattle.pocket_types.specs.Order.{is_before}

-- the first item of a key
abbrev pub find_key : {T : Type 0} → (T → List ℕ) → List ℕ → List T → Option T
find_key key k items = find (λ x. bytes_eq (key x) k) items

-- the items below a key, then what stands at the key from now on, then the items above it
unfoldable pub put_at : {T : Type 0} → (T → List ℕ) → List ℕ → Option T → List T → List T
put_at key k after items = filter (λ x. is_before (key x) k) items ++ (option_to_list after ++ filter (λ x. is_before k (key x)) items)

-- a change: a key, and what stands there afterwards
abbrev pub Change : Type 0 → Type 0
Change T = List ℕ × Option T

-- the items after all changes
abbrev pub put_all : {T : Type 0} → (T → List ℕ) → List (Change T) → List T → List T
put_all key [] items = items
put_all key (c ∷ changes) items = put_all key changes (put_at key c.0 c.1 items)

-- whether some change is at this key
abbrev pub is_touched : {T : Type 0} → List ℕ → List (Change T) → Bool
is_touched k changes = list_any (λ c. bytes_eq c.0 k) changes

-- no two changes are at one key
abbrev pub AtDistinctKeys : {T : Type 0} → List (Change T) → Type 0
AtDistinctKeys [] = ⊤
AtDistinctKeys (c ∷ changes) = (is_touched c.0 changes ≡ false) × AtDistinctKeys changes

-- the places that an item takes, or none
abbrev pub places_taken : {T : Type 0} → Option T → ℕ
places_taken o = length (option_to_list o)

-- the places that changes take, if nothing goes
abbrev pub places_wanted : {T : Type 0} → List (Change T) → ℕ
places_wanted [] = 0
places_wanted (c ∷ changes) = places_taken c.1 + places_wanted changes

-- a change at the same key, to what a function gives for it
abbrev pub change_to : {T : Type 0} → (List ℕ → Option T) → Change T → Change T
change_to f c = (c.0, f c.0)

-- the changes that lead back: each key with what stands there
abbrev pub changes_back : {T : Type 0} → (T → List ℕ) → List T → List (Change T) → List (Change T)
changes_back key items changes = map (change_to (λ k. find_key key k items)) changes
