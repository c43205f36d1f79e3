-- Where a key stands or belongs in a list that rises.
use Rattle.std.specs.Prelude.{◌≡◌, ℕ, suc, List, ◌++◌, length, take, drop, filter, slice_get, Option, None, Result, Ok, Err}
use Rattle.std.specs.List.Sorted.{IsSearchInRange}
use Rattle.std.specs.Option.{option_to_list}
use Rattle.pocket_types.specs.Order.{is_before}
use Rattle.pocket_tables.specs.Keyed.{find_key, put_at}

-- what stands where a search led
abbrev pub item_at : {T : Type 0} → List T → Result ℕ ℕ → Option T
item_at items (Ok at) = slice_get items at
item_at items (Err at) = None

-- the items, with this one or none where a search led
abbrev pub with_item_at : {T : Type 0} → List T → Result ℕ ℕ → Option T → List T
with_item_at items (Ok at) after = take at items ++ (option_to_list after ++ drop (suc at) items)
with_item_at items (Err at) after = take at items ++ (option_to_list after ++ drop at items)

-- the items behind the place where a search led
abbrev pub items_behind : {T : Type 0} → List T → Result ℕ ℕ → List T
items_behind items (Ok at) = drop (suc at) items
items_behind items (Err at) = drop at items

-- a search led to the place of a key
pub record IsPlaceOf {T : Type 0} (key : T → List ℕ) (k : List ℕ) (items : List T) (place : Result ℕ ℕ) : Type 0 where
  pub within : IsSearchInRange place (length items)
  pub found : item_at items place ≡ find_key key k items
  pub put : (after : Option T) → with_item_at items place after ≡ put_at key k after items
  pub above : items_behind items place ≡ filter (λ x. is_before k (key x)) items
