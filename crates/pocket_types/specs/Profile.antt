-- The profile of JSON trees: what holds of every tree that is read or kept.
use Rattle.std.specs.Prelude.{ℕ, suc, max, ◌≤◌, ◌^◌, ◌&&◌, ℤ, pos, negsuc, List, [], ◌∷◌, map, Bool, true, nat_lt, IsTrue}
use Rattle.std.specs.List.{list_all}
use Rattle.std.specs.Str.{is_utf8}
use Rattle.pocket_types.specs.Order.{is_before}
use Rattle.pocket_types.specs.declared.json.Jv.{Jv, fold-Jv}
use Rattle.pocket_types.specs.declared.json.Jv.TheOpen as jv
use Rattle.pocket_types.specs.declared.json.Jv.TheOpen.{Jv-F, Member-F}

-- ---- keys

-- each key stands before the next, and this one before the first
abbrev pub rise_from : List ℕ → List (List ℕ) → Bool
rise_from key [] = true
rise_from key (next ∷ keys) = is_before key next && rise_from next keys

-- each key stands before the next
abbrev pub rise : List (List ℕ) → Bool
rise [] = true
rise (key ∷ keys) = rise_from key keys

-- one level, it being told of each value inside whether its keys rise
abbrev pub rising_step : Jv-F Bool (List ℕ × Bool) → Bool
rising_step jv.Null = true
rising_step (jv.Flag b) = true
rising_step (jv.Num n) = true
rising_step (jv.Text t) = true
rising_step (jv.List items) = list_all (λ rising. rising) items
rising_step (jv.Map members) = rise (map (λ m. m.0) members) && list_all (λ m. m.1) members

abbrev pub rising_member : Member-F Bool (List ℕ × Bool) → List ℕ × Bool
rising_member m = (m.key, m.value)

-- the keys of each map in the tree rise
abbrev pub keys_rise : Jv → Bool
keys_rise = fold-Jv Bool (List ℕ × Bool) rising_step rising_member

-- ---- numbers

abbrev pub size_of : ℤ → ℕ
size_of (pos n) = n
size_of (negsuc n) = suc n

-- one level, it being told of each value inside whether its numbers are small
abbrev pub small_step : Jv-F Bool Bool → Bool
small_step jv.Null = true
small_step (jv.Flag b) = true
small_step (jv.Num n) = nat_lt (size_of n) (2 ^ 53)
small_step (jv.Text t) = true
small_step (jv.List items) = list_all (λ small. small) items
small_step (jv.Map members) = list_all (λ small. small) members

abbrev pub small_member : Member-F Bool Bool → Bool
small_member m = m.value

-- no number in the tree is over 2^53 - 1 in size
abbrev pub numbers_small : Jv → Bool
numbers_small = fold-Jv Bool Bool small_step small_member

-- ---- texts

-- one level, it being told of each value inside whether its texts are UTF-8
abbrev pub utf8_step : Jv-F Bool Bool → Bool
utf8_step jv.Null = true
utf8_step (jv.Flag b) = true
utf8_step (jv.Num n) = true
utf8_step (jv.Text t) = is_utf8 t
utf8_step (jv.List items) = list_all (λ fine. fine) items
utf8_step (jv.Map members) = list_all (λ fine. fine) members

abbrev pub utf8_member : Member-F Bool Bool → Bool
utf8_member m = is_utf8 m.key && m.value

-- each text and each key in the tree is UTF-8
abbrev pub texts_utf8 : Jv → Bool
texts_utf8 = fold-Jv Bool Bool utf8_step utf8_member

-- so it is with a key and its value
abbrev pub entry_utf8 : List ℕ × Jv → Bool
entry_utf8 e = is_utf8 e.0 && texts_utf8 e.1

-- ---- levels

abbrev pub greatest : List ℕ → ℕ
greatest [] = 0
greatest (n ∷ ns) = max n (greatest ns)

-- one level, with the levels of each value inside
abbrev pub levels_step : Jv-F ℕ ℕ → ℕ
levels_step jv.Null = 0
levels_step (jv.Flag b) = 0
levels_step (jv.Num n) = 0
levels_step (jv.Text t) = 0
levels_step (jv.List items) = suc (greatest items)
levels_step (jv.Map members) = suc (greatest members)

abbrev pub levels_member : Member-F ℕ ℕ → ℕ
levels_member m = m.value

-- how deep lists and maps nest
abbrev pub levels : Jv → ℕ
levels = fold-Jv ℕ ℕ levels_step levels_member

-- the most levels of JSON of the profile
abbrev pub max_levels : ℕ
max_levels = 32

-- a tree whose keys rise, whose numbers are small, whose texts are UTF-8, and which has no more levels than JSON of the profile
pub record IsProfiled (tree : Jv) : Type 0 where
  pub keys : IsTrue (keys_rise tree)
  pub numbers : IsTrue (numbers_small tree)
  pub texts : IsTrue (texts_utf8 tree)
  pub depth : levels tree ≤ max_levels
