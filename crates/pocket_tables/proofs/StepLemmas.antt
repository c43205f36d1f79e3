-- One turn of the loops that make the changes in place.
use Rattle.std.proofs.Common.{◌≡◌, ℕ, zero, suc, ◌+◌, ◌≤◌, ◌<◌, List, [], ◌∷◌, ◌++◌, refl, sym, ◌∙◌, ap, subst, map, take, drop, set, length, get_or, All, arith}
use Rattle.std.specs.Prelude.{IfSome}
use Rattle.std.proofs.lemmas.List.{take_more, drop_more, take-append-drop}
use Rattle.std.proofs.lemmas.List.Edits.{map_over_more}
use Rattle.std.proofs.lemmas.List.Elements.{All-take}
use Rattle.pocket_types.specs.Order.{Rises}
use Rattle.pocket_types.specs.World.{rec_of}
use Rattle.pocket_types.specs.declared.records.Collection.{Collection}
use Rattle.pocket_types.specs.declared.deltas.RecChange.{RecChange}
use Rattle.pocket_types.specs.declared.deltas.ShelfChange.{ShelfChange}
use Rattle.pocket_tables.specs.declared.drawers.Drawer.{Drawer}
use Rattle.pocket_tables.specs.Deltas.{rec_back, rec_changes, shelf_back, shelf_changes}
use Rattle.pocket_tables.specs.Keyed.{AtDistinctKeys, places_taken, find_key, put_at}
use Rattle.pocket_tables.specs.Kept.{places_at}
use Rattle.pocket_tables.specs.Drawers.{AreRising, recs_in, room_of}
use Rattle.pocket_tables.specs.Swaps.{IsSwapped}
use Rattle.pocket_tables.specs.Worlds.{name_of}
use Rattle.pocket_tables.proofs.ShelfLemmas.{ShelvesSoFar, collection_stood_before, shelves_rise_so_far, shelves_next}
use Rattle.pocket_tables.proofs.DrawerLemmas.{SwappedSoFar, are_rising, stood_before, room_next, swapped_one_more}

read_at_seam : {T : Type 0} (f : T → T) (xs : List T) (i : ℕ) (d : T) → i < length xs → get_or (map f (take i xs) ++ drop i xs) i d ≡ get_or xs i d
read_at_seam f [] i d within = absurd (omega (arith, within))
read_at_seam f (x ∷ xs) zero d within = refl
read_at_seam f (x ∷ xs) (suc i) d within = read_at_seam f xs i d (omega (arith, within))

-- the change in hand is still as it was
pub read_in_hand : {T : Type 0} (f : T → T) (xs ys : List T) (i : ℕ) (x : T) → i < length xs → ys ≡ map f (take i xs) ++ drop i xs → x ≡ get_or ys i x → x ≡ get_or xs i x
read_in_hand f xs ys i x within e is = is ∙ ap (λ l. get_or l i x) e ∙ read_at_seam f xs i x within

pub rest_from : {T : Type 0} (xs : List T) (i : ℕ) (x : T) → i < length xs → x ≡ get_or xs i x → drop i xs ≡ x ∷ drop (i + 1) xs
rest_from xs i x within is = drop_more xs i x within ∙ ap (λ y. y ∷ drop (i + 1) xs) (sym is)

pub front_to : {T : Type 0} (xs : List T) (i : ℕ) (x : T) → i < length xs → x ≡ get_or xs i x → take (i + 1) xs ≡ take i xs ++ x ∷ []
front_to xs i x within is = take_more xs i x within ∙ ap (λ y. take i xs ++ y ∷ []) (sym is)

pub whole_around : {T : Type 0} (xs : List T) (i : ℕ) (x : T) → i < length xs → x ≡ get_or xs i x → take i xs ++ x ∷ drop (i + 1) xs ≡ xs
whole_around xs i x within is = ap (λ l. take i xs ++ l) (sym (rest_from xs i x within is)) ∙ take-append-drop i xs

-- ---- records

abbrev pub rec_led_back : List Drawer → RecChange → RecChange
rec_led_back drawers = rec_back (λ name id. rec_of id (recs_in drawers name))

pub record RecStep (before drawers : List Drawer) (changes now : List RecChange) (i : ℕ) (c : RecChange) : Type 0 where
  pub rising : AreRising before
  pub numbered : All (λ c. IfSome c.after (λ r. r.id ≡ c.id)) changes
  pub distinct : (name : List ℕ) → AtDistinctKeys (rec_changes changes name)
  pub within : i < length changes
  pub swapped : SwappedSoFar before drawers (take i changes) (drop i changes)
  pub is_now : now ≡ map (rec_led_back before) (take i changes) ++ drop i changes
  pub in_place : c ≡ get_or now i c

module _ (before drawers : List Drawer) (changes now : List RecChange) (i : ℕ) (c : RecChange) (step : RecStep before drawers changes now i c) where
  change_is : c ≡ get_or changes i c
  change_is = read_in_hand (rec_led_back before) changes now i c step.within step.is_now step.in_place

  front_numbered : All (λ c. IfSome c.after (λ r. r.id ≡ c.id)) (take i changes)
  front_numbered = All-take (λ c. IfSome c.after (λ r. r.id ≡ c.id)) i changes step.numbered

  swapped_so_far : SwappedSoFar before drawers (take i changes) (c ∷ drop (i + 1) changes)
  swapped_so_far = subst (λ l. SwappedSoFar before drawers (take i changes) l) (rest_from changes i c step.within change_is) step.swapped

  pub drawers_rising : AreRising drawers
  drawers_rising = are_rising before drawers (take i changes) (drop i changes) step.rising front_numbered step.swapped

  pub drawers_room : length (recs_in drawers c.collection) + places_taken c.after ≤ places_at (map room_of drawers) c.collection
  drawers_room = room_next drawers c (drop (i + 1) changes) swapped_so_far.room

  pub next_swapped : (next : List Drawer) → IsSwapped drawers next c → SwappedSoFar before next (take (i + 1) changes) (drop (i + 1) changes)
  next_swapped next one =
      subst (λ l. SwappedSoFar before next l (drop (i + 1) changes)) (sym (front_to changes i c step.within change_is))
      (swapped_one_more before drawers next (take i changes) (drop (i + 1) changes) c step.rising front_numbered swapped_so_far one)

  pub next_recs : set now i (rec_led_back drawers c) ≡ map (rec_led_back before) (take (i + 1) changes) ++ drop (i + 1) changes
  next_recs =
      ap (λ o. set now i (rec_back (λ name id. o) c)) (stood_before before drawers (take i changes) (drop (i + 1) changes) c front_numbered
      (subst (λ l. AtDistinctKeys (rec_changes l c.collection)) (sym (whole_around changes i c step.within change_is)) (step.distinct c.collection)) swapped_so_far)
      ∙ map_over_more (rec_led_back before) changes now i c step.within step.is_now step.in_place

-- ---- collections

abbrev pub shelf_led_back : List Collection → ShelfChange → ShelfChange
shelf_led_back cs = shelf_back (λ name. find_key name_of name cs)

pub record ShelfStep (before cs : List Collection) (changes now : List ShelfChange) (places i : ℕ) (c : ShelfChange) : Type 0 where
  pub rising : Rises name_of before
  pub named : All (λ c. IfSome c.after (λ k. k.name ≡ c.name)) changes
  pub distinct : AtDistinctKeys (shelf_changes changes)
  pub within : i < length changes
  pub so_far : ShelvesSoFar before cs (take i changes) (drop i changes) places
  pub is_now : now ≡ map (shelf_led_back before) (take i changes) ++ drop i changes
  pub in_place : c ≡ get_or now i c

module _ (before cs : List Collection) (changes now : List ShelfChange) (places i : ℕ) (c : ShelfChange) (step : ShelfStep before cs changes now places i c) where
  shelf_change_is : c ≡ get_or changes i c
  shelf_change_is = read_in_hand (shelf_led_back before) changes now i c step.within step.is_now step.in_place

  front_named : All (λ c. IfSome c.after (λ k. k.name ≡ c.name)) (take i changes)
  front_named = All-take (λ c. IfSome c.after (λ k. k.name ≡ c.name)) i changes step.named

  shelves_so_far : ShelvesSoFar before cs (take i changes) (c ∷ drop (i + 1) changes) places
  shelves_so_far = subst (λ l. ShelvesSoFar before cs (take i changes) l places) (rest_from changes i c step.within shelf_change_is) step.so_far

  pub collections_rising : Rises name_of cs
  collections_rising = shelves_rise_so_far before cs (take i changes) (drop i changes) places step.rising front_named step.so_far

  pub collections_room : length cs + places_taken c.after ≤ places
  collections_room = let r = shelves_so_far.room in omega (arith, r)

  pub next_collections : (next : List Collection) → next ≡ put_at name_of c.name c.after cs → ShelvesSoFar before next (take (i + 1) changes) (drop (i + 1) changes) places
  next_collections next is =
      subst (λ l. ShelvesSoFar before next l (drop (i + 1) changes) places) (sym (front_to changes i c step.within shelf_change_is))
      (shelves_next before cs next (take i changes) (drop (i + 1) changes) c places step.rising front_named shelves_so_far is)

  pub next_changes : set now i (shelf_led_back cs c) ≡ map (shelf_led_back before) (take (i + 1) changes) ++ drop (i + 1) changes
  next_changes =
      ap (λ o. set now i (shelf_back (λ name. o) c)) (collection_stood_before before cs (take i changes) (drop (i + 1) changes) c places front_named
      (subst (λ l. AtDistinctKeys (shelf_changes l)) (sym (whole_around changes i c step.within shelf_change_is)) step.distinct) shelves_so_far)
      ∙ map_over_more (shelf_led_back before) changes now i c step.within step.is_now step.in_place
