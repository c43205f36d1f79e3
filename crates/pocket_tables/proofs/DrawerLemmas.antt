-- Drawers: the records and the room of each name, and changes of them, one after the other.
use Rattle.std.proofs.Common.{◌≡◌, ℕ, zero, suc, ◌+◌, ◌≤◌, ◌<◌, List, [], ◌∷◌, ◌++◌, Bool, true, false, refl, sym, ◌∙◌, ap, subst, map, filter, set, length, get_or, All, Option, Some, None, Ok, arith}
use Rattle.std.specs.Prelude.{cond, IfSome, slice_get, vec_capacity}
use Rattle.std.specs.Option.{option_map, option_map_or}
use Rattle.std.specs.Str.{bytes_eq}
use Rattle.std.proofs.lemmas.Bool.{cond-true, cond-false}
use Rattle.std.proofs.lemmas.List.{set_split}
use Rattle.pocket_types.specs.Order.{Rises}
use Rattle.pocket_types.specs.World.{rec_of}
use Rattle.pocket_types.specs.declared.records.Rec.{Rec}
use Rattle.pocket_types.specs.declared.deltas.RecChange.{RecChange}
use Rattle.pocket_tables.specs.declared.drawers.Drawer.{Drawer}
use Rattle.pocket_tables.specs.Deltas.{rec_change, rec_changes}
use Rattle.pocket_tables.specs.Keyed.{AtDistinctKeys, Change, places_taken, find_key, places_wanted, put_at, put_all}
use Rattle.pocket_tables.specs.Kept.{places_at, room_name}
use Rattle.pocket_tables.specs.Drawers.{AreRising, HasRecPlaces, recs_in, room_of, drawer_name}
use Rattle.pocket_tables.specs.Places.{IsPlaceOf}
use Rattle.pocket_tables.specs.Swaps.{IsSwapped}
use Rattle.pocket_tables.specs.Worlds.{id_of}
use Rattle.pocket_tables.proofs.KeyLemmas.{key_true, found_bears_key, find_key-put_at, length-put_at, rises-put_at, key_same, unfolding_put_at}
use Rattle.pocket_tables.proofs.ChangeLemmas.{not_at_earlier, find_key-untouched, rises-put_all, put_all-append}
use Rattle.pocket_tables.proofs.WorldLemmas.{recs_bear_keys}

-- ---- the drawer of a name

room_found : (drawers : List Drawer) (name : List ℕ) → find_key room_name name (map room_of drawers) ≡ option_map room_of (find_key drawer_name name drawers)
room_found [] name = refl
room_found (r ∷ drawers) name = by (bytes_eq r.name name) (room_found drawers name)
  where
    by : (b : Bool) → find_key room_name name (map room_of drawers) ≡ option_map room_of (find_key drawer_name name drawers)
        → cond b (Some (room_of r)) (find_key room_name name (map room_of drawers)) ≡ option_map room_of (cond b (Some r) (find_key drawer_name name drawers))
    by true e = refl
    by false e = e

-- the places of a name are those of its drawer
pub places_found : (drawers : List Drawer) (name : List ℕ) (o : Option Drawer) → find_key drawer_name name drawers ≡ o
    → places_at (map room_of drawers) name ≡ option_map_or (λ r. (room_of r).places) o 0
places_found drawers name o e = ap (λ r. option_map_or (λ r. r.places) r 0) (room_found drawers name ∙ ap (option_map room_of) e) ∙ by o
  where
    by : (o : Option Drawer) → option_map_or (λ r. r.places) (option_map room_of o) 0 ≡ option_map_or (λ r. (room_of r).places) o 0
    by None = refl
    by (Some r) = refl

pub recs_found : (drawers : List Drawer) (name : List ℕ) (o : Option Drawer) → find_key drawer_name name drawers ≡ o → recs_in drawers name ≡ option_map_or (λ r. r.recs.items) o []
recs_found drawers name o e = ap (λ o. option_map_or (λ r. r.recs.items) o []) e

-- ---- one drawer in another one's place

pub set_is_put : {T : Type 0} (key : T → List ℕ) (k : List ℕ) (xs : List T) (at : ℕ) (y : T) → IsPlaceOf key k xs (Ok at) → set xs at y ≡ put_at key k (Some y) xs
set_is_put key k xs at y place = set_split xs at y place.within ∙ place.put (Some y)

pub map_set : {T U : Type 0} (f : T → U) (xs : List T) (at : ℕ) (x y : T) → slice_get xs at ≡ Some x → f y ≡ f x → map f (set xs at y) ≡ map f xs
map_set f [] at x y got e = refl
map_set f (z ∷ xs) zero x y got e = let same : z ≡ x = cc in ap (λ u. u ∷ map f xs) (e ∙ ap f (sym same))
map_set f (z ∷ xs) (suc at) x y got e = ap (λ t. f z ∷ t) (map_set f xs at x y got e)

-- the records of each name then
pub recs_put : (drawers : List Drawer) (name : List ℕ) (r : Drawer) (other : List ℕ) → r.name ≡ name
    → recs_in (put_at drawer_name name (Some r) drawers) other ≡ cond (bytes_eq name other) r.recs.items (recs_in drawers other)
recs_put drawers name r other named =
    ap (λ o. option_map_or (λ r. r.recs.items) o []) (find_key-put_at drawer_name other name (Some r) drawers named) ∙ by (bytes_eq name other)
  where
    by : (b : Bool) → option_map_or (λ r. r.recs.items) (cond b (Some r) (find_key drawer_name other drawers)) [] ≡ cond b r.recs.items (recs_in drawers other)
    by true = refl
    by false = refl

-- ---- the changes of a name, among one change more

pub rec_changes-append : (front back : List RecChange) (name : List ℕ) → rec_changes (front ++ back) name ≡ rec_changes front name ++ rec_changes back name
rec_changes-append [] back name = refl
rec_changes-append (c ∷ front) back name = by (bytes_eq c.collection name) (rec_changes-append front back name)
  where
    by : (b : Bool) → rec_changes (front ++ back) name ≡ rec_changes front name ++ rec_changes back name
        → map rec_change (cond b (c ∷ filter (λ c. bytes_eq c.collection name) (front ++ back)) (filter (λ c. bytes_eq c.collection name) (front ++ back)))
        ≡ map rec_change (cond b (c ∷ filter (λ c. bytes_eq c.collection name) front) (filter (λ c. bytes_eq c.collection name) front)) ++ rec_changes back name
    by true e = ap (λ t. (c.id, c.after) ∷ t) e
    by false e = e

pub rec_changes-one : (c : RecChange) (name : List ℕ) → rec_changes (c ∷ []) name ≡ cond (bytes_eq c.collection name) ((c.id, c.after) ∷ []) []
rec_changes-one c name = by (bytes_eq c.collection name)
  where
    by : (b : Bool) → map rec_change (cond b (c ∷ []) []) ≡ cond b ((c.id, c.after) ∷ []) []
    by true = refl
    by false = refl

-- where some changes are made, and the rest has its places
pub record SwappedSoFar (before drawers : List Drawer) (done rest : List RecChange) : Type 0 where
  pub names : Rises drawer_name drawers
  pub recs : (name : List ℕ) → recs_in drawers name ≡ put_all id_of (rec_changes done name) (recs_in before name)
  pub rooms : map room_of drawers ≡ map room_of before
  pub room : HasRecPlaces drawers rest

pub swapped_none : (drawers : List Drawer) (changes : List RecChange) → AreRising drawers → HasRecPlaces drawers changes → SwappedSoFar drawers drawers [] changes
swapped_none drawers changes rising room = record { names = rising.names; recs = λ name. refl; rooms = refl; room = room }

pub are_rising : (before drawers : List Drawer) (done rest : List RecChange) → AreRising before → All (λ c. IfSome c.after (λ r. r.id ≡ c.id)) done
    → SwappedSoFar before drawers done rest → AreRising drawers
are_rising before drawers done rest rising numbered s = record {
  names = s.names;
  ids = λ name. subst (λ l. Rises id_of l) (sym (s.recs name)) (rises-put_all id_of (rec_changes done name) (recs_in before name) (rising.ids name) (recs_bear_keys done numbered name));
}

places_here : (c : RecChange) (rest : List RecChange) (name : List ℕ) → bytes_eq c.collection name ≡ true
    → places_wanted (rec_changes (c ∷ rest) name) ≡ places_taken c.after + places_wanted (rec_changes rest name)
places_here c rest name e = rw e refl

places_elsewhere : (c : RecChange) (rest : List RecChange) (name : List ℕ) → bytes_eq c.collection name ≡ false → places_wanted (rec_changes (c ∷ rest) name) ≡ places_wanted (rec_changes rest name)
places_elsewhere c rest name e = rw e refl

-- there is a place for what the next change puts
pub room_next : (drawers : List Drawer) (c : RecChange) (rest : List RecChange) → HasRecPlaces drawers (c ∷ rest)
    → length (recs_in drawers c.collection) + places_taken c.after ≤ places_at (map room_of drawers) c.collection
room_next drawers c rest room =
    let h = room c.collection in
    let e = places_here c rest c.collection (key_true c.collection c.collection refl) in
    omega (arith, h, e)

-- one change more
pub swapped_one_more : (before drawers next : List Drawer) (done rest : List RecChange) (c : RecChange) → AreRising before → All (λ c. IfSome c.after (λ r. r.id ≡ c.id)) done
    → SwappedSoFar before drawers done (c ∷ rest) → IsSwapped drawers next c → SwappedSoFar before next (done ++ c ∷ []) rest
swapped_one_more before drawers next done rest c rising numbered s one = record {
  names = one.names;
  recs = λ name. one.recs name ∙ by_recs name (bytes_eq c.collection name) refl;
  rooms = one.rooms ∙ s.rooms;
  room = λ name. by_room name (bytes_eq c.collection name) refl;
}
  where
    ordered : AreRising drawers
    ordered = are_rising before drawers done (c ∷ rest) rising numbered s

    more : (name : List ℕ) (one : List (Change Rec)) → rec_changes (c ∷ []) name ≡ one
        → put_all id_of (rec_changes (done ++ c ∷ []) name) (recs_in before name) ≡ put_all id_of one (put_all id_of (rec_changes done name) (recs_in before name))
    more name one e =
        ap (λ l. put_all id_of l (recs_in before name)) (rec_changes-append done (c ∷ []) name ∙ ap (λ l. rec_changes done name ++ l) e)
        ∙ put_all-append id_of (rec_changes done name) one (recs_in before name)

    by_recs : (name : List ℕ) (b : Bool) → bytes_eq c.collection name ≡ b
        → cond b (put_at id_of c.id c.after (recs_in drawers name)) (recs_in drawers name) ≡ put_all id_of (rec_changes (done ++ c ∷ []) name) (recs_in before name)
    by_recs name true e =
        ap (put_at id_of c.id c.after) (s.recs name)
        ∙ sym (more name ((c.id, c.after) ∷ []) (rec_changes-one c name ∙ cond-true (bytes_eq c.collection name) ((c.id, c.after) ∷ []) [] e))
    by_recs name false e = s.recs name ∙ sym (more name [] (rec_changes-one c name ∙ cond-false (bytes_eq c.collection name) ((c.id, c.after) ∷ []) [] e))

    by_room : (name : List ℕ) (b : Bool) → bytes_eq c.collection name ≡ b → length (recs_in next name) + places_wanted (rec_changes rest name) ≤ places_at (map room_of next) name
    by_room name true e =
        let h = s.room name in
        let p = places_here c rest name e in
        let l = ap length (one.recs name ∙ cond-true (bytes_eq c.collection name) (put_at id_of c.id c.after (recs_in drawers name)) (recs_in drawers name) e) in
        let n = length-put_at id_of c.id c.after (recs_in drawers name) (ordered.ids name) in
        let q = ap (λ r. places_at r name) one.rooms in
        omega (arith, h, p, l, n, q)
    by_room name false e =
        let h = s.room name in
        let p = places_elsewhere c rest name e in
        let l = ap length (one.recs name ∙ cond-false (bytes_eq c.collection name) (put_at id_of c.id c.after (recs_in drawers name)) (recs_in drawers name) e) in
        let q = ap (λ r. places_at r name) one.rooms in
        omega (arith, h, p, l, q)

-- what stands where the next change is has stood there from the beginning
pub stood_before : (before drawers : List Drawer) (done rest : List RecChange) (c : RecChange) → All (λ c. IfSome c.after (λ r. r.id ≡ c.id)) done
    → AtDistinctKeys (rec_changes (done ++ c ∷ rest) c.collection) → SwappedSoFar before drawers done (c ∷ rest)
    → rec_of c.id (recs_in drawers c.collection) ≡ rec_of c.id (recs_in before c.collection)
stood_before before drawers done rest c numbered distinct s =
    ap (rec_of c.id) (s.recs c.collection)
    ∙ find_key-untouched id_of c.id (rec_changes done c.collection) (recs_in before c.collection) (recs_bear_keys done numbered c.collection)
    (not_at_earlier (rec_changes done c.collection) (c.id, c.after) (rec_changes rest c.collection)
    (subst AtDistinctKeys (rec_changes-append done (c ∷ rest) c.collection ∙ ap (λ l. rec_changes done c.collection ++ l) (first_of (bytes_eq c.collection c.collection) (key_true c.collection c.collection refl))) distinct))
  where
    first_of : (b : Bool) → b ≡ true
        → map rec_change (cond b (c ∷ filter (λ x. bytes_eq x.collection c.collection) rest) (filter (λ x. bytes_eq x.collection c.collection) rest))
        ≡ (c.id, c.after) ∷ rec_changes rest c.collection
    first_of b e = rw e refl

-- ---- one change in its drawer

pub got_there : {T : Type 0} (xs : List T) (i : ℕ) (x : T) → i < length xs → x ≡ get_or xs i x → slice_get xs i ≡ Some x
got_there [] i x within e = absurd (omega (arith, within))
got_there (y ∷ ys) zero x within e = ap (λ z. Some z) (sym e)
got_there (y ∷ ys) (suc i) x within e = got_there ys i x (omega (arith, within)) e

-- the drawer of a name stands at this place
pub record IsDrawerAt (drawers : List Drawer) (name : List ℕ) (at : ℕ) (r : Drawer) : Type 0 where
  pub place : IsPlaceOf drawer_name name drawers (Ok at)
  pub is : r ≡ get_or drawers at r

module _ (drawers : List Drawer) (name : List ℕ) (at : ℕ) (r : Drawer) (entry : IsDrawerAt drawers name at r) where
  drawer_got : slice_get drawers at ≡ Some r
  drawer_got = got_there drawers at r entry.place.within entry.is

  drawer_found : find_key drawer_name name drawers ≡ Some r
  drawer_found = sym entry.place.found ∙ drawer_got

  pub drawer_recs : recs_in drawers name ≡ r.recs.items
  drawer_recs = recs_found drawers name (Some r) drawer_found

  pub drawer_places : places_at (map room_of drawers) name ≡ vec_capacity r.recs
  drawer_places = places_found drawers name (Some r) drawer_found

  drawer_named : r.name ≡ name
  drawer_named = subst (λ o. IfSome o (λ x. x.name ≡ name)) drawer_found (found_bears_key drawer_name name drawers)

  -- the drawer with other records
  pub set_rooms : (new : Drawer) → new.name ≡ r.name → vec_capacity new.recs ≡ vec_capacity r.recs → map room_of (set drawers at new) ≡ map room_of drawers
  set_rooms new same capacity = map_set room_of drawers at r new drawer_got (λ i. record { name = same i; places = capacity i })

  recs_then : (new : Drawer) → new.name ≡ r.name → (other : List ℕ) → recs_in (set drawers at new) other ≡ cond (bytes_eq name other) new.recs.items (recs_in drawers other)
  recs_then new same other = ap (λ l. recs_in l other) (set_is_put drawer_name name drawers at new entry.place) ∙ recs_put drawers name new other (same ∙ drawer_named)

  names_set : (new : Drawer) → new.name ≡ r.name → Rises drawer_name drawers → Rises drawer_name (set drawers at new)
  names_set new same rising =
      subst (λ l. Rises drawer_name l) (sym (set_is_put drawer_name name drawers at new entry.place)) (rises-put_at drawer_name name (Some new) drawers rising (same ∙ drawer_named))

  -- the drawer with one record put or cut
  pub swapped_at : (c : RecChange) (new : Drawer) → c.collection ≡ name → Rises drawer_name drawers → new.name ≡ r.name
      → new.recs.items ≡ put_at id_of c.id c.after r.recs.items → vec_capacity new.recs ≡ vec_capacity r.recs → IsSwapped drawers (set drawers at new) c
  swapped_at c new of_name rising same items capacity = record {
    recs = λ other. recs_then new same other ∙ by other (bytes_eq name other) refl ∙ ap (λ n. cond (bytes_eq n other) (put_at id_of c.id c.after (recs_in drawers other)) (recs_in drawers other)) (sym of_name);
    rooms = set_rooms new same capacity;
    names = names_set new same rising;
  }
    where
      by : (other : List ℕ) (b : Bool) → bytes_eq name other ≡ b → cond b new.recs.items (recs_in drawers other) ≡ cond b (put_at id_of c.id c.after (recs_in drawers other)) (recs_in drawers other)
      by other true e = items ∙ ap (put_at id_of c.id c.after) (sym drawer_recs ∙ ap (recs_in drawers) (key_same name other e))
      by other false e = refl

-- no record is put under a name without a drawer, so that nothing changes
pub swapped_nowhere : (drawers : List Drawer) (c : RecChange) → Rises drawer_name drawers → find_key drawer_name c.collection drawers ≡ None
    → length (recs_in drawers c.collection) + places_taken c.after ≤ places_at (map room_of drawers) c.collection → IsSwapped drawers drawers c
swapped_nowhere drawers c rising none room = record { recs = λ other. by other (bytes_eq c.collection other) refl; rooms = refl; names = rising }
  where
    empty : recs_in drawers c.collection ≡ []
    empty = recs_found drawers c.collection None none

    no_places : places_at (map room_of drawers) c.collection ≡ 0
    no_places = places_found drawers c.collection None none

    cut : (after : Option Rec) (recs : List Rec) → recs ≡ [] → places_taken after ≡ 0 → recs ≡ put_at id_of c.id after recs
    cut None recs e h = e ∙ sym (unfolding_put_at id_of c.id None []) ∙ ap (put_at id_of c.id None) (sym e)
    cut (Some r) recs e h = absurd (omega (arith, h))

    by : (other : List ℕ) (b : Bool) → bytes_eq c.collection other ≡ b → recs_in drawers other ≡ cond b (put_at id_of c.id c.after (recs_in drawers other)) (recs_in drawers other)
    by other true e = cut c.after (recs_in drawers other) (ap (recs_in drawers) (sym (key_same c.collection other e)) ∙ empty) (omega (arith, no_places, room))
    by other false e = refl
