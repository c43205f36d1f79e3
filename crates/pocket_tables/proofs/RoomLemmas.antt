-- Drawers that are added and made roomier.
use Rattle.std.proofs.Common.{◌≡◌, ◌⊎◌, inl, inr, ℕ, zero, suc, ◌+◌, ◌≤◌, ◌<◌, List, [], ◌∷◌, ◌++◌, Bool, true, false, refl, sym, ◌∙◌, ap, subst, map, filter, take, set, length, get_or, All, Option, Some, None, Ok, Err, arith}
use Rattle.std.specs.Prelude.{cond, IfSome, IsSome, slice_get, is_some}
use Rattle.std.specs.Str.{bytes_eq}
use Rattle.std.specs.Prelude.{vec_capacity}
use Rattle.std.proofs.lemmas.Bool.{cond-true, cond-false, false≢true, true≢false}
use Rattle.std.proofs.lemmas.List.Elements.{All-head, All-tail, All-cons, All-nil, All-push}
use Rattle.std.proofs.lemmas.List.{take_all}
use Rattle.pocket_types.specs.Order.{IsBefore, Rises}
use Rattle.pocket_types.proofs.OrderLemmas.{rises_first, rises_rest, rises_cons, rises_nil, rises_map}
use Rattle.pocket_types.specs.declared.records.Rec.{Rec}
use Rattle.pocket_types.specs.declared.deltas.RecChange.{RecChange}
use Rattle.pocket_types.specs.declared.deltas.ShelfChange.{ShelfChange}
use Rattle.pocket_tables.specs.declared.drawers.Drawer.{Drawer}
use Rattle.pocket_tables.specs.Deltas.{rec_change, rec_changes, shelf_change, shelf_changes}
use Rattle.pocket_tables.specs.Keyed.{Change, places_taken, find_key, places_wanted, put_at}
use Rattle.pocket_tables.specs.Kept.{places_at}
use Rattle.pocket_tables.specs.Drawers.{HasDrawer, HasRecPlaces, HaveDrawers, AreNoSmaller, recs_in, room_of, drawer_name}
use Rattle.pocket_tables.specs.Places.{IsPlaceOf}
use Rattle.pocket_tables.proofs.KeyLemmas.{key_true, found_holds, found_bears_key, find_key-put_at, rises-put_at, key_same}
use Rattle.pocket_tables.proofs.DrawerLemmas.{rec_changes-append, map_set, rec_changes-one, places_found, recs_found}
use Rattle.pocket_tables.proofs.StepLemmas.{front_to}

-- ---- no smaller

pub no_smaller_itself : (drawers : List Drawer) → Rises drawer_name drawers → AreNoSmaller drawers drawers
no_smaller_itself drawers rising = record { rising = rising; recs = λ name. refl; places = λ name. omega arith; names = λ name h. h }

pub no_smaller_twice : (a b c : List Drawer) → AreNoSmaller a b → AreNoSmaller b c → AreNoSmaller a c
no_smaller_twice a b c h k = record {
  rising = k.rising;
  recs = λ name. k.recs name ∙ h.recs name;
  places = λ name. let p = h.places name in let q = k.places name in omega (arith, p, q);
  names = λ name there. k.names name (h.names name there);
}

-- ---- a drawer added

pub no_smaller_added : (drawers : List Drawer) (name : List ℕ) (at : ℕ) (r : Drawer) → Rises drawer_name drawers → IsPlaceOf drawer_name name drawers (Err at)
    → r.name ≡ name → r.recs.items ≡ [] → AreNoSmaller drawers (put_at drawer_name name (Some r) drawers)
no_smaller_added drawers name at r rising place named empty = record {
  rising = rises-put_at drawer_name name (Some r) drawers rising named;
  recs = λ other. by_recs other (bytes_eq name other) refl;
  places = λ other. by_places other (bytes_eq name other) refl;
  names = λ other there. by_names other (bytes_eq name other) refl there;
}
  where
    found : (other : List ℕ) → find_key drawer_name other (put_at drawer_name name (Some r) drawers) ≡ cond (bytes_eq name other) (Some r) (find_key drawer_name other drawers)
    found other = find_key-put_at drawer_name other name (Some r) drawers named

    none : (other : List ℕ) → bytes_eq name other ≡ true → find_key drawer_name other drawers ≡ None
    none other e = ap (λ n. find_key drawer_name n drawers) (sym (key_same name other e)) ∙ sym place.found

    by_recs : (other : List ℕ) (b : Bool) → bytes_eq name other ≡ b → recs_in (put_at drawer_name name (Some r) drawers) other ≡ recs_in drawers other
    by_recs other true e =
        recs_found (put_at drawer_name name (Some r) drawers) other (Some r) (found other ∙ cond-true (bytes_eq name other) (Some r) (find_key drawer_name other drawers) e)
        ∙ empty ∙ sym (recs_found drawers other None (none other e))
    by_recs other false e =
        recs_found (put_at drawer_name name (Some r) drawers) other (find_key drawer_name other drawers) (found other ∙ cond-false (bytes_eq name other) (Some r) (find_key drawer_name other drawers) e)

    by_places : (other : List ℕ) (b : Bool) → bytes_eq name other ≡ b → places_at (map room_of drawers) other ≤ places_at (map room_of (put_at drawer_name name (Some r) drawers)) other
    by_places other true e = let z = places_found drawers other None (none other e) in omega (arith, z)
    by_places other false e =
        let new = places_found (put_at drawer_name name (Some r) drawers) other (find_key drawer_name other drawers) (found other ∙ cond-false (bytes_eq name other) (Some r) (find_key drawer_name other drawers) e) in
        let old = places_found drawers other (find_key drawer_name other drawers) refl in
        omega (arith, new, old)

    by_names : (other : List ℕ) (b : Bool) → bytes_eq name other ≡ b → HasDrawer drawers other → HasDrawer (put_at drawer_name name (Some r) drawers) other
    by_names other true e there = subst IsSome (sym (found other ∙ cond-true (bytes_eq name other) (Some r) (find_key drawer_name other drawers) e)) refl
    by_names other false e there = subst IsSome (sym (found other ∙ cond-false (bytes_eq name other) (Some r) (find_key drawer_name other drawers) e)) there

pub added_has_drawer : (drawers : List Drawer) (name : List ℕ) (r : Drawer) → r.name ≡ name → HasDrawer (put_at drawer_name name (Some r) drawers) name
added_has_drawer drawers name r named =
    subst IsSome (sym (find_key-put_at drawer_name name name (Some r) drawers named ∙ cond-true (bytes_eq name name) (Some r) (find_key drawer_name name drawers) (key_true name name refl))) refl

-- ---- a drawer made roomier

rises_by_names : (drawers : List Drawer) → Rises (λ n. n) (map drawer_name drawers) → Rises drawer_name drawers
rises_by_names [] h = rises_nil drawer_name
rises_by_names (r ∷ drawers) h =
    rises_cons drawer_name r drawers (unmap drawers (rises_first (λ n. n) r.name (map drawer_name drawers) h)) (rises_by_names drawers (rises_rest (λ n. n) r.name (map drawer_name drawers) h))
  where
    unmap : (drawers : List Drawer) → All (λ n. IsBefore r.name n) (map drawer_name drawers) → All (λ y. IsBefore r.name y.name) drawers
    unmap [] h = All-nil (λ y. IsBefore r.name y.name)
    unmap (y ∷ drawers) h =
        All-cons (λ y. IsBefore r.name y.name) y drawers (All-head (λ n. IsBefore r.name n) y.name (map drawer_name drawers) h)
        (unmap drawers (All-tail (λ n. IsBefore r.name n) y.name (map drawer_name drawers) h))

pub rises_alike : (old new : List Drawer) → map drawer_name new ≡ map drawer_name old → Rises drawer_name old → Rises drawer_name new
rises_alike old new e rising = rises_by_names new (subst (λ l. Rises (λ n. n) l) (sym e) (rises_map drawer_name (λ n. n) drawer_name (λ x y b. b) old rising))

found_where_set : (drawers : List Drawer) (at : ℕ) (x y : Drawer) (name : List ℕ) → slice_get drawers at ≡ Some x → y.name ≡ x.name
    → (find_key drawer_name name (set drawers at y) ≡ find_key drawer_name name drawers) ⊎ ((find_key drawer_name name drawers ≡ Some x) × (find_key drawer_name name (set drawers at y) ≡ Some y))
found_where_set [] at x y name got same = inl refl
found_where_set (z ∷ drawers) zero x y name got same = by (bytes_eq z.name name) refl
  where
    by : (b : Bool) → bytes_eq z.name name ≡ b
        → (cond (bytes_eq y.name name) (Some y) (find_key drawer_name name drawers) ≡ cond b (Some z) (find_key drawer_name name drawers))
        ⊎ ((cond b (Some z) (find_key drawer_name name drawers) ≡ Some x) × (cond (bytes_eq y.name name) (Some y) (find_key drawer_name name drawers) ≡ Some y))
    by true e = inr (got, cond-true (bytes_eq y.name name) (Some y) (find_key drawer_name name drawers) (let s : z ≡ x = cc in rw (same, ← s) e))
    by false e = inl (cond-false (bytes_eq y.name name) (Some y) (find_key drawer_name name drawers) (let s : z ≡ x = cc in rw (same, ← s) e))
found_where_set (z ∷ drawers) (suc at) x y name got same = by (bytes_eq z.name name) (found_where_set drawers at x y name got same)
  where
    by : (b : Bool)
        → (find_key drawer_name name (set drawers at y) ≡ find_key drawer_name name drawers) ⊎ ((find_key drawer_name name drawers ≡ Some x) × (find_key drawer_name name (set drawers at y) ≡ Some y))
        → (cond b (Some z) (find_key drawer_name name (set drawers at y)) ≡ cond b (Some z) (find_key drawer_name name drawers))
        ⊎ ((cond b (Some z) (find_key drawer_name name drawers) ≡ Some x) × (cond b (Some z) (find_key drawer_name name (set drawers at y)) ≡ Some y))
    by true h = inl refl
    by false h = h

abbrev IsFoundWhereSet : List Drawer → ℕ → Drawer → Drawer → List ℕ → Type 0
IsFoundWhereSet drawers at x y name = (find_key drawer_name name (set drawers at y) ≡ find_key drawer_name name drawers) ⊎ ((find_key drawer_name name drawers ≡ Some x) × (find_key drawer_name name (set drawers at y) ≡ Some y))

pub no_smaller_set : (drawers : List Drawer) (at : ℕ) (x y : Drawer) → Rises drawer_name drawers → slice_get drawers at ≡ Some x → y.name ≡ x.name → y.recs.items ≡ x.recs.items
    → vec_capacity x.recs ≤ vec_capacity y.recs → AreNoSmaller drawers (set drawers at y)
no_smaller_set drawers at x y rising got same items room = record {
  rising = rises_alike drawers (set drawers at y) (map_set drawer_name drawers at x y got same) rising;
  recs = λ name. by_recs name (found_where_set drawers at x y name got same);
  places = λ name. by_places name (found_where_set drawers at x y name got same);
  names = λ name there. by_names name (found_where_set drawers at x y name got same) there;
}
  where
    by_recs : (name : List ℕ) → IsFoundWhereSet drawers at x y name → recs_in (set drawers at y) name ≡ recs_in drawers name
    by_recs name (inl e) = recs_found (set drawers at y) name (find_key drawer_name name drawers) e
    by_recs name (inr (o, n)) = recs_found (set drawers at y) name (Some y) n ∙ items ∙ sym (recs_found drawers name (Some x) o)

    by_places : (name : List ℕ) → IsFoundWhereSet drawers at x y name → places_at (map room_of drawers) name ≤ places_at (map room_of (set drawers at y)) name
    by_places name (inl e) =
        let new = places_found (set drawers at y) name (find_key drawer_name name drawers) e in
        let old = places_found drawers name (find_key drawer_name name drawers) refl in
        omega (arith, new, old)
    by_places name (inr (o, n)) =
        let new = places_found (set drawers at y) name (Some y) n in
        let old = places_found drawers name (Some x) o in
        omega (arith, new, old, room)

    by_names : (name : List ℕ) → IsFoundWhereSet drawers at x y name → HasDrawer drawers name → HasDrawer (set drawers at y) name
    by_names name (inl e) there = subst IsSome (sym e) there
    by_names name (inr (o, n)) there = subst IsSome (sym n) refl

-- ---- places for all

abbrev pub HasOwnPlaces : List RecChange → Drawer → Type 0
HasOwnPlaces changes r = length r.recs.items + places_wanted (rec_changes changes r.name) ≤ vec_capacity r.recs

-- no record is put under a name without a drawer
none_put_without_drawer : (drawers : List Drawer) (name : List ℕ) (changes : List RecChange) → HaveDrawers drawers changes → find_key drawer_name name drawers ≡ None → places_wanted (rec_changes changes name) ≡ 0
none_put_without_drawer drawers name [] h none = refl
none_put_without_drawer drawers name (c ∷ changes) h none = by (bytes_eq c.collection name) refl c.after refl (none_put_without_drawer drawers name changes (All-tail (λ c. IsSome c.after → HasDrawer drawers c.collection) c changes h) none)
  where
    by : (b : Bool) → bytes_eq c.collection name ≡ b → (o : Option Rec) → c.after ≡ o → places_wanted (rec_changes changes name) ≡ 0
        → places_wanted (map rec_change (cond b (c ∷ filter (λ c. bytes_eq c.collection name) changes) (filter (λ c. bytes_eq c.collection name) changes))) ≡ 0
    by false e o is rest = rest
    by true e None is rest = let none = ap places_taken is in omega (arith, none, rest)
    by true e (Some r) is rest =
        let there : HasDrawer drawers c.collection = All-head (λ c. IsSome c.after → HasDrawer drawers c.collection) c changes h (subst IsSome (sym is) refl) in
        absurd (false≢true (subst IsSome (ap (λ n. find_key drawer_name n drawers) (key_same c.collection name e) ∙ none) there))

pub places_for_all : (drawers : List Drawer) (changes : List RecChange) → HaveDrawers drawers changes → All (HasOwnPlaces changes) drawers → HasRecPlaces drawers changes
places_for_all drawers changes there all name = by (find_key drawer_name name drawers) refl
  where
    by : (o : Option Drawer) → find_key drawer_name name drawers ≡ o → length (recs_in drawers name) + places_wanted (rec_changes changes name) ≤ places_at (map room_of drawers) name
    by None e =
        let r = ap length (recs_found drawers name None e) in
        let p = none_put_without_drawer drawers name changes there e in
        omega (arith, r, p)
    by (Some x) e =
        let r = ap length (recs_found drawers name (Some x) e) in
        let q = places_found drawers name (Some x) e in
        let own : HasOwnPlaces changes x = subst (λ o. IfSome o (HasOwnPlaces changes)) e (found_holds drawer_name (HasOwnPlaces changes) name drawers all) in
        let named : x.name ≡ name = subst (λ o. IfSome o (λ x. x.name ≡ name)) e (found_bears_key drawer_name name drawers) in
        let p = ap (λ n. places_wanted (rec_changes changes n)) named in
        omega (arith, r, q, own, p)

some_there : {T : Type 0} (xs : List T) (at : ℕ) → at < length xs → IsSome (slice_get xs at)
some_there [] at within = absurd (omega (arith, within))
some_there (x ∷ xs) zero within = refl
some_there (x ∷ xs) (suc at) within = some_there xs at (omega (arith, within))

pub found_has_drawer : (drawers : List Drawer) (name : List ℕ) (at : ℕ) → IsPlaceOf drawer_name name drawers (Ok at) → HasDrawer drawers name
found_has_drawer drawers name at place = subst IsSome place.found (some_there drawers at place.within)

-- ---- how many are put

some_takes_one : {T : Type 0} (o : Option T) → is_some o ≡ true → places_taken o ≡ 1
some_takes_one None h = absurd (false≢true h)
some_takes_one (Some x) h = refl

none_takes_none : {T : Type 0} (o : Option T) → is_some o ≡ false → places_taken o ≡ 0
none_takes_none None h = refl
none_takes_none (Some x) h = absurd (true≢false h)

places_wanted-append : {T : Type 0} (front back : List (Change T)) → places_wanted (front ++ back) ≡ places_wanted front + places_wanted back
places_wanted-append [] back = omega arith
places_wanted-append (c ∷ front) back = let h = places_wanted-append front back in omega (arith, h)

shelf_changes_push : (front : List ShelfChange) (c : ShelfChange) → shelf_changes (front ++ c ∷ []) ≡ shelf_changes front ++ shelf_change c ∷ []
shelf_changes_push [] c = refl
shelf_changes_push (d ∷ front) c = ap (λ t. shelf_change d ∷ t) (shelf_changes_push front c)

-- one change more
pub shelves_put_next : (changes : List ShelfChange) (i : ℕ) (c : ShelfChange) → i < length changes → c ≡ get_or changes i c
    → places_wanted (shelf_changes (take (i + 1) changes)) ≡ places_wanted (shelf_changes (take i changes)) + places_taken c.after
shelves_put_next changes i c within is =
    let e = ap (λ l. places_wanted (shelf_changes l)) (front_to changes i c within is) ∙ ap places_wanted (shelf_changes_push (take i changes) c)
    ∙ places_wanted-append (shelf_changes (take i changes)) (shelf_change c ∷ []) in
    omega (arith, e)

pub recs_put_next : (changes : List RecChange) (name : List ℕ) (i : ℕ) (c : RecChange) → i < length changes → c ≡ get_or changes i c
    → places_wanted (rec_changes (take (i + 1) changes) name) ≡ places_wanted (rec_changes (take i changes) name) + places_wanted (rec_changes (c ∷ []) name)
recs_put_next changes name i c within is =
    ap (λ l. places_wanted (rec_changes l name)) (front_to changes i c within is) ∙ ap places_wanted (rec_changes-append (take i changes) (c ∷ []) name)
    ∙ places_wanted-append (rec_changes (take i changes) name) (rec_changes (c ∷ []) name)

pub put_here : (c : RecChange) (name : List ℕ) → bytes_eq c.collection name ≡ true → is_some c.after ≡ true → places_wanted (rec_changes (c ∷ []) name) ≡ 1
put_here c name e h =
    let k = some_takes_one c.after h in
    let p = ap places_wanted (rec_changes-one c name ∙ cond-true (bytes_eq c.collection name) (rec_change c ∷ []) [] e) in
    omega (arith, k, p)

pub cut_here : (c : RecChange) (name : List ℕ) → bytes_eq c.collection name ≡ true → is_some c.after ≡ false → places_wanted (rec_changes (c ∷ []) name) ≡ 0
cut_here c name e h =
    let k = none_takes_none c.after h in
    let p = ap places_wanted (rec_changes-one c name ∙ cond-true (bytes_eq c.collection name) (rec_change c ∷ []) [] e) in
    omega (arith, k, p)

pub put_elsewhere : (c : RecChange) (name : List ℕ) → bytes_eq c.collection name ≡ false → places_wanted (rec_changes (c ∷ []) name) ≡ 0
put_elsewhere c name e = ap places_wanted (rec_changes-one c name ∙ cond-false (bytes_eq c.collection name) (rec_change c ∷ []) [] e)

pub some_wanted : {T : Type 0} (o : Option T) (b : Bool) → b ≡ is_some o → b ≡ true → places_taken o ≡ 1
some_wanted o b e h = some_takes_one o (sym e ∙ h)

pub none_asked : {T : Type 0} (o : Option T) (b : Bool) → b ≡ is_some o → b ≡ false → places_taken o ≡ 0
none_asked o b e h = none_takes_none o (sym e ∙ h)

-- drawers that are there stay there
pub drawers_kept : (old new : List Drawer) (changes : List RecChange) → AreNoSmaller old new → HaveDrawers old changes → HaveDrawers new changes
drawers_kept old new changes h there = λ k d within some. h.names (get_or changes k d).collection (there k d within some)

pub drawers_next : (old new : List Drawer) (changes : List RecChange) (i : ℕ) (c : RecChange) → i < length changes → c ≡ get_or changes i c → AreNoSmaller old new
    → HaveDrawers old (take i changes) → (IsSome c.after → HasDrawer new c.collection) → HaveDrawers new (take (i + 1) changes)
drawers_next old new changes i c within is h there one =
    subst (λ l. HaveDrawers new l) (sym (front_to changes i c within is))
    (All-push (λ c. IsSome c.after → HasDrawer new c.collection) (take i changes) c (drawers_kept old new (take i changes) h there) one)

pub drawers_all : (drawers : List Drawer) (changes : List RecChange) (i : ℕ) → length changes ≤ i → HaveDrawers drawers (take i changes) → HaveDrawers drawers changes
drawers_all drawers changes i h there = subst (λ l. HaveDrawers drawers l) (take_all i changes h) there

pub read_alike : {T : Type 0} (xs : List T) (i : ℕ) (d e : T) → i < length xs → get_or xs i d ≡ get_or xs i e
read_alike [] i d e within = absurd (omega (arith, within))
read_alike (x ∷ xs) zero d e within = refl
read_alike (x ∷ xs) (suc i) d e within = read_alike xs i d e (omega (arith, within))
