-- Worlds that are looked into by name, the world after a delta, and the way back.
use Rattle.std.proofs.Common.{◌≡◌, ◌⊎◌, inl, inr, ℕ, List, [], ◌∷◌, Bool, true, false, refl, sym, ◌∙◌, ap, subst, map, filter, length, get_or, All, Option, Some, None, arith}
use Rattle.std.specs.Prelude.{cond, IfSome, IsTrue}
use Rattle.std.specs.Option.{option_map, option_map_or}
use Rattle.std.specs.Str.{bytes_eq}
use Rattle.std.proofs.lemmas.Bool.{cond-false}
use Rattle.std.proofs.lemmas.List.Elements.{All-head, All-tail, All-cons, All-nil, All-weaker, All-map}
use Rattle.pocket_types.specs.Order.{Rises}
use Rattle.pocket_types.proofs.OrderLemmas.{rises_first, rises_nil, rises_rest, rises_map}
use Rattle.pocket_types.specs.declared.records.Collection.{Collection}
use Rattle.pocket_types.specs.declared.records.Rec.{Rec}
use Rattle.pocket_types.specs.declared.world.Shelf.{Shelf}
use Rattle.pocket_types.specs.declared.world.World.{World}
use Rattle.pocket_types.specs.declared.deltas.Delta.{Delta}
use Rattle.pocket_types.specs.declared.deltas.RecChange.{RecChange}
use Rattle.pocket_types.specs.declared.deltas.ShelfChange.{ShelfChange}
use Rattle.pocket_tables.specs.Deltas.{FitsWorld, KeepsShape, collection_after, collections_after, inverse, rec_back, rec_change, rec_changes, recs_after, shelf_back, shelf_change, shelf_changes, world_after}
use Rattle.pocket_tables.specs.Keyed.{Change, change_to, is_touched, find_key, places_wanted, changes_back, put_all}
use Rattle.pocket_tables.specs.Kept.{HasPlaces, Rooms}
use Rattle.pocket_types.specs.Within.{collections_of}
use Rattle.pocket_ops.specs.Lengths.{HasOwnNames}
use Rattle.pocket_tables.specs.Worlds.{MayStand, HasShape, IsTabled, IsTabledShelf, collection_at, id_of, name_of, rec_at, recs_at, shelf_name}
use Rattle.pocket_tables.proofs.KeyLemmas.{differs_below, first_found, found_holds, key_same}
use Rattle.pocket_tables.proofs.ChangeLemmas.{BearKeys, all-put_all, places_balance, rises-put_all, put_all-changes_back}

-- ---- worlds of collections, each with the records that a function gives for its name

abbrev pub shelf_by : (List ℕ → List Rec) → Collection → Shelf
shelf_by f c = record { collection = c; recs = f c.name }

abbrev pub world_by : (List ℕ → List Rec) → List Collection → World
world_by f cs = record { shelves = map (shelf_by f) cs }

pub world_by-same : (f g : List ℕ → List Rec) → ((name : List ℕ) → f name ≡ g name) → (cs : List Collection) → world_by f cs ≡ world_by g cs
world_by-same f g e cs = λ i. record { shelves = map (λ c. shelf_by (λ n. e n i) c) cs }

pub collections_by : (f : List ℕ → List Rec) (cs : List Collection) → collections_of (world_by f cs) ≡ cs
collections_by f [] = refl
collections_by f (c ∷ cs) = ap (λ t. c ∷ t) (collections_by f cs)

recs_found : (f : List ℕ → List Rec) (cs : List Collection) (name : List ℕ) → recs_at (world_by f cs) name ≡ option_map_or (λ c. f name) (find_key name_of name cs) []
recs_found f [] name = refl
recs_found f (c ∷ cs) name = by (bytes_eq c.name name) refl (recs_found f cs name)
  where
    by : (b : Bool) → bytes_eq c.name name ≡ b
        → recs_at (world_by f cs) name ≡ option_map_or (λ c. f name) (find_key name_of name cs) []
        → option_map_or (λ s. s.recs) (cond b (Some (shelf_by f c)) (find_key shelf_name name (world_by f cs).shelves)) []
        ≡ option_map_or (λ c. f name) (cond b (Some c) (find_key name_of name cs)) []
    by true e rest = ap f (key_same c.name name e)
    by false e rest = rest

pub recs_by : (f : List ℕ → List Rec) (cs : List Collection) → ((name : List ℕ) → find_key name_of name cs ≡ None → f name ≡ [])
    → (name : List ℕ) → recs_at (world_by f cs) name ≡ f name
recs_by f cs gone name = recs_found f cs name ∙ by (find_key name_of name cs) refl
  where
    by : (o : Option Collection) → find_key name_of name cs ≡ o → option_map_or (λ c. f name) o [] ≡ f name
    by None e = sym (gone name e)
    by (Some c) e = refl

pub names_by : (f : List ℕ → List Rec) (cs : List Collection) → Rises name_of cs → Rises shelf_name (world_by f cs).shelves
names_by f cs rising = rises_map name_of shelf_name (shelf_by f) (λ x y b. b) cs rising

pub names_of_collections : (w : World) → Rises shelf_name w.shelves → Rises name_of (collections_of w)
names_of_collections w rising = rises_map shelf_name name_of (λ s. s.collection) (λ x y b. b) w.shelves rising

-- in a list that rises each item is found by its key
pub each_found : {T : Type 0} (key : T → List ℕ) (xs : List T) → Rises key xs → All (λ x. find_key key (key x) xs ≡ Some x) xs
each_found key [] rising = All-nil (λ x. find_key key (key x) [] ≡ Some x)
each_found key (x ∷ xs) rising =
    All-cons (λ y. find_key key (key y) (x ∷ xs) ≡ Some y) x xs (first_found key x xs)
    (λ i d within. cond-false (bytes_eq (key x) (key (get_or xs i d))) (Some x) (find_key key (key (get_or xs i d)) xs) (differs_below (key x) (key (get_or xs i d)) (rises_first key x xs rising i d within))
    ∙ each_found key xs (rises_rest key x xs rising) i d within)

shelves_by-themselves : (f : List ℕ → List Rec) (ss : List Shelf) → All (λ s. f s.collection.name ≡ s.recs) ss
    → map (shelf_by f) (map (λ s. s.collection) ss) ≡ ss
shelves_by-themselves f [] h = refl
shelves_by-themselves f (s ∷ ss) h =
    let first : f s.collection.name ≡ s.recs = All-head (λ s. f s.collection.name ≡ s.recs) s ss h in
    let rest = shelves_by-themselves f ss (All-tail (λ s. f s.collection.name ≡ s.recs) s ss h) in
    λ i. record { collection = s.collection; recs = first i } ∷ rest i

pub world_by-itself : (w : World) → Rises shelf_name w.shelves → world_by (recs_at w) (collections_of w) ≡ w
world_by-itself w rising =
    let whole = shelves_by-themselves (recs_at w) w.shelves
    (All-weaker (λ s. find_key shelf_name (shelf_name s) w.shelves ≡ Some s) (λ s. recs_at w s.collection.name ≡ s.recs)
    (λ s e. ap (λ o. option_map_or (λ s. s.recs) o []) e) w.shelves (each_found shelf_name w.shelves rising)) in
    λ i. record { shelves = whole i }

-- the collection of a name is that of the shelf of the name
pub collection_found : (ss : List Shelf) (name : List ℕ) → find_key name_of name (map (λ s. s.collection) ss) ≡ option_map (λ s. s.collection) (find_key shelf_name name ss)
collection_found [] name = refl
collection_found (s ∷ ss) name = by (bytes_eq s.collection.name name) (collection_found ss name)
  where
    by : (b : Bool) → find_key name_of name (map (λ s. s.collection) ss) ≡ option_map (λ s. s.collection) (find_key shelf_name name ss)
        → cond b (Some s.collection) (find_key name_of name (map (λ s. s.collection) ss)) ≡ option_map (λ s. s.collection) (cond b (Some s) (find_key shelf_name name ss))
    by true e = refl
    by false e = e

-- ---- worlds in tables, by name

-- what holds of a world in tables, as look-ups by name see it
pub record IsOrdered (w : World) : Type 0 where
  pub names : Rises shelf_name w.shelves
  pub ids : (name : List ℕ) → Rises id_of (recs_at w name)
  pub shapes : (name : List ℕ) → All (MayStand (collection_at w name)) (recs_at w name)
  pub own : All HasOwnNames (collections_of w)

pub ordered_from : (w : World) → IsTabled w → IsOrdered w
ordered_from w h = record {
  names = h.names;
  ids = λ name. by_ids (find_key shelf_name name w.shelves) (found_holds shelf_name IsTabledShelf name w.shelves h.shelves);
  shapes = λ name. subst (λ o. All (MayStand o) (recs_at w name)) (sym (collection_found w.shelves name))
      (by_shapes (find_key shelf_name name w.shelves) (found_holds shelf_name IsTabledShelf name w.shelves h.shelves));
  own = All-map HasOwnNames (λ s. s.collection) w.shelves (All-weaker IsTabledShelf (λ s. HasOwnNames s.collection) (λ s t. t.own) w.shelves h.shelves);
}
  where
    by_ids : (o : Option Shelf) → IfSome o IsTabledShelf → Rises id_of (option_map_or (λ s. s.recs) o [])
    by_ids None t = rises_nil id_of
    by_ids (Some s) t = t.ids

    by_shapes : (o : Option Shelf) → IfSome o IsTabledShelf → All (MayStand (option_map (λ s. s.collection) o)) (option_map_or (λ s. s.recs) o [])
    by_shapes None t = All-nil (MayStand None)
    by_shapes (Some s) t = t.shapes

pub tabled_from : (w : World) → IsOrdered w → IsTabled w
tabled_from w h = record {
  names = h.names;
  shelves = λ i d within.
      let s = get_or w.shelves i d in
      let there = each_found shelf_name w.shelves h.names i d within in
      let recs : recs_at w s.collection.name ≡ s.recs = ap (λ o. option_map_or (λ s. s.recs) o []) there in
      let at : collection_at w s.collection.name ≡ Some s.collection = collection_found w.shelves s.collection.name ∙ ap (option_map (λ s. s.collection)) there in
      record {
        ids = subst (λ l. Rises id_of l) recs (h.ids s.collection.name);
        shapes = subst (λ o. All (MayStand o) s.recs) at (subst (λ l. All (MayStand (collection_at w s.collection.name)) l) recs (h.shapes s.collection.name));
        own = own_at w.shelves h.own i d within;
      };
}
  where
    own_at : (ss : List Shelf) → All HasOwnNames (map (λ s. s.collection) ss) → All (λ s. HasOwnNames s.collection) ss
    own_at [] h = All-nil (λ s. HasOwnNames s.collection)
    own_at (s ∷ ss) h =
        All-cons (λ s. HasOwnNames s.collection) s ss (All-head HasOwnNames s.collection (map (λ s. s.collection) ss) h)
        (own_at ss (All-tail HasOwnNames s.collection (map (λ s. s.collection) ss) h))

-- ---- the changes of a name

pub shelves_bear_keys : (changes : List ShelfChange) → All (λ c. IfSome c.after (λ k. k.name ≡ c.name)) changes → BearKeys name_of (shelf_changes changes)
shelves_bear_keys changes h = All-map (λ c. IfSome c.1 (λ x. name_of x ≡ c.0)) shelf_change changes h

-- what holds of all changes of records holds of those of a name
pub rec_changes-all : (P : List ℕ → Change Rec → Type 0) (changes : List RecChange) → All (λ c. P c.collection (c.id, c.after)) changes
    → (name : List ℕ) → All (P name) (rec_changes changes name)
rec_changes-all P [] h name = All-nil (P name)
rec_changes-all P (c ∷ changes) h name = by (bytes_eq c.collection name) refl (rec_changes-all P changes (All-tail (λ c. P c.collection (c.id, c.after)) c changes h) name)
  where
    by : (b : Bool) → bytes_eq c.collection name ≡ b → All (P name) (rec_changes changes name)
        → All (P name) (map rec_change (cond b (c ∷ filter (λ c. bytes_eq c.collection name) changes) (filter (λ c. bytes_eq c.collection name) changes)))
    by true e rest =
        All-cons (P name) (c.id, c.after) (rec_changes changes name)
        (subst (λ n. P n (c.id, c.after)) (key_same c.collection name e) (All-head (λ c. P c.collection (c.id, c.after)) c changes h)) rest
    by false e rest = rest

pub recs_bear_keys : (changes : List RecChange) → All (λ c. IfSome c.after (λ r. r.id ≡ c.id)) changes → (name : List ℕ) → BearKeys id_of (rec_changes changes name)
recs_bear_keys changes h name = rec_changes-all (λ n c. IfSome c.1 (λ x. id_of x ≡ c.0)) changes h name

-- the changes of a name, where a function says what each of them leads to
pub rec_changes-map : (f : List ℕ → List ℕ → Option Rec) (changes : List RecChange) (name : List ℕ)
    → rec_changes (map (rec_back f) changes) name ≡ map (change_to (f name)) (rec_changes changes name)
rec_changes-map f [] name = refl
rec_changes-map f (c ∷ changes) name = by (bytes_eq c.collection name) refl (rec_changes-map f changes name)
  where
    others : List RecChange
    others = filter (λ c. bytes_eq c.collection name) (map (rec_back f) changes)

    by : (b : Bool) → bytes_eq c.collection name ≡ b
        → map rec_change others ≡ map (change_to (f name)) (rec_changes changes name)
        → map rec_change (cond b (rec_back f c ∷ others) others)
        ≡ map (change_to (f name)) (map rec_change (cond b (c ∷ filter (λ c. bytes_eq c.collection name) changes) (filter (λ c. bytes_eq c.collection name) changes)))
    by true e rest = let first : f c.collection c.id ≡ f name c.id = ap (λ n. f n c.id) (key_same c.collection name e) in λ i. (c.id, first i) ∷ rest i
    by false e rest = rest

pub shelf_changes-map : (f : List ℕ → Option Collection) (changes : List ShelfChange)
    → shelf_changes (map (shelf_back f) changes) ≡ map (change_to f) (shelf_changes changes)
shelf_changes-map f [] = refl
shelf_changes-map f (c ∷ changes) = ap (λ t. (c.name, f c.name) ∷ t) (shelf_changes-map f changes)

-- ---- the world after a delta

pub none_may_stand : (recs : List Rec) → All (λ r. ⊥) recs → recs ≡ []
none_may_stand [] h = refl
none_may_stand (r ∷ recs) h = absurd (All-head (λ r. ⊥) r recs h)

stands_in_shape : (before after : Option Collection) → KeepsShape before after → (r : Rec) → MayStand before r → MayStand after r
stands_in_shape None after keeps r stands = absurd stands
stands_in_shape (Some b) None keeps r stands = absurd keeps
stands_in_shape (Some b) (Some a) keeps r stands = subst (λ forms. HasShape forms r) keeps stands

pub unfolding_world_after : (d : Delta) (w : World) → world_after d w ≡ world_by (recs_after d w) (collections_after d w)
unfolding world_after
unfolding_world_after d w = refl

module _ (d : Delta) (w : World) (ordered : IsOrdered w) (fits : FitsWorld d w) where
  pub delta_shelves_bear_keys : BearKeys name_of (shelf_changes d.shelves)
  delta_shelves_bear_keys = shelves_bear_keys d.shelves fits.named

  pub delta_recs_bear_keys : (name : List ℕ) → BearKeys id_of (rec_changes d.recs name)
  delta_recs_bear_keys name = recs_bear_keys d.recs fits.numbered name

  pub names_before : Rises name_of (collections_of w)
  names_before = names_of_collections w ordered.names

  pub names_after : Rises name_of (collections_after d w)
  names_after = rises-put_all name_of (shelf_changes d.shelves) (collections_of w) names_before delta_shelves_bear_keys

  shapes_after : (name : List ℕ) → All (MayStand (collection_after d w name)) (recs_after d w name)
  shapes_after name =
      all-put_all id_of (MayStand (collection_after d w name)) (rec_changes d.recs name) (recs_at w name)
      (rec_changes-all (λ n c. IfSome c.1 (MayStand (collection_after d w n))) d.recs fits.shaped name)
      (elim (fits.covered name) [
        | inl keeps ↦ All-weaker (MayStand (collection_at w name)) (λ r. IsTrue (is_touched r.id (rec_changes d.recs name)) ⊎ MayStand (collection_after d w name) r)
            (λ r stands. inr (stands_in_shape (collection_at w name) (collection_after d w name) keeps r stands)) (recs_at w name) (ordered.shapes name)
        | inr all ↦ All-weaker (λ r. IsTrue (is_touched r.id (rec_changes d.recs name))) (λ r. IsTrue (is_touched r.id (rec_changes d.recs name)) ⊎ MayStand (collection_after d w name) r)
            (λ r changed. inl changed) (recs_at w name) all
      ])

  pub gone_after : (name : List ℕ) → collection_after d w name ≡ None → recs_after d w name ≡ []
  gone_after name e = none_may_stand (recs_after d w name) (subst (λ o. All (MayStand o) (recs_after d w name)) e (shapes_after name))

  pub collections_then : collections_of (world_after d w) ≡ collections_after d w
  collections_then = ap collections_of (unfolding_world_after d w) ∙ collections_by (recs_after d w) (collections_after d w)

  pub recs_then : (name : List ℕ) → recs_at (world_after d w) name ≡ recs_after d w name
  recs_then name = ap (λ v. recs_at v name) (unfolding_world_after d w) ∙ recs_by (recs_after d w) (collections_after d w) gone_after name

  pub ids_after : (name : List ℕ) → Rises id_of (recs_after d w name)
  ids_after name = rises-put_all id_of (rec_changes d.recs name) (recs_at w name) (ordered.ids name) (delta_recs_bear_keys name)

  own_after : All HasOwnNames (collections_after d w)
  own_after =
      all-put_all name_of HasOwnNames (shelf_changes d.shelves) (collections_of w)
      (All-map (λ c. IfSome c.1 HasOwnNames) shelf_change d.shelves fits.own)
      (All-weaker HasOwnNames (λ c. IsTrue (is_touched c.name (shelf_changes d.shelves)) ⊎ HasOwnNames c) (λ c own. inr own) (collections_of w) ordered.own)

  pub ordered_after : IsOrdered (world_after d w)
  ordered_after = record {
    names = subst (λ v. Rises shelf_name v.shelves) (sym (unfolding_world_after d w)) (names_by (recs_after d w) (collections_after d w) names_after);
    ids = λ name. subst (λ l. Rises id_of l) (sym (recs_then name)) (ids_after name);
    shapes = λ name. subst (λ l. All (MayStand (find_key name_of name l)) (recs_at (world_after d w) name)) (sym collections_then)
        (subst (λ l. All (MayStand (collection_after d w name)) l) (sym (recs_then name)) (shapes_after name));
    own = subst (All HasOwnNames) (sym collections_then) own_after;
  }

  -- ---- the way back

  pub shelf_changes_back : shelf_changes (inverse d w).shelves ≡ changes_back name_of (collections_of w) (shelf_changes d.shelves)
  unfolding inverse
  shelf_changes_back = shelf_changes-map (λ name. collection_at w name) d.shelves

  pub rec_changes_back : (name : List ℕ) → rec_changes (inverse d w).recs name ≡ changes_back id_of (recs_at w name) (rec_changes d.recs name)
  unfolding inverse
  rec_changes_back name = rec_changes-map (λ n id. rec_at w n id) d.recs name

  pub collections_back : collections_after (inverse d w) (world_after d w) ≡ collections_of w
  collections_back =
      ap (λ changes. put_all name_of changes (collections_of (world_after d w))) shelf_changes_back
      ∙ ap (put_all name_of (changes_back name_of (collections_of w) (shelf_changes d.shelves))) collections_then
      ∙ put_all-changes_back name_of (shelf_changes d.shelves) (collections_of w) names_before delta_shelves_bear_keys

  recs_back : (name : List ℕ) → recs_after (inverse d w) (world_after d w) name ≡ recs_at w name
  recs_back name =
      ap (λ changes. put_all id_of changes (recs_at (world_after d w) name)) (rec_changes_back name)
      ∙ ap (put_all id_of (changes_back id_of (recs_at w name) (rec_changes d.recs name))) (recs_then name)
      ∙ put_all-changes_back id_of (rec_changes d.recs name) (recs_at w name) (ordered.ids name) (delta_recs_bear_keys name)

  pub leads_back : world_after (inverse d w) (world_after d w) ≡ w
  leads_back =
      unfolding_world_after (inverse d w) (world_after d w)
      ∙ world_by-same (recs_after (inverse d w) (world_after d w)) (recs_at w) recs_back (collections_after (inverse d w) (world_after d w))
      ∙ ap (world_by (recs_at w)) collections_back
      ∙ world_by-itself w ordered.names

  -- ---- the places that serve a delta serve its inverse

  pub places_back : (rooms : Rooms) → HasPlaces w rooms d → HasPlaces (world_after d w) rooms (inverse d w)
  places_back rooms has =
      let shelves = places_balance name_of (shelf_changes d.shelves) (collections_of w) names_before delta_shelves_bear_keys fits.names in
      let shelf_length = ap length collections_then in
      let shelf_places = ap places_wanted shelf_changes_back in
      let enough = has.collections in
      record {
        collections = omega (arith, shelves, shelf_length, shelf_places, enough);
        records = λ name.
            let recs = places_balance id_of (rec_changes d.recs name) (recs_at w name) (ordered.ids name) (delta_recs_bear_keys name) (fits.ids name) in
            let rec_length = ap length (recs_then name) in
            let rec_places = ap places_wanted (rec_changes_back name) in
            let enough = has.records name in
            omega (arith, recs, rec_length, rec_places, enough);
      }
