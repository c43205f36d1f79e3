-- The laws of deltas, of look-ups, of the next record and of shapes.
use Rattle.std.proofs.Common.{◌≡◌, ◌⊎◌, inl, inr, ℕ, suc, arith, Some, None, List, [], ◌∷◌, Bool, true, false, refl, sym, ◌∙◌, ap, subst, map, filter, All, Option}
use Rattle.std.specs.Prelude.{cond, IfSome, IsTrue, MatchOption, ◌||◌}
use Rattle.std.specs.List.{AllZip}
use Rattle.std.specs.Str.{bytes_eq}
use Rattle.std.proofs.lemmas.Bool.{cond-true, cond-false, false≢true, or_from}
use Rattle.std.proofs.lemmas.List.Elements.{All-cons, All-head, All-nil, All-tail, All-weaker}
use Rattle.pocket_types.specs.Kinds.{is_multiple}
use Rattle.pocket_types.specs.Order.{IsBefore, Rises}
use Rattle.pocket_types.specs.Sound.{AllFit, Fits, IsSoundRec}
use Rattle.pocket_types.specs.Within.{collections_of}
use Rattle.pocket_types.specs.World.{rec_of}
use Rattle.pocket_types.specs.declared.deltas.Delta.{Delta}
use Rattle.pocket_types.specs.declared.deltas.RecChange.{RecChange}
use Rattle.pocket_types.specs.declared.deltas.ShelfChange.{ShelfChange}
use Rattle.pocket_types.specs.declared.ids.Id.{Id}
use Rattle.pocket_types.specs.declared.records.Cell.{Cell}
use Rattle.pocket_types.specs.declared.records.Cell.TheVariants as cell
use Rattle.pocket_types.specs.declared.records.Collection.{Collection}
use Rattle.pocket_types.specs.declared.records.Field.{Field}
use Rattle.pocket_types.specs.declared.records.Kind.{Kind}
use Rattle.pocket_types.specs.declared.records.Kind.TheVariants as kind
use Rattle.pocket_types.specs.declared.records.Rec.{Rec}
use Rattle.pocket_types.specs.declared.world.World.{World}
use Rattle.pocket_types.proofs.OrderLemmas.{rises_first, rises_rest}
use Rattle.pocket_ops.specs.Lengths.{HasOwnNames}
use Rattle.pocket_ops.proofs.LengthLemmas.{sound_own_names}
use Rattle.pocket_tables.specs.Deltas.{FitsWorld, KeepsShape, collection_after, rec_change, rec_changes, shelf_changes, world_after}
use Rattle.pocket_tables.specs.Keyed.{AtDistinctKeys, Change, find_key, is_touched, put_all, put_at}
use Rattle.pocket_tables.specs.Laws.{ChangesCollection, ChangesRecords, HasSoundParts, IsChangeOf, IsLeastAbove, IsMadeAtOnce, after_changes}
use Rattle.pocket_tables.specs.Reads.{first_above, is_above}
use Rattle.pocket_tables.specs.Worlds.{HasShape, IsTabled, IsTabledShelf, MayStand, Suits, collection_at, id_of, name_of, rec_at, recs_at, shape_of, shapes_of, shelf_name, type_of_kind}
use Rattle.pocket_tables.proofs.ChangeLemmas.{BearKeys, find_key-untouched}
use Rattle.pocket_tables.proofs.KeyLemmas.{differs_above, find_key-put_at, key_same, key_true, look_ups_tell}
use Rattle.pocket_tables.proofs.WorldLemmas.{IsOrdered, collections_then, world_by, world_by-same, names_of_collections, ordered_after, delta_recs_bear_keys, recs_then, world_by-itself, delta_shelves_bear_keys, tabled_from}

-- ---- deltas

module _ {T : Type 0} (key : T → List ℕ) where
  find_key-after : (j : List ℕ) (changes : List (Change T)) (xs : List T) → BearKeys key changes → AtDistinctKeys changes
      → find_key key j (put_all key changes xs) ≡ after_changes j changes (find_key key j xs)
  find_key-after j [] xs named distinct = refl
  find_key-after j (c ∷ changes) xs named distinct = by (bytes_eq c.0 j) refl (find_key-after j changes (put_at key c.0 c.1 xs) tail distinct.1)
    where
      head : IfSome c.1 (λ x. key x ≡ c.0)
      head = All-head (λ c. IfSome c.1 (λ x. key x ≡ c.0)) c changes named

      tail : BearKeys key changes
      tail = All-tail (λ c. IfSome c.1 (λ x. key x ≡ c.0)) c changes named

      one : find_key key j (put_at key c.0 c.1 xs) ≡ cond (bytes_eq c.0 j) c.1 (find_key key j xs)
      one = find_key-put_at key j c.0 c.1 xs head

      by : (b : Bool) → bytes_eq c.0 j ≡ b
          → find_key key j (put_all key changes (put_at key c.0 c.1 xs)) ≡ after_changes j changes (find_key key j (put_at key c.0 c.1 xs))
          → find_key key j (put_all key changes (put_at key c.0 c.1 xs)) ≡ cond b c.1 (after_changes j changes (find_key key j xs))
      by true e rest =
          find_key-untouched key j changes (put_at key c.0 c.1 xs) tail (subst (λ k. is_touched k changes ≡ false) (key_same c.0 j e) distinct.0)
          ∙ one ∙ cond-true (bytes_eq c.0 j) c.1 (find_key key j xs) e
      by false e rest =
          rest
          ∙ ap (after_changes j changes) (one ∙ cond-false (bytes_eq c.0 j) c.1 (find_key key j xs) e)

pub at_once : (d : Delta) (w : World) → IsOrdered w → FitsWorld d w → IsMadeAtOnce d w
at_once d w ordered fits = record {
  tabled = tabled_from (world_after d w) (ordered_after d w ordered fits);
  collections = λ name.
      ap (find_key name_of name) (collections_then d w ordered fits)
      ∙ find_key-after name_of name (shelf_changes d.shelves) (collections_of w) (delta_shelves_bear_keys d w ordered fits) fits.names;
  recs = λ name id.
      ap (rec_of id) (recs_then d w ordered fits name)
      ∙ find_key-after id_of id (rec_changes d.recs name) (recs_at w name) (delta_recs_bear_keys d w ordered fits name) (fits.ids name);
}

keeps_itself : (o : Option Collection) → KeepsShape o o
keeps_itself None = tt
keeps_itself (Some c) = refl

pub records_fit : (d : Delta) (w : World) → ChangesRecords d w → FitsWorld d w
records_fit d w h = record {
  names = subst (λ l. AtDistinctKeys (shelf_changes l)) (sym h.shelves) tt;
  ids = h.ids;
  named = subst (λ l. All (λ c. IfSome c.after (λ k. k.name ≡ c.name)) l) (sym h.shelves) (All-nil (λ c. IfSome c.after (λ k. k.name ≡ c.name)));
  numbered = h.numbered;
  own = subst (λ l. All (λ c. IfSome c.after HasOwnNames) l) (sym h.shelves) (All-nil (λ c. IfSome c.after HasOwnNames));
  shaped = All-weaker (λ c. IfSome c.after (MayStand (collection_at w c.collection))) (λ c. IfSome c.after (MayStand (collection_after d w c.collection)))
      (λ c stands. subst (λ o. IfSome c.after (MayStand o)) (sym (same c.collection)) stands) d.recs h.shaped;
  covered = λ name. inl (subst (KeepsShape (collection_at w name)) (sym (same name)) (keeps_itself (collection_at w name)));
}
  where
    same : (name : List ℕ) → collection_after d w name ≡ collection_at w name
    same name = ap (λ l. find_key name_of name (put_all name_of (shelf_changes l) (collections_of w))) h.shelves

-- ---- a collection that is put or cut

-- a change of a record that stands later isn't at the key
not_touched_later : (name : List ℕ) (after : Option Collection) (k : List ℕ) (recs : List Rec) (changes : List RecChange) → All (λ r. IsBefore k r.id) recs
    → AllZip (IsChangeOf name after) recs changes → (n : List ℕ) → is_touched k (rec_changes changes n) ≡ false
not_touched_later name after k [] [] later h n = refl
not_touched_later name after k [] (c ∷ changes) later h n = absurd h
not_touched_later name after k (r ∷ recs) [] later h n = absurd h
not_touched_later name after k (r ∷ recs) (c ∷ changes) later h n =
    by (bytes_eq c.collection n) (not_touched_later name after k recs changes (All-tail (λ r. IsBefore k r.id) r recs later) h.1 n)
  where
    differs : bytes_eq c.id k ≡ false
    differs = subst (λ i. bytes_eq i k ≡ false) (sym h.0.id) (differs_above r.id k (All-head (λ r. IsBefore k r.id) r recs later))

    by : (b : Bool) → is_touched k (rec_changes changes n) ≡ false
        → is_touched k (map rec_change (cond b (c ∷ filter (λ c. bytes_eq c.collection n) changes) (filter (λ c. bytes_eq c.collection n) changes))) ≡ false
    by true rest = or_from (bytes_eq c.id k) (is_touched k (rec_changes changes n)) differs rest
    by false rest = rest

-- changes of records that rise by id are at distinct keys
changes_of_each : (name : List ℕ) (after : Option Collection) (recs : List Rec) (changes : List RecChange) → Rises id_of recs
    → AllZip (IsChangeOf name after) recs changes → (n : List ℕ) → AtDistinctKeys (rec_changes changes n)
changes_of_each name after [] [] rising h n = tt
changes_of_each name after [] (c ∷ changes) rising h n = absurd h
changes_of_each name after (r ∷ recs) [] rising h n = absurd h
changes_of_each name after (r ∷ recs) (c ∷ changes) rising h n =
    by (bytes_eq c.collection n) (changes_of_each name after recs changes (rises_rest id_of r recs rising) h.1 n)
  where
    alone : is_touched c.id (rec_changes changes n) ≡ false
    alone = subst (λ i. is_touched i (rec_changes changes n) ≡ false) (sym h.0.id) (not_touched_later name after r.id recs changes (rises_first id_of r recs rising) h.1 n)

    by : (b : Bool) → AtDistinctKeys (rec_changes changes n)
        → AtDistinctKeys (map rec_change (cond b (c ∷ filter (λ c. bytes_eq c.collection n) changes) (filter (λ c. bytes_eq c.collection n) changes)))
    by true rest = (alone, rest)
    by false rest = rest

-- what is put for a record bears its id
numbered_as_before : (name : List ℕ) (after : Option Collection) (r : Rec) (c : RecChange) → IsChangeOf name after r c → IfSome c.after (λ s. s.id ≡ c.id)
numbered_as_before name after r c is = by c.after is.after
  where
    by : (o : Option Rec) → IfSome o (λ s. (s.id ≡ r.id) × MayStand after s) → IfSome o (λ s. s.id ≡ c.id)
    by None h = tt
    by (Some s) h = h.0 ∙ sym is.id

-- and may stand where its collection does afterwards
stands_afterwards : (name : List ℕ) (after : Option Collection) (at : List ℕ → Option Collection) → at name ≡ after → (r : Rec) (c : RecChange) → IsChangeOf name after r c
    → IfSome c.after (MayStand (at c.collection))
stands_afterwards name after at same r c is = by c.after is.after
  where
    there : after ≡ at c.collection
    there = sym same ∙ ap at (sym is.collection)

    by : (o : Option Rec) → IfSome o (λ s. (s.id ≡ r.id) × MayStand after s) → IfSome o (MayStand (at c.collection))
    by None h = tt
    by (Some s) h = subst (λ o. MayStand o s) there h.1

-- what holds of each change of a record holds of all
each_change : (P : RecChange → Type 0) (name : List ℕ) (after : Option Collection) (recs : List Rec) (changes : List RecChange)
    → ((r : Rec) (c : RecChange) → IsChangeOf name after r c → P c) → AllZip (IsChangeOf name after) recs changes → All P changes
each_change P name after [] [] gives h = All-nil P
each_change P name after [] (c ∷ changes) gives h = absurd h
each_change P name after (r ∷ recs) [] gives h = absurd h
each_change P name after (r ∷ recs) (c ∷ changes) gives h = All-cons P c changes (gives r c h.0) (each_change P name after recs changes gives h.1)

-- each record stands in the changes
each_is_touched : (name : List ℕ) (after : Option Collection) (recs : List Rec) (changes : List RecChange) → AllZip (IsChangeOf name after) recs changes
    → All (λ r. IsTrue (is_touched r.id (rec_changes changes name))) recs
each_is_touched name after [] changes h = All-nil (λ r. IsTrue (is_touched r.id (rec_changes changes name)))
each_is_touched name after (r ∷ recs) [] h = absurd h
each_is_touched name after (r ∷ recs) (c ∷ changes) h =
    subst (λ l. All (λ r. IsTrue (is_touched r.id l)) (r ∷ recs)) (sym first)
    (All-cons (λ r. IsTrue (is_touched r.id ((c.id, c.after) ∷ rec_changes changes name))) r recs
    (ap (λ b. b || is_touched r.id (rec_changes changes name)) (key_true c.id r.id h.0.id))
    (All-weaker (λ r. IsTrue (is_touched r.id (rec_changes changes name))) (λ r. IsTrue (is_touched r.id ((c.id, c.after) ∷ rec_changes changes name)))
    (λ s t. ap (λ b. bytes_eq c.id s.id || b) t ∙ or_true (bytes_eq c.id s.id)) recs (each_is_touched name after recs changes h.1)))
  where
    or_true : (b : Bool) → (b || true) ≡ true
    or_true true = refl
    or_true false = refl

    first : rec_changes (c ∷ changes) name ≡ (c.id, c.after) ∷ rec_changes changes name
    first = ap (map rec_change) (cond-true (bytes_eq c.collection name) (c ∷ filter (λ c. bytes_eq c.collection name) changes) (filter (λ c. bytes_eq c.collection name) changes) (key_true c.collection name h.0.collection))

module _ (name : List ℕ) (after : Option Collection) (d : Delta) (w : World) (ids : (n : List ℕ) → Rises id_of (recs_at w n)) (h : ChangesCollection name after d w) where
  abbrev only : ShelfChange
  only = record { name = name; after = after }

  put_by_it : (n : List ℕ) → collection_after d w n ≡ cond (bytes_eq name n) after (collection_at w n)
  put_by_it n =
      ap (λ l. find_key name_of n (put_all name_of (shelf_changes l) (collections_of w))) h.shelves
      ∙ find_key-put_at name_of n name after (collections_of w) h.named

  there_after : collection_after d w name ≡ after
  there_after = put_by_it name ∙ cond-true (bytes_eq name name) after (collection_at w name) (key_true name name refl)

  one_shelf : (P : ShelfChange → Type 0) → P only → All P d.shelves
  one_shelf P p = subst (All P) (sym h.shelves) (All-cons P only [] p (All-nil P))

  changes_each : (P : RecChange → Type 0) → ((r : Rec) (c : RecChange) → IsChangeOf name after r c → P c) → All P d.recs
  changes_each P gives = elim h.recs [
    | inl none ↦ subst (All P) (sym none.1) (All-nil P)
    | inr each ↦ each_change P name after (recs_at w name) d.recs gives each
  ]

  distinct_ids : (n : List ℕ) → AtDistinctKeys (rec_changes d.recs n)
  distinct_ids n = elim h.recs [
    | inl none ↦ subst (λ l. AtDistinctKeys (rec_changes l n)) (sym none.1) tt
    | inr each ↦ changes_of_each name after (recs_at w name) d.recs (ids name) each n
  ]

  covered_by_it : (n : List ℕ) → KeepsShape (collection_at w n) (collection_after d w n) ⊎ All (λ r. IsTrue (is_touched r.id (rec_changes d.recs n))) (recs_at w n)
  covered_by_it n = by (bytes_eq name n) refl
    where
      here : KeepsShape (collection_at w name) (collection_after d w name) ⊎ All (λ r. IsTrue (is_touched r.id (rec_changes d.recs name))) (recs_at w name)
      here = elim h.recs [
        | inl none ↦ inl (subst (KeepsShape (collection_at w name)) (sym there_after) none.0)
        | inr each ↦ inr (each_is_touched name after (recs_at w name) d.recs each)
      ]

      by : (b : Bool) → bytes_eq name n ≡ b → KeepsShape (collection_at w n) (collection_after d w n) ⊎ All (λ r. IsTrue (is_touched r.id (rec_changes d.recs n))) (recs_at w n)
      by true e = subst (λ m. KeepsShape (collection_at w m) (collection_after d w m) ⊎ All (λ r. IsTrue (is_touched r.id (rec_changes d.recs m))) (recs_at w m)) (key_same name n e) here
      by false e = inl (subst (KeepsShape (collection_at w n)) (sym (put_by_it n ∙ cond-false (bytes_eq name n) after (collection_at w n) e)) (keeps_itself (collection_at w n)))

  pub collection_fits : FitsWorld d w
  collection_fits = record {
    names = subst (λ l. AtDistinctKeys (shelf_changes l)) (sym h.shelves) (refl, tt);
    ids = distinct_ids;
    named = one_shelf (λ c. IfSome c.after (λ k. k.name ≡ c.name)) h.named;
    numbered = changes_each (λ c. IfSome c.after (λ r. r.id ≡ c.id)) (numbered_as_before name after);
    own = one_shelf (λ c. IfSome c.after HasOwnNames) h.own;
    shaped = changes_each (λ c. IfSome c.after (MayStand (collection_after d w c.collection))) (stands_afterwards name after (collection_after d w) there_after);
    covered = covered_by_it;
  }

-- ---- look-ups

pub same_world : (v w : World) → IsOrdered v → IsOrdered w → ((name : List ℕ) → collection_at v name ≡ collection_at w name)
    → ((name id : List ℕ) → rec_at v name id ≡ rec_at w name id) → v ≡ w
same_world v w tv tw cs rs =
    let collections : collections_of v ≡ collections_of w = look_ups_tell name_of (collections_of v) (collections_of w) (names_of_collections v tv.names) (names_of_collections w tw.names) cs in
    sym (world_by-itself v tv.names)
    ∙ world_by-same (recs_at v) (recs_at w) (λ name. look_ups_tell id_of (recs_at v name) (recs_at w name) (tv.ids name) (tw.ids name) (rs name)) (collections_of v)
    ∙ ap (world_by (recs_at w)) collections
    ∙ world_by-itself w tw.names

-- ---- the next record

pub first_least : (after : Option Id) (recs : List Rec) → Rises id_of recs → MatchOption (first_above after recs) (All (λ s. is_above after s ≡ false) recs) (IsLeastAbove after recs)
first_least after [] rising = All-nil (λ s. is_above after s ≡ false)
first_least after (r ∷ recs) rising = by (is_above after r) refl (first_above after recs) (first_least after recs (rises_rest id_of r recs rising))
  where
    by : (b : Bool) → is_above after r ≡ b → (o : Option Rec) → MatchOption o (All (λ s. is_above after s ≡ false) recs) (IsLeastAbove after recs)
        → MatchOption (cond b (Some r) o) (All (λ s. is_above after s ≡ false) (r ∷ recs)) (IsLeastAbove after (r ∷ recs))
    by true e o rest = record {
      there = (0, omega arith, refl);
      above = e;
      least = All-cons (λ s. IsTrue (is_above after s) → (s ≡ r) ⊎ IsBefore r.id s.id) r recs (λ above. inl refl)
          (All-weaker (λ s. IsBefore r.id s.id) (λ s. IsTrue (is_above after s) → (s ≡ r) ⊎ IsBefore r.id s.id) (λ s later above. inr later) recs (rises_first id_of r recs rising));
    }
    by false e None rest = All-cons (λ s. is_above after s ≡ false) r recs e rest
    by false e (Some q) rest = record {
      there = (suc rest.there.0, omega (arith, rest.there.1), rest.there.2);
      above = rest.above;
      least = All-cons (λ s. IsTrue (is_above after s) → (s ≡ q) ⊎ IsBefore q.id s.id) r recs (λ above. absurd (false≢true (sym e ∙ above))) rest.least;
    }

-- ---- shapes

-- a cell that fits its field in a sound record is of the field's shape
suits_from : (f : Field) (c : Cell) → Fits f.kind c → Suits (shape_of f) c
suits_from f c fits = by f.kind c fits
  where
    by : (k : Kind) (c : Cell) → Fits k c → Suits (record { name = f.name; type = type_of_kind k; several = is_multiple k }) c
    by (kind.Text min max) (cell.Text t) h = record { type = refl; few = λ e. omega arith }
    by (kind.Number min max) (cell.Num n) h = record { type = refl; few = λ e. omega arith }
    by kind.Flag (cell.Flag b) h = record { type = refl; few = λ e. omega arith }
    by (kind.Date min max) (cell.Date d) h = record { type = refl; few = λ e. omega arith }
    by (kind.Select values most) (cell.Picks items) h = record { type = refl; few = h.2 }
    by (kind.Json max) (cell.Json tree) h = record { type = refl; few = λ e. omega arith }
    by (kind.Relation target most cascade) (cell.Refs ids) h = record { type = refl; few = h.2 }
    by _ _ h = absurd h

pub shape_from : (fields : List Field) (cells : List Cell) → AllFit fields cells → AllZip Suits (map shape_of fields) cells
shape_from [] [] h = h
shape_from [] (c ∷ cells) h = absurd h
shape_from (f ∷ fields) [] h = absurd h
shape_from (f ∷ fields) (c ∷ cells) h = (suits_from f c h.0, shape_from fields cells h.1)

pub tabled_from_sound : (w : World) → Rises shelf_name w.shelves → All HasSoundParts w.shelves → IsTabled w
tabled_from_sound w names sound = record {
  names = names;
  shelves = All-weaker HasSoundParts IsTabledShelf
      (λ s h. record {
        ids = h.rising;
        shapes = All-weaker (IsSoundRec s.collection) (HasShape (shapes_of s.collection)) (λ r alone. shape_from s.collection.fields r.cells alone.cells) s.recs h.recs;
        own = sound_own_names s.collection h.collection;
      }) w.shelves sound;
}
