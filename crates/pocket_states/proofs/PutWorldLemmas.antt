-- A sound world in which one record is put: what stands on its shelves.
use Rattle.std.proofs.Common.{◌≡◌, ◌⊎◌, inl, inr, ℕ, Bool, true, false, cond, List, [], ◌∷◌, map, Some, refl, sym, ◌∙◌, ap, subst, All, true≢false}
use Rattle.std.specs.Prelude.{IfSome}
use Rattle.std.specs.Option.{option_map, option_map_or}
use Rattle.std.specs.Str.{bytes_eq}
use Rattle.std.proofs.lemmas.List.Elements.{All-head, All-tail, All-weaker}
use Rattle.pocket_types.specs.Order.{Rises}
use Rattle.pocket_types.specs.Sound.{IsSoundRec}
use Rattle.pocket_types.specs.Within.{HasRec, IsShelf, collections_of}
use Rattle.pocket_types.specs.declared.ids.Id.{Id}
use Rattle.pocket_types.specs.declared.names.Name.{Name}
use Rattle.pocket_types.specs.declared.records.Collection.{Collection}
use Rattle.pocket_types.specs.declared.records.Rec.{Rec}
use Rattle.pocket_types.specs.declared.world.Shelf.{Shelf}
use Rattle.pocket_types.specs.declared.world.World.{World}
use Rattle.pocket_store.specs.SoundStates.{IsSoundRecIn, IsSoundShelf, IsSoundWorld}
use Rattle.pocket_store.proofs.ListLemmas.{IsIn, all_from_in, all_in, contains_from_in, in_from_contains, in_map, in_map_back}
use Rattle.pocket_tables.specs.Deltas.{recs_after, world_after}
use Rattle.pocket_tables.specs.Keyed.{find_key, put_all, put_at}
use Rattle.pocket_tables.specs.Laws.{HasSoundParts}
use Rattle.pocket_tables.specs.Worlds.{IsTabled, collection_at, id_of, name_of, recs_at, shelf_name}
use Rattle.pocket_tables.proofs.LawLemmas.{tabled_from_sound}
use Rattle.pocket_tables.proofs.DrawerLemmas.{rec_changes-one}
use Rattle.pocket_tables.proofs.KeyLemmas.{found_holds, key_same, key_true}
use Rattle.pocket_tables.proofs.WorldLemmas.{collection_found, each_found, shelf_by, unfolding_world_after}
use Rattle.pocket_change.specs.Changes.{puts, world_with}
use Rattle.pocket_states.proofs.PutListLemmas.{put_from, put_has, put_keeps}

-- a sound shelf has sound parts
pub sound_parts : (w : World) (s : Shelf) → IsSoundShelf w s → HasSoundParts s
sound_parts w s h = record {
  collection = h.alone;
  recs = All-weaker (IsSoundRecIn w s.collection) (IsSoundRec s.collection) (λ r sound. sound.alone) s.recs h.recs;
  rising = h.rising;
}

-- a sound world can be put into tables
pub sound_tabled : (w : World) → IsSoundWorld w → IsTabled w
sound_tabled w h = tabled_from_sound w h.rising (All-weaker (IsSoundShelf w) HasSoundParts (sound_parts w) w.shelves h.shelves)

-- ---- the shelves afterwards

module _ (name : Name) (r : Rec) where
  -- records of a name afterwards, told whether it is the name
  abbrev recs_put : Bool → List Rec → List Rec
  recs_put here recs = cond here (put_at id_of r.id (Some r) recs) recs

  -- a shelf afterwards
  abbrev pub shelf_put : Shelf → Shelf
  shelf_put s = record { collection = s.collection; recs = recs_put (bytes_eq name s.collection.name) s.recs }

  put_by_delta : (here : Bool) (recs : List Rec) → put_all id_of (cond here ((r.id, Some r) ∷ []) []) recs ≡ recs_put here recs
  put_by_delta true recs = refl
  put_by_delta false recs = refl

  module _ (w : World) where
    recs_of_put : (n : List ℕ) → recs_after (puts name r) w n ≡ recs_put (bytes_eq name n) (recs_at w n)
    recs_of_put n =
        ap (λ changes. put_all id_of changes (recs_at w n)) (rec_changes-one (record { collection = name; id = r.id; after = Some r }) n)
        ∙ put_by_delta (bytes_eq name n) (recs_at w n)

    shelves_by_put : (ss : List Shelf) → All (λ s. recs_at w s.collection.name ≡ s.recs) ss
        → map (shelf_by (recs_after (puts name r) w)) (map (λ s. s.collection) ss) ≡ map shelf_put ss
    shelves_by_put [] h = refl
    shelves_by_put (s ∷ ss) h =
        let own = All-head (λ s. recs_at w s.collection.name ≡ s.recs) s ss h in
        let here = bytes_eq name s.collection.name in
        let first : recs_after (puts name r) w s.collection.name ≡ (shelf_put s).recs = recs_of_put s.collection.name ∙ ap (recs_put here) own in
        let rest = shelves_by_put ss (All-tail (λ s. recs_at w s.collection.name ≡ s.recs) s ss h) in
        λ i. record { collection = s.collection; recs = first i } ∷ rest i

    pub shelves_put : Rises shelf_name w.shelves → (world_after (puts name r) w).shelves ≡ map shelf_put w.shelves
    shelves_put rising =
        ap (λ v. v.shelves) (unfolding_world_after (puts name r) w)
        ∙ shelves_by_put w.shelves
        (All-weaker (λ s. find_key shelf_name (shelf_name s) w.shelves ≡ Some s) (λ s. recs_at w s.collection.name ≡ s.recs)
        (λ s e. ap (λ o. option_map_or (λ s. s.recs) o []) e) w.shelves (each_found shelf_name w.shelves rising))

-- ---- the shelf of a collection

pub shelf_there : (w : World) (c : Collection) → collection_at w c.name ≡ Some c → (s : Shelf) × IsIn s w.shelves × (c ≡ s.collection)
shelf_there w c there =
    let cs = collections_of w in
    let found = found_holds name_of (λ d. IsIn d cs) c.name cs (all_from_in (λ d. IsIn d cs) cs (λ d i. i)) in
    in_map_back (λ s. s.collection) w.shelves c (subst (λ o. IfSome o (λ d. IsIn d cs)) there found)

-- a record on a shelf stands at the place of another of a collection
abbrev pub IsPlace : Collection → Rec → Shelf → Rec → Type 0
IsPlace c r s q = (s.collection.name ≡ c.name) × (q.id ≡ r.id)

-- ---- a world that rises, in which the collection stands

module _ (w : World) (c : Collection) (r : Rec) (rising : Rises shelf_name w.shelves) (there : collection_at w c.name ≡ Some c) where
  -- a shelf afterwards
  abbrev pub then_of : Shelf → Shelf
  then_of s = shelf_put c.name r s

  pub shelves_then : (world_with w c r).shelves ≡ map then_of w.shelves
  shelves_then = shelves_put c.name r w rising

  pub shelf_then : (s : Shelf) → IsIn s w.shelves → IsIn (then_of s) (world_with w c r).shelves
  shelf_then s i = subst (λ l. IsIn (then_of s) l) (sym shelves_then) (in_map then_of w.shelves s i)

  pub shelf_before : (z : Shelf) → IsIn z (world_with w c r).shelves → (s : Shelf) × IsIn s w.shelves × (z ≡ then_of s)
  shelf_before z i = in_map_back then_of w.shelves z (subst (λ l. IsIn z l) shelves_then i)

  -- a shelf of its name is that of the collection
  pub own_collection : (s : Shelf) → IsIn s w.shelves → bytes_eq c.name s.collection.name ≡ true → s.collection ≡ c
  own_collection s i e =
      let at = all_in (λ s. find_key shelf_name (shelf_name s) w.shelves ≡ Some s) w.shelves s (each_found shelf_name w.shelves rising) i in
      let found : collection_at w s.collection.name ≡ Some s.collection = collection_found w.shelves s.collection.name ∙ ap (option_map (λ s. s.collection)) at in
      let same : Some s.collection ≡ Some c = sym found ∙ ap (λ n. collection_at w n) (sym (key_same c.name s.collection.name e)) ∙ there in
      cc

  -- what stands on a shelf afterwards was put, or stood there before at another place
  pub rec_before : (s : Shelf) → IsIn s w.shelves → (q : Rec) → IsIn q (then_of s).recs
      → ((s.collection ≡ c) × (q ≡ r)) ⊎ (IsIn q s.recs × ¬ IsPlace c r s q)
  rec_before s i q j = by (bytes_eq c.name s.collection.name) refl j
    where
      by : (b : Bool) → bytes_eq c.name s.collection.name ≡ b → IsIn q (recs_put c.name r b s.recs)
          → ((s.collection ≡ c) × (q ≡ r)) ⊎ (IsIn q s.recs × ¬ IsPlace c r s q)
      by true e k = elim (put_from id_of r.id r s.recs q k) [
        | inl same ↦ inl (own_collection s i e, same)
        | inr h ↦ inr (h.0, λ place. h.1 place.1)
      ]
      by false e k = inr (k, λ place. true≢false (sym (key_true c.name s.collection.name (sym place.0)) ∙ e))

  -- what stood at another place stays
  pub rec_then : (s : Shelf) (q : Rec) → IsIn q s.recs → ¬ IsPlace c r s q → IsIn q (then_of s).recs
  rec_then s q i other = by (bytes_eq c.name s.collection.name) refl
    where
      by : (b : Bool) → bytes_eq c.name s.collection.name ≡ b → IsIn q (recs_put c.name r b s.recs)
      by true e = put_keeps id_of r.id r s.recs q i (λ same. other (sym (key_same c.name s.collection.name e), same))
      by false e = i

  -- the record stands on the shelves of its collection's name
  pub put_then : (s : Shelf) → s.collection.name ≡ c.name → IsIn r (then_of s).recs
  put_then s named = by (bytes_eq c.name s.collection.name) (key_true c.name s.collection.name (sym named))
    where
      by : (b : Bool) → b ≡ true → IsIn r (recs_put c.name r b s.recs)
      by true e = put_has id_of r.id r s.recs
      by false e = absurd (true≢false (sym e))

  -- ---- what stood there stands there still, as far as others lead to it

  pub is_shelf_then : (name : Name) (s : Shelf) → IsShelf w name s → IsShelf (world_with w c r) name (then_of s)
  is_shelf_then name s is = record {
    there = contains_from_in (world_with w c r).shelves (then_of s) (shelf_then s (in_from_contains w.shelves s is.there));
    named = is.named;
  }

  pub has_rec_then : (s : Shelf) (id : Id) → HasRec s id → HasRec (then_of s) id
  has_rec_then s id (q, among, is) = by (bytes_eq c.name s.collection.name) refl (bytes_eq q.id r.id) refl
    where
      here : IsIn q s.recs
      here = in_from_contains s.recs q among

      with_rec : (p : Rec) → IsIn p (then_of s).recs → p.id ≡ id → HasRec (then_of s) id
      with_rec p i e = (p, contains_from_in (then_of s).recs p i, e)

      by : (a : Bool) → bytes_eq c.name s.collection.name ≡ a → (b : Bool) → bytes_eq q.id r.id ≡ b → HasRec (then_of s) id
      by true e true f = with_rec r (put_then s (sym (key_same c.name s.collection.name e))) (sym (key_same q.id r.id f) ∙ is)
      by true e false f = with_rec q (rec_then s q here (λ place. true≢false (sym (key_true q.id r.id place.1) ∙ f))) is
      by false e b f = with_rec q (rec_then s q here (λ place. true≢false (sym (key_true c.name s.collection.name (sym place.0)) ∙ e))) is
