-- The inverse of a delta that fits a world fits the world after it.
use Rattle.std.proofs.Common.{◌≡◌, ◌⊎◌, inl, inr, ℕ, List, [], ◌∷◌, Bool, true, false, refl, sym, ◌∙◌, ap, subst, map, get_or, All, Option, Some, None}
use Rattle.std.specs.Prelude.{IfSome, IsTrue, ◌||◌}
use Rattle.std.specs.Str.{bytes_eq}
use Rattle.std.proofs.lemmas.List.Elements.{All-head, All-tail, All-cons, All-nil, All-weaker, All-map}
use Rattle.pocket_types.specs.declared.records.Collection.{Collection}
use Rattle.pocket_types.specs.declared.records.Rec.{Rec}
use Rattle.pocket_types.specs.declared.world.World.{World}
use Rattle.pocket_types.specs.declared.deltas.Delta.{Delta}
use Rattle.pocket_types.specs.declared.deltas.RecChange.{RecChange}
use Rattle.pocket_tables.specs.Deltas.{FitsWorld, KeepsShape, collection_after, inverse, rec_back, rec_changes, recs_after, shelf_back, shelf_changes, world_after}
use Rattle.pocket_tables.specs.Keyed.{AtDistinctKeys, Change, is_touched, find_key, changes_back, put_all}
use Rattle.pocket_ops.specs.Lengths.{HasOwnNames}
use Rattle.pocket_types.specs.Within.{collections_of}
use Rattle.pocket_tables.specs.Worlds.{MayStand, collection_at, id_of, name_of, rec_at, recs_at}
use Rattle.pocket_tables.proofs.KeyLemmas.{key_true, found_holds, found_bears_key}
use Rattle.pocket_tables.proofs.ChangeLemmas.{BearKeys, all-put_all}
use Rattle.pocket_tables.proofs.WorldLemmas.{IsOrdered, collections_back, collections_then, rec_changes_back, delta_recs_bear_keys, recs_then, shelf_changes_back}

module _ {T : Type 0} (key : T → List ℕ) where
  -- the changes back touch the same keys
  is_touched-changes_back : (k : List ℕ) (xs : List T) (changes : List (Change T)) → is_touched k (changes_back key xs changes) ≡ is_touched k changes
  is_touched-changes_back k xs [] = refl
  is_touched-changes_back k xs (c ∷ changes) = ap (λ b. bytes_eq c.0 k || b) (is_touched-changes_back k xs changes)

  distinct_back : (xs : List T) (changes : List (Change T)) → AtDistinctKeys changes → AtDistinctKeys (changes_back key xs changes)
  distinct_back xs [] h = h
  distinct_back xs (c ∷ changes) h = (is_touched-changes_back c.0 xs changes ∙ h.0, distinct_back xs changes h.1)

  -- the keys of what is put are touched
  touched_by_more : (c : Change T) (changes places_wanted : List (Change T)) → All (λ p. IfSome p.1 (λ x. IsTrue (is_touched (key x) changes))) places_wanted
      → All (λ p. IfSome p.1 (λ x. IsTrue (is_touched (key x) (c ∷ changes)))) places_wanted
  touched_by_more c changes places_wanted h =
      All-weaker (λ p. IfSome p.1 (λ x. IsTrue (is_touched (key x) changes))) (λ p. IfSome p.1 (λ x. IsTrue (is_touched (key x) (c ∷ changes))))
      (λ p. by p.1) places_wanted h
    where
      or_true : (b : Bool) → (b || true) ≡ true
      or_true true = refl
      or_true false = refl

      by : (o : Option T) → IfSome o (λ x. IsTrue (is_touched (key x) changes)) → IfSome o (λ x. IsTrue (is_touched (key x) (c ∷ changes)))
      by None h = h
      by (Some x) h = ap (λ b. bytes_eq c.0 (key x) || b) h ∙ or_true (bytes_eq c.0 (key x))

  puts_are_touched : (changes : List (Change T)) → BearKeys key changes → All (λ p. IfSome p.1 (λ x. IsTrue (is_touched (key x) changes))) changes
  puts_are_touched [] named = All-nil (λ p. IfSome p.1 (λ x. IsTrue (is_touched {T = T} (key x) [])))
  puts_are_touched (c ∷ changes) named =
      All-cons (λ p. IfSome p.1 (λ x. IsTrue (is_touched (key x) (c ∷ changes)))) c changes
      (first c.1 (All-head (λ c. IfSome c.1 (λ x. key x ≡ c.0)) c changes named))
      (touched_by_more c changes changes (puts_are_touched changes (All-tail (λ c. IfSome c.1 (λ x. key x ≡ c.0)) c changes named)))
    where
      first : (o : Option T) → IfSome o (λ x. key x ≡ c.0) → IfSome o (λ x. IsTrue (is_touched (key x) (c ∷ changes)))
      first None h = h
      first (Some x) h = ap (λ b. b || is_touched (key x) changes) (key_true c.0 (key x) (sym h))

  -- where the key of each item is touched, so it is afterwards
  all_touched_after : (changes : List (Change T)) (xs : List T) → BearKeys key changes → All (λ x. IsTrue (is_touched (key x) changes)) xs
      → All (λ x. IsTrue (is_touched (key x) changes)) (put_all key changes xs)
  all_touched_after changes xs named h =
      all-put_all key (λ x. IsTrue (is_touched (key x) changes)) changes xs (puts_are_touched changes named)
      (All-weaker (λ x. IsTrue (is_touched (key x) changes)) (λ x. IsTrue (is_touched (key x) changes) ⊎ IsTrue (is_touched (key x) changes)) (λ x c. inl c) xs h)

-- where there is no collection no record stands
all_of_none : (P : Rec → Type 0) (recs : List Rec) → All (MayStand None) recs → All P recs
all_of_none P [] h = All-nil P
all_of_none P (r ∷ recs) h = absurd (All-head (MayStand None) r recs h)

module _ (d : Delta) (w : World) (ordered : IsOrdered w) (fits : FitsWorld d w) where
  abbrev changed : List ℕ → Rec → Type 0
  changed name r = IsTrue (is_touched r.id (rec_changes d.recs name))

  -- where each record is touched, so is each one afterwards, by the inverse
  touched_back : (name : List ℕ) → All (changed name) (recs_at w name) → All (λ r. IsTrue (is_touched r.id (rec_changes (inverse d w).recs name))) (recs_at (world_after d w) name)
  touched_back name all =
      subst (λ l. All (λ r. IsTrue (is_touched r.id l)) (recs_at (world_after d w) name)) (sym (rec_changes_back d w ordered fits name))
      (subst (λ l. All (λ r. IsTrue (is_touched r.id (changes_back id_of (recs_at w name) (rec_changes d.recs name)))) l) (sym (recs_then d w ordered fits name))
      (All-weaker (changed name) (λ r. IsTrue (is_touched r.id (changes_back id_of (recs_at w name) (rec_changes d.recs name))))
      (λ r c. is_touched-changes_back id_of r.id (recs_at w name) (rec_changes d.recs name) ∙ c) (recs_after d w name)
      (all_touched_after id_of (rec_changes d.recs name) (recs_at w name) (delta_recs_bear_keys d w ordered fits name) all)))

  covered_back : (name : List ℕ) (before after : Option Collection) → collection_at w name ≡ before → KeepsShape before after ⊎ All (changed name) (recs_at w name)
      → KeepsShape after before ⊎ All (λ r. IsTrue (is_touched r.id (rec_changes (inverse d w).recs name))) (recs_at (world_after d w) name)
  covered_back name None after is h =
      inr (touched_back name (all_of_none (changed name) (recs_at w name) (subst (λ o. All (MayStand o) (recs_at w name)) is (ordered.shapes name))))
  covered_back name (Some b) (Some a) is (inl keeps) = inl (sym keeps)
  covered_back name (Some b) None is (inl keeps) = absurd keeps
  covered_back name (Some b) after is (inr all) = inr (touched_back name all)

  numbered_back : All (λ c. IfSome c.after (λ r. r.id ≡ c.id)) (inverse d w).recs
  unfolding inverse
  numbered_back = All-map (λ c. IfSome c.after (λ r. r.id ≡ c.id)) (rec_back (rec_at w)) d.recs
      (λ i x within. found_bears_key id_of (get_or d.recs i x).id (recs_at w (get_or d.recs i x).collection))

  named_back : All (λ c. IfSome c.after (λ k. k.name ≡ c.name)) (inverse d w).shelves
  unfolding inverse
  named_back = All-map (λ c. IfSome c.after (λ k. k.name ≡ c.name)) (shelf_back (collection_at w)) d.shelves
      (λ i x within. found_bears_key name_of (get_or d.shelves i x).name (collections_of w))

  own_back : All (λ c. IfSome c.after HasOwnNames) (inverse d w).shelves
  unfolding inverse
  own_back = All-map (λ c. IfSome c.after HasOwnNames) (shelf_back (collection_at w)) d.shelves
      (λ i x within. found_holds name_of HasOwnNames (get_or d.shelves i x).name (collections_of w) ordered.own)

  after_back : (name : List ℕ) → collection_after (inverse d w) (world_after d w) name ≡ collection_at w name
  after_back name = ap (find_key name_of name) (collections_back d w ordered fits)

  shaped_at : (name id : List ℕ) → IfSome (rec_at w name id) (MayStand (collection_after (inverse d w) (world_after d w) name))
  shaped_at name id = subst (λ o. IfSome (rec_at w name id) (MayStand o)) (sym (after_back name)) (found_holds id_of (MayStand (collection_at w name)) id (recs_at w name) (ordered.shapes name))

  shaped_in : (changes : List RecChange) → All (λ c. IfSome c.after (MayStand (collection_after (inverse d w) (world_after d w) c.collection))) (map (rec_back (rec_at w)) changes)
  shaped_in changes = All-map (λ c. IfSome c.after (MayStand (collection_after (inverse d w) (world_after d w) c.collection))) (rec_back (rec_at w)) changes
      (λ i x within. shaped_at (get_or changes i x).collection (get_or changes i x).id)

  inverse_recs : (inverse d w).recs ≡ map (rec_back (rec_at w)) d.recs
  unfolding inverse
  inverse_recs = refl

  shaped_back : All (λ c. IfSome c.after (MayStand (collection_after (inverse d w) (world_after d w) c.collection))) (inverse d w).recs
  shaped_back = subst (λ l. All (λ c. IfSome c.after (MayStand (collection_after (inverse d w) (world_after d w) c.collection))) l) (sym inverse_recs) (shaped_in d.recs)

  pub fits_back : FitsWorld (inverse d w) (world_after d w)
  fits_back = record {
    names = subst AtDistinctKeys (sym (shelf_changes_back d w ordered fits)) (distinct_back name_of (collections_of w) (shelf_changes d.shelves) fits.names);
    ids = λ name. subst AtDistinctKeys (sym (rec_changes_back d w ordered fits name)) (distinct_back id_of (recs_at w name) (rec_changes d.recs name) (fits.ids name));
    named = named_back;
    numbered = numbered_back;
    own = own_back;
    shaped = shaped_back;
    covered = λ name.
        let before : collection_at (world_after d w) name ≡ collection_after d w name = ap (find_key name_of name) (collections_then d w ordered fits) in
        subst (λ o. KeepsShape o (collection_after (inverse d w) (world_after d w) name) ⊎ All (λ r. IsTrue (is_touched r.id (rec_changes (inverse d w).recs name))) (recs_at (world_after d w) name)) (sym before)
        (subst (λ o. KeepsShape (collection_after d w name) o ⊎ All (λ r. IsTrue (is_touched r.id (rec_changes (inverse d w).recs name))) (recs_at (world_after d w) name)) (sym (after_back name))
        (covered_back name (collection_at w name) (collection_after d w name) refl (fits.covered name)));
  }
