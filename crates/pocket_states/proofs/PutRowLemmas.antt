-- The kept rows of a sound state in which one record is put.
use Rattle.std.proofs.Common.{◌≡◌, ◌≢◌, ◌⊎◌, inl, inr, ℕ, Bool, true, false, cond, List, [], ◌∷◌, codes, get_or, map, Option, Some, None, refl, sym, ◌∙◌, ap, subst, arith, true≢false}
use Rattle.std.specs.Prelude.{IfSome, MatchBool}
use Rattle.std.specs.Option.{option_map_or}
use Rattle.std.specs.Str.{bytes_eq}
use Rattle.pocket_types.specs.Order.{Rises}
use Rattle.pocket_types.specs.Sound.{IsSoundCollection, IsSoundRec}
use Rattle.pocket_types.specs.World.{rec_of}
use Rattle.pocket_types.specs.declared.records.Collection.{Collection}
use Rattle.pocket_types.specs.declared.records.Rec.{Rec}
use Rattle.pocket_types.specs.declared.world.Shelf.{Shelf}
use Rattle.pocket_types.specs.declared.world.World.{World}
use Rattle.pocket_keeper.specs.Keeping.{committed, put_row}
use Rattle.pocket_keeper.specs.Texts.{collection_row, rec_key, rec_row, token_row}
use Rattle.pocket_keeper.specs.declared.rows.KeptRow.{KeptRow}
use Rattle.pocket_keeper.specs.declared.tokens.Token.{Token}
use Rattle.pocket_keeper.proofs.KeepingLemmas.{without_none}
use Rattle.pocket_keeper.proofs.KeyLemmas.{name_lacks_slash, word_next}
use Rattle.pocket_rows.proofs.OnceLemmas.{rec_once}
use Rattle.pocket_store.specs.SoundStates.{IsSoundShelf}
use Rattle.pocket_store.specs.Stores.{HaveSameRows, shelf_rows}
use Rattle.pocket_store.proofs.LawLemmas.{equal_states}
use Rattle.pocket_store.proofs.ListLemmas.{IsIn, all_in, contains_from_in, in_back, in_either, in_from_contains, in_front, in_map, in_map_back}
use Rattle.pocket_store.proofs.StoreLemmas.{in_shelf, shelf_of, shelves_rows}
use Rattle.pocket_tables.specs.Keyed.{find_key, put_at}
use Rattle.pocket_tables.specs.Laws.{IsMadeAtOnce, after_changes}
use Rattle.pocket_tables.specs.Worlds.{collection_at, id_of, rec_at, recs_at, shelf_name}
use Rattle.pocket_tables.proofs.DrawerLemmas.{rec_changes-one}
use Rattle.pocket_tables.proofs.KeyLemmas.{found_bears_key, found_holds, key_same, key_true, unfolding_put_at}
use Rattle.pocket_tables.proofs.LawLemmas.{at_once, same_world}
use Rattle.pocket_tables.proofs.WorldLemmas.{IsOrdered, each_found, ordered_after, ordered_from}
use Rattle.pocket_change.specs.Changes.{puts, world_with}
use Rattle.pocket_change.specs.Puts.{MayBePut}
use Rattle.pocket_states.specs.Putting.{row_stands, state_with}
use Rattle.pocket_states.specs.States.{IsSoundState, MachineState, rows_of, stored_in}
use Rattle.pocket_states.proofs.PutLemmas.{put_keeps_sound}
use Rattle.pocket_states.proofs.PutListLemmas.{put_from, put_has, put_keeps}
use Rattle.pocket_states.proofs.PutWorldLemmas.{IsPlace, put_then, rec_before, rec_then, shelf_before, shelf_then, shelf_there, sound_parts, sound_tabled, then_of}

-- ---- where rows stand

abbrev key_of : KeptRow → List ℕ
key_of row = row.key

row_of_shelf : (s : MachineState) (z : Shelf) (x : KeptRow) → IsIn z s.world.shelves → IsIn x (shelf_rows z) → IsIn x (rows_of s)
row_of_shelf s z x i j = in_front (shelves_rows s.world.shelves) (map token_row s.tokens) x (in_shelf z x s.world.shelves i j)

row_of_token : (s : MachineState) (x : KeptRow) → IsIn x (map token_row s.tokens) → IsIn x (rows_of s)
row_of_token s x i = in_back (shelves_rows s.world.shelves) (map token_row s.tokens) x i

abbrev first_of : List ℕ → ℕ
first_of key = get_or key 0 0

no_collection_key : (d c : Collection) (r : Rec) → (collection_row d).key ≢ (rec_row c r).key
no_collection_key d c r e = absurd (omega (arith, ap first_of e))

no_token_key : (t : Token) (c : Collection) (r : Rec) → (token_row t).key ≢ (rec_row c r).key
no_token_key t c r e = absurd (omega (arith, ap first_of e))

-- one row put by a commit is put at its key
put_is : (row : KeptRow) (told : List KeptRow) → committed told (row ∷ []) [] ≡ put_at key_of row.key (Some row) told
put_is row told = ap (put_row row) (without_none told) ∙ sym (unfolding_put_at key_of row.key (Some row) told)

module _ (s : MachineState) (c : Collection) (r : Rec) (sound : IsSoundState s) (there : collection_at s.world c.name ≡ Some c) where
  abbrev w : World
  w = s.world

  abbrev own : KeptRow
  own = rec_row c r

  abbrev next : MachineState
  next = state_with s c r

  abbrev rising : Rises shelf_name s.world.shelves
  rising = sound.kept.world.rising

  abbrev then_at : Shelf → Shelf
  then_at z = then_of w c r rising there z

  sound_at : (z : Shelf) → IsIn z w.shelves → IsSoundShelf w z
  sound_at z i = all_in (IsSoundShelf w) w.shelves z sound.kept.world.shelves i

  sound_collection : IsSoundCollection c
  sound_collection = let at = shelf_there w c there in subst IsSoundCollection (sym at.2) (sound_at at.0 at.1).alone

  -- a record of another place has another key
  other_key : (z : Shelf) → IsIn z w.shelves → (q : Rec) → ¬ IsPlace c r z q → (rec_row z.collection q).key ≢ own.key
  other_key z i q other e =
      let d = z.collection in
      other (word_next 47 (rec_key d.name q.id) (codes "r/") d.name c.name q.id r.id
      (name_lacks_slash d.name (sound_at z i).alone.name) (name_lacks_slash c.name sound_collection.name) refl e)

  -- ---- the rows afterwards

  abbrev IsOwnOrOld : KeptRow → Type 0
  IsOwnOrOld x = (x ≡ own) ⊎ (IsIn x (rows_of s) × (x.key ≢ own.key))

  on_shelf : (z : Shelf) → IsIn z w.shelves → (x : KeptRow) → IsIn x (shelf_rows (then_at z)) → IsOwnOrOld x
  on_shelf z i x (inl e) = inr (row_of_shelf s z x i (inl e), λ k. no_collection_key z.collection c r (sym (ap key_of e) ∙ k))
  on_shelf z i x (inr among) =
      let row = rec_row z.collection in
      let q = in_map_back row (then_at z).recs x among in
      elim (rec_before w c r rising there z i q.0 q.1) [
        | inl here ↦ inl (q.2 ∙ (λ j. rec_row (here.0 j) (here.1 j)))
        | inr old ↦ inr (
          row_of_shelf s z x i (inr (subst (λ y. IsIn y (map row z.recs)) (sym q.2) (in_map row z.recs q.0 old.0))),
          λ k. other_key z i q.0 old.1 (sym (ap key_of q.2) ∙ k),
        )
      ]

  -- each row afterwards is the record's, or stood there before under another key
  row_before : (x : KeptRow) → IsIn x (rows_of next) → IsOwnOrOld x
  row_before x i =
      elim (in_either (shelves_rows next.world.shelves) (map token_row s.tokens) x i) [
        | inl front ↦
            let z = shelf_of x next.world.shelves front in
            let old = shelf_before w c r rising there z.0 z.1 in
            on_shelf old.0 old.1 x (subst (λ y. IsIn x (shelf_rows y)) old.2 z.2)
        | inr back ↦
            let t = in_map_back token_row s.tokens x back in
            inr (row_of_token s x back, λ k. no_token_key t.0 c r (sym (ap key_of t.2) ∙ k))
      ]

  -- the record's row is one of them
  own_then : IsIn own (rows_of next)
  own_then =
      let at = shelf_there w c there in
      let z = then_at at.0 in
      let among = in_map (rec_row c) z.recs r (put_then w c r rising there at.0 (sym (ap (λ d. d.name) at.2))) in
      row_of_shelf next z own (shelf_then w c r rising there at.0 at.1) (inr (subst (λ d. IsIn own (map (rec_row d) z.recs)) at.2 among))

  off_shelf : (z : Shelf) → IsIn z w.shelves → (x : KeptRow) → IsIn x (shelf_rows z) → x.key ≢ own.key → IsIn x (rows_of next)
  off_shelf z i x (inl e) other = row_of_shelf next (then_at z) x (shelf_then w c r rising there z i) (inl e)
  off_shelf z i x (inr among) other =
      let row = rec_row z.collection in
      let q = in_map_back row z.recs x among in
      let stays = rec_then w c r rising there z q.0 q.1 (λ place. other (ap key_of q.2 ∙ (λ j. rec_key (place.0 j) (place.1 j)))) in
      row_of_shelf next (then_at z) x (shelf_then w c r rising there z i)
      (inr (subst (λ y. IsIn y (map row (then_at z).recs)) (sym q.2) (in_map row (then_at z).recs q.0 stays)))

  -- and so is each row before of another key
  row_then : (x : KeptRow) → IsIn x (rows_of s) → x.key ≢ own.key → IsIn x (rows_of next)
  row_then x i other =
      elim (in_either (shelves_rows w.shelves) (map token_row s.tokens) x i) [
        | inl front ↦ let z = shelf_of x w.shelves front in off_shelf z.0 z.1 x z.2 other
        | inr back ↦ row_of_token next x back
      ]

  -- ---- a commit of the record's row leads from the rows before to the rows afterwards

  into : (told : List KeptRow) → HaveSameRows told (rows_of s) → (x : KeptRow)
      → IsIn x (committed told (own ∷ []) []) → IsIn x (rows_of next)
  into told same x i =
      elim (put_from key_of own.key own told x (subst (λ l. IsIn x l) (put_is own told) i)) [
        | inl e ↦ subst (λ y. IsIn y (rows_of next)) (sym e) own_then
        | inr old ↦ row_then x (in_from_contains (rows_of s) x ((same x).0 (contains_from_in told x old.0))) old.1
      ]

  back : (told : List KeptRow) → HaveSameRows told (rows_of s) → (x : KeptRow)
      → IsIn x (rows_of next) → IsIn x (committed told (own ∷ []) [])
  back told same x i =
      subst (λ l. IsIn x l) (sym (put_is own told)) (elim (row_before x i) [
        | inl e ↦ subst (λ y. IsIn y (put_at key_of own.key (Some own) told)) (sym e) (put_has key_of own.key own told)
        | inr old ↦ put_keeps key_of own.key own told x (in_from_contains told x ((same x).1 (contains_from_in (rows_of s) x old.0))) old.1
      ])

  pub put_rows : (told : List KeptRow) → HaveSameRows told (rows_of s)
      → HaveSameRows (committed told (rec_row c r ∷ []) []) (rows_of (state_with s c r))
  put_rows told same x = (
    λ h. contains_from_in (rows_of next) x (into told same x (in_from_contains (committed told (own ∷ []) []) x h)),
    λ h. contains_from_in (committed told (own ∷ []) []) x (back told same x (in_from_contains (rows_of next) x h)),
  )

  -- ---- what stands at the place

  at_place : (old : Rec) → rec_at w c.name r.id ≡ Some old → IsSoundRec c old
  at_place old e =
      let at = shelf_there w c there in
      let d = at.0.collection in
      let found = all_in (λ z. find_key shelf_name (shelf_name z) w.shelves ≡ Some z) w.shelves at.0 (each_found shelf_name w.shelves rising) at.1 in
      let recs : recs_at w c.name ≡ at.0.recs = ap (λ k. recs_at w k.name) at.2 ∙ ap (λ o. option_map_or (λ z. z.recs) o []) found in
      let all = (sound_parts w at.0 (sound_at at.0 at.1)).recs in
      let here : rec_of r.id at.0.recs ≡ Some old = sym (ap (rec_of r.id) recs) ∙ e in
      subst (λ k. IsSoundRec k old) (sym at.2) (subst (λ o. IfSome o (IsSoundRec d)) here (found_holds id_of (IsSoundRec d) r.id at.0.recs all))

  -- rows with one text there are one row
  pub row_by_text : (old : Rec) → rec_at s.world c.name r.id ≡ Some old → (rec_row c old).value ≡ (rec_row c r).value
      → rec_row c old ≡ rec_row c r
  row_by_text old e text =
      let id : old.id ≡ r.id = subst (λ o. IfSome o (λ q. q.id ≡ r.id)) e (found_bears_key id_of r.id (recs_at w c.name)) in
      λ j. record { key = rec_key c.name (id j); value = text j }

  module _ (may : MayBePut s.world c r) where
    ordered : IsOrdered w
    ordered = ordered_from w (sound_tabled w sound.kept.world)

    made : IsMadeAtOnce (puts c.name r) w
    made = at_once (puts c.name r) w ordered may.fits

    -- what is found afterwards, told whether it is the collection's name and the record's id
    abbrev found_then : Bool → Bool → Option Rec → Option Rec
    found_then here own_id before = cond here (cond own_id (Some r) before) before

    rec_after : (name id : List ℕ) → rec_at next.world name id ≡ found_then (bytes_eq c.name name) (bytes_eq r.id id) (rec_at w name id)
    rec_after name id =
        made.recs name id
        ∙ ap (λ changes. after_changes id changes (rec_at w name id)) (rec_changes-one (record { collection = c.name; id = r.id; after = Some r }) name)
        ∙ by (bytes_eq c.name name)
      where
        by : (b : Bool) → after_changes id (cond b ((r.id, Some r) ∷ []) []) (rec_at w name id) ≡ found_then b (bytes_eq r.id id) (rec_at w name id)
        by true = refl
        by false = refl

    -- the record is found afterwards
    pub put_found : rec_at (state_with s c r).world c.name r.id ≡ Some r
    put_found =
        rec_after c.name r.id ∙ (λ j. found_then (key_true c.name c.name refl j) (key_true r.id r.id refl j) (rec_at w c.name r.id))

    -- ---- where the record's row stands there already, the state stays

    same_rec : (old : Rec) → rec_at w c.name r.id ≡ Some old → rec_row c old ≡ rec_row c r → rec_at w c.name r.id ≡ Some r
    same_rec old e row = e ∙ ap (λ q. Some q) (rec_once c old r sound_collection (at_place old e) may.alone row)

    found_as_before : rec_at w c.name r.id ≡ Some r → (name id : List ℕ) → rec_at next.world name id ≡ rec_at w name id
    found_as_before e name id = rec_after name id ∙ by (bytes_eq c.name name) refl (bytes_eq r.id id) refl
      where
        by : (a : Bool) → bytes_eq c.name name ≡ a → (b : Bool) → bytes_eq r.id id ≡ b → found_then a b (rec_at w name id) ≡ rec_at w name id
        by true n true i = sym e ∙ (λ j. rec_at w (key_same c.name name n j) (key_same r.id id i j))
        by true n false i = refl
        by false n b i = refl

    abbrev with_world : World → MachineState
    with_world v = record s { world = v }

    -- nothing changes
    pub put_stays : (old : Rec) → rec_at s.world c.name r.id ≡ Some old → rec_row c old ≡ rec_row c r → state_with s c r ≡ s
    put_stays old e row =
        ap with_world
        (same_world (world_with w c r) w (ordered_after (puts c.name r) w ordered may.fits) ordered made.collections (found_as_before (same_rec old e row)))

    -- so no commit is needed
    pub same_rows : (old : Rec) → rec_at s.world c.name r.id ≡ Some old → rec_row c old ≡ rec_row c r
        → HaveSameRows (rows_of s) (rows_of (state_with s c r))
    same_rows old e row = subst (λ t. HaveSameRows (rows_of s) (rows_of t)) (sym (put_stays old e row)) (λ x. (λ h. h, λ h. h))

    -- ---- where it doesn't, the rows change

    -- where the rows stay, the record stands there
    stood_before : HaveSameRows (rows_of s) (rows_of next) → rec_at w c.name r.id ≡ Some r
    stood_before same =
        let after = put_keeps_sound s c r sound there may in
        ap (λ kept. rec_at kept.world c.name r.id) (equal_states (stored_in s) (stored_in next) sound.kept after.kept same) ∙ put_found

    -- no record stands there, or one with another row: a commit is needed
    pub put_changes_rows : (before : Option Rec) → rec_at s.world c.name r.id ≡ before → IfSome before (λ old. rec_row c old ≢ rec_row c r)
        → ¬ HaveSameRows (rows_of s) (rows_of (state_with s c r))
    put_changes_rows None e other same = let clash : None ≡ Some r = sym e ∙ stood_before same in cc
    put_changes_rows (Some old) e other same =
        let both : Some old ≡ Some r = sym e ∙ stood_before same in
        let is : old ≡ r = cc in
        other (ap (rec_row c) is)

    -- ---- the texts of the rows decide

    abbrev IsDecided : Bool → Type 0
    IsDecided b = MatchBool b (HaveSameRows (rows_of s) (rows_of next)) (¬ HaveSameRows (rows_of s) (rows_of next))

    abbrev has_text : Rec → Bool
    has_text old = bytes_eq (rec_row c old).value (rec_row c r).value

    decided : (before : Option Rec) → rec_at w c.name r.id ≡ before → IsDecided (option_map_or has_text before false)
    decided None e = put_changes_rows None e tt
    decided (Some old) e = by (has_text old) refl
      where
        by : (b : Bool) → has_text old ≡ b → IsDecided b
        by true text = same_rows old e (row_by_text old e (key_same (rec_row c old).value (rec_row c r).value text))
        by false text =
            put_changes_rows (Some old) e
            (λ row. true≢false (sym (key_true (rec_row c old).value (rec_row c r).value (ap (λ x. x.value) row)) ∙ text))

    -- where the record's row stands there already no commit is needed, else one is
    pub text_decides : MatchBool (row_stands s.world c r)
        (HaveSameRows (rows_of s) (rows_of (state_with s c r)))
        (¬ HaveSameRows (rows_of s) (rows_of (state_with s c r)))
    text_decides = decided (rec_at s.world c.name r.id) refl
