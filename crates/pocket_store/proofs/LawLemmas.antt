-- Two sound states with the same rows.
use Rattle.std.proofs.Common.{◌≡◌, ◌≢◌, inl, inr, ℕ, List, codes, get_or, map, refl, sym, ◌∙◌, ap, subst, arith, IsTrue}
use Rattle.pocket_types.specs.Names.{is_name}
use Rattle.pocket_types.specs.declared.records.Collection.{Collection}
use Rattle.pocket_types.specs.declared.records.Rec.{Rec}
use Rattle.pocket_types.specs.declared.world.Shelf.{Shelf}
use Rattle.pocket_keeper.specs.Texts.{collection_row, rec_key, rec_row, token_row}
use Rattle.pocket_keeper.specs.declared.rows.KeptRow.{KeptRow}
use Rattle.pocket_keeper.specs.declared.tokens.Token.{Token}
use Rattle.pocket_keeper.proofs.KeyLemmas.{name_lacks_slash, word_next}
use Rattle.pocket_types.specs.Sound.{IsSoundRec}
use Rattle.pocket_rows.specs.SoundTokens.{IsSoundToken}
use Rattle.pocket_rows.proofs.CollectionLemmas.{collection_once}
use Rattle.pocket_rows.proofs.OnceLemmas.{rec_once, token_once}
use Rattle.pocket_store.specs.SoundStates.{IsSoundRecIn, IsSoundShelf, IsSoundStored, IsSoundTokenIn}
use Rattle.pocket_store.specs.Stores.{HaveSameRows, shelf_rows, stored_rows}
use Rattle.pocket_store.specs.declared.stored.Stored.{Stored}
use Rattle.pocket_store.proofs.ListLemmas.{IsIn, all_in, contains_from_in, in_back, in_either, in_from_contains, in_front, in_map, in_map_back}
use Rattle.pocket_store.proofs.RisingLemmas.{rising_same, same_key}
use Rattle.pocket_store.proofs.StoreLemmas.{in_shelf, shelf_of, shelves_rows}

-- ---- the forms of keys don't meet

abbrev key_of : KeptRow → List ℕ
key_of row = row.key

abbrev first_of_key : KeptRow → ℕ
first_of_key row = get_or row.key 0 0

pub no_collection_and_rec : (c d : Collection) (r : Rec) → collection_row c ≢ rec_row d r
no_collection_and_rec c d r e = absurd (omega (arith, ap first_of_key e))

pub no_collection_and_token : (c : Collection) (t : Token) → collection_row c ≢ token_row t
no_collection_and_token c t e = absurd (omega (arith, ap first_of_key e))

pub no_rec_and_token : (c : Collection) (r : Rec) (t : Token) → rec_row c r ≢ token_row t
no_rec_and_token c r t e = absurd (omega (arith, ap first_of_key e))

-- rows of records of two collections have two names
rec_name : (c d : Collection) (r q : Rec) → IsTrue (is_name c.name) → IsTrue (is_name d.name) → rec_row c r ≡ rec_row d q → c.name ≡ d.name
rec_name c d r q m n e =
    (word_next 47 (rec_key c.name r.id) (codes "r/") c.name d.name r.id q.id (name_lacks_slash c.name m) (name_lacks_slash d.name n) refl (ap key_of e)).0

-- ---- what stands in one state stands in the other

-- each row of the one is a row of the other
pub record IsWithin (a b : Stored) : Type 0 where
  pub one : IsSoundStored a
  pub other : IsSoundStored b
  pub into : (row : KeptRow) → IsIn row (stored_rows a) → IsIn row (stored_rows b)

module _ (a b : Stored) (h : IsWithin a b) where
  sound_token : (s : Stored) → IsSoundStored s → (t : Token) → IsIn t s.tokens → IsSoundToken t
  sound_token s sound t i = (all_in (IsSoundTokenIn s.world) s.tokens t sound.tokens i).alone

  sound_shelf : (s : Stored) → IsSoundStored s → (x : Shelf) → IsIn x s.world.shelves → IsSoundShelf s.world x
  sound_shelf s sound x i = all_in (IsSoundShelf s.world) s.world.shelves x sound.world.shelves i

  sound_rec : (s : Stored) → IsSoundStored s → (x : Shelf) → IsIn x s.world.shelves → (r : Rec) → IsIn r x.recs → IsSoundRec x.collection r
  sound_rec s sound x i r j = (all_in (IsSoundRecIn s.world x.collection) x.recs r (sound_shelf s sound x i).recs j).alone

  -- a token's row is no row of a shelf
  no_shelf : (t : Token) (x : Shelf) → ¬ IsIn (token_row t) (shelf_rows x)
  no_shelf t x (inl e) = no_collection_and_token x.collection t (sym e)
  no_shelf t x (inr i) = let r = in_map_back (rec_row x.collection) x.recs (token_row t) i in no_rec_and_token x.collection r.0 t (sym r.2)

  pub token_into : (t : Token) → IsIn t a.tokens → IsIn t b.tokens
  token_into t i =
      elim (in_either (shelves_rows b.world.shelves) (map token_row b.tokens) (token_row t)
      (h.into (token_row t) (in_back (shelves_rows a.world.shelves) (map token_row a.tokens) (token_row t) (in_map token_row a.tokens t i)))) [
        | inl front ↦ let x = shelf_of (token_row t) b.world.shelves front in absurd (no_shelf t x.0 x.2)
        | inr back ↦
            let u = in_map_back token_row b.tokens (token_row t) back in
            subst (λ z. IsIn z b.tokens) (sym (token_once t u.0 (sound_token a h.one t i) (sound_token b h.other u.0 u.1) u.2)) u.1
      ]

  -- a row of a shelf that isn't a token's is a row of a shelf
  shelf_into : (row : KeptRow) (x : Shelf) → ((t : Token) → row ≢ token_row t) → IsIn x a.world.shelves → IsIn row (shelf_rows x)
      → (y : Shelf) × IsIn y b.world.shelves × IsIn row (shelf_rows y)
  shelf_into row x none i j =
      elim (in_either (shelves_rows b.world.shelves) (map token_row b.tokens) row
      (h.into row (in_front (shelves_rows a.world.shelves) (map token_row a.tokens) row (in_shelf x row a.world.shelves i j)))) [
        | inl front ↦ shelf_of row b.world.shelves front
        | inr back ↦ let u = in_map_back token_row b.tokens row back in absurd (none u.0 u.2)
      ]

  collection_here : (x y : Shelf) → IsIn x a.world.shelves → IsIn y b.world.shelves → IsIn (collection_row x.collection) (shelf_rows y) → x.collection ≡ y.collection
  collection_here x y i j (inl e) = collection_once x.collection y.collection (sound_shelf a h.one x i).alone (sound_shelf b h.other y j).alone e
  collection_here x y i j (inr k) =
      let r = in_map_back (rec_row y.collection) y.recs (collection_row x.collection) k in
      absurd (no_collection_and_rec x.collection y.collection r.0 r.2)

  -- each collection has a shelf in the other
  pub collection_into : (x : Shelf) → IsIn x a.world.shelves → (y : Shelf) × IsIn y b.world.shelves × (x.collection ≡ y.collection)
  collection_into x i =
      let y = shelf_into (collection_row x.collection) x (no_collection_and_token x.collection) i (inl refl) in
      (y.0, y.1, collection_here x y.0 i y.1 y.2)

  rec_here : (x y z : Shelf) (r : Rec) → IsIn x a.world.shelves → IsIn y b.world.shelves → IsIn z b.world.shelves → x.collection ≡ y.collection → IsIn r x.recs
      → IsIn (rec_row x.collection r) (shelf_rows z) → IsIn r y.recs
  rec_here x y z r i j k e here (inl q) = absurd (no_collection_and_rec z.collection x.collection r (sym q))
  rec_here x y z r i j k e here (inr among) =
      let c = x.collection in
      let found = in_map_back (rec_row z.collection) z.recs (rec_row c r) among in
      let names : c.name ≡ z.collection.name = rec_name c z.collection r found.0 (sound_shelf a h.one x i).alone.name (sound_shelf b h.other z k).alone.name found.2 in
      let shelf : z ≡ y = same_key (λ s. s.collection.name) b.world.shelves z y h.other.world.rising k j (sym names ∙ ap (λ d. d.name) e) in
      let q : IsIn found.0 y.recs = subst (λ s. IsIn found.0 s.recs) shelf found.1 in
      let own : rec_row c r ≡ rec_row c found.0 = found.2 ∙ ap (λ s. rec_row s.collection found.0) shelf ∙ ap (λ d. rec_row d found.0) (sym e) in
      let sound : IsSoundRec c found.0 = subst (λ d. IsSoundRec d found.0) (sym e) (sound_rec b h.other y j found.0 q) in
      subst (λ s. IsIn s y.recs) (sym (rec_once c r found.0 (sound_shelf a h.one x i).alone (sound_rec a h.one x i r here) sound own)) q

  -- the records of a shelf are those of the shelf of its collection
  pub recs_into : (x y : Shelf) → IsIn x a.world.shelves → IsIn y b.world.shelves → x.collection ≡ y.collection → (r : Rec) → IsIn r x.recs → IsIn r y.recs
  recs_into x y i j e r here =
      let c = x.collection in
      let z = shelf_into (rec_row c r) x (no_rec_and_token c r) i (inr (in_map (rec_row c) x.recs r here)) in
      rec_here x y z.0 r i j z.1 e here z.2

-- ---- the two states

shelf_kept : (a b : Stored) → IsWithin a b → IsWithin b a → (x : Shelf) → IsIn x a.world.shelves → IsIn x b.world.shelves
shelf_kept a b h k x i =
    let y = collection_into a b h x i in
    let here = all_in (IsSoundShelf a.world) a.world.shelves x h.one.world.shelves i in
    let there = all_in (IsSoundShelf b.world) b.world.shelves y.0 k.one.world.shelves y.1 in
    let recs : x.recs ≡ y.0.recs = rising_same (λ r. r.id) x.recs y.0.recs here.rising there.rising (recs_into a b h x y.0 i y.1 y.2) (recs_into b a k y.0 x y.1 i (sym y.2)) in
    let same : x ≡ y.0 = λ j. record { collection = y.2 j; recs = recs j } in
    subst (λ s. IsIn s b.world.shelves) (sym same) y.1

both_ways : (a b : Stored) → IsWithin a b → IsWithin b a → a ≡ b
both_ways a b h k =
    let shelves : a.world.shelves ≡ b.world.shelves = rising_same (λ s. s.collection.name) a.world.shelves b.world.shelves h.one.world.rising k.one.world.rising (shelf_kept a b h k) (shelf_kept b a k h) in
    let tokens : a.tokens ≡ b.tokens = rising_same (λ t. t.text) a.tokens b.tokens h.one.rising k.one.rising (token_into a b h) (token_into b a k) in
    λ i. record { world = record { shelves = shelves i }; tokens = tokens i }

pub equal_states : (a b : Stored) → IsSoundStored a → IsSoundStored b → HaveSameRows (stored_rows a) (stored_rows b) → a ≡ b
equal_states a b sound other same =
    both_ways a b
    (record { one = sound; other = other; into = λ row i. in_from_contains (stored_rows b) row ((same row).0 (contains_from_in (stored_rows a) row i)) })
    (record { one = other; other = sound; into = λ row i. in_from_contains (stored_rows a) row ((same row).1 (contains_from_in (stored_rows b) row i)) })
