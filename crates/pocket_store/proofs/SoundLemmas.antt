-- The state of good rows is sound.
use Rattle.std.proofs.Common.{◌≡◌, ◌⊎◌, inl, inr, ◌≤◌, List, [], ◌∷◌, ◌++◌, length, get_or, map, refl, sym, ◌∙◌, ap, subst, arith, All, codes}
use Rattle.std.specs.Prelude.{Contains, IsTrue}
use Rattle.std.proofs.lemmas.List.{append_cancel_left, length-map}
use Rattle.std.proofs.lemmas.List.Elements.{All-head, All-tail, All-weaker}
use Rattle.pocket_types.specs.Kinds.{target_of}
use Rattle.pocket_types.specs.Names.{is_name}
use Rattle.pocket_types.specs.Order.{IsBefore, Rises}
use Rattle.pocket_types.proofs.OrderLemmas.{before_append, rises_nil, rises_cons, rises_first, rises_rest, rises_filter, rises_map}
use Rattle.pocket_types.specs.declared.ids.Id.{Id}
use Rattle.pocket_types.specs.declared.names.Name.{Name}
use Rattle.pocket_types.specs.declared.records.Cell.{Cell}
use Rattle.pocket_types.specs.declared.records.Cell.TheVariants as cell
use Rattle.pocket_types.specs.declared.records.Collection.{Collection}
use Rattle.pocket_types.specs.declared.records.Field.{Field}
use Rattle.pocket_types.specs.declared.records.Kind.{Kind}
use Rattle.pocket_types.specs.declared.records.Kind.TheVariants as kind
use Rattle.pocket_types.specs.declared.records.Rec.{Rec}
use Rattle.pocket_types.specs.declared.world.Shelf.{Shelf}
use Rattle.pocket_types.specs.declared.world.World.{World}
use Rattle.pocket_keeper.specs.Rows.{IsRising}
use Rattle.pocket_keeper.specs.Texts.{collection_row, rec_key, rec_row, token_row}
use Rattle.pocket_keeper.specs.declared.rows.KeptRow.{KeptRow}
use Rattle.pocket_keeper.specs.declared.tokens.Token.{Token}
use Rattle.pocket_keeper.proofs.KeyLemmas.{name_lacks_slash, word_next}
use Rattle.pocket_types.specs.Sound.{IsSoundCollection, IsSoundField, IsSoundKind}
use Rattle.pocket_store.specs.Drafts.{AreGoodRecs, IsWhole, draft, shelves_of}
use Rattle.pocket_store.specs.SoundStates.{IsSoundRecIn, IsSoundShelf, IsSoundStored, IsSoundTokenIn, IsSoundWorld}
use Rattle.pocket_types.specs.Within.{AllHoldWithin, HasRec, HoldsWithin, IsShelf, LeadsWithin}
use Rattle.pocket_store.specs.Stores.{AllHoldKept, AreReadable, FitsAmong, HasKey, HoldsKept, IsGoodRec, IsGoodRow, IsGoodToken, LeadsToKept, RulesResolve, begins, collections_in}
use Rattle.pocket_store.proofs.ListLemmas.{IsIn, all_in, all_from_in, contains_from_in, in_either, in_from_contains, in_map_back, in_filter, some_map}
use Rattle.pocket_store.proofs.RisingLemmas.{rising_within, same_key}
use Rattle.pocket_store.proofs.SearchLemmas.{key_of, name_of}
use Rattle.pocket_store.proofs.StoreLemmas.{collection_in, kept_rows, shelf_of, shelves_rows}

-- ---- the shelves

-- the world of collections and of their records
abbrev world_of : List Collection → List (List Rec) → World
world_of cs recs = record { shelves = shelves_of cs recs }

-- each collection has its shelf, in the same order
collections_same : (cs : List Collection) (recs : List (List Rec)) → length recs ≡ length cs → map (λ s. s.collection) (shelves_of cs recs) ≡ cs
collections_same [] recs e = refl
collections_same (c ∷ cs) [] e = absurd (omega arith)
collections_same (c ∷ cs) (rs ∷ recs) e = ap (λ l. c ∷ l) (collections_same cs recs (omega arith))

-- what holds of each collection holds of that of each shelf
all_shelves : (P : Collection → Type 0) (cs : List Collection) (recs : List (List Rec)) → All P cs → All (λ s. P s.collection) (shelves_of cs recs)
all_shelves P cs recs h = all_from_in (λ s. P s.collection) (shelves_of cs recs) (λ s i. all_in P cs s.collection h (collection_in cs recs s i))

-- shelves rise by name as their collections do
shelves_rise : (cs : List Collection) (recs : List (List Rec)) → Rises name_of cs → Rises (λ s. s.collection.name) (shelves_of cs recs)
shelves_rise [] recs h = rises_nil (λ s. s.collection.name)
shelves_rise (c ∷ cs) [] h = rises_nil (λ s. s.collection.name)
shelves_rise (c ∷ cs) (rs ∷ recs) h =
    rises_cons (λ s. s.collection.name) (record { collection = c; recs = rs }) (shelves_of cs recs)
    (all_shelves (λ d. IsBefore c.name d.name) cs recs (rises_first name_of c cs h)) (shelves_rise cs recs (rises_rest name_of c cs h))

module _ (rows : List KeptRow) (cs : List Collection) (recs : List (List Rec)) (ts : List Token) (rising : IsRising rows) (readable : AreReadable rows cs) (whole : IsWhole rows cs recs ts) where
  -- a shelf's collection is sound by itself
  shelf_sound : (s : Shelf) → IsIn s (shelves_of cs recs) → IsSoundCollection s.collection
  shelf_sound s i = all_in IsSoundCollection cs s.collection readable.sound (collection_in cs recs s i)

  -- one of the shelves is the shelf of its name
  shelf_is : (s : Shelf) (name : Name) → IsIn s (shelves_of cs recs) → s.collection.name ≡ name → IsShelf (world_of cs recs) name s
  shelf_is s name i e = record { there = contains_from_in (shelves_of cs recs) s i; named = e }

  -- a row is that of a shelf or of a token
  kept_in : (x : KeptRow) → Contains rows x → IsIn x (shelves_rows (shelves_of cs recs)) ⊎ IsIn x (map token_row ts)
  kept_in x h =
      in_either (shelves_rows (shelves_of cs recs)) (map token_row ts) x
      (in_from_contains (kept_rows (shelves_of cs recs) ts) x ((whole.same x).0 h))

  -- ---- what stands where a key does

  -- where a collection has a row, it has a shelf
  leads : (name : Name) → HasKey rows (codes "c/" ++ name) → (s : Shelf) × IsShelf (world_of cs recs) name s
  leads name (row, there, keyed) =
      elim (kept_in row there) [
        | inl front ↦
            let held = shelf_of row (shelves_of cs recs) front in
            let s = held.0 in
            elim held.2 [
              | inl e ↦ (s, shelf_is s name held.1 (append_cancel_left (codes "c/") s.collection.name name (sym (ap key_of e) ∙ keyed)))
              | inr among ↦
                  let found = in_map_back (rec_row s.collection) s.recs row among in
                  absurd (omega (arith, ap (λ x. get_or x 0 0) (sym (ap key_of found.2) ∙ keyed)))
            ]
        | inr back ↦
            let found = in_map_back token_row ts row back in
            absurd (omega (arith, ap (λ x. get_or x 0 0) (sym (ap key_of found.2) ∙ keyed)))
      ]

  -- where a record has a row, it stands on its collection's shelf
  member : (name : Name) (id : Id) → IsTrue (is_name name) → HasKey rows (rec_key name id) → (s : Shelf) × IsShelf (world_of cs recs) name s × HasRec s id
  member name id is (row, there, keyed) =
      elim (kept_in row there) [
        | inl front ↦
            let held = shelf_of row (shelves_of cs recs) front in
            let s = held.0 in
            elim held.2 [
              | inl e ↦ absurd (omega (arith, ap (λ x. get_or x 0 0) (sym (ap key_of e) ∙ keyed)))
              | inr among ↦
                  let found = in_map_back (rec_row s.collection) s.recs row among in
                  let r = found.0 in
                  let both = word_next 47 row.key (codes "r/") s.collection.name name r.id id (name_lacks_slash s.collection.name (shelf_sound s held.1).name)
                  (name_lacks_slash name is) (ap key_of found.2) keyed in
                  (s, shelf_is s name held.1 both.0, (r, contains_from_in s.recs r found.1, both.1))
            ]
        | inr back ↦
            let found = in_map_back token_row ts row back in
            absurd (omega (arith, ap (λ x. get_or x 0 0) (sym (ap key_of found.2) ∙ keyed)))
      ]

  -- ---- records

  -- what a sound field's cell holds stands on shelves where it has rows
  held_in : (k : Kind) (c : Cell) → IsSoundKind k → HoldsKept rows k c → HoldsWithin (world_of cs recs) k c
  held_in (kind.Text min max) c sound h = tt
  held_in (kind.Number min max) c sound h = tt
  held_in kind.Flag c sound h = tt
  held_in (kind.Date min max) c sound h = tt
  held_in (kind.Select values most) c sound h = tt
  held_in (kind.Json max) c sound h = tt
  held_in (kind.Relation target most cascade) (cell.Text t) sound h = tt
  held_in (kind.Relation target most cascade) (cell.Num n) sound h = tt
  held_in (kind.Relation target most cascade) (cell.Flag b) sound h = tt
  held_in (kind.Relation target most cascade) (cell.Date d) sound h = tt
  held_in (kind.Relation target most cascade) (cell.Picks items) sound h = tt
  held_in (kind.Relation target most cascade) (cell.Json tree) sound h = tt
  held_in (kind.Relation target most cascade) (cell.Refs ids) sound h =
      All-weaker (λ id. HasKey rows (rec_key target id)) (λ id. (s : Shelf) × IsShelf (world_of cs recs) target s × HasRec s id)
      (λ id has. member target id sound.0 has) ids h

  -- so it is for all cells of a record
  all_held_in : (fs : List Field) (cells : List Cell) → All IsSoundField fs → AllHoldKept rows fs cells → AllHoldWithin (world_of cs recs) fs cells
  all_held_in [] cells sound h = tt
  all_held_in (f ∷ fs) [] sound h = tt
  all_held_in (f ∷ fs) (c ∷ cells) sound h =
      (held_in f.kind c (All-head IsSoundField f fs sound).kind h.0, all_held_in fs cells (All-tail IsSoundField f fs sound) h.1)

  -- what is known of a shelf's records
  recs_of : (s : Shelf) → IsIn s (shelves_of cs recs) → AreGoodRecs rows s
  recs_of s i = all_in (AreGoodRecs rows) (shelves_of cs recs) s whole.good_recs i

  -- a record of a shelf is sound there
  rec_sound : (s : Shelf) (r : Rec) → IsIn s (shelves_of cs recs) → IsIn r s.recs → IsSoundRecIn (world_of cs recs) s.collection r
  rec_sound s r i j =
      let good = all_in (λ r. IsGoodRec rows (rec_row s.collection r) s.collection r) s.recs r (recs_of s i).good j in
      record { alone = good.sound; held = all_held_in s.collection.fields r.cells (shelf_sound s i).fields good.held; short = good.short }

  -- ---- collections

  -- the row of a collection is good as no other's
  fits_by : (c : Collection) → IsIn c cs → Contains rows (collection_row c) → IsGoodRow rows cs (collection_row c) → FitsAmong rows cs c
  fits_by c i there (inl (d, g)) =
      let j : IsIn d cs = in_from_contains cs d (readable.whole d g.sound (subst (λ x. Contains rows x) g.kept there)) in
      let same : d ≡ c = same_key name_of cs d c readable.rising j i (append_cancel_left (codes "c/") d.name c.name (sym (ap key_of g.kept))) in
      subst (λ x. FitsAmong rows cs x) same g.fits
  fits_by c i there (inr (inl (d, r, j, g))) = absurd (omega (arith, ap (λ x. get_or x 0 0) (ap key_of g.kept)))
  fits_by c i there (inr (inr (t, g))) = absurd (omega (arith, ap (λ x. get_or x 0 0) (ap key_of g.kept)))

  -- each of the collections has a row
  row_in : (c : Collection) → IsIn c cs → Contains rows (collection_row c)
  row_in c i = all_in (λ d. Contains rows (collection_row d)) cs c readable.kept i

  -- each of the collections fits among them
  fits : (c : Collection) → IsIn c cs → FitsAmong rows cs c
  fits c i = fits_by c i (row_in c i) (all_in (IsGoodRow rows cs) rows (collection_row c) whole.judged.good (in_from_contains rows (collection_row c) (row_in c i)))

  -- a relation's target stands in the world where it has a row
  leads_in : (f : Field) → LeadsToKept rows f → LeadsWithin (world_of cs recs) f
  leads_in f h =
      some_map (λ target. HasKey rows (codes "c/" ++ target)) (λ target. (s : Shelf) × IsShelf (world_of cs recs) target s) (target_of f.kind) (λ target k. leads target k) h

  -- a shelf is sound in the world
  shelf_good : (s : Shelf) → IsIn s (shelves_of cs recs) → IsSoundShelf (world_of cs recs) s
  shelf_good s i =
      let c = s.collection in
      let f : FitsAmong rows cs c = fits c (collection_in cs recs s i) in
      record {
        alone = shelf_sound s i;
        rules = subst (λ l. RulesResolve l c) (sym (collections_same cs recs whole.lengths)) f.rules;
        targets = All-weaker (LeadsToKept rows) (LeadsWithin (world_of cs recs)) leads_in c.fields f.targets;
        few = f.few;
        recs = all_from_in (IsSoundRecIn (world_of cs recs) c) s.recs (λ r j. rec_sound s r i j);
        rising = (recs_of s i).rising;
      }

  -- ---- limits

  -- no more collections than rows that keep them
  few_collections : length cs ≤ length (collections_in rows)
  few_collections =
      let up : Rises key_of (map collection_row cs) = rises_map name_of key_of collection_row (λ c d h. before_append (codes "c/") c.name d.name h) cs readable.rising in
      let front = begins (codes "c/") in
      let h : length (map collection_row cs) ≤ length (collections_in rows) =
      rising_within key_of (map collection_row cs) (collections_in rows) up (rises_filter key_of front rows rising)
      (λ x i.
      let found = in_map_back collection_row cs x i in
      in_filter front rows x (subst (λ y. IsIn y rows) (sym found.2) (in_from_contains rows (collection_row found.0) (row_in found.0 found.1))) (ap front found.2)) in
      omega (arith, h, length-map cs collection_row)

  -- the shelves pass no limit
  few_shelves : length (shelves_of cs recs) ≤ 100
  few_shelves =
      let e = ap length (collections_same cs recs whole.lengths) in
      omega (arith, e, length-map (shelves_of cs recs) (λ s. s.collection), few_collections, whole.judged.within.collections)

  -- the world is sound
  world_sound : IsSoundWorld (world_of cs recs)
  world_sound = record {
    shelves = all_from_in (IsSoundShelf (world_of cs recs)) (shelves_of cs recs) shelf_good;
    rising = shelves_rise cs recs readable.rising;
    collections = few_shelves;
    records = omega (arith, whole.counted.records, whole.judged.within.records);
    store = omega (arith, whole.counted.store, whole.judged.within.store);
  }

  -- ---- tokens

  -- a token is sound in the world
  token_sound : (t : Token) → IsIn t ts → IsSoundTokenIn (world_of cs recs) t
  token_sound t i =
      let good = all_in (λ t. IsGoodToken rows cs (token_row t) t) ts t whole.good_tokens.good i in
      let m = good.member in
      let found = member t.collection t.id good.sound.collection m.kept in
      let s = found.0 in
      let there = found.1 in
      let same : s.collection ≡ m.collection = same_key name_of cs s.collection m.collection readable.rising
      (collection_in cs recs s (in_from_contains (shelves_of cs recs) s there.there)) (in_from_contains cs m.collection m.there) (there.named ∙ sym m.named) in
      record {
        alone = good.sound;
        member = record { shelf = s; there = there; auth = subst (λ c. IsTrue c.is_auth) (sym same) m.auth; member = found.2 };
      }

  -- the state is sound
  pub whole_sound : IsSoundStored (draft cs recs ts)
  whole_sound = record {
    world = world_sound;
    tokens = all_from_in (IsSoundTokenIn (world_of cs recs)) ts token_sound;
    rising = whole.good_tokens.rising;
    few = omega (arith, whole.counted.tokens, whole.judged.within.tokens);
  }

-- the state of the shelves that were put together is sound
pub sound_from : (rows : List KeptRow) (cs : List Collection) (recs : List (List Rec)) (ts : List Token) (shelves : List Shelf) → IsRising rows → AreReadable rows cs
    → IsWhole rows cs recs ts → shelves ≡ shelves_of cs recs → IsSoundStored (record { world = record { shelves = shelves }; tokens = ts })
sound_from rows cs recs ts shelves rising readable whole e = rw e (whole_sound rows cs recs ts rising readable whole)
