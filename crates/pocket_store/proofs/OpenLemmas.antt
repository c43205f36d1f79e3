-- The rows of a sound state are a store that opens to it.
use Rattle.std.proofs.Common.{◌≡◌, ◌⊎◌, inl, inr, ℕ, ◌≤◌, List, [], ◌∷◌, codes, length, map, refl, sym, ◌∙◌, ap, subst, arith, All, IsTrue}
use Rattle.std.specs.Prelude.{Contains, sum_by, true, false}
use Rattle.std.proofs.lemmas.List.{length-map}
use Rattle.std.proofs.lemmas.List.Elements.{All-weaker}
use Rattle.pocket_types.specs.Kinds.{target_of}
use Rattle.pocket_types.specs.Names.{is_name}
use Rattle.pocket_types.specs.Order.{Rises}
use Rattle.pocket_types.specs.Sound.{IsSoundCollection}
use Rattle.pocket_types.specs.Within.{AllHoldWithin, HasRec, HoldsWithin, IsShelf, LeadsWithin, collections_of}
use Rattle.pocket_types.proofs.OrderLemmas.{before_append, rises_filter, rises_map}
use Rattle.pocket_types.specs.declared.ids.Id.{Id}
use Rattle.pocket_types.specs.declared.names.Name.{Name}
use Rattle.pocket_types.specs.declared.records.Cell.{Cell}
use Rattle.pocket_types.specs.declared.records.Cell.TheVariants as cell
use Rattle.pocket_types.specs.declared.records.Collection.{Collection}
use Rattle.pocket_types.specs.declared.records.Field.{Field}
use Rattle.pocket_types.specs.declared.records.Kind.{Kind}
use Rattle.pocket_types.specs.declared.records.Kind.TheVariants as kind
use Rattle.pocket_types.specs.declared.records.Rec.{Rec}
use Rattle.pocket_types.specs.declared.world.Shelf.{Shelf}
use Rattle.pocket_types.specs.declared.world.World.{World}
use Rattle.pocket_keeper.specs.Rows.{IsRising}
use Rattle.pocket_keeper.specs.Texts.{collection_key, collection_row, rec_key, rec_row, token_row}
use Rattle.pocket_keeper.specs.declared.rows.KeptRow.{KeptRow}
use Rattle.pocket_keeper.specs.declared.tokens.Token.{Token}
use Rattle.pocket_rows.proofs.CollectionLemmas.{collection_once}
use Rattle.pocket_store.specs.SoundStates.{IsSoundRecIn, IsSoundShelf, IsSoundStored, IsSoundTokenIn}
use Rattle.pocket_store.specs.Stores.{AllHoldKept, AreReadable, AreWithinLimits, HasKey, HaveSameRows, HoldsKept, IsGoodRow, IsStoreOf, LeadsToKept, begins, collections_in, records_in, shelf_rows, stored_rows, tokens_in}
use Rattle.pocket_store.specs.declared.stored.Stored.{Stored}
use Rattle.pocket_store.proofs.LawLemmas.{no_collection_and_rec, no_collection_and_token}
use Rattle.pocket_store.proofs.ListLemmas.{IsIn, all_in, all_from_in, contains_from_in, in_back, in_either, in_filter, in_from_contains, in_front, in_map, in_map_back, of_filter, some_map}
use Rattle.pocket_store.proofs.RisingLemmas.{rising_same}
use Rattle.pocket_store.proofs.RowOrderLemmas.{count_len, count_recs, name_of, rec_rows, rec_rows-back, rec_rows-in, rec_rows-rise}
use Rattle.pocket_store.proofs.SearchLemmas.{key_of}
use Rattle.pocket_store.proofs.StoreLemmas.{in_shelf, shelf_of, shelves_rows}

-- a row that begins so isn't one that doesn't
not_begun : (front : List ℕ) (x y : KeptRow) → begins front x ≡ true → x ≡ y → begins front y ≡ false → ⊥
not_begun front x y h e k = let clash : true ≡ false = sym h ∙ ap (begins front) e ∙ k in cc

module _ (rows : List KeptRow) (s : Stored) (sound : IsSoundStored s) (rising : IsRising rows) (same : HaveSameRows rows (stored_rows s)) where
  abbrev w : World
  w = s.world

  abbrev cs : List Collection
  cs = collections_of w

  -- ---- where the rows come from

  abbrev OfCollection : KeptRow → Type 0
  OfCollection x = (z : Shelf) × IsIn z w.shelves × (x ≡ collection_row z.collection)

  abbrev OfRec : KeptRow → Type 0
  OfRec x = (z : Shelf) × (r : Rec) × IsIn z w.shelves × IsIn r z.recs × (x ≡ rec_row z.collection r)

  abbrev OfToken : KeptRow → Type 0
  OfToken x = (t : Token) × IsIn t s.tokens × (x ≡ token_row t)

  of_shelf : (x : KeptRow) (z : Shelf) → IsIn z w.shelves → IsIn x (shelf_rows z) → OfCollection x ⊎ (OfRec x ⊎ OfToken x)
  of_shelf x z i (inl e) = inl (z, i, e)
  of_shelf x z i (inr among) = let r = in_map_back (rec_row z.collection) z.recs x among in inr (inl (z, r.0, i, r.1, r.2))

  -- each row is that of a collection, a record or a token
  origin : (x : KeptRow) → IsIn x rows → OfCollection x ⊎ (OfRec x ⊎ OfToken x)
  origin x i =
      elim (in_either (shelves_rows w.shelves) (map token_row s.tokens) x (in_from_contains (stored_rows s) x ((same x).0 (contains_from_in rows x i)))) [
        | inl front ↦ let z = shelf_of x w.shelves front in of_shelf x z.0 z.1 z.2
        | inr back ↦ let t = in_map_back token_row s.tokens x back in inr (inr (t.0, t.1, t.2))
      ]

  row_there : (z : Shelf) (x : KeptRow) → IsIn z w.shelves → IsIn x (shelf_rows z) → IsIn x rows
  row_there z x i j =
      in_from_contains rows x
      ((same x).1 (contains_from_in (stored_rows s) x (in_front (shelves_rows w.shelves) (map token_row s.tokens) x (in_shelf z x w.shelves i j))))

  collection_there : (z : Shelf) → IsIn z w.shelves → IsIn (collection_row z.collection) rows
  collection_there z i = row_there z (collection_row z.collection) i (inl refl)

  rec_there : (z : Shelf) (r : Rec) → IsIn z w.shelves → IsIn r z.recs → IsIn (rec_row z.collection r) rows
  rec_there z r i j = row_there z (rec_row z.collection r) i (inr (in_map (rec_row z.collection) z.recs r j))

  token_there : (t : Token) → IsIn t s.tokens → IsIn (token_row t) rows
  token_there t i =
      in_from_contains rows (token_row t)
      ((same (token_row t)).1
      (contains_from_in (stored_rows s) (token_row t) (in_back (shelves_rows w.shelves) (map token_row s.tokens) (token_row t) (in_map token_row s.tokens t i))))

  shelf_sound : (z : Shelf) → IsIn z w.shelves → IsSoundShelf w z
  shelf_sound z i = all_in (IsSoundShelf w) w.shelves z sound.world.shelves i

  rec_sound : (z : Shelf) (r : Rec) → IsIn z w.shelves → IsIn r z.recs → IsSoundRecIn w z.collection r
  rec_sound z r i j = all_in (IsSoundRecIn w z.collection) z.recs r (shelf_sound z i).recs j

  -- ---- the collections

  collection_in : (z : Shelf) → IsIn z w.shelves → IsIn z.collection cs
  collection_in z i = in_map (λ s. s.collection) w.shelves z i

  all_collections : (P : Collection → Type 0) → ((z : Shelf) → IsIn z w.shelves → P z.collection) → All P cs
  all_collections P h = all_from_in P cs (λ c i. let z = in_map_back (λ s. s.collection) w.shelves c i in subst P (sym z.2) (h z.0 z.1))

  whole_by : (c : Collection) → IsSoundCollection c → OfCollection (collection_row c) ⊎ (OfRec (collection_row c) ⊎ OfToken (collection_row c)) → IsIn c cs
  whole_by c alone (inl (z, i, e)) = subst (λ d. IsIn d cs) (sym (collection_once c z.collection alone (shelf_sound z i).alone e)) (collection_in z i)
  whole_by c alone (inr (inl (z, r, i, j, e))) = absurd (no_collection_and_rec c z.collection r e)
  whole_by c alone (inr (inr (t, i, e))) = absurd (no_collection_and_token c t e)

  readable : AreReadable rows cs
  readable = record {
    sound = all_collections IsSoundCollection (λ z i. (shelf_sound z i).alone);
    kept = all_collections (λ c. Contains rows (collection_row c)) (λ z i. contains_from_in rows (collection_row z.collection) (collection_there z i));
    whole = λ c alone there. contains_from_in cs c (whole_by c alone (origin (collection_row c) (in_from_contains rows (collection_row c) there)));
    rising = rises_map name_of (λ c. c.name) (λ s. s.collection) (λ x y h. h) w.shelves sound.world.rising;
  }

  -- ---- what stands in the world has a row

  collection_kept : (target : Name) → (z : Shelf) × IsShelf w target z → HasKey rows (collection_key target)
  collection_kept target (z, is) =
      (collection_row z.collection, contains_from_in rows (collection_row z.collection) (collection_there z (in_from_contains w.shelves z is.there)), ap collection_key is.named)

  rec_kept : (target : Name) (id : Id) → (z : Shelf) × IsShelf w target z × HasRec z id → HasKey rows (rec_key target id)
  rec_kept target id (z, is, has) =
      let r = has.0 in (
        rec_row z.collection r,
        contains_from_in rows (rec_row z.collection r) (rec_there z r (in_from_contains w.shelves z is.there) (in_from_contains z.recs r has.1)),
        λ i. rec_key (is.named i) (has.2 i),
      )

  leads : (f : Field) → LeadsWithin w f → LeadsToKept rows f
  leads f h = some_map (λ target. (z : Shelf) × IsShelf w target z) (λ target. HasKey rows (collection_key target)) (target_of f.kind) collection_kept h

  holds : (k : Kind) (c : Cell) → HoldsWithin w k c → HoldsKept rows k c
  holds (kind.Text min max) c h = tt
  holds (kind.Number min max) c h = tt
  holds kind.Flag c h = tt
  holds (kind.Date min max) c h = tt
  holds (kind.Select values most) c h = tt
  holds (kind.Json max) c h = tt
  holds (kind.Relation target most cascade) (cell.Text t) h = tt
  holds (kind.Relation target most cascade) (cell.Num n) h = tt
  holds (kind.Relation target most cascade) (cell.Flag b) h = tt
  holds (kind.Relation target most cascade) (cell.Date d) h = tt
  holds (kind.Relation target most cascade) (cell.Picks items) h = tt
  holds (kind.Relation target most cascade) (cell.Json tree) h = tt
  holds (kind.Relation target most cascade) (cell.Refs ids) h =
      All-weaker (λ id. (z : Shelf) × IsShelf w target z × HasRec z id) (λ id. HasKey rows (rec_key target id)) (λ id has. rec_kept target id has) ids h

  all_hold : (fs : List Field) (cells : List Cell) → AllHoldWithin w fs cells → AllHoldKept rows fs cells
  all_hold [] cells h = tt
  all_hold (f ∷ fs) [] h = tt
  all_hold (f ∷ fs) (c ∷ cells) h = (holds f.kind c h.0, all_hold fs cells h.1)

  -- ---- the rows are good

  good_row : (x : KeptRow) → OfCollection x ⊎ (OfRec x ⊎ OfToken x) → IsGoodRow rows cs x
  good_row x (inl (z, i, e)) =
      let here = shelf_sound z i in
      let c = z.collection in
      inl (c, record { sound = here.alone; kept = e; fits = record { rules = here.rules; targets = All-weaker (LeadsWithin w) (LeadsToKept rows) leads c.fields here.targets; few = here.few } })
  good_row x (inr (inl (z, r, i, j, e))) =
      let here = rec_sound z r i j in
      let c = z.collection in
      inr (inl (
        c,
        r,
        contains_from_in cs c (collection_in z i),
        record { sound = here.alone; kept = e; held = all_hold c.fields r.cells here.held; short = subst (λ y. length y.value ≤ 65536) (sym e) here.short },
      ))
  good_row x (inr (inr (t, i, e))) =
      let here = all_in (IsSoundTokenIn w) s.tokens t sound.tokens i in
      let m = here.member in
      let z = m.shelf in
      inr (inr (
        t,
        record {
          sound = here.alone;
          kept = e;
          member = record {
            collection = z.collection;
            there = contains_from_in cs z.collection (collection_in z (in_from_contains w.shelves z m.there.there));
            named = m.there.named;
            auth = m.auth;
            kept = rec_kept t.collection t.id (z, m.there, m.member);
          };
        },
      ))

  -- ---- the limits

  same_collections : map collection_row cs ≡ collections_in rows
  same_collections =
      rising_same key_of (map collection_row cs) (collections_in rows)
      (rises_map (λ c. c.name) key_of collection_row (λ c d h. before_append (codes "c/") c.name d.name h) cs readable.rising)
      (rises_filter key_of (begins (codes "c/")) rows rising)
      (λ x i.
      let c = in_map_back collection_row cs x i in
      let z = in_map_back (λ s. s.collection) w.shelves c.0 c.1 in
      let e : x ≡ collection_row z.0.collection = c.2 ∙ ap collection_row z.2 in
      in_filter (begins (codes "c/")) rows x (subst (λ y. IsIn y rows) (sym e) (collection_there z.0 z.1)) (ap (begins (codes "c/")) e))
      (λ x i. let h = of_filter (begins (codes "c/")) rows x i in by x h.1 (origin x h.0))
    where
      by : (x : KeptRow) → begins (codes "c/") x ≡ true → OfCollection x ⊎ (OfRec x ⊎ OfToken x) → IsIn x (map collection_row cs)
      by x front (inl (z, i, e)) = subst (λ y. IsIn y (map collection_row cs)) (sym e) (in_map collection_row cs z.collection (collection_in z i))
      by x front (inr (inl (z, r, i, j, e))) = absurd (not_begun (codes "c/") x (rec_row z.collection r) front e refl)
      by x front (inr (inr (t, i, e))) = absurd (not_begun (codes "c/") x (token_row t) front e refl)

  same_records : rec_rows w.shelves ≡ records_in rows
  same_records =
      rising_same key_of (rec_rows w.shelves) (records_in rows)
      (rec_rows-rise w.shelves (all_from_in (λ z. IsTrue (is_name z.collection.name)) w.shelves (λ z i. (shelf_sound z i).alone.name))
      (all_from_in (λ z. Rises (λ r. r.id) z.recs) w.shelves (λ z i. (shelf_sound z i).rising)) sound.world.rising)
      (rises_filter key_of (begins (codes "r/")) rows rising)
      (λ x i.
      let h = rec_rows-back w.shelves x i in
      in_filter (begins (codes "r/")) rows x (subst (λ y. IsIn y rows) (sym h.4) (rec_there h.0 h.1 h.2 h.3)) (ap (begins (codes "r/")) h.4))
      (λ x i. let h = of_filter (begins (codes "r/")) rows x i in by x h.1 (origin x h.0))
    where
      by : (x : KeptRow) → begins (codes "r/") x ≡ true → OfCollection x ⊎ (OfRec x ⊎ OfToken x) → IsIn x (rec_rows w.shelves)
      by x front (inl (z, i, e)) = absurd (not_begun (codes "r/") x (collection_row z.collection) front e refl)
      by x front (inr (inl (z, r, i, j, e))) =
          rec_rows-in w.shelves z x i (subst (λ y. IsIn y (map (rec_row z.collection) z.recs)) (sym e) (in_map (rec_row z.collection) z.recs r j))
      by x front (inr (inr (t, i, e))) = absurd (not_begun (codes "r/") x (token_row t) front e refl)

  same_tokens : map token_row s.tokens ≡ tokens_in rows
  same_tokens =
      rising_same key_of (map token_row s.tokens) (tokens_in rows)
      (rises_map (λ t. t.text) key_of token_row (λ t u h. before_append (codes "t/") t.text u.text h) s.tokens sound.rising)
      (rises_filter key_of (begins (codes "t/")) rows rising)
      (λ x i.
      let t = in_map_back token_row s.tokens x i in
      in_filter (begins (codes "t/")) rows x (subst (λ y. IsIn y rows) (sym t.2) (token_there t.0 t.1)) (ap (begins (codes "t/")) t.2))
      (λ x i. let h = of_filter (begins (codes "t/")) rows x i in by x h.1 (origin x h.0))
    where
      by : (x : KeptRow) → begins (codes "t/") x ≡ true → OfCollection x ⊎ (OfRec x ⊎ OfToken x) → IsIn x (map token_row s.tokens)
      by x front (inl (z, i, e)) = absurd (not_begun (codes "t/") x (collection_row z.collection) front e refl)
      by x front (inr (inl (z, r, i, j, e))) = absurd (not_begun (codes "t/") x (rec_row z.collection r) front e refl)
      by x front (inr (inr (t, i, e))) = subst (λ y. IsIn y (map token_row s.tokens)) (sym e) (in_map token_row s.tokens t i)

  within : AreWithinLimits rows
  within = record {
    collections = let e = ap length same_collections in omega (arith, e, length-map cs collection_row, length-map w.shelves (λ s. s.collection), sound.world.collections);
    records = let e = ap length same_records in omega (arith, e, count_recs w.shelves, sound.world.records);
    store = let e = ap (sum_by (λ row. length row.value)) same_records in omega (arith, e, count_len w.shelves, sound.world.store);
    tokens = let e = ap length same_tokens in omega (arith, e, length-map s.tokens token_row, sound.few);
  }

  pub sound_opens : IsStoreOf rows s
  sound_opens = record {
    good = record {
      collections = cs;
      readable = readable;
      good = all_from_in (IsGoodRow rows cs) rows (λ x i. good_row x (origin x i));
      within = within;
    };
    same = same;
  }
