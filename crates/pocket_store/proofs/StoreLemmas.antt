-- What is true of the shelves and tokens while the rows are read one by one.
use Rattle.std.proofs.Common.{◌≡◌, ◌↔◌, ◌⊎◌, inl, inr, ℕ, zero, suc, ◌+◌, ◌<◌, ◌≤◌, List, [], ◌∷◌, ◌++◌, Some, length, length-append, get_or, map, take, refl, sym, ◌∙◌, ap, subst, arith, All, codes}
use Rattle.std.specs.Prelude.{Contains, slice_get, slice_set, sum_by}
use Rattle.std.specs.List.{flat_map}
use Rattle.std.proofs.lemmas.List.{map-append}
use Rattle.std.proofs.lemmas.List.Elements.{All-cons, All-head, All-tail, All-push, All-set, All-weaker}
use Rattle.std.proofs.lemmas.List.Sums.{sum_by-cons, sum_by_push}
use Rattle.pocket_types.specs.Order.{IsBefore, Rises}
use Rattle.pocket_types.proofs.OrderLemmas.{before_from_append, rises_nil, rises_push}
use Rattle.pocket_types.specs.declared.records.Collection.{Collection}
use Rattle.pocket_types.specs.declared.records.Rec.{Rec}
use Rattle.pocket_types.specs.declared.world.Shelf.{Shelf}
use Rattle.pocket_keeper.specs.Texts.{collection_row, rec_row, token_row}
use Rattle.pocket_keeper.specs.declared.rows.KeptRow.{KeptRow}
use Rattle.pocket_keeper.specs.declared.tokens.Token.{Token}
use Rattle.pocket_store.specs.Drafts.{Adds, AreCounted, AreGoodRecs, HasRoom, IsWhole, no_recs, shelf_len, shelves_of, with_rec}
use Rattle.pocket_store.specs.Finding.{Holds}
use Rattle.pocket_store.specs.declared.stores.Found.{Found}
use Rattle.pocket_store.specs.declared.stores.Found.TheVariants as found
use Rattle.pocket_store.specs.Limits.{AreJudged}
use Rattle.pocket_ops.specs.Lengths.{row_len}
use Rattle.pocket_store.specs.Stores.{AreReadable, IsGoodRec, IsGoodToken, records_in, shelf_rows}
use Rattle.std.proofs.Math.ListN.{length-set}
use Rattle.pocket_keeper.specs.Rows.{IsRising}
use Rattle.pocket_store.proofs.JudgeLemmas.{row_more}
use Rattle.pocket_store.proofs.LimitLemmas as limit
use Rattle.pocket_store.proofs.ReadableLemmas.{read_before}
use Rattle.pocket_store.proofs.SearchLemmas.{key_of}
use Rattle.pocket_store.proofs.ListLemmas.{take_all, IsIn, all_in, all_from_in, contains_from_in, in_back, in_either, in_from_contains, in_from_get, in_front, in_map_back}

-- the rows of some shelves
abbrev pub shelves_rows : List Shelf → List KeptRow
shelves_rows shelves = flat_map shelf_rows shelves

abbrev pub kept_rows : List Shelf → List Token → List KeptRow
kept_rows shelves ts = shelves_rows shelves ++ map token_row ts

-- the records of a shelf are good, their rows stand among these, and they rise by id
pub record AreRecsOf (rows before : List KeptRow) (s : Shelf) : Type 0 where
  pub good : All (λ r. IsGoodRec rows (rec_row s.collection r) s.collection r) s.recs
  pub there : All (λ r. IsIn (rec_row s.collection r) before) s.recs
  pub rising : Rises (λ r. r.id) s.recs

-- the tokens are good, their rows stand among these, and they rise by text
pub record AreTokensOf (rows : List KeptRow) (cs : List Collection) (before : List KeptRow) (ts : List Token) : Type 0 where
  pub good : All (λ t. IsGoodToken rows cs (token_row t) t) ts
  pub there : All (λ t. IsIn (token_row t) before) ts
  pub rising : Rises (λ t. t.text) ts

-- the shelves and tokens hold what the first rows hold, and nothing else
pub record AreRead (rows : List KeptRow) (cs : List Collection) (before : List KeptRow) (shelves : List Shelf) (ts : List Token) : Type 0 where
  pub into : (x : KeptRow) → IsIn x before → IsIn x (kept_rows shelves ts)
  pub recs : All (AreRecsOf rows before) shelves
  pub tokens : AreTokensOf rows cs before ts
  pub counted : AreCounted before shelves ts

-- ---- rows of shelves

pub in_shelf : (s : Shelf) (x : KeptRow) (shelves : List Shelf) → IsIn s shelves → IsIn x (shelf_rows s) → IsIn x (shelves_rows shelves)
in_shelf s x [] h i = absurd h
in_shelf s x (t ∷ ts) (inl e) i = in_front (shelf_rows t) (shelves_rows ts) x (subst (λ u. IsIn x (shelf_rows u)) e i)
in_shelf s x (t ∷ ts) (inr h) i = in_back (shelf_rows t) (shelves_rows ts) x (in_shelf s x ts h i)

pub shelf_of : (x : KeptRow) (shelves : List Shelf) → IsIn x (shelves_rows shelves) → (s : Shelf) × IsIn s shelves × IsIn x (shelf_rows s)
shelf_of x [] h = absurd h
shelf_of x (t ∷ ts) h =
    elim (in_either (shelf_rows t) (shelves_rows ts) x h) [
      | inl here ↦ (t, inl refl, here)
      | inr later ↦ let rest = shelf_of x ts later in (rest.0, inr rest.1, rest.2)
    ]

pub shelf_rows_more : (s : Shelf) (r : Rec) → shelf_rows (with_rec s r) ≡ shelf_rows s ++ rec_row s.collection r ∷ []
shelf_rows_more s r = ap (λ t. collection_row s.collection ∷ t) (map-append (rec_row s.collection) s.recs (r ∷ []))

pub rec_more : (shelves : List Shelf) (at : ℕ) (s : Shelf) (r : Rec) (x : KeptRow) → slice_get shelves at ≡ Some s
    → IsIn x (shelves_rows shelves) ⊎ (x ≡ rec_row s.collection r) → IsIn x (shelves_rows (slice_set shelves at (with_rec s r)))
rec_more [] at s r x e h = cc
rec_more (t ∷ ts) zero s r x e h =
    let same : t ≡ s = cc in
    elim h [
      | inl old ↦
          elim (in_either (shelf_rows t) (shelves_rows ts) x old) [
            | inl here ↦
                in_front (shelf_rows (with_rec s r)) (shelves_rows ts) x
                (subst (λ l. IsIn x l) (sym (shelf_rows_more s r))
                (in_front (shelf_rows s) (rec_row s.collection r ∷ []) x (subst (λ u. IsIn x (shelf_rows u)) same here)))
            | inr later ↦ in_back (shelf_rows (with_rec s r)) (shelves_rows ts) x later
          ]
      | inr q ↦
          in_front (shelf_rows (with_rec s r)) (shelves_rows ts) x
          (subst (λ l. IsIn x l) (sym (shelf_rows_more s r)) (in_back (shelf_rows s) (rec_row s.collection r ∷ []) x (inl q)))
    ]
rec_more (t ∷ ts) (suc at) s r x e h =
    elim h [
      | inl old ↦
          elim (in_either (shelf_rows t) (shelves_rows ts) x old) [
            | inl here ↦ in_front (shelf_rows t) (shelves_rows (slice_set ts at (with_rec s r))) x here
            | inr later ↦ in_back (shelf_rows t) (shelves_rows (slice_set ts at (with_rec s r))) x (rec_more ts at s r x e (inl later))
          ]
      | inr q ↦ in_back (shelf_rows t) (shelves_rows (slice_set ts at (with_rec s r))) x (rec_more ts at s r x e (inr q))
    ]

-- what one item more adds to a sum
sum_set : {X : Type 0} (f : X → ℕ) (xs : List X) (at : ℕ) (x y : X) (more : ℕ) → slice_get xs at ≡ Some x → f y ≡ f x + more
    → sum_by f (slice_set xs at y) ≡ sum_by f xs + more
sum_set f [] at x y more e h = cc
sum_set f (z ∷ xs) zero x y more e h =
    let same : f z ≡ f x = ap f (cc) in omega (arith, same, h, sum_by-cons f z xs, sum_by-cons f y xs)
sum_set f (z ∷ xs) (suc at) x y more e h =
    omega (arith, sum_set f xs at x y more e h, sum_by-cons f z xs, sum_by-cons f z (slice_set xs at y))

pub ids_before : (c : Collection) (r q : Rec) → IsBefore (rec_row c r).key (rec_row c q).key → IsBefore r.id q.id
ids_before c r q h =
    before_from_append (47 ∷ []) r.id q.id
    (before_from_append c.name (47 ∷ r.id) (47 ∷ q.id) (before_from_append (codes "r/") (c.name ++ (47 ∷ r.id)) (c.name ++ (47 ∷ q.id)) h))

-- ---- one row more

module _ (rows : List KeptRow) (cs : List Collection) (before : List KeptRow) (row : KeptRow) (shelves : List Shelf) (ts : List Token)
    (earlier : All (λ x. IsBefore (key_of x) (key_of row)) before) (read : AreRead rows cs before shelves ts) where
  more : (x : KeptRow) → IsIn x before → IsIn x (before ++ row ∷ [])
  more x h = in_front before (row ∷ []) x h

  last : IsIn row (before ++ row ∷ [])
  last = in_back before (row ∷ []) row (inl refl)

  recs_stay : All (AreRecsOf rows (before ++ row ∷ [])) shelves
  recs_stay =
      All-weaker (AreRecsOf rows before) (AreRecsOf rows (before ++ row ∷ []))
      (λ s a. record {
        good = a.good;
        there = All-weaker (λ r. IsIn (rec_row s.collection r) before) (λ r. IsIn (rec_row s.collection r) (before ++ row ∷ [])) (λ r h. more (rec_row s.collection r) h) s.recs a.there;
        rising = a.rising;
      })
      shelves read.recs

  there_stay : All (λ t. IsIn (token_row t) (before ++ row ∷ [])) ts
  there_stay = All-weaker (λ t. IsIn (token_row t) before) (λ t. IsIn (token_row t) (before ++ row ∷ [])) (λ t h. more (token_row t) h) ts read.tokens.there

  tokens_stay : AreTokensOf rows cs (before ++ row ∷ []) ts
  tokens_stay = record { good = read.tokens.good; there = there_stay; rising = read.tokens.rising }

  -- the row of a collection, whose shelf is there already
  pub with_collection : (s : Shelf) → IsIn s shelves → row ≡ collection_row s.collection → AreRead rows cs (before ++ row ∷ []) shelves ts
  with_collection s i is = record {
    into = λ x h.
        elim (in_either before (row ∷ []) x h) [
          | inl old ↦ read.into x old
          | inr new ↦ elim new [
            | inl e ↦ in_front (shelves_rows shelves) (map token_row ts) x (in_shelf s x shelves i (inl (e ∙ is)))
            | inr never ↦ absurd never
          ]
        ];
    recs = recs_stay;
    tokens = tokens_stay;
    counted = record {
      records = read.counted.records ∙ ap length (sym (limit.records_stay before row s.collection is));
      store = read.counted.store ∙ ap (sum_by (λ row. length row.value)) (sym (limit.records_stay before row s.collection is));
      tokens = read.counted.tokens ∙ ap length (sym (limit.tokens_stay before row s.collection is));
    };
  }

  -- the row of a record of the shelf at a place
  pub with_record : (at : ℕ) (s : Shelf) (r : Rec) → slice_get shelves at ≡ Some s → IsGoodRec rows row s.collection r
      → AreRead rows cs (before ++ row ∷ []) (slice_set shelves at (with_rec s r)) ts
  with_record at s r place good =
      let c = s.collection in
      let old : AreRecsOf rows before s = all_in (AreRecsOf rows before) shelves s read.recs (in_from_get shelves at s place) in
      let kept : AreRecsOf rows (before ++ row ∷ []) s = all_in (AreRecsOf rows (before ++ row ∷ [])) shelves s recs_stay (in_from_get shelves at s place) in
      let below : All (λ q. IsBefore q.id r.id) s.recs = all_from_in (λ q. IsBefore q.id r.id) s.recs (λ q i.
      ids_before c q r (subst (λ x. IsBefore (rec_row c q).key (key_of x)) good.kept
      (all_in (λ x. IsBefore (key_of x) (key_of row)) before (rec_row c q) earlier (all_in (λ q. IsIn (rec_row c q) before) s.recs q old.there i)))) in
      let new : AreRecsOf rows (before ++ row ∷ []) (with_rec s r) = record {
        good = All-push (λ q. IsGoodRec rows (rec_row c q) c q) s.recs r old.good (subst (λ x. IsGoodRec rows x c r) good.kept good);
        there = All-push (λ q. IsIn (rec_row c q) (before ++ row ∷ [])) s.recs r kept.there (subst (λ x. IsIn x (before ++ row ∷ [])) good.kept last);
        rising = rises_push (λ q. q.id) s.recs r old.rising below;
      } in
      record {
        into = λ x h.
            elim (in_either before (row ∷ []) x h) [
              | inl b ↦
                  elim (in_either (shelves_rows shelves) (map token_row ts) x (read.into x b)) [
                    | inl front ↦ in_front (shelves_rows (slice_set shelves at (with_rec s r))) (map token_row ts) x (rec_more shelves at s r x place (inl front))
                    | inr back ↦ in_back (shelves_rows (slice_set shelves at (with_rec s r))) (map token_row ts) x back
                  ]
              | inr new ↦ elim new [
                | inl e ↦
                    in_front (shelves_rows (slice_set shelves at (with_rec s r))) (map token_row ts) x (rec_more shelves at s r x place (inr (e ∙ good.kept)))
                | inr never ↦ absurd never
              ]
            ];
        recs = All-set (AreRecsOf rows (before ++ row ∷ [])) shelves at (with_rec s r) new recs_stay;
        tokens = tokens_stay;
        counted = record {
          records =
              sum_set (λ u. length u.recs) shelves at s (with_rec s r) 1 place (length-append s.recs (r ∷ [])) ∙ ap (λ n. n + 1) read.counted.records
              ∙ sym (limit.records_grow before row c r good.kept);
          store =
              sum_set shelf_len shelves at s (with_rec s r) (row_len c r) place (sum_by_push (row_len c) s.recs r) ∙ ap (λ n. n + row_len c r) read.counted.store
              ∙ ap (λ x. sum_by (λ row. length row.value) (records_in before) + length x.value) (sym good.kept) ∙ sym (limit.store_grows before row c r good.kept);
          tokens = read.counted.tokens ∙ ap length (sym (limit.rec_tokens_stay before row c r good.kept));
        };
      }

  -- the row of a token
  pub with_token : (t : Token) → IsGoodToken rows cs row t → AreRead rows cs (before ++ row ∷ []) shelves (ts ++ t ∷ [])
  with_token t good =
      let below : All (λ u. IsBefore u.text t.text) ts = all_from_in (λ u. IsBefore u.text t.text) ts (λ u i.
      before_from_append (codes "t/") u.text t.text (subst (λ x. IsBefore (token_row u).key (key_of x)) good.kept
      (all_in (λ x. IsBefore (key_of x) (key_of row)) before (token_row u) earlier (all_in (λ u. IsIn (token_row u) before) ts u read.tokens.there i)))) in
      let e : map token_row (ts ++ t ∷ []) ≡ map token_row ts ++ token_row t ∷ [] = map-append token_row ts (t ∷ []) in
      record {
        into = λ x h.
            elim (in_either before (row ∷ []) x h) [
              | inl b ↦
                  elim (in_either (shelves_rows shelves) (map token_row ts) x (read.into x b)) [
                    | inl front ↦ in_front (shelves_rows shelves) (map token_row (ts ++ t ∷ [])) x front
                    | inr back ↦
                        in_back (shelves_rows shelves) (map token_row (ts ++ t ∷ [])) x
                        (subst (λ l. IsIn x l) (sym e) (in_front (map token_row ts) (token_row t ∷ []) x back))
                  ]
              | inr new ↦ elim new [
                | inl q ↦
                    in_back (shelves_rows shelves) (map token_row (ts ++ t ∷ [])) x
                    (subst (λ l. IsIn x l) (sym e) (in_back (map token_row ts) (token_row t ∷ []) x (inl (q ∙ good.kept))))
                | inr never ↦ absurd never
              ]
            ];
        recs = recs_stay;
        tokens = record {
          good = All-push (λ u. IsGoodToken rows cs (token_row u) u) ts t read.tokens.good (subst (λ x. IsGoodToken rows cs x t) good.kept good);
          there = All-push (λ u. IsIn (token_row u) (before ++ row ∷ [])) ts t there_stay (subst (λ x. IsIn x (before ++ row ∷ [])) good.kept last);
          rising = rises_push (λ u. u.text) ts t read.tokens.rising below;
        };
        counted = record {
          records = read.counted.records ∙ ap length (sym (limit.token_records_stay before row t good.kept));
          store = read.counted.store ∙ ap (sum_by (λ row. length row.value)) (sym (limit.token_records_stay before row t good.kept));
          tokens = length-append ts (t ∷ []) ∙ ap (λ n. n + 1) read.counted.tokens ∙ sym (limit.tokens_grow before row t good.kept);
        };
      }

-- ---- shelves of collections and of their records

pub shelf_at : (cs : List Collection) (recs : List (List Rec)) (at : ℕ) (c : Collection) → slice_get cs at ≡ Some c → at < length recs
    → slice_get (shelves_of cs recs) at ≡ Some (record { collection = c; recs = get_or recs at [] })
shelf_at [] recs at c e within = cc
shelf_at (d ∷ cs) [] at c e within = absurd (omega arith)
shelf_at (d ∷ cs) (rs ∷ recs) zero c e within = let same : d ≡ c = cc in ap (λ x. Some (record { collection = x; recs = rs })) same
shelf_at (d ∷ cs) (rs ∷ recs) (suc at) c e within = shelf_at cs recs at c e (omega arith)

pub shelves_set : (cs : List Collection) (recs : List (List Rec)) (at : ℕ) (c : Collection) (r : Rec) → slice_get cs at ≡ Some c → at < length recs
    → shelves_of cs (slice_set recs at (get_or recs at [] ++ r ∷ [])) ≡ slice_set (shelves_of cs recs) at (with_rec (record { collection = c; recs = get_or recs at [] }) r)
shelves_set [] recs at c r e within = cc
shelves_set (d ∷ cs) [] at c r e within = absurd (omega arith)
shelves_set (d ∷ cs) (rs ∷ recs) zero c r e within =
    let same : d ≡ c = cc in ap (λ x. record { collection = x; recs = rs ++ r ∷ [] } ∷ shelves_of cs recs) same
shelves_set (d ∷ cs) (rs ∷ recs) (suc at) c r e within = ap (λ l. record { collection = d; recs = rs } ∷ l) (shelves_set cs recs at c r e (omega arith))

-- each collection has its shelf
pub shelf_in : (cs : List Collection) (recs : List (List Rec)) (c : Collection) → length recs ≡ length cs → IsIn c cs
    → (s : Shelf) × IsIn s (shelves_of cs recs) × (s.collection ≡ c)
shelf_in [] recs c e h = absurd h
shelf_in (d ∷ cs) [] c e h = absurd (omega arith)
shelf_in (d ∷ cs) (rs ∷ recs) c e (inl q) = (record { collection = d; recs = rs }, inl refl, sym q)
shelf_in (d ∷ cs) (rs ∷ recs) c e (inr h) = let rest = shelf_in cs recs c (omega arith) h in (rest.0, inr rest.1, rest.2)

-- each shelf is that of a collection
pub collection_in : (cs : List Collection) (recs : List (List Rec)) (s : Shelf) → IsIn s (shelves_of cs recs) → IsIn s.collection cs
collection_in [] recs s h = absurd h
collection_in (d ∷ cs) [] s h = absurd h
collection_in (d ∷ cs) (rs ∷ recs) s (inl q) = inl (ap (λ x. x.collection) q)
collection_in (d ∷ cs) (rs ∷ recs) s (inr h) = inr (collection_in cs recs s h)

-- ---- the whole

-- the rows are those of the shelves and tokens that were read from them
pub same_rows : (rows : List KeptRow) (cs : List Collection) (recs : List (List Rec)) (ts : List Token) → AreReadable rows cs
    → AreRead rows cs rows (shelves_of cs recs) ts → (x : KeptRow) → Contains rows x ↔ Contains (kept_rows (shelves_of cs recs) ts) x
same_rows rows cs recs ts readable read x =
    let shelves = shelves_of cs recs in (
      λ h. contains_from_in (kept_rows shelves ts) x (read.into x (in_from_contains rows x h)),
      λ h.
          elim (in_either (shelves_rows shelves) (map token_row ts) x (in_from_contains (kept_rows shelves ts) x h)) [
            | inl front ↦
                let held = shelf_of x shelves front in
                let s = held.0 in
                elim held.2 [
                  | inl e ↦
                      subst (λ y. Contains rows y) (sym e)
                      (all_in (λ c. Contains rows (collection_row c)) cs s.collection readable.kept (collection_in cs recs s held.1))
                  | inr among ↦
                      let found = in_map_back (rec_row s.collection) s.recs x among in
                      let these = all_in (AreRecsOf rows rows) shelves s read.recs held.1 in
                      subst (λ y. Contains rows y) (sym found.2)
                      (contains_from_in rows (rec_row s.collection found.0) (all_in (λ r. IsIn (rec_row s.collection r) rows) s.recs found.0 these.there found.1))
                ]
            | inr back ↦
                let found = in_map_back token_row ts x back in
                subst (λ y. Contains rows y) (sym found.2)
                (contains_from_in rows (token_row found.0) (all_in (λ t. IsIn (token_row t) rows) ts found.0 read.tokens.there found.1))
          ],
    )

-- a sum of nothing but zeros
sum_empty : {X : Type 0} (f : X → ℕ) (xs : List X) → All (λ x. f x ≡ 0) xs → sum_by f xs ≡ 0
sum_empty f [] h = refl
sum_empty f (x ∷ xs) h = omega (arith, sum_by-cons f x xs, All-head (λ x. f x ≡ 0) x xs h, sum_empty f xs (All-tail (λ x. f x ≡ 0) x xs h))

-- a list without rows
pub nothing_read : (rows : List KeptRow) (cs : List Collection) (shelves : List Shelf) → All (λ s. s.recs ≡ []) shelves → AreRead rows cs [] shelves []
nothing_read rows cs shelves empty = record {
  into = λ x h. absurd h;
  recs = All-weaker (λ s. s.recs ≡ []) (AreRecsOf rows []) (λ s e. record {
    good = rw e (λ k d w. absurd (omega (arith, w)));
    there = rw e (λ k d w. absurd (omega (arith, w)));
    rising = rw e (rises_nil (λ r. r.id));
  }) shelves empty;
  tokens = record {
    good = λ k d w. absurd (omega (arith, w));
    there = λ k d w. absurd (omega (arith, w));
    rising = rises_nil (λ t. t.text);
  };
  counted = record {
    records = sum_empty (λ s. length s.recs) shelves (All-weaker (λ s. s.recs ≡ []) (λ s. length s.recs ≡ 0) (λ s e. ap length e) shelves empty);
    store = sum_empty shelf_len shelves (All-weaker (λ s. s.recs ≡ []) (λ s. shelf_len s ≡ 0) (λ s e. ap (sum_by (row_len s.collection)) e) shelves empty);
    tokens = refl;
  };
}

-- ---- from one row to the next

within_got : {X : Type 0} (xs : List X) (k : ℕ) (x : X) → slice_get xs k ≡ Some x → k < length xs
within_got [] k x e = cc
within_got (y ∷ ys) zero x e = omega arith
within_got (y ∷ ys) (suc k) x e = let rest = within_got ys k x e in omega arith

-- the place of what is found lies within the records
pub room : (rows : List KeptRow) (cs : List Collection) (row : KeptRow) (f : Found) (n : ℕ) → n ≡ length cs → Holds rows cs row f → HasRoom n f
room rows cs row found.Collection n e h = tt
room rows cs row (found.Rec at rec) n e h = let w = within_got cs at h.collection h.place in omega (arith, w, e)
room rows cs row (found.Token t) n e h = tt

pub lengths_step : (f : Found) (recs : List (List Rec)) (ts : List Token) (recs2 : List (List Rec)) (ts2 : List Token) → Adds f recs ts recs2 ts2
    → length recs2 ≡ length recs
lengths_step found.Collection recs ts recs2 ts2 (p, q) = ap length p
lengths_step (found.Rec at rec) recs ts recs2 ts2 (p, q) = ap length p ∙ length-set recs at (get_or recs at [] ++ rec ∷ [])
lengths_step (found.Token t) recs ts recs2 ts2 (p, q) = ap length p

moved : (rows : List KeptRow) (cs : List Collection) (b b2 : List KeptRow) (s s2 : List Shelf) (t t2 : List Token) → b2 ≡ b → s2 ≡ s → t2 ≡ t
    → AreRead rows cs b s t → AreRead rows cs b2 s2 t2
moved rows cs b b2 s s2 t t2 e f g h = rw (e, f, g) h

module _ (rows : List KeptRow) (cs : List Collection) (k : ℕ) (row : KeptRow) (rising : IsRising rows) (readable : AreReadable rows cs) (within : k < length rows)
    (is : row ≡ get_or rows k row) (recs : List (List Rec)) (ts : List Token) (lengths : length recs ≡ length cs) (read : AreRead rows cs (take k rows) (shelves_of cs recs) ts) where
  earlier : All (λ x. IsBefore (key_of x) (key_of row)) (take k rows)
  earlier = all_from_in (λ x. IsBefore (key_of x) (key_of row)) (take k rows) (λ x i. read_before rows k row x rising within is i)

  pub add_step : (f : Found) (recs2 : List (List Rec)) (ts2 : List Token) → Holds rows cs row f → Adds f recs ts recs2 ts2
      → AreRead rows cs (take (k + 1) rows) (shelves_of cs recs2) ts2
  add_step found.Collection recs2 ts2 (c, g) (p, q) =
      let there : Contains rows (collection_row c) = subst (λ x. Contains rows x) g.kept (k, within, sym is) in
      let s = shelf_in cs recs c lengths (in_from_contains cs c (readable.whole c g.sound there)) in
      moved rows cs (take k rows ++ row ∷ []) (take (k + 1) rows) (shelves_of cs recs) (shelves_of cs recs2) ts ts2
      (row_more rows cs k row within is) (ap (shelves_of cs) p) q
      (with_collection rows cs (take k rows) row (shelves_of cs recs) ts earlier read s.0 s.1 (g.kept ∙ ap collection_row (sym s.2)))
  add_step (found.Rec at rec) recs2 ts2 h (p, q) =
      let w : at < length recs = let v = within_got cs at h.collection h.place in omega (arith, v, lengths) in
      let s : Shelf = record { collection = h.collection; recs = get_or recs at [] } in
      moved rows cs (take k rows ++ row ∷ []) (take (k + 1) rows) (slice_set (shelves_of cs recs) at (with_rec s rec)) (shelves_of cs recs2) ts ts2
      (row_more rows cs k row within is) (ap (shelves_of cs) p ∙ shelves_set cs recs at h.collection rec h.place w) q
      (with_record rows cs (take k rows) row (shelves_of cs recs) ts earlier read at s rec (shelf_at cs recs at h.collection h.place w) h.good)
  add_step (found.Token t) recs2 ts2 g (p, q) =
      moved rows cs (take k rows ++ row ∷ []) (take (k + 1) rows) (shelves_of cs recs) (shelves_of cs recs2) (ts ++ t ∷ []) ts2
      (row_more rows cs k row within is) (ap (shelves_of cs) p) q
      (with_token rows cs (take k rows) row (shelves_of cs recs) ts earlier read t g)

-- ---- the first and the last moment

empty_shelves : (cs : List Collection) → All (λ s. s.recs ≡ []) (shelves_of cs (no_recs cs))
empty_shelves [] = λ k d w. absurd (omega (arith, w))
empty_shelves (c ∷ cs) = All-cons (λ s. s.recs ≡ []) (record { collection = c; recs = [] }) (shelves_of cs (no_recs cs)) refl (empty_shelves cs)

pub read_init : (rows : List KeptRow) (cs : List Collection) (recs : List (List Rec)) (ts : List Token) → recs ≡ no_recs cs → ts ≡ []
    → AreRead rows cs [] (shelves_of cs recs) ts
read_init rows cs recs ts e f = rw (e, f) (nothing_read rows cs (shelves_of cs (no_recs cs)) (empty_shelves cs))

pub lengths_init : (cs : List Collection) (recs : List (List Rec)) → recs ≡ no_recs cs → length recs ≡ length cs
lengths_init cs recs e = ap length e ∙ none_length cs
  where
    none_length : (cs : List Collection) → length (no_recs cs) ≡ length cs
    none_length [] = refl
    none_length (c ∷ cs) = ap suc (none_length cs)

-- all rows were read
pub whole_at_end : (rows : List KeptRow) (cs : List Collection) (k : ℕ) (recs : List (List Rec)) (ts : List Token) → length rows ≤ k → AreReadable rows cs
    → AreJudged rows cs → length recs ≡ length cs → AreRead rows cs (take k rows) (shelves_of cs recs) ts → IsWhole rows cs recs ts
whole_at_end rows cs k recs ts h readable judged lengths read =
    let all : AreRead rows cs rows (shelves_of cs recs) ts = subst (λ b. AreRead rows cs b (shelves_of cs recs) ts) (take_all rows k h) read in
    record {
      judged = judged;
      lengths = lengths;
      same = same_rows rows cs recs ts readable all;
      good_recs = All-weaker (AreRecsOf rows rows) (AreGoodRecs rows) (λ s a. record { good = a.good; rising = a.rising }) (shelves_of cs recs) all.recs;
      good_tokens = record { good = all.tokens.good; rising = all.tokens.rising };
      counted = all.counted;
    }
