-- What one row more takes of the limits.
use Rattle.std.proofs.Common.{◌≡◌, ℕ, ◌+◌, ◌<◌, ◌≤◌, ◌⊎◌, inl, inr, List, [], ◌∷◌, ◌++◌, true, false, Option, Some, None, refl, sym, ◌∙◌, ap, length, arith, length-append, codes}
use Rattle.std.specs.Prelude.{MatchOption, cond, sum_by, filter}
use Rattle.std.proofs.lemmas.List.Elements.{filter-append}
use Rattle.std.proofs.lemmas.List.Sums.{sum_by_push}
use Rattle.pocket_types.specs.declared.records.Collection.{Collection}
use Rattle.pocket_types.specs.declared.records.Rec.{Rec}
use Rattle.pocket_keeper.specs.Texts.{collection_row, rec_row, token_row}
use Rattle.pocket_keeper.specs.declared.rows.KeptRow.{KeptRow}
use Rattle.pocket_keeper.specs.declared.tokens.Token.{Token}
use Rattle.pocket_store.specs.Limits.{AreCounts}
use Rattle.pocket_store.specs.Stores.{AreWithinLimits, begins, collections_in, records_in, tokens_in}
use Rattle.pocket_store.specs.declared.limits.Counts.{Counts}

no_more : {X : Type 0} (xs : List X) → xs ++ [] ≡ xs
no_more [] = refl
no_more (x ∷ xs) = ap (λ l. x ∷ l) (no_more xs)

-- a row whose key begins so is one more of its sort
pub one_more : (front : List ℕ) (before : List KeptRow) (row : KeptRow) → begins front row ≡ true
    → filter (begins front) (before ++ row ∷ []) ≡ filter (begins front) before ++ row ∷ []
one_more front before row e = filter-append (begins front) before (row ∷ []) ∙ ap (λ b. filter (begins front) before ++ cond b (row ∷ []) []) e

-- another row is none of the sort
pub none_more : (front : List ℕ) (before : List KeptRow) (row : KeptRow) → begins front row ≡ false
    → filter (begins front) (before ++ row ∷ []) ≡ filter (begins front) before
none_more front before row e =
    filter-append (begins front) before (row ∷ []) ∙ ap (λ b. filter (begins front) before ++ cond b (row ∷ []) []) e ∙ no_more (filter (begins front) before)

length_more : {X : Type 0} (xs : List X) (x : X) → length (xs ++ x ∷ []) ≡ length xs + 1
length_more xs x = length-append xs (x ∷ [])

-- ---- a collection more

module _ (before : List KeptRow) (row : KeptRow) (c : Collection) (is : row ≡ collection_row c) where
  pub collections_more : collections_in (before ++ row ∷ []) ≡ collections_in before ++ row ∷ []
  collections_more = one_more (codes "c/") before row (ap (begins (codes "c/")) is)

  pub records_stay : records_in (before ++ row ∷ []) ≡ records_in before
  records_stay = none_more (codes "r/") before row (ap (begins (codes "r/")) is)

  pub tokens_stay : tokens_in (before ++ row ∷ []) ≡ tokens_in before
  tokens_stay = none_more (codes "t/") before row (ap (begins (codes "t/")) is)

  pub count_collection : (old : Counts) (result : Option Counts) → AreCounts before old
      → MatchOption result (100 ≤ old.collections) (λ new. (old.collections < 100) × (new ≡ record old { collections = old.collections + 1 }))
      → MatchOption result (¬ AreWithinLimits (before ++ row ∷ [])) (AreCounts (before ++ row ∷ []))
  count_collection old None counts full = λ w.
      let more = ap length collections_more ∙ length_more (collections_in before) row in
      omega (arith, w.collections, counts.collections)
  count_collection old (Some new) counts (low, e) =
      let more : length (collections_in (before ++ row ∷ [])) ≡ length (collections_in before) + 1 = ap length collections_more ∙ length_more (collections_in before) row in
      let w = counts.within in
      record {
        collections = ap (λ n. n.collections) e ∙ ap (λ n. n + 1) counts.collections ∙ sym more;
        records = ap (λ n. n.records) e ∙ counts.records ∙ ap length (sym records_stay);
        store = ap (λ n. n.store) e ∙ counts.store ∙ ap (sum_by (λ row. length row.value)) (sym records_stay);
        tokens = ap (λ n. n.tokens) e ∙ counts.tokens ∙ ap length (sym tokens_stay);
        within = record {
          collections = omega (arith, counts.collections);
          records = rw records_stay w.records;
          store = rw records_stay w.store;
          tokens = rw tokens_stay w.tokens;
        };
      }

-- ---- a record more

module _ (before : List KeptRow) (row : KeptRow) (c : Collection) (r : Rec) (is : row ≡ rec_row c r) where
  pub rec_collections_stay : collections_in (before ++ row ∷ []) ≡ collections_in before
  rec_collections_stay = none_more (codes "c/") before row (ap (begins (codes "c/")) is)

  pub records_more : records_in (before ++ row ∷ []) ≡ records_in before ++ row ∷ []
  records_more = one_more (codes "r/") before row (ap (begins (codes "r/")) is)

  pub rec_tokens_stay : tokens_in (before ++ row ∷ []) ≡ tokens_in before
  rec_tokens_stay = none_more (codes "t/") before row (ap (begins (codes "t/")) is)

  pub records_grow : length (records_in (before ++ row ∷ [])) ≡ length (records_in before) + 1
  records_grow = ap length records_more ∙ length_more (records_in before) row

  pub store_grows : sum_by (λ row. length row.value) (records_in (before ++ row ∷ [])) ≡ sum_by (λ row. length row.value) (records_in before) + length row.value
  store_grows = ap (sum_by (λ row. length row.value)) records_more ∙ sum_by_push (λ row. length row.value) (records_in before) row

  pub count_rec : (old : Counts) (result : Option Counts) → AreCounts before old
      → MatchOption result ((200000 ≤ old.records) ⊎ (268435456 < old.store + length row.value))
      (λ new. (old.records < 200000) × (old.store + length row.value ≤ 268435456) × (new ≡ record old { records = old.records + 1; store = old.store + length row.value }))
      → MatchOption result (¬ AreWithinLimits (before ++ row ∷ [])) (AreCounts (before ++ row ∷ []))
  count_rec old None counts (inl full) = λ w. let more = records_grow in omega (arith, w.records, counts.records)
  count_rec old None counts (inr full) = λ w. let more = store_grows in omega (arith, w.store, counts.store)
  count_rec old (Some new) counts (low, fits, e) =
      let w = counts.within in
      record {
        collections = ap (λ n. n.collections) e ∙ counts.collections ∙ ap length (sym rec_collections_stay);
        records = ap (λ n. n.records) e ∙ ap (λ n. n + 1) counts.records ∙ sym records_grow;
        store = ap (λ n. n.store) e ∙ ap (λ n. n + length row.value) counts.store ∙ sym store_grows;
        tokens = ap (λ n. n.tokens) e ∙ counts.tokens ∙ ap length (sym rec_tokens_stay);
        within = record {
          collections = rw rec_collections_stay w.collections;
          records = let more = records_grow in omega (arith, counts.records);
          store = let more = store_grows in omega (arith, counts.store);
          tokens = rw rec_tokens_stay w.tokens;
        };
      }

-- ---- a token more

module _ (before : List KeptRow) (row : KeptRow) (t : Token) (is : row ≡ token_row t) where
  pub token_collections_stay : collections_in (before ++ row ∷ []) ≡ collections_in before
  token_collections_stay = none_more (codes "c/") before row (ap (begins (codes "c/")) is)

  pub token_records_stay : records_in (before ++ row ∷ []) ≡ records_in before
  token_records_stay = none_more (codes "r/") before row (ap (begins (codes "r/")) is)

  pub tokens_more : tokens_in (before ++ row ∷ []) ≡ tokens_in before ++ row ∷ []
  tokens_more = one_more (codes "t/") before row (ap (begins (codes "t/")) is)

  pub tokens_grow : length (tokens_in (before ++ row ∷ [])) ≡ length (tokens_in before) + 1
  tokens_grow = ap length tokens_more ∙ length_more (tokens_in before) row

  pub count_token : (old : Counts) (result : Option Counts) → AreCounts before old
      → MatchOption result (10000 ≤ old.tokens) (λ new. (old.tokens < 10000) × (new ≡ record old { tokens = old.tokens + 1 }))
      → MatchOption result (¬ AreWithinLimits (before ++ row ∷ [])) (AreCounts (before ++ row ∷ []))
  count_token old None counts full = λ w. let more = tokens_grow in omega (arith, w.tokens, counts.tokens)
  count_token old (Some new) counts (low, e) =
      let w = counts.within in
      record {
        collections = ap (λ n. n.collections) e ∙ counts.collections ∙ ap length (sym token_collections_stay);
        records = ap (λ n. n.records) e ∙ counts.records ∙ ap length (sym token_records_stay);
        store = ap (λ n. n.store) e ∙ counts.store ∙ ap (sum_by (λ row. length row.value)) (sym token_records_stay);
        tokens = ap (λ n. n.tokens) e ∙ ap (λ n. n + 1) counts.tokens ∙ sym tokens_grow;
        within = record {
          collections = rw token_collections_stay w.collections;
          records = rw token_records_stay w.records;
          store = rw token_records_stay w.store;
          tokens = let more = tokens_grow in omega (arith, counts.tokens);
        };
      }
