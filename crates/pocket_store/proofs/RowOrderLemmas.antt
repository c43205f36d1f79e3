-- The rows of records rise with their shelves, so that a world's records can be counted by the rows that keep them.
use Rattle.std.proofs.Common.{◌≡◌, ◌⊎◌, inl, inr, ℕ, ◌+◌, List, [], ◌∷◌, ◌++◌, true, codes, length, length-append, map, refl, sym, ◌∙◌, ap, subst, arith, All}
use Rattle.std.specs.Prelude.{sum_by, IsTrue}
use Rattle.std.specs.Cmp.{nat_cmp_is}
use Rattle.std.specs.Cmp.Lexicographic.{slice_cmp}
use Rattle.std.specs.List.{flat_map, list_all}
use Rattle.std.specs.Ordering.{nat_cmp, ordering_then}
use Rattle.std.specs.declared.cmp.Ordering.{Ordering}
use Rattle.std.specs.declared.cmp.Ordering.TheVariants.{Less, Equal, Greater}
use Rattle.std.proofs.lemmas.Bool.Decides.{nat_tests}
use Rattle.std.proofs.lemmas.List.{length-map}
use Rattle.std.proofs.lemmas.List.Elements.{All-head, All-tail}
use Rattle.std.proofs.lemmas.List.Sums.{sum_by-append, sum_by-cons}
use Rattle.pocket_types.specs.Names.{is_name, is_word}
use Rattle.pocket_types.specs.Order.{IsBefore, Rises}
use Rattle.pocket_types.proofs.OrderLemmas.{before_append, rises_append, rises_first, rises_map, rises_nil, rises_rest}
use Rattle.pocket_types.specs.declared.records.Collection.{Collection}
use Rattle.pocket_types.specs.declared.records.Rec.{Rec}
use Rattle.pocket_types.specs.declared.world.Shelf.{Shelf}
use Rattle.pocket_keeper.specs.Texts.{rec_row}
use Rattle.pocket_keeper.specs.declared.rows.KeptRow.{KeptRow}
use Rattle.pocket_keeper.proofs.KeyLemmas.{name_words}
use Rattle.pocket_ops.specs.Lengths.{row_len}
use Rattle.pocket_rows.proofs.Utf8Lemmas.{first_word, later_words}
use Rattle.pocket_store.specs.Drafts.{shelf_len}
use Rattle.pocket_store.proofs.ListLemmas.{IsIn, all_in, all_from_in, in_back, in_either, in_front, in_map_back}
use Rattle.pocket_store.proofs.SearchLemmas.{key_of}

-- ---- keys

behind_slash : (b : ℕ) → is_word b ≡ true → nat_cmp 47 b ≡ Less
behind_slash b h = sym (nat_cmp_is 47 b Less (grind (arith, nat_tests)))

less_parts : (o p : Ordering) → ordering_then o p ≡ Less → (o ≡ Less) ⊎ ((o ≡ Equal) × (p ≡ Less))
less_parts Less p h = inl refl
less_parts Equal p h = inr (refl, h)
less_parts Greater p h = cc

-- two names decide, whatever stands behind the slashes
names_decide : (a b s t : List ℕ) → list_all is_word b ≡ true → IsBefore a b → IsBefore (a ++ (47 ∷ s)) (b ++ (47 ∷ t))
names_decide [] [] s t w h = cc
names_decide [] (y ∷ ys) s t w h = ap (λ o. ordering_then o (slice_cmp nat_cmp s (ys ++ (47 ∷ t)))) (behind_slash y (first_word y ys w))
names_decide (x ∷ xs) [] s t w h = cc
names_decide (x ∷ xs) (y ∷ ys) s t w h =
    elim (less_parts (nat_cmp x y) (slice_cmp nat_cmp xs ys) h) [
      | inl less ↦ ap (λ o. ordering_then o (slice_cmp nat_cmp (xs ++ (47 ∷ s)) (ys ++ (47 ∷ t)))) less
      | inr rest ↦
          ap (λ o. ordering_then o (slice_cmp nat_cmp (xs ++ (47 ∷ s)) (ys ++ (47 ∷ t)))) rest.0
          ∙ names_decide xs ys s t (later_words y ys w) rest.1
    ]

abbrev pub name_of : Shelf → List ℕ
name_of s = s.collection.name

recs_before : (c d : Collection) (r q : Rec) → IsTrue (is_name d.name) → IsBefore c.name d.name → IsBefore (rec_row c r).key (rec_row d q).key
recs_before c d r q n h = before_append (codes "r/") (c.name ++ (47 ∷ r.id)) (d.name ++ (47 ∷ q.id)) (names_decide c.name d.name r.id q.id (name_words d.name n) h)

ids_rise : (c : Collection) (r q : Rec) → IsBefore r.id q.id → IsBefore (rec_row c r).key (rec_row c q).key
ids_rise c r q h =
    before_append (codes "r/") (c.name ++ (47 ∷ r.id)) (c.name ++ (47 ∷ q.id)) (before_append c.name (47 ∷ r.id) (47 ∷ q.id) (before_append (47 ∷ []) r.id q.id h))

-- ---- the rows of the records of some shelves

abbrev pub own_rows : Shelf → List KeptRow
own_rows s = map (rec_row s.collection) s.recs

abbrev pub rec_rows : List Shelf → List KeptRow
rec_rows shelves = flat_map own_rows shelves

pub rec_rows-back : (shelves : List Shelf) (x : KeptRow) → IsIn x (rec_rows shelves) → (s : Shelf) × (r : Rec) × IsIn s shelves × IsIn r s.recs × (x ≡ rec_row s.collection r)
rec_rows-back [] x h = absurd h
rec_rows-back (s ∷ shelves) x h =
    elim (in_either (own_rows s) (rec_rows shelves) x h) [
      | inl here ↦ let r = in_map_back (rec_row s.collection) s.recs x here in (s, r.0, inl refl, r.1, r.2)
      | inr later ↦ let rest = rec_rows-back shelves x later in (rest.0, rest.1, inr rest.2, rest.3, rest.4)
    ]

pub rec_rows-in : (shelves : List Shelf) (s : Shelf) (x : KeptRow) → IsIn s shelves → IsIn x (own_rows s) → IsIn x (rec_rows shelves)
rec_rows-in [] s x i j = absurd i
rec_rows-in (z ∷ shelves) s x (inl e) j = in_front (own_rows z) (rec_rows shelves) x (subst (λ u. IsIn x (own_rows u)) e j)
rec_rows-in (z ∷ shelves) s x (inr i) j = in_back (own_rows z) (rec_rows shelves) x (rec_rows-in shelves s x i j)

rows_across : (s : Shelf) (shelves : List Shelf) → All (λ z. IsTrue (is_name z.collection.name)) shelves → All (λ z. IsBefore (name_of s) (name_of z)) shelves → (x y : KeptRow)
    → IsIn x (own_rows s) → IsIn y (rec_rows shelves) → IsBefore (key_of x) (key_of y)
rows_across s shelves names later x y i j =
    let r = in_map_back (rec_row s.collection) s.recs x i in
    let q = rec_rows-back shelves y j in
    let z = q.0 in
    let h : IsBefore (rec_row s.collection r.0).key (rec_row z.collection q.1).key =
    recs_before s.collection z.collection r.0 q.1 (all_in (λ z. IsTrue (is_name z.collection.name)) shelves z names q.2) (all_in (λ z. IsBefore (name_of s) (name_of z)) shelves z later q.2) in
    subst (λ u. IsBefore (key_of u) (key_of y)) (sym r.2) (subst (λ u. IsBefore (rec_row s.collection r.0).key (key_of u)) (sym q.4) h)

pub rec_rows-rise : (shelves : List Shelf) → All (λ s. IsTrue (is_name s.collection.name)) shelves → All (λ s. Rises (λ r. r.id) s.recs) shelves → Rises name_of shelves → Rises key_of (rec_rows shelves)
rec_rows-rise [] names recs rising = rises_nil key_of
rec_rows-rise (s ∷ shelves) names recs rising =
    let rest = All-tail (λ s. IsTrue (is_name s.collection.name)) s shelves names in
    rises_append key_of (own_rows s) (rec_rows shelves)
    (rises_map (λ r. r.id) key_of (rec_row s.collection) (ids_rise s.collection) s.recs (All-head (λ s. Rises (λ r. r.id) s.recs) s shelves recs))
    (rec_rows-rise shelves rest (All-tail (λ s. Rises (λ r. r.id) s.recs) s shelves recs) (rises_rest name_of s shelves rising))
    (all_from_in (λ x. All (λ y. IsBefore (key_of x) (key_of y)) (rec_rows shelves)) (own_rows s)
    (λ x i. all_from_in (λ y. IsBefore (key_of x) (key_of y)) (rec_rows shelves) (λ y j. rows_across s shelves rest (rises_first name_of s shelves rising) x y i j)))

-- ---- how many they are, and how long

pub count_recs : (shelves : List Shelf) → length (rec_rows shelves) ≡ sum_by (λ s. length s.recs) shelves
count_recs [] = refl
count_recs (s ∷ shelves) =
    length-append (own_rows s) (rec_rows shelves) ∙ (λ i. length-map s.recs (rec_row s.collection) i + count_recs shelves i)
    ∙ sym (sum_by-cons (λ s. length s.recs) s shelves)

own_len : (c : Collection) (recs : List Rec) → sum_by (λ row. length row.value) (map (rec_row c) recs) ≡ sum_by (row_len c) recs
own_len c [] = refl
own_len c (r ∷ recs) =
    sum_by-cons (λ row. length row.value) (rec_row c r) (map (rec_row c) recs) ∙ ap (λ n. row_len c r + n) (own_len c recs) ∙ sym (sum_by-cons (row_len c) r recs)

pub count_len : (shelves : List Shelf) → sum_by (λ row. length row.value) (rec_rows shelves) ≡ sum_by shelf_len shelves
count_len [] = refl
count_len (s ∷ shelves) =
    sum_by-append (λ row. length row.value) (own_rows s) (rec_rows shelves) ∙ (λ i. own_len s.collection s.recs i + count_len shelves i) ∙ sym (sum_by-cons shelf_len s shelves)
