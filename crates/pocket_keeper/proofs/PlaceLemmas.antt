-- What a binary search finds in rows that rise.
use Rattle.std.proofs.Common.{◌≡◌, ℕ, zero, suc, ◌<◌, ◌≤◌, ◌+◌, List, [], ◌∷◌, ◌++◌, Result, Ok, Err, refl, sym, ◌∙◌, ap, subst, take, drop, set, length, get_or, All, arith}
use Rattle.std.specs.Prelude.{MatchResult}
use Rattle.std.specs.List.{AllWithin}
use Rattle.std.specs.List.Sorted.{IsBinarySearchResult, IsSearchInRange, IsNonDecreasingBy}
use Rattle.std.specs.Ordering.{nat_cmp, ordering_index}
use Rattle.std.specs.Cmp.Lexicographic.{slice_cmp}
use Rattle.std.specs.declared.cmp.Ordering.TheVariants.{Less, Equal, Greater}
use Rattle.std.proofs.Math.Seq.{drop-cons}
use Rattle.std.proofs.lemmas.Cmp.{nat_list_cmp_total}
use Rattle.std.proofs.lemmas.List.{take-append-drop}
use Rattle.std.proofs.lemmas.List.Sorted.{searchable_from_sorted}
use Rattle.pocket_types.specs.Order.{IsBefore}
use Rattle.pocket_types.proofs.OrderLemmas.{is_before-back, before_from_after, same_from_equal}
use Rattle.pocket_keeper.specs.declared.rows.KeptRow.{KeptRow}
use Rattle.pocket_keeper.specs.Rows.{IsRising}
use Rattle.pocket_keeper.specs.Keeping.{put_row, rows_before, rows_after, rows_without}
use Rattle.pocket_keeper.specs.Places.{HasRowAt, HasRoomAt}
use Rattle.pocket_keeper.proofs.KeepingLemmas.{AreBefore, AreAfter, before_between, after_between, without_between, before_over, after_over, without_over}

all_take : {T : Type 0} (P : T → Type 0) (n : ℕ) (xs : List T) → n ≤ length xs → AllWithin P xs 0 n → All P (take n xs)
all_take P zero xs long h k d within = absurd (omega arith)
all_take P (suc n) [] long h k d within = absurd (omega arith)
all_take P (suc n) (x ∷ xs) long h zero d within = h zero d (omega arith) (omega arith)
all_take P (suc n) (x ∷ xs) long h (suc k) d within = all_take P n xs (omega arith) (λ k d low high. h (suc k) d (omega arith) (omega arith)) k d (omega arith)

all_drop : {T : Type 0} (P : T → Type 0) (n : ℕ) (xs : List T) → AllWithin P xs n (length xs) → All P (drop n xs)
all_drop P zero xs h k d within = h k d (omega arith) within
all_drop P (suc n) [] h k d within = absurd (omega arith)
all_drop P (suc n) (x ∷ xs) h k d within = all_drop P n xs (λ k d low high. h (suc k) d (omega arith) (omega arith)) k d within

-- a write is a cut out and a put in
set_splits : {T : Type 0} (xs : List T) (i : ℕ) (x : T) → i < length xs → set xs i x ≡ take i xs ++ x ∷ drop (suc i) xs
set_splits [] i x within = absurd (omega arith)
set_splits (y ∷ xs) zero x within = refl
set_splits (y ∷ xs) (suc i) x within = ap (λ zs. y ∷ zs) (set_splits xs i x (omega arith))

any_row : KeptRow
any_row = record { key = []; value = [] }

module _ (key : List ℕ) (rows : List KeptRow) where
  -- where one is equal, the rows round it
  row_found : (at : ℕ) → IsRising rows → at < length rows → ((d : KeptRow) → slice_cmp nat_cmp (get_or rows at d).key key ≡ Equal) → HasRowAt key rows at
  row_found at rising within equal =
      let row = get_or rows at any_row in
      let front = take at rows in
      let back = drop (suc at) rows in
      let same : (d : KeptRow) → (get_or rows at d).key ≡ key = λ d. same_from_equal (get_or rows at d).key key (equal d) in
      let f : AreBefore key front = all_take (λ r. IsBefore r.key key) at rows (omega arith) (λ k d low high. subst (λ z. IsBefore (get_or rows k d).key z) (same d) (rising k at d high within)) in
      let b : AreAfter key back = all_drop (λ r. IsBefore key r.key) (suc at) rows (λ k d low high. subst (λ z. IsBefore z (get_or rows k d).key) (same d) (rising at k d (omega arith) high)) in
      let split : rows ≡ front ++ row ∷ back = sym (take-append-drop at rows) ∙ ap (λ zs. front ++ zs) (drop-cons rows at any_row within) in
      record {
        within = within;
        before = ap (rows_before key) split ∙ before_over key front back row f b (same any_row);
        after = ap (rows_after key) split ∙ after_over key front back row f b (same any_row);
        others = ap (rows_without (key ∷ [])) split ∙ without_over key front back row f b (same any_row);
      }

  -- where none is, the rows before it and after it
  room_found : (at : ℕ) → at ≤ length rows → AllWithin (λ r. slice_cmp nat_cmp r.key key ≡ Less) rows 0 at
      → AllWithin (λ r. slice_cmp nat_cmp r.key key ≡ Greater) rows at (length rows) → HasRoomAt key rows at
  room_found at within less greater =
      let front = take at rows in
      let back = drop at rows in
      let f : AreBefore key front = all_take (λ r. IsBefore r.key key) at rows within less in
      let b : AreAfter key back = all_drop (λ r. IsBefore key r.key) at rows (λ k d low high. before_from_after (get_or rows k d).key key (greater k d low high)) in
      let split : rows ≡ front ++ back = sym (take-append-drop at rows) in
      record {
        within = within;
        before = ap (rows_before key) split ∙ before_between key front back f b;
        after = ap (rows_after key) split ∙ after_between key front back f b;
        others = ap (rows_without (key ∷ [])) split ∙ without_between key front back f b ∙ sym split;
      }

  searchable : IsRising rows → IsNonDecreasingBy (λ r. ordering_index (slice_cmp nat_cmp r.key key)) rows
  searchable rising = searchable_from_sorted nat_list_cmp_total (λ r. r.key) rows key
      (λ k d low next. is_before-back (get_or rows k d).key (get_or rows (k + 1) d).key (rising k (k + 1) d (omega arith) next))

  -- what a binary search by the keys answers
  pub searched : (r : Result ℕ ℕ) → IsRising rows → IsSearchInRange r (length rows) → IsBinarySearchResult (λ row. slice_cmp nat_cmp row.key key) rows r
      → MatchResult r (HasRowAt key rows) (HasRoomAt key rows)
  searched (Ok at) rising within found = row_found at rising within found
  searched (Err at) rising within found = let point = found (searchable rising) in room_found at within point.0 point.1

-- a write in place of the row of its key
pub set_puts : (row : KeptRow) (rows : List KeptRow) (at : ℕ) → HasRowAt row.key rows at → set rows at row ≡ put_row row rows
set_puts row rows at h = set_splits rows at row h.within ∙ rw (h.before, h.after) refl

-- an insertion where there is no row of its key
pub insert_puts : (row : KeptRow) (rows : List KeptRow) (at : ℕ) → HasRoomAt row.key rows at → take at rows ++ row ∷ drop at rows ≡ put_row row rows
insert_puts row rows at h = rw (h.before, h.after) refl
