-- What puts and cuts make of rows that rise.
use Rattle.std.proofs.Common.{◌≡◌, ℕ, ◌<◌, ◌+◌, List, [], ◌∷◌, ◌++◌, Bool, true, false, not, cond, ◌&&◌, refl, sym, ◌∙◌, ap, subst, take, filter, length, get_or, All, append_assoc, append-nil}
use Rattle.std.specs.Prelude.{◌||◌}
use Rattle.std.specs.List.{list_any}
use Rattle.std.specs.Str.{bytes_eq}
use Rattle.std.specs.Ordering.{is_eq}
use Rattle.std.proofs.lemmas.List.{take_more}
use Rattle.std.proofs.lemmas.List.Folds.{list_any-append}
use Rattle.std.proofs.lemmas.List.Elements.{All-cons, All-head, All-tail, filter-append, filter_passes}
use Rattle.std.proofs.lemmas.Map.Text.{is_eq-slice_cmp}
use Rattle.pocket_types.specs.Order.{IsBefore, is_before}
use Rattle.pocket_types.proofs.OrderLemmas.{before_trans, before_from, is_before_from, is_before-itself, is_before-back, after_from_before, equal_itself, rises_append, rises_across, rises_cons, rises_filter}
use Rattle.pocket_keeper.specs.declared.rows.KeptRow.{KeptRow}
use Rattle.pocket_keeper.specs.Rows.{IsRising}
use Rattle.pocket_keeper.specs.Keeping.{rows_before, rows_after, put_row, rows_with, rows_without, committed}

-- every row's key stands before this one
abbrev pub AreBefore : List ℕ → List KeptRow → Type 0
AreBefore key rows = All (λ row. IsBefore row.key key) rows

-- every row's key stands after this one
abbrev pub AreAfter : List ℕ → List KeptRow → Type 0
AreAfter key rows = All (λ row. IsBefore key row.key) rows

filter_all : {T : Type 0} (p : T → Bool) (xs : List T) → All (λ x. p x ≡ true) xs → filter p xs ≡ xs
filter_all p [] h = refl
filter_all p (x ∷ xs) h =
    rw (All-head (λ x. p x ≡ true) x xs h) (ap (λ ys. x ∷ ys) (filter_all p xs (All-tail (λ x. p x ≡ true) x xs h)))

filter_none : {T : Type 0} (p : T → Bool) (xs : List T) → All (λ x. p x ≡ false) xs → filter p xs ≡ []
filter_none p [] h = refl
filter_none p (x ∷ xs) h =
    rw (All-head (λ x. p x ≡ false) x xs h) (filter_none p xs (All-tail (λ x. p x ≡ false) x xs h))

-- whether a row stays where one key is cut
abbrev stays : List ℕ → KeptRow → Bool
stays key row = not (list_any (bytes_eq row.key) (key ∷ []))

stays_before : (key a : List ℕ) → IsBefore a key → not (list_any (bytes_eq a) (key ∷ [])) ≡ true
stays_before key a h = let e : bytes_eq a key ≡ false = sym (is_eq-slice_cmp a key) ∙ ap is_eq h in rw e refl

stays_after : (key a : List ℕ) → IsBefore key a → not (list_any (bytes_eq a) (key ∷ [])) ≡ true
stays_after key a h = let e : bytes_eq a key ≡ false = sym (is_eq-slice_cmp a key) ∙ ap is_eq (after_from_before key a h) in rw e refl

goes_itself : (key a : List ℕ) → a ≡ key → not (list_any (bytes_eq a) (key ∷ [])) ≡ false
goes_itself key a h =
    let e : bytes_eq a key ≡ true = rw h (sym (is_eq-slice_cmp key key) ∙ ap is_eq (equal_itself key)) in rw e refl

module _ (key : List ℕ) where
  before_of_before : (rows : List KeptRow) → AreBefore key rows → rows_before key rows ≡ rows
  before_of_before rows h = filter_all (λ row. is_before row.key key) rows (λ k d within. is_before_from (get_or rows k d).key key (h k d within))

  before_of_after : (rows : List KeptRow) → AreAfter key rows → rows_before key rows ≡ []
  before_of_after rows h = filter_none (λ row. is_before row.key key) rows (λ k d within. is_before-back key (get_or rows k d).key (h k d within))

  after_of_after : (rows : List KeptRow) → AreAfter key rows → rows_after key rows ≡ rows
  after_of_after rows h = filter_all (λ row. is_before key row.key) rows (λ k d within. is_before_from key (get_or rows k d).key (h k d within))

  after_of_before : (rows : List KeptRow) → AreBefore key rows → rows_after key rows ≡ []
  after_of_before rows h = filter_none (λ row. is_before key row.key) rows (λ k d within. is_before-back (get_or rows k d).key key (h k d within))

  without_before : (rows : List KeptRow) → AreBefore key rows → rows_without (key ∷ []) rows ≡ rows
  without_before rows h = filter_all (stays key) rows (λ k d within. stays_before key (get_or rows k d).key (h k d within))

  without_after : (rows : List KeptRow) → AreAfter key rows → rows_without (key ∷ []) rows ≡ rows
  without_after rows h = filter_all (stays key) rows (λ k d within. stays_after key (get_or rows k d).key (h k d within))

  -- of rows before a key, and rows after it
  pub before_between : (front back : List KeptRow) → AreBefore key front → AreAfter key back → rows_before key (front ++ back) ≡ front
  before_between front back f b =
      filter-append (λ row. is_before row.key key) front back ∙ rw (before_of_before front f, before_of_after back b) (append-nil front)

  pub after_between : (front back : List KeptRow) → AreBefore key front → AreAfter key back → rows_after key (front ++ back) ≡ back
  after_between front back f b =
      filter-append (λ row. is_before key row.key) front back ∙ rw (after_of_before front f, after_of_after back b) refl

  pub without_between : (front back : List KeptRow) → AreBefore key front → AreAfter key back → rows_without (key ∷ []) (front ++ back) ≡ front ++ back
  without_between front back f b =
      filter-append (stays key) front back ∙ rw (without_before front f, without_after back b) refl

  -- the same with the row of the key between them
  pub before_over : (front back : List KeptRow) (row : KeptRow) → AreBefore key front → AreAfter key back → row.key ≡ key → rows_before key (front ++ row ∷ back) ≡ front
  before_over front back row f b same =
      let e : is_before row.key key ≡ false = rw same (is_before-itself key) in
      filter-append (λ row. is_before row.key key) front (row ∷ back) ∙ rw (before_of_before front f, e, before_of_after back b) (append-nil front)

  pub after_over : (front back : List KeptRow) (row : KeptRow) → AreBefore key front → AreAfter key back → row.key ≡ key → rows_after key (front ++ row ∷ back) ≡ back
  after_over front back row f b same =
      let e : is_before key row.key ≡ false = rw same (is_before-itself key) in
      filter-append (λ row. is_before key row.key) front (row ∷ back) ∙ rw (after_of_before front f, e, after_of_after back b) refl

  pub without_over : (front back : List KeptRow) (row : KeptRow) → AreBefore key front → AreAfter key back → row.key ≡ key → rows_without (key ∷ []) (front ++ row ∷ back) ≡ front ++ back
  without_over front back row f b same =
      filter-append (stays key) front (row ∷ back) ∙ rw (without_before front f, goes_itself key row.key same, without_after back b) refl

-- a put between rows before it and rows after it
pub put_between : (row : KeptRow) (front back : List KeptRow) → AreBefore row.key front → AreAfter row.key back → put_row row (front ++ back) ≡ front ++ row ∷ back
put_between row front back f b = rw (before_between row.key front back f b, after_between row.key front back f b) refl

-- a put in place of the row of its key
pub put_over : (row old : KeptRow) (front back : List KeptRow) → AreBefore row.key front → AreAfter row.key back → old.key ≡ row.key → put_row row (front ++ old ∷ back) ≡ front ++ row ∷ back
put_over row old front back f b same = rw (before_over row.key front back old f b same, after_over row.key front back old f b same) refl

-- a put behind all rows
pub put_last : (row : KeptRow) (rows : List KeptRow) → AreBefore row.key rows → put_row row rows ≡ rows ++ row ∷ []
put_last row rows h =
    rw (before_of_before row.key rows h, after_of_before row.key rows h) refl

pub put_rises : (row : KeptRow) (rows : List KeptRow) → IsRising rows → IsRising (put_row row rows)
put_rises row rows h =
    let front = rows_before row.key rows in
    let back = rows_after row.key rows in
    let f : AreBefore row.key front = λ k d within. before_from (get_or front k d).key row.key (filter_passes (λ r. is_before r.key row.key) rows k d within) in
    let b : AreAfter row.key back = λ k d within. before_from row.key (get_or back k d).key (filter_passes (λ r. is_before row.key r.key) rows k d within) in
    rises_append (λ r. r.key) front (row ∷ back)
    (rises_filter (λ r. r.key) (λ r. is_before r.key row.key) rows h)
    (rises_cons (λ r. r.key) row back b (rises_filter (λ r. r.key) (λ r. is_before row.key r.key) rows h))
    (λ k d within. All-cons (λ y. IsBefore (get_or front k d).key y.key) row back (f k d within)
    (λ j e inside. before_trans (get_or front k d).key row.key (get_or back j e).key (f k d within) (b j e inside)))

pub with_rises : (puts rows : List KeptRow) → IsRising rows → IsRising (rows_with puts rows)
with_rises [] rows h = h
with_rises (row ∷ puts) rows h = with_rises puts (put_row row rows) (put_rises row rows h)

pub without_rises : (cuts : List (List ℕ)) (rows : List KeptRow) → IsRising rows → IsRising (rows_without cuts rows)
without_rises cuts rows h = rises_filter (λ r. r.key) (λ row. not (list_any (bytes_eq row.key) cuts)) rows h

pub committed_rises : (rows puts : List KeptRow) (cuts : List (List ℕ)) → IsRising rows → IsRising (committed rows puts cuts)
committed_rises rows puts cuts h = with_rises puts (rows_without cuts rows) (without_rises cuts rows h)

-- rows that rise, put one by one behind the rows before them
pub with_rising : (rows front : List KeptRow) → IsRising (front ++ rows) → rows_with rows front ≡ front ++ rows
with_rising [] front h = sym (append-nil front)
with_rising (row ∷ rows) front h =
    let last = put_last row front (rises_across (λ r. r.key) front row rows h) in
    let joined : (front ++ row ∷ []) ++ rows ≡ front ++ row ∷ rows = append_assoc front (row ∷ []) rows in
    ap (rows_with rows) last ∙ with_rising rows (front ++ row ∷ []) (subst IsRising (sym joined) h) ∙ joined

pub without_none : (rows : List KeptRow) → rows_without [] rows ≡ rows
without_none rows = filter_all (λ row. not (list_any (bytes_eq row.key) [])) rows (λ k d within. refl)

module _ {T : Type 0} (p q : T → Bool) where
  filter_step : (x : T) (a b : Bool) (xs ys : List T) → q x ≡ b → xs ≡ filter q ys → cond (a && b) (x ∷ xs) xs ≡ filter q (cond a (x ∷ ys) ys)
  filter_step x true true xs ys e h = rw e (ap (λ zs. x ∷ zs) h)
  filter_step x true false xs ys e h = rw e h
  filter_step x false b xs ys e h = h

  -- two filters one after the other
  filter_twice : (r : T → Bool) → ((x : T) → r x ≡ (p x && q x)) → (xs : List T) → filter r xs ≡ filter q (filter p xs)
  filter_twice r both [] = refl
  filter_twice r both (x ∷ xs) = rw (both x) (filter_step x (p x) (q x) (filter r xs) (filter p xs) refl (filter_twice r both xs))

not_either : (a b : Bool) → not (a || b) ≡ (not a && not b)
not_either true b = refl
not_either false b = refl

-- one key more is cut
pub without_more : (cuts : List (List ℕ)) (key : List ℕ) (rows : List KeptRow) → rows_without (cuts ++ key ∷ []) rows ≡ rows_without (key ∷ []) (rows_without cuts rows)
without_more cuts key rows =
    filter_twice (λ row. not (list_any (bytes_eq row.key) cuts)) (stays key) (λ row. not (list_any (bytes_eq row.key) (cuts ++ key ∷ [])))
    (λ row. ap not (list_any-append (bytes_eq row.key) cuts (key ∷ [])) ∙ not_either (list_any (bytes_eq row.key) cuts) (list_any (bytes_eq row.key) (key ∷ []))) rows

-- a loop's step: the key at this place is cut too
pub without_step : (cuts : List (List ℕ)) (i : ℕ) (key : List ℕ) (rows : List KeptRow) → i < length cuts → key ≡ get_or cuts i key
    → rows_without (take (i + 1) cuts) rows ≡ rows_without (key ∷ []) (rows_without (take i cuts) rows)
without_step cuts i key rows within is =
    let more : take (i + 1) cuts ≡ take i cuts ++ key ∷ [] = take_more cuts i key within ∙ ap (λ k. take i cuts ++ k ∷ []) (sym is) in
    ap (λ ks. rows_without ks rows) more ∙ without_more (take i cuts) key rows
