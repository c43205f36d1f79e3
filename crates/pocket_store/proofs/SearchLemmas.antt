-- What a binary search finds in lists that rise.
use Rattle.std.proofs.Common.{◌≡◌, ◌≢◌, ℕ, ◌<◌, ◌+◌, List, Result, Ok, Err, refl, subst, length, get_or, All, arith}
use Rattle.std.specs.Prelude.{MatchResult, MatchBool, is_ok}
use Rattle.std.specs.List.{AllWithin}
use Rattle.std.specs.List.Sorted.{IsBinarySearchResult, IsSearchInRange, IsNonDecreasingBy}
use Rattle.std.specs.Ordering.{nat_cmp, ordering_index}
use Rattle.std.specs.Cmp.Lexicographic.{slice_cmp}
use Rattle.std.specs.declared.cmp.Ordering.TheVariants.{Less, Equal, Greater}
use Rattle.std.proofs.lemmas.Cmp.{nat_list_cmp_total, ranked, by_ranked}
use Rattle.std.proofs.lemmas.List.Sorted.{searchable_from_sorted}
use Rattle.pocket_types.specs.Order.{Rises}
use Rattle.pocket_types.proofs.OrderLemmas.{is_before-back, equal_itself, same_from_equal}
use Rattle.pocket_types.specs.declared.records.Collection.{Collection}
use Rattle.pocket_keeper.specs.Rows.{IsRising}
use Rattle.pocket_keeper.specs.declared.rows.KeptRow.{KeptRow}
use Rattle.pocket_store.specs.Stores.{HasKey}
use Rattle.pocket_store.specs.Reading.{IsPlaceOf}
use Rattle.pocket_store.proofs.ListLemmas.{IsAt, item_at, in_from_get, contains_from_in, in_from_contains, all_in}

no_less : (a b : List ℕ) → slice_cmp nat_cmp a b ≡ Less → a ≢ b
no_less a b h e = let q = equal_itself b in let r = subst (λ x. slice_cmp nat_cmp x b ≡ Less) e h in cc

no_greater : (a b : List ℕ) → slice_cmp nat_cmp a b ≡ Greater → a ≢ b
no_greater a b h e = let q = equal_itself b in let r = subst (λ x. slice_cmp nat_cmp x b ≡ Greater) e h in cc

-- the item of the key, and its place
pub record IsFound {X : Type 0} (key : X → List ℕ) (xs : List X) (target : List ℕ) (at : ℕ) : Type 0 where
  pub item : X
  pub is : IsAt xs at item
  pub within : at < length xs
  pub named : key item ≡ target

-- no item has the key
abbrev pub IsLacking : {X : Type 0} → (X → List ℕ) → List X → List ℕ → Type 0
IsLacking key xs target = All (λ x. key x ≢ target) xs

module _ {X : Type 0} (key : X → List ℕ) (xs : List X) (target : List ℕ) where
  searchable : Rises key xs → IsNonDecreasingBy (λ x. ordering_index (slice_cmp nat_cmp (key x) target)) xs
  searchable rising = searchable_from_sorted nat_list_cmp_total key xs target
      (λ k d low next. is_before-back (key (get_or xs k d)) (key (get_or xs (k + 1) d)) (rising k (k + 1) d (omega arith) next))

  lacking : (at : ℕ) → AllWithin (λ x. slice_cmp nat_cmp (key x) target ≡ Less) xs 0 at
      → AllWithin (λ x. slice_cmp nat_cmp (key x) target ≡ Greater) xs at (length xs) → IsLacking key xs target
  lacking at less greater k d within =
      by_ranked (k < at) (k ≡ at) (at < k) (nat_cmp k at) (ranked k at (nat_cmp k at) refl)
      (λ _ lt. no_less (key (get_or xs k d)) target (less k d (omega arith) lt))
      (λ _ e. no_greater (key (get_or xs k d)) target (greater k d (omega arith) within))
      (λ _ gt. no_greater (key (get_or xs k d)) target (greater k d (omega arith) within))

  -- what a binary search by the keys answers
  pub searched : (r : Result ℕ ℕ) → Rises key xs → IsSearchInRange r (length xs) → IsBinarySearchResult (λ x. slice_cmp nat_cmp (key x) target) xs r
      → MatchResult r (IsFound key xs target) (λ _. IsLacking key xs target)
  searched (Ok at) rising within found =
      let item = item_at xs at within in
      record {
        item = item.0;
        is = item.1;
        within = within;
        named = same_from_equal (key item.0) target (subst (λ x. slice_cmp nat_cmp (key x) target ≡ Equal) (item.1.read item.0) (found item.0));
      }
  searched (Err at) rising within found = let point = found (searchable rising) in lacking at point.0 point.1

abbrev pub key_of : KeptRow → List ℕ
key_of row = row.key

pub has_key_by : (rows : List KeptRow) (key : List ℕ) (r : Result ℕ ℕ) → IsRising rows → IsSearchInRange r (length rows)
    → IsBinarySearchResult (λ row. slice_cmp nat_cmp row.key key) rows r → MatchBool (is_ok r) (HasKey rows key) (¬ HasKey rows key)
has_key_by rows key (Ok at) rising within found =
    let f : IsFound key_of rows key at = searched key_of rows key (Ok at) rising within found in
    (f.item, contains_from_in rows f.item (in_from_get rows at f.item f.is.got), f.named)
has_key_by rows key (Err at) rising within found = λ has.
    let none : IsLacking key_of rows key = searched key_of rows key (Err at) rising within found in
    all_in (λ x. x.key ≢ key) rows has.0 none (in_from_contains rows has.0 has.1) has.2

abbrev pub name_of : Collection → List ℕ
name_of c = c.name

pub place_by : (cs : List Collection) (name : List ℕ) (r : Result ℕ ℕ) → Rises name_of cs → IsSearchInRange r (length cs)
    → IsBinarySearchResult (λ c. slice_cmp nat_cmp c.name name) cs r → MatchResult r (IsPlaceOf cs name) (λ _. All (λ c. c.name ≢ name) cs)
place_by cs name (Ok at) rising within found =
    let f : IsFound name_of cs name at = searched name_of cs name (Ok at) rising within found in
    record { collection = f.item; place = f.is.got; named = f.named; within = f.within }
place_by cs name (Err at) rising within found = searched name_of cs name (Err at) rising within found
