-- A binary search leads to the place of a key.
use Rattle.std.proofs.Common.{◌≡◌, ℕ, zero, suc, ◌+◌, ◌-◌, ◌≤◌, ◌<◌, List, [], ◌∷◌, ◌++◌, Some, None, Result, Ok, Err, refl, sym, ◌∙◌, ap, subst, take, drop, filter, length, get_or, All, arith}
use Rattle.std.specs.Prelude.{slice_get}
use Rattle.std.specs.Cmp.Lexicographic.{slice_cmp}
use Rattle.std.specs.List.{AllWithin}
use Rattle.std.specs.List.Sorted.{IsBinarySearchResult, IsSearchInRange, IsNonDecreasingBy}
use Rattle.std.specs.Ordering.{nat_cmp, ordering_index}
use Rattle.std.specs.declared.cmp.Ordering.TheVariants.{Equal, Greater}
use Rattle.std.proofs.lemmas.Cmp.{nat_list_cmp_total}
use Rattle.std.proofs.lemmas.List.{length-take-le, length-drop, get_or-take, get_or-drop, take-append-drop}
use Rattle.std.proofs.lemmas.List.Elements.{All-weaker}
use Rattle.std.proofs.lemmas.List.Sorted.{searchable_from_sorted}
use Rattle.pocket_types.specs.Order.{IsBefore, is_before, Rises}
use Rattle.pocket_types.proofs.OrderLemmas.{is_before-back, same_from_equal, before_from_after, rises_across, rises_back, rises_first}
use Rattle.pocket_tables.specs.Keyed.{find_key, put_at}
use Rattle.pocket_tables.specs.Places.{IsPlaceOf}
use Rattle.pocket_tables.proofs.KeyLemmas.{found_between, part_above, put_between}

-- the item at a place, and the list around it
record IsAt {T : Type 0} (xs : List T) (k : ℕ) (x : T) : Type 0 where
  got : slice_get xs k ≡ Some x
  read : (d : T) → get_or xs k d ≡ x
  parts : xs ≡ take k xs ++ (x ∷ drop (suc k) xs)

item_at : {T : Type 0} (xs : List T) (k : ℕ) → k < length xs → (x : T) × IsAt xs k x
item_at [] k within = absurd (omega arith)
item_at (x ∷ xs) zero within = (x, record { got = refl; read = λ d. refl; parts = refl })
item_at (x ∷ xs) (suc k) within =
    let rest = item_at xs k (omega arith) in
    (rest.0, record { got = rest.1.got; read = rest.1.read; parts = ap (λ t. x ∷ t) rest.1.parts })

module _ {T : Type 0} (key : T → List ℕ) (k : List ℕ) (xs : List T) where
  searchable : Rises key xs → IsNonDecreasingBy (λ x. ordering_index (slice_cmp nat_cmp (key x) k)) xs
  searchable rising = searchable_from_sorted nat_list_cmp_total key xs k
      (λ i d low next. is_before-back (key (get_or xs i d)) (key (get_or xs (i + 1) d)) (rising i (i + 1) d (omega arith) next))

  all_front : (P : T → Type 0) (at : ℕ) → at ≤ length xs → AllWithin P xs 0 at → All P (take at xs)
  all_front P at h all i d within =
      let e : length (take at xs) ≡ at = length-take-le at xs h in
      let lt : i < at = omega (arith, within, e) in
      subst P (sym (get_or-take at xs i d lt)) (all i d (omega arith) lt)

  touched_back : (P : T → Type 0) (at : ℕ) → AllWithin P xs at (length xs) → All P (drop at xs)
  touched_back P at all i d within =
      let e : length (drop at xs) ≡ length xs - at = length-drop at xs in
      let lt : at + i < length xs = omega (arith, within, e) in
      subst P (sym (get_or-drop at xs i d)) (all (at + i) d (omega arith) lt)

  -- a search by the keys answers the place of the key
  pub place_found : (r : Result ℕ ℕ) → Rises key xs → IsSearchInRange r (length xs) → IsBinarySearchResult (λ x. slice_cmp nat_cmp (key x) k) xs r → IsPlaceOf key k xs r
  place_found (Ok at) rising within found =
      let item = item_at xs at within in
      let x = item.0 in
      let front = take at xs in
      let back = drop (suc at) xs in
      let named : key x ≡ k = same_from_equal (key x) k (subst (λ u. slice_cmp nat_cmp (key u) k ≡ Equal) (item.1.read x) (found x)) in
      let whole : Rises key (front ++ (x ∷ back)) = subst (λ l. Rises key l) item.1.parts rising in
      let below : All (λ y. IsBefore (key y) k) front = subst (λ u. All (λ y. IsBefore (key y) u) front) named (rises_across key front x back whole) in
      let above : All (λ y. IsBefore k (key y)) back = subst (λ u. All (λ y. IsBefore u (key y)) back) named (rises_first key x back (rises_back key front (x ∷ back) whole)) in
      record {
        within = within;
        found = item.1.got ∙ sym (ap (find_key key k) item.1.parts ∙ found_between key k front (Some x) back below named above);
        put = λ after. sym (ap (put_at key k after) item.1.parts ∙ put_between key k front (Some x) back below named above after);
        above = sym (ap (filter (λ y. is_before k (key y))) item.1.parts ∙ part_above key k front (Some x) back below named above);
      }
  place_found (Err at) rising within found =
      let point = found (searchable rising) in
      let front = take at xs in
      let back = drop at xs in
      let below : All (λ y. IsBefore (key y) k) front = all_front (λ y. IsBefore (key y) k) at within point.0 in
      let greater : All (λ y. slice_cmp nat_cmp (key y) k ≡ Greater) back = touched_back (λ y. slice_cmp nat_cmp (key y) k ≡ Greater) at point.1 in
      let above : All (λ y. IsBefore k (key y)) back = All-weaker (λ y. slice_cmp nat_cmp (key y) k ≡ Greater) (λ y. IsBefore k (key y)) (λ y g. before_from_after (key y) k g) back greater in
      let parts : xs ≡ front ++ back = sym (take-append-drop at xs) in
      record {
        within = within;
        found = sym (ap (find_key key k) parts ∙ found_between key k front None back below tt above);
        put = λ after. sym (ap (put_at key k after) parts ∙ put_between key k front None back below tt above after);
        above = sym (ap (filter (λ y. is_before k (key y))) parts ∙ part_above key k front None back below tt above);
      }
