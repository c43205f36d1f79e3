-- Keys: what a look-up finds, what one change leaves, and that a list that rises is known by its look-ups.
use Rattle.std.proofs.Common.{◌≡◌, ◌⊎◌, inl, inr, ℕ, ◌+◌, List, [], ◌∷◌, ◌++◌, Bool, true, false, refl, sym, ◌∙◌, ap, subst, filter, length, All, Option, Some, None, arith, append-nil}
use Rattle.std.specs.Prelude.{cond, IfSome}
use Rattle.std.specs.Cmp.Lexicographic.{slice_cmp}
use Rattle.std.specs.List.{sum_by}
use Rattle.std.specs.Option.{option_map_or, option_to_list}
use Rattle.std.specs.Ordering.{nat_cmp}
use Rattle.std.specs.Str.{bytes_eq}
use Rattle.std.specs.declared.cmp.Ordering.{Ordering}
use Rattle.std.specs.declared.cmp.Ordering.TheVariants.{Less, Equal, Greater}
use Rattle.std.proofs.lemmas.Bool.{false_from_ne_true, cond-true, cond-false}
use Rattle.std.proofs.lemmas.List.Elements.{All-head, All-tail, All-cons, All-weaker, filter-append, filter_passes}
use Rattle.std.proofs.lemmas.List.Sums.{sum_by-append, sum_by-cons}
use Rattle.std.proofs.lemmas.Slice.Eq.{bytes_eq-Decides}
use Rattle.pocket_types.specs.Order.{IsBefore, is_before, Rises}
use Rattle.pocket_types.proofs.OrderLemmas.{before_trans, before_from, before_from_after, is_before_from, is_before-back, is_before-itself, not_before_itself, same_from_equal, rises_first, rises_rest, rises_cons, rises_filter, rises_append}
use Rattle.pocket_tables.specs.Keyed.{places_taken, find_key, put_at}

-- ---- keys

pub key_same : (a b : List ℕ) → bytes_eq a b ≡ true → a ≡ b
key_same a b e = (bytes_eq-Decides a b).0 e

pub key_true : (a b : List ℕ) → a ≡ b → bytes_eq a b ≡ true
key_true a b e = (bytes_eq-Decides a b).1 e

pub key_false : (a b : List ℕ) → (a ≡ b → ⊥) → bytes_eq a b ≡ false
key_false a b ne = false_from_ne_true (bytes_eq a b) (λ e. ne (key_same a b e))

pub key_differs_back : (a b : List ℕ) → bytes_eq a b ≡ false → bytes_eq b a ≡ false
key_differs_back a b h = key_false b a (λ e. let t = key_true a b (sym e) in cc)

pub differs_below : (a b : List ℕ) → IsBefore a b → bytes_eq a b ≡ false
differs_below a b h = key_false a b (λ e. not_before_itself b (subst (λ x. IsBefore x b) e h))

pub differs_above : (a b : List ℕ) → IsBefore b a → bytes_eq a b ≡ false
differs_above a b h = key_differs_back b a (differs_below b a h)

compare_keys_by : (a b : List ℕ) (o : Ordering) → slice_cmp nat_cmp a b ≡ o → IsBefore a b ⊎ ((a ≡ b) ⊎ IsBefore b a)
compare_keys_by a b Less e = inl e
compare_keys_by a b Equal e = inr (inl (same_from_equal a b e))
compare_keys_by a b Greater e = inr (inr (before_from_after a b e))

pub compare_keys : (a b : List ℕ) → IsBefore a b ⊎ ((a ≡ b) ⊎ IsBefore b a)
compare_keys a b = compare_keys_by a b (slice_cmp nat_cmp a b) refl

-- ---- what a look-up finds

abbrev or_else : {T : Type 0} → Option T → Option T → Option T
or_else None b = b
or_else (Some a) b = Some a

same_either : {X : Type 0} (b : Bool) (x : X) → x ≡ cond b x x
same_either true x = refl
same_either false x = refl

pub sum_of_ones : {T : Type 0} (xs : List T) → sum_by (λ x. 1) xs ≡ length xs
sum_of_ones [] = refl
sum_of_ones (x ∷ xs) = let h = sum_of_ones xs in let e = sum_by-cons (λ x. 1) x xs in omega (arith, h, e)

pub filter_all : {T : Type 0} (p : T → Bool) (xs : List T) → All (λ x. p x ≡ true) xs → filter p xs ≡ xs
filter_all p [] h = refl
filter_all p (x ∷ xs) h =
    cond-true (p x) (x ∷ filter p xs) (filter p xs) (All-head (λ x. p x ≡ true) x xs h)
    ∙ ap (λ t. x ∷ t) (filter_all p xs (All-tail (λ x. p x ≡ true) x xs h))

pub filter_none : {T : Type 0} (p : T → Bool) (xs : List T) → All (λ x. p x ≡ false) xs → filter p xs ≡ []
filter_none p [] h = refl
filter_none p (x ∷ xs) h =
    cond-false (p x) (x ∷ filter p xs) (filter p xs) (All-head (λ x. p x ≡ false) x xs h)
    ∙ filter_none p xs (All-tail (λ x. p x ≡ false) x xs h)

module _ {T : Type 0} (key : T → List ℕ) where
  find_key-append : (k : List ℕ) (xs ys : List T) → find_key key k (xs ++ ys) ≡ or_else (find_key key k xs) (find_key key k ys)
  find_key-append k [] ys = refl
  find_key-append k (x ∷ xs) ys = by (bytes_eq (key x) k) (find_key-append k xs ys)
    where
      by : (b : Bool) → find_key key k (xs ++ ys) ≡ or_else (find_key key k xs) (find_key key k ys)
          → cond b (Some x) (find_key key k (xs ++ ys)) ≡ or_else (cond b (Some x) (find_key key k xs)) (find_key key k ys)
      by true e = refl
      by false e = e

  -- look-ups among the items whose keys pass a test
  find_key-filter : (q : List ℕ → Bool) (k : List ℕ) (xs : List T) → find_key key k (filter (λ x. q (key x)) xs) ≡ cond (q k) (find_key key k xs) None
  find_key-filter q k [] = same_either (q k) None
  find_key-filter q k (x ∷ xs) = by (bytes_eq (key x) k) refl (q (key x)) refl (q k) refl (find_key-filter q k xs)
    where
      by : (e : Bool) → bytes_eq (key x) k ≡ e → (p : Bool) → q (key x) ≡ p → (r : Bool) → q k ≡ r
          → find_key key k (filter (λ x. q (key x)) xs) ≡ cond r (find_key key k xs) None
          → find_key key k (cond p (x ∷ filter (λ x. q (key x)) xs) (filter (λ x. q (key x)) xs)) ≡ cond r (cond e (Some x) (find_key key k xs)) None
      by true e true p true r h = cond-true (bytes_eq (key x) k) (Some x) (find_key key k (filter (λ x. q (key x)) xs)) e
      by true e true p false r h = let s = ap q (key_same (key x) k e) in cc
      by true e false p true r h = let s = ap q (key_same (key x) k e) in cc
      by true e false p false r h = h
      by false e true p true r h = cond-false (bytes_eq (key x) k) (Some x) (find_key key k (filter (λ x. q (key x)) xs)) e ∙ h
      by false e true p false r h = cond-false (bytes_eq (key x) k) (Some x) (find_key key k (filter (λ x. q (key x)) xs)) e ∙ h
      by false e false p true r h = h
      by false e false p false r h = h

  pub not_found : (k : List ℕ) (xs : List T) → All (λ x. bytes_eq (key x) k ≡ false) xs → find_key key k xs ≡ None
  not_found k [] h = refl
  not_found k (x ∷ xs) h =
      cond-false (bytes_eq (key x) k) (Some x) (find_key key k xs) (All-head (λ x. bytes_eq (key x) k ≡ false) x xs h)
      ∙ not_found k xs (All-tail (λ x. bytes_eq (key x) k ≡ false) x xs h)

  pub not_found_above : (k : List ℕ) (xs : List T) → All (λ x. IsBefore k (key x)) xs → find_key key k xs ≡ None
  not_found_above k xs h = not_found k xs (All-weaker (λ x. IsBefore k (key x)) (λ x. bytes_eq (key x) k ≡ false) (λ x b. differs_above (key x) k b) xs h)

  pub not_found_below : (k : List ℕ) (xs : List T) → All (λ x. IsBefore (key x) k) xs → find_key key k xs ≡ None
  not_found_below k xs h = not_found k xs (All-weaker (λ x. IsBefore (key x) k) (λ x. bytes_eq (key x) k ≡ false) (λ x b. differs_below (key x) k b) xs h)

  -- what is found has the key that was looked for
  pub found_bears_key : (k : List ℕ) (xs : List T) → IfSome (find_key key k xs) (λ x. key x ≡ k)
  found_bears_key k [] = tt
  found_bears_key k (x ∷ xs) = by (bytes_eq (key x) k) refl (found_bears_key k xs)
    where
      by : (b : Bool) → bytes_eq (key x) k ≡ b → IfSome (find_key key k xs) (λ x. key x ≡ k) → IfSome (cond b (Some x) (find_key key k xs)) (λ x. key x ≡ k)
      by true e h = key_same (key x) k e
      by false e h = h

  -- what is found is one of the items
  pub found_holds : (P : T → Type 0) (k : List ℕ) (xs : List T) → All P xs → IfSome (find_key key k xs) P
  found_holds P k [] h = tt
  found_holds P k (x ∷ xs) h = by (bytes_eq (key x) k) (found_holds P k xs (All-tail P x xs h))
    where
      by : (b : Bool) → IfSome (find_key key k xs) P → IfSome (cond b (Some x) (find_key key k xs)) P
      by true i = All-head P x xs h
      by false i = i

  pub first_found : (x : T) (xs : List T) → find_key key (key x) (x ∷ xs) ≡ Some x
  first_found x xs = cond-true (bytes_eq (key x) (key x)) (Some x) (find_key key (key x) xs) (key_true (key x) (key x) refl)

  -- ---- one change

  pub unfolding_put_at : (k : List ℕ) (after : Option T) (xs : List T)
      → put_at key k after xs ≡ filter (λ x. is_before (key x) k) xs ++ (option_to_list after ++ filter (λ x. is_before k (key x)) xs)
  unfolding put_at
  unfolding_put_at k after xs = refl

  find_key-option : (j : List ℕ) (k : List ℕ) (after : Option T) → IfSome after (λ x. key x ≡ k) → find_key key j (option_to_list after) ≡ cond (bytes_eq k j) after None
  find_key-option j k None named = same_either (bytes_eq k j) None
  find_key-option j k (Some x) named = ap (λ b. cond b (Some x) None) (ap (λ u. bytes_eq u j) named)

  part_chosen : (lower upper same : Bool) (o after : Option T)
      → (lower ≡ true) × (upper ≡ false) × (same ≡ false) ⊎ ((lower ≡ false) × (upper ≡ false) × (same ≡ true) ⊎ (lower ≡ false) × (upper ≡ true) × (same ≡ false))
      → or_else (cond lower o None) (or_else (cond same after None) (cond upper o None)) ≡ cond same after o
  part_chosen lower upper same o after (inl (l, u, s)) = rw (l, u, s) (by o)
    where
      by : (o : Option T) → or_else o None ≡ o
      by None = refl
      by (Some x) = refl
  part_chosen lower upper same o after (inr (inl (l, u, s))) = rw (l, u, s) (by after)
    where
      by : (o : Option T) → or_else o None ≡ o
      by None = refl
      by (Some x) = refl
  part_chosen lower upper same o after (inr (inr (l, u, s))) = rw (l, u, s) refl

  part_of_key : (j k : List ℕ) → (is_before j k ≡ true) × (is_before k j ≡ false) × (bytes_eq k j ≡ false)
      ⊎ ((is_before j k ≡ false) × (is_before k j ≡ false) × (bytes_eq k j ≡ true) ⊎ (is_before j k ≡ false) × (is_before k j ≡ true) × (bytes_eq k j ≡ false))
  part_of_key j k = elim (compare_keys j k) [
    | inl b ↦ inl (is_before_from j k b, is_before-back j k b, differs_above k j b)
    | inr rest ↦ inr (elim rest [
      | inl e ↦ inl (subst (λ u. is_before u k ≡ false) (sym e) (is_before-itself k), subst (λ u. is_before k u ≡ false) (sym e) (is_before-itself k), key_true k j (sym e))
      | inr a ↦ inr (is_before-back k j a, is_before_from k j a, differs_below k j a)
    ])
  ]

  -- after one change a look-up finds what was put, at its key, and elsewhere what it found before
  pub find_key-put_at : (j k : List ℕ) (after : Option T) (xs : List T) → IfSome after (λ x. key x ≡ k)
      → find_key key j (put_at key k after xs) ≡ cond (bytes_eq k j) after (find_key key j xs)
  find_key-put_at j k after xs named =
      let lower = filter (λ x. is_before (key x) k) xs in
      let upper = filter (λ x. is_before k (key x)) xs in
      let found = find_key key j xs in
      ap (find_key key j) (unfolding_put_at k after xs)
      ∙ find_key-append j lower (option_to_list after ++ upper)
      ∙ ap (or_else (find_key key j lower)) (find_key-append j (option_to_list after) upper)
      ∙ ap (λ u. or_else u (or_else (find_key key j (option_to_list after)) (find_key key j upper))) (find_key-filter (λ u. is_before u k) j xs)
      ∙ ap (λ u. or_else (cond (is_before j k) found None) (or_else u (find_key key j upper))) (find_key-option j k after named)
      ∙ ap (λ u. or_else (cond (is_before j k) found None) (or_else (cond (bytes_eq k j) after None) u)) (find_key-filter (λ u. is_before k u) j xs)
      ∙ part_chosen (is_before j k) (is_before k j) (bytes_eq k j) found after (part_of_key j k)

  pub rises-put_at : (k : List ℕ) (after : Option T) (xs : List T) → Rises key xs → IfSome after (λ x. key x ≡ k) → Rises key (put_at key k after xs)
  rises-put_at k after xs rising named =
      let lower = filter (λ x. is_before (key x) k) xs in
      let upper = filter (λ x. is_before k (key x)) xs in
      let below : All (λ x. IsBefore (key x) k) lower = All-weaker (λ x. is_before (key x) k ≡ true) (λ x. IsBefore (key x) k) (λ x b. before_from (key x) k b) lower (filter_passes (λ x. is_before (key x) k) xs) in
      let above : All (λ x. IsBefore k (key x)) upper = All-weaker (λ x. is_before k (key x) ≡ true) (λ x. IsBefore k (key x)) (λ x b. before_from k (key x) b) upper (filter_passes (λ x. is_before k (key x)) xs) in
      subst (λ l. Rises key l) (sym (unfolding_put_at k after xs))
      (rises_append key lower (option_to_list after ++ upper) (rises_filter key (λ x. is_before (key x) k) xs rising)
      (back after named upper above (rises_filter key (λ x. is_before k (key x)) xs rising))
      (All-weaker (λ x. IsBefore (key x) k) (λ x. All (λ y. IsBefore (key x) (key y)) (option_to_list after ++ upper))
      (λ x b. across (key x) b after named upper above) lower below))
    where
      later : (j : List ℕ) → IsBefore j k → (ys : List T) → All (λ x. IsBefore k (key x)) ys → All (λ y. IsBefore j (key y)) ys
      later j b ys h = All-weaker (λ x. IsBefore k (key x)) (λ y. IsBefore j (key y)) (λ y a. before_trans j k (key y) b a) ys h

      across : (j : List ℕ) → IsBefore j k → (after : Option T) → IfSome after (λ x. key x ≡ k) → (ys : List T) → All (λ x. IsBefore k (key x)) ys → All (λ y. IsBefore j (key y)) (option_to_list after ++ ys)
      across j b None named ys h = later j b ys h
      across j b (Some x) named ys h = All-cons (λ y. IsBefore j (key y)) x ys (subst (λ u. IsBefore j u) (sym named) b) (later j b ys h)

      back : (after : Option T) → IfSome after (λ x. key x ≡ k) → (ys : List T) → All (λ x. IsBefore k (key x)) ys → Rises key ys → Rises key (option_to_list after ++ ys)
      back None named ys h r = r
      back (Some x) named ys h r = rises_cons key x ys (subst (λ u. All (λ y. IsBefore u (key y)) ys) (sym named) h) r

  -- ---- lists that rise and in which each look-up finds the same are one

  pub look_ups_tell : (xs ys : List T) → Rises key xs → Rises key ys → ((j : List ℕ) → find_key key j xs ≡ find_key key j ys) → xs ≡ ys
  look_ups_tell [] [] hx hy h = refl
  look_ups_tell [] (y ∷ ys) hx hy h = let e = h (key y) ∙ first_found y ys in cc
  look_ups_tell (x ∷ xs) [] hx hy h = let e = sym (h (key x)) ∙ first_found x xs in cc
  look_ups_tell (x ∷ xs) (y ∷ ys) hx hy h = elim (compare_keys (key x) (key y)) [
    | inl b ↦
        let none = not_found_above (key x) (y ∷ ys) (All-cons (λ z. IsBefore (key x) (key z)) y ys b (beyond (key x) (key y) b ys (rises_first key y ys hy))) in
        let e = sym (first_found x xs) ∙ h (key x) ∙ none in cc
    | inr rest ↦ elim rest [
      | inl e ↦
          let first : x ≡ y = let s = sym (first_found x xs) ∙ h (key x) ∙ ap (λ u. find_key key u (y ∷ ys)) e ∙ first_found y ys in cc in
          let others : xs ≡ ys = look_ups_tell xs ys (rises_rest key x xs hx) (rises_rest key y ys hy) (λ j. remaining j e) in
          λ i. first i ∷ others i
      | inr a ↦
          let none = not_found_above (key y) (x ∷ xs) (All-cons (λ z. IsBefore (key y) (key z)) x xs a (beyond (key y) (key x) a xs (rises_first key x xs hx))) in
          let e = sym (first_found y ys) ∙ sym (h (key y)) ∙ none in cc
    ]
  ]
    where
      beyond : (j k : List ℕ) → IsBefore j k → (zs : List T) → All (λ z. IsBefore k (key z)) zs → All (λ z. IsBefore j (key z)) zs
      beyond j k b zs all = All-weaker (λ z. IsBefore k (key z)) (λ z. IsBefore j (key z)) (λ z a. before_trans j k (key z) b a) zs all

      by : (j : List ℕ) → key x ≡ key y → (b : Bool) → bytes_eq (key x) j ≡ b → find_key key j xs ≡ find_key key j ys
      by j e true t =
          let s = key_same (key x) j t in
          not_found_above j xs (subst (λ u. All (λ z. IsBefore u (key z)) xs) s (rises_first key x xs hx))
          ∙ sym (not_found_above j ys (subst (λ u. All (λ z. IsBefore u (key z)) ys) (sym e ∙ s) (rises_first key y ys hy)))
      by j e false t =
          sym (cond-false (bytes_eq (key x) j) (Some x) (find_key key j xs) t) ∙ h j
          ∙ cond-false (bytes_eq (key y) j) (Some y) (find_key key j ys) (subst (λ u. bytes_eq u j ≡ false) e t)

      remaining : (j : List ℕ) → key x ≡ key y → find_key key j xs ≡ find_key key j ys
      remaining j e = by j e (bytes_eq (key x) j) refl

  -- ---- sums after a change

  part_sums : (f : T → ℕ) (k : List ℕ) (xs : List T) → Rises key xs
      → sum_by f (filter (λ x. is_before (key x) k) xs) + sum_by f (filter (λ x. is_before k (key x)) xs) + option_map_or f (find_key key k xs) 0 ≡ sum_by f xs
  part_sums f k [] rising = refl
  part_sums f k (x ∷ xs) rising =
      let h = part_sums f k xs (rises_rest key x xs rising) in
      let low = sum_by-cons f x (filter (λ x. is_before (key x) k) xs) in
      let high = sum_by-cons f x (filter (λ x. is_before k (key x)) xs) in
      let whole = sum_by-cons f x xs in
      elim (compare_keys (key x) k) [
        | inl b ↦ rw (is_before_from (key x) k b, is_before-back (key x) k b, differs_below (key x) k b) (omega (arith, h, low, whole))
        | inr rest ↦ elim rest [
          | inl e ↦
              let none = ap (λ o. option_map_or f o 0) (not_found_above k xs (subst (λ u. All (λ z. IsBefore u (key z)) xs) e (rises_first key x xs rising))) in
              let below : is_before (key x) k ≡ false = subst (λ u. is_before u k ≡ false) (sym e) (is_before-itself k) in
              let above : is_before k (key x) ≡ false = subst (λ u. is_before k u ≡ false) (sym e) (is_before-itself k) in
              rw (below, above, key_true (key x) k e) (omega (arith, h, whole, none))
          | inr a ↦ rw (is_before-back k (key x) a, is_before_from k (key x) a, differs_above (key x) k a) (omega (arith, h, high, whole))
        ]
      ]

  -- a sum loses what stood at the key, and gains what is put there
  pub sum-put_at : (f : T → ℕ) (k : List ℕ) (after : Option T) (xs : List T) → Rises key xs
      → sum_by f (put_at key k after xs) + option_map_or f (find_key key k xs) 0 ≡ sum_by f xs + option_map_or f after 0
  sum-put_at f k after xs rising =
      let lower = filter (λ x. is_before (key x) k) xs in
      let upper = filter (λ x. is_before k (key x)) xs in
      let whole = part_sums f k xs rising in
      let done = ap (sum_by f) (unfolding_put_at k after xs) ∙ sum_by-append f lower (option_to_list after ++ upper) in
      let middle = sum_by-append f (option_to_list after) upper in
      let one = sum_of after in
      omega (arith, whole, done, middle, one)
    where
      sum_of : (o : Option T) → sum_by f (option_to_list o) ≡ option_map_or f o 0
      sum_of None = refl
      sum_of (Some x) = omega arith

  pub length-put_at : (k : List ℕ) (after : Option T) (xs : List T) → Rises key xs
      → length (put_at key k after xs) + places_taken (find_key key k xs) ≡ length xs + places_taken after
  length-put_at k after xs rising =
      let h = sum-put_at (λ x. 1) k after xs rising in
      let done = sum_of_ones (put_at key k after xs) in
      let whole = sum_of_ones xs in
      let old = one_of (find_key key k xs) in
      let new = one_of after in
      omega (arith, h, done, whole, old, new)
    where
      one_of : (o : Option T) → option_map_or (λ x. 1) o 0 ≡ places_taken o
      one_of None = refl
      one_of (Some x) = refl

  -- ---- the parts below a key and above it

  module _ (k : List ℕ) (front : List T) (mid : Option T) (back : List T)
      (below : All (λ x. IsBefore (key x) k) front) (named : IfSome mid (λ x. key x ≡ k)) (above : All (λ x. IsBefore k (key x)) back) where
    pub part_below : filter (λ x. is_before (key x) k) (front ++ (option_to_list mid ++ back)) ≡ front
    part_below =
        filter-append (λ x. is_before (key x) k) front (option_to_list mid ++ back)
        ∙ ap (λ l. l ++ filter (λ x. is_before (key x) k) (option_to_list mid ++ back)) whole_front
        ∙ ap (λ l. front ++ l) (none_at mid named) ∙ append-nil front
      where
        whole_front : filter (λ x. is_before (key x) k) front ≡ front
        whole_front = filter_all (λ x. is_before (key x) k) front (All-weaker (λ x. IsBefore (key x) k) (λ x. is_before (key x) k ≡ true) (λ x b. is_before_from (key x) k b) front below)

        none_back : filter (λ x. is_before (key x) k) back ≡ []
        none_back = filter_none (λ x. is_before (key x) k) back (All-weaker (λ x. IsBefore k (key x)) (λ x. is_before (key x) k ≡ false) (λ x b. is_before-back k (key x) b) back above)

        none_at : (mid : Option T) → IfSome mid (λ x. key x ≡ k) → filter (λ x. is_before (key x) k) (option_to_list mid ++ back) ≡ []
        none_at None named = none_back
        none_at (Some x) named =
            cond-false (is_before (key x) k) (x ∷ filter (λ x. is_before (key x) k) back) (filter (λ x. is_before (key x) k) back)
            (subst (λ u. is_before u k ≡ false) (sym named) (is_before-itself k)) ∙ none_back

    pub part_above : filter (λ x. is_before k (key x)) (front ++ (option_to_list mid ++ back)) ≡ back
    part_above =
        filter-append (λ x. is_before k (key x)) front (option_to_list mid ++ back)
        ∙ ap (λ l. l ++ filter (λ x. is_before k (key x)) (option_to_list mid ++ back)) none_front ∙ back_at mid named
      where
        none_front : filter (λ x. is_before k (key x)) front ≡ []
        none_front = filter_none (λ x. is_before k (key x)) front (All-weaker (λ x. IsBefore (key x) k) (λ x. is_before k (key x) ≡ false) (λ x b. is_before-back (key x) k b) front below)

        whole_back : filter (λ x. is_before k (key x)) back ≡ back
        whole_back = filter_all (λ x. is_before k (key x)) back (All-weaker (λ x. IsBefore k (key x)) (λ x. is_before k (key x) ≡ true) (λ x b. is_before_from k (key x) b) back above)

        back_at : (mid : Option T) → IfSome mid (λ x. key x ≡ k) → filter (λ x. is_before k (key x)) (option_to_list mid ++ back) ≡ back
        back_at None named = whole_back
        back_at (Some x) named =
            cond-false (is_before k (key x)) (x ∷ filter (λ x. is_before k (key x)) back) (filter (λ x. is_before k (key x)) back)
            (subst (λ u. is_before k u ≡ false) (sym named) (is_before-itself k)) ∙ whole_back

    pub put_between : (after : Option T) → put_at key k after (front ++ (option_to_list mid ++ back)) ≡ front ++ (option_to_list after ++ back)
    put_between after =
        unfolding_put_at k after (front ++ (option_to_list mid ++ back))
        ∙ ap (λ l. l ++ (option_to_list after ++ filter (λ x. is_before k (key x)) (front ++ (option_to_list mid ++ back)))) part_below
        ∙ ap (λ l. front ++ (option_to_list after ++ l)) part_above

    pub found_between : find_key key k (front ++ (option_to_list mid ++ back)) ≡ mid
    found_between =
        find_key-append k front (option_to_list mid ++ back)
        ∙ ap (λ o. or_else o (find_key key k (option_to_list mid ++ back))) (not_found_below k front below)
        ∙ by mid named
      where
        by : (mid : Option T) → IfSome mid (λ x. key x ≡ k) → find_key key k (option_to_list mid ++ back) ≡ mid
        by None named = not_found_above k back above
        by (Some x) named = cond-true (bytes_eq (key x) k) (Some x) (find_key key k back) (key_true (key x) k named)
