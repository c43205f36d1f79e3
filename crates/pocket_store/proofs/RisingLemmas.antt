-- Lists that rise by a key: which items they have says all.
use Rattle.std.proofs.Common.{◌≡◌, ◌⊎◌, inl, inr, ℕ, ◌≤◌, length, arith, All, List, [], ◌∷◌, refl, sym, ◌∙◌, ap, subst}
use Rattle.pocket_types.specs.Order.{IsBefore, Rises}
use Rattle.pocket_types.proofs.OrderLemmas.{not_before_back, not_before_itself, rises_first, rises_rest}
use Rattle.pocket_store.proofs.ListLemmas.{IsIn, all_in}

module _ {T : Type 0} (key : T → List ℕ) where
  -- an item that stands before all others of a list isn't one of these
  first_alone : (x y : T) (ys : List T) → Rises key (y ∷ ys) → x ≡ y → IsIn x ys → ⊥
  first_alone x y ys rising e h =
      not_before_itself (key y) (subst (λ z. IsBefore (key y) (key z)) e (all_in (λ z. IsBefore (key y) (key z)) ys x (rises_first key y ys rising) h))

  -- the rest of two lists with the same items and the same first one
  rest_into : (x y : T) (xs ys : List T) → Rises key (x ∷ xs) → x ≡ y → ((z : T) → IsIn z (x ∷ xs) → IsIn z (y ∷ ys)) → (z : T) → IsIn z xs → IsIn z ys
  rest_into x y xs ys rising e into z h =
      elim (into z (inr h)) [
        | inl q ↦ absurd (first_alone z x xs rising (q ∙ sym e) h)
        | inr later ↦ later
      ]

  firsts : (x y : T) (xs ys : List T) → Rises key (x ∷ xs) → Rises key (y ∷ ys) → (x ≡ y) ⊎ IsIn x ys → (y ≡ x) ⊎ IsIn y xs → x ≡ y
  firsts x y xs ys h k (inl e) q = e
  firsts x y xs ys h k (inr i) (inl e) = sym e
  firsts x y xs ys h k (inr i) (inr j) =
      absurd (not_before_back (key x) (key y) (all_in (λ z. IsBefore (key x) (key z)) xs y (rises_first key x xs h) j)
      (all_in (λ z. IsBefore (key y) (key z)) ys x (rises_first key y ys k) i))

  -- two lists that rise and have the same items are one
  pub rising_same : (xs ys : List T) → Rises key xs → Rises key ys → ((z : T) → IsIn z xs → IsIn z ys) → ((z : T) → IsIn z ys → IsIn z xs) → xs ≡ ys
  rising_same [] [] h k into back = refl
  rising_same [] (y ∷ ys) h k into back = absurd (back y (inl refl))
  rising_same (x ∷ xs) [] h k into back = absurd (into x (inl refl))
  rising_same (x ∷ xs) (y ∷ ys) h k into back =
      let e : x ≡ y = firsts x y xs ys h k (into x (inl refl)) (back y (inl refl)) in
      let rest = rising_same xs ys (rises_rest key x xs h) (rises_rest key y ys k) (rest_into x y xs ys h e into) (rest_into y x ys xs k (sym e) back) in
      λ i. e i ∷ rest i

  -- of one key there is one item
  pub same_key : (xs : List T) (x y : T) → Rises key xs → IsIn x xs → IsIn y xs → key x ≡ key y → x ≡ y
  same_key [] x y h i j e = absurd i
  same_key (z ∷ zs) x y h (inl p) (inl q) e = p ∙ sym q
  same_key (z ∷ zs) x y h (inl p) (inr j) e =
      absurd (not_before_itself (key y) (subst (λ k. IsBefore k (key y)) (ap key (sym p) ∙ e) (all_in (λ u. IsBefore (key z) (key u)) zs y (rises_first key z zs h) j)))
  same_key (z ∷ zs) x y h (inr i) (inl q) e =
      absurd (not_before_itself (key x) (subst (λ k. IsBefore k (key x)) (ap key (sym q) ∙ sym e) (all_in (λ u. IsBefore (key z) (key u)) zs x (rises_first key z zs h) i)))
  same_key (z ∷ zs) x y h (inr i) (inr j) e = same_key zs x y (rises_rest key z zs h) i j e

-- of two lists that rise, one holds no more items than the other where each of its items is one of the other's
pub rising_within : {X : Type 0} (key : X → List ℕ) (xs ys : List X) → Rises key xs → Rises key ys → ((x : X) → IsIn x xs → IsIn x ys) → length xs ≤ length ys
rising_within key [] ys rx ry h = omega arith
rising_within key (x ∷ xs) [] rx ry h = absurd (h x (inl refl))
rising_within key (x ∷ xs) (y ∷ ys) rx ry h =
    let later : All (λ z. IsBefore (key x) (key z)) xs = rises_first key x xs rx in
    elim (h x (inl refl)) [
      | inl e ↦
          let rest : length xs ≤ length ys = rising_within key xs ys (rises_rest key x xs rx) (rises_rest key y ys ry) (λ z i. elim (h z (inr i)) [
            | inl q ↦
                let b : IsBefore (key x) (key z) = all_in (λ z. IsBefore (key x) (key z)) xs z later i in
                absurd (not_before_itself (key z) (subst (λ k. IsBefore k (key z)) (ap key (e ∙ sym q)) b))
            | inr j ↦ j
          ]) in
          omega (arith, rest)
      | inr i ↦
          let c : IsBefore (key y) (key x) = all_in (λ z. IsBefore (key y) (key z)) ys x (rises_first key y ys ry) i in
          let rest : length (x ∷ xs) ≤ length ys = rising_within key (x ∷ xs) ys rx (rises_rest key y ys ry) (λ z j. elim j [
            | inl e ↦ subst (λ u. IsIn u ys) (sym e) i
            | inr k ↦ elim (h z (inr k)) [
              | inl q ↦
                  let b : IsBefore (key x) (key z) = all_in (λ z. IsBefore (key x) (key z)) xs z later k in
                  absurd (not_before_back (key x) (key z) b (subst (λ u. IsBefore (key u) (key x)) (sym q) c))
              | inr l ↦ l
            ]
          ]) in
          omega (arith, rest)
    ]
