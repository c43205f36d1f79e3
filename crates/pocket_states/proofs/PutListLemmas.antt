-- What stands in a list in which one item is put at a key.
use Rattle.std.proofs.Common.{◌≡◌, ◌≢◌, ◌⊎◌, inl, inr, ℕ, List, ◌∷◌, true, filter, Some, refl, sym, ◌∙◌, ap, subst, true≢false}
use Rattle.pocket_types.specs.Order.{is_before}
use Rattle.pocket_types.proofs.OrderLemmas.{is_before_from, is_before-itself}
use Rattle.pocket_tables.specs.Keyed.{put_at}
use Rattle.pocket_tables.proofs.KeyLemmas.{compare_keys, unfolding_put_at}
use Rattle.pocket_store.proofs.ListLemmas.{IsIn, in_back, in_either, in_filter, in_front, of_filter}

module _ {T : Type 0} (key : T → List ℕ) (k : List ℕ) (x : T) (xs : List T) where
  abbrev below : List T
  below = filter (λ y. is_before (key y) k) xs

  abbrev above : List T
  above = filter (λ y. is_before k (key y)) xs

  abbrev pub with_put : List T
  with_put = put_at key k (Some x) xs

  -- what was put stands there
  pub put_has : IsIn x with_put
  put_has = subst (λ l. IsIn x l) (sym (unfolding_put_at key k (Some x) xs)) (in_back below (x ∷ above) x (inl refl))

  -- an item of another key stays
  pub put_keeps : (y : T) → IsIn y xs → key y ≢ k → IsIn y with_put
  put_keeps y i other = subst (λ l. IsIn y l) (sym (unfolding_put_at key k (Some x) xs)) (elim (compare_keys (key y) k) [
    | inl b ↦ in_front below (x ∷ above) y (in_filter (λ z. is_before (key z) k) xs y i (is_before_from (key y) k b))
    | inr rest ↦ elim rest [
      | inl e ↦ absurd (other e)
      | inr a ↦ in_back below (x ∷ above) y (inr (in_filter (λ z. is_before k (key z)) xs y i (is_before_from k (key y) a)))
    ]
  ])

  not_below : (y : T) → is_before (key y) k ≡ true → key y ≢ k
  not_below y b e = true≢false (sym b ∙ ap (λ u. is_before u k) e ∙ is_before-itself k)

  not_above : (y : T) → is_before k (key y) ≡ true → key y ≢ k
  not_above y b e = true≢false (sym b ∙ ap (λ u. is_before k u) e ∙ is_before-itself k)

  -- what stands there was put, or stood there before under another key
  pub put_from : (y : T) → IsIn y with_put → (y ≡ x) ⊎ (IsIn y xs × (key y ≢ k))
  put_from y i = elim (in_either below (x ∷ above) y (subst (λ l. IsIn y l) (unfolding_put_at key k (Some x) xs) i)) [
    | inl low ↦ let h = of_filter (λ z. is_before (key z) k) xs y low in inr (h.0, not_below y h.1)
    | inr rest ↦ elim rest [
      | inl e ↦ inl e
      | inr high ↦ let h = of_filter (λ z. is_before k (key z)) xs y high in inr (h.0, not_above y h.1)
    ]
  ]
