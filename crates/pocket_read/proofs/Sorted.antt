-- A stable sort gives the items in order.
use Rattle.std.proofs.Common.{◌≡◌, ℕ, zero, suc, ◌+◌, ◌<◌, ◌≤◌, Bool, true, false, cond, not, ◌&&◌, List, [], ◌∷◌, length, get_or, refl, sym, ap, ◌∙◌, subst, true≢false, arith}
use Rattle.std.specs.Prelude.{⊤, filter}
use Rattle.std.specs.Cmp.{IsStrictWeakOrder}
use Rattle.std.specs.List.Sorted.{IsPermutation, IsSortedBy, IsStableBy, ties}
use Rattle.std.proofs.lemmas.List.Sorted.{IsPermutation-cons, IsPermutation-middle, IsPermutation-refl, IsPermutation-trans, sorted_far}
use Rattle.pocket_read.specs.Sorting.{in_order, insert_by}

not_both : (a b : Bool) → (not a && not b) ≡ true → (a ≡ false) × (b ≡ false)
not_both true b h = absurd (true≢false (sym h))
not_both false true h = absurd (true≢false (sym h))
not_both false false h = (refl, refl)

both_not : (a b : Bool) → a ≡ false → b ≡ false → (not a && not b) ≡ true
both_not a b e f = (λ i. not (e i) && not (f i))

module _ {X : Type 0} (lt : X → X → Bool) (o : IsStrictWeakOrder lt) where
  not_before_itself : (b : Bool) (x : X) → lt x x ≡ b → lt x x ≡ false
  not_before_itself true x e = o.one_way x x e
  not_before_itself false x e = e

  itself : (x : X) → lt x x ≡ false
  itself x = not_before_itself (lt x x) x refl

  -- x stands before nothing that is put before it
  abbrev Low : X → List X → Type 0
  Low x [] = ⊤
  Low x (y ∷ ys) = (lt y x ≡ false) × Low x ys

  abbrev Up : List X → Type 0
  Up [] = ⊤
  Up (x ∷ xs) = Low x xs × Up xs

  low_of : (x : X) (xs : List X) → ((k : ℕ) → k < length xs → lt (get_or xs k x) x ≡ false) → Low x xs
  low_of x [] h = tt
  low_of x (y ∷ ys) h = (h 0 (omega arith), low_of x ys (λ k p. h (suc k) (omega arith)))

  up_of : (xs : List X) → ((i j : ℕ) (d : X) → i ≤ j → j < length xs → lt (get_or xs j d) (get_or xs i d) ≡ false) → Up xs
  up_of [] h = tt
  up_of (x ∷ xs) h = (low_of x xs (λ k p. h 0 (suc k) x (omega arith) (omega arith)), up_of xs (λ i j d p q. h (suc i) (suc j) d (omega arith) (omega arith)))

  low_chain : (x y : X) (ys : List X) → lt y x ≡ false → Low y ys → Low x ys
  low_chain x y [] e h = tt
  low_chain x y (z ∷ zs) e h = (o.chain z y x h.0 e, low_chain x y zs e h.1)

  low_insert : (z x : X) (ys : List X) → lt x z ≡ false → Low z ys → Low z (insert_by lt x ys)
  low_insert z x [] e h = (e, tt)
  low_insert z x (y ∷ ys) e h = by (low_insert z x ys e h.1) (lt y x)
    where
      by : Low z (insert_by lt x ys) → (b : Bool) → Low z (cond b (y ∷ insert_by lt x ys) (x ∷ y ∷ ys))
      by rest true = (h.0, rest)
      by rest false = (e, h)

  up_insert : (x : X) (ys : List X) → Up ys → Up (insert_by lt x ys)
  up_insert x [] h = (tt, tt)
  up_insert x (y ∷ ys) h = by (up_insert x ys h.1) (lt y x) refl
    where
      by : Up (insert_by lt x ys) → (b : Bool) → lt y x ≡ b → Up (cond b (y ∷ insert_by lt x ys) (x ∷ y ∷ ys))
      by rest true e = (low_insert y x ys (o.one_way y x e) h.0, rest)
      by rest false e = ((e, low_chain x y ys e h.0), h)

  pub up_in_order : (xs : List X) → Up (in_order lt xs)
  up_in_order [] = tt
  up_in_order (x ∷ xs) = up_insert x (in_order lt xs) (up_in_order xs)

  -- two items that tie with a third don't stand before one another
  no_order : (x y z : X) → ties lt z x ≡ true → ties lt z y ≡ true → lt y x ≡ false
  no_order x y z e f = o.chain y z x (not_both (lt z y) (lt y z) f).1 (not_both (lt z x) (lt x z) e).0

  kept_insert : (z x : X) (ys : List X) → filter (ties lt z) (insert_by lt x ys) ≡ filter (ties lt z) (x ∷ ys)
  kept_insert z x [] = refl
  kept_insert z x (y ∷ ys) = by (kept_insert z x ys) (lt y x) refl
    where
      swap : (a b : Bool) → ties lt z x ≡ a → ties lt z y ≡ b → lt y x ≡ true → (l : List X)
          → cond b (y ∷ cond a (x ∷ l) l) (cond a (x ∷ l) l) ≡ cond a (x ∷ cond b (y ∷ l) l) (cond b (y ∷ l) l)
      swap true true e f g l = absurd (true≢false (sym g ∙ no_order x y z e f))
      swap true false e f g l = refl
      swap false true e f g l = refl
      swap false false e f g l = refl

      by : filter (ties lt z) (insert_by lt x ys) ≡ filter (ties lt z) (x ∷ ys) → (b : Bool) → lt y x ≡ b
          → filter (ties lt z) (cond b (y ∷ insert_by lt x ys) (x ∷ y ∷ ys)) ≡ filter (ties lt z) (x ∷ y ∷ ys)
      by rest true e = ap (λ l. cond (ties lt z y) (y ∷ l) l) rest ∙ swap (ties lt z x) (ties lt z y) refl refl e (filter (ties lt z) ys)
      by rest false e = refl

  kept_in_order : (z : X) (xs : List X) → filter (ties lt z) (in_order lt xs) ≡ filter (ties lt z) xs
  kept_in_order z [] = refl
  kept_in_order z (x ∷ xs) = kept_insert z x (in_order lt xs) ∙ ap (λ l. cond (ties lt z x) (x ∷ l) l) (kept_in_order z xs)

  ties_itself : (x : X) → ties lt x x ≡ true
  ties_itself x = both_not (lt x x) (lt x x) (itself x) (itself x)

  low_member : (t : X → Bool) (z y : X) (rest zs : List X) → Low z zs → filter t zs ≡ y ∷ rest → lt y z ≡ false
  low_member t z y rest [] h e = cc
  low_member t z y rest (w ∷ zs) h e = by (low_member t z y rest zs h.1) (t w) e
    where
      by : (filter t zs ≡ y ∷ rest → lt y z ≡ false) → (b : Bool) → cond b (w ∷ filter t zs) (filter t zs) ≡ y ∷ rest → lt y z ≡ false
      by later true f = let same : w ≡ y = cc in subst (λ v. lt v z ≡ false) same h.0
      by later false f = later f

  front : (x y : X) (l : List X) → (b : Bool) → b ≡ true → cond b (y ∷ l) l ≡ y ∷ l
  front x y l b e = ap (λ c. cond c (y ∷ l) l) e

  -- lists in order whose ties stand alike are one
  same_sorted : (ys zs : List X) → Up ys → Up zs → ((x : X) → filter (ties lt x) ys ≡ filter (ties lt x) zs) → ys ≡ zs
  same_sorted [] [] u v h = refl
  same_sorted [] (z ∷ zs) u v h = let e = h z ∙ front z z (filter (ties lt z) zs) (ties lt z z) (ties_itself z) in cc
  same_sorted (y ∷ ys) [] u v h = let e = sym (h y) ∙ front y y (filter (ties lt y) ys) (ties lt y y) (ties_itself y) in cc
  same_sorted (y ∷ ys) (z ∷ zs) u v h = λ i. sym same i ∷ same_sorted ys zs u.1 v.1 alike i
    where
      y_first : filter (ties lt y) (z ∷ zs) ≡ y ∷ filter (ties lt y) ys
      y_first = sym (h y) ∙ front y y (filter (ties lt y) ys) (ties lt y y) (ties_itself y)

      z_first : filter (ties lt z) (y ∷ ys) ≡ z ∷ filter (ties lt z) zs
      z_first = h z ∙ front z z (filter (ties lt z) zs) (ties lt z z) (ties_itself z)

      tied : ties lt y z ≡ true
      tied = both_not (lt y z) (lt z y)
          (low_member (ties lt y) z y (filter (ties lt y) ys) (z ∷ zs) (itself z, v.0) y_first)
          (low_member (ties lt z) y z (filter (ties lt z) zs) (y ∷ ys) (itself y, u.0) z_first)

      heads : z ∷ filter (ties lt y) zs ≡ y ∷ filter (ties lt y) ys
      heads = sym (front y z (filter (ties lt y) zs) (ties lt y z) tied) ∙ y_first

      same : z ≡ y
      same = let e = heads in cc

      less : (b : Bool) (l m : List X) → cond b (y ∷ l) l ≡ cond b (y ∷ m) m → l ≡ m
      less true l m e = cc
      less false l m e = e

      alike : (x : X) → filter (ties lt x) ys ≡ filter (ties lt x) zs
      alike x = less (ties lt x y) (filter (ties lt x) ys) (filter (ties lt x) zs) (h x ∙ ap (λ w. filter (ties lt x) (w ∷ zs)) same)

  sorted_from : (xs : List X) → Up xs → IsSortedBy lt xs
  sorted_from [] h k d low within = absurd (omega arith)
  sorted_from (x ∷ []) h k d low within = absurd (omega arith)
  sorted_from (x ∷ y ∷ ys) h zero d low within = h.0.0
  sorted_from (x ∷ y ∷ ys) h (suc k) d low within =
      let next : suc k + 1 ≡ suc (k + 1) = omega arith in
      ap (λ n. lt (get_or (x ∷ y ∷ ys) n d) (get_or (y ∷ ys) k d)) next ∙ sorted_from (y ∷ ys) h.1 k d (omega arith) (omega arith)

  insert_moves : (x : X) (ys : List X) → IsPermutation (x ∷ ys) (insert_by lt x ys)
  insert_moves x [] = IsPermutation-refl (x ∷ [])
  insert_moves x (y ∷ ys) = by (insert_moves x ys) (lt y x)
    where
      by : IsPermutation (x ∷ ys) (insert_by lt x ys) → (b : Bool) → IsPermutation (x ∷ y ∷ ys) (cond b (y ∷ insert_by lt x ys) (x ∷ y ∷ ys))
      by rest true = IsPermutation-trans _ _ _ (IsPermutation-middle (x ∷ []) y ys) (IsPermutation-cons y _ _ rest)
      by rest false = IsPermutation-refl (x ∷ y ∷ ys)

  -- the items in order are the same items
  pub same_items : (xs : List X) → IsPermutation xs (in_order lt xs)
  same_items [] = IsPermutation-refl []
  same_items (x ∷ xs) = IsPermutation-trans _ _ _ (IsPermutation-cons x _ _ (same_items xs)) (insert_moves x (in_order lt xs))

  -- and none of them stands before the one in front of it
  pub sorted_in_order : (xs : List X) → IsSortedBy lt (in_order lt xs)
  sorted_in_order xs = sorted_from (in_order lt xs) (up_in_order xs)

  -- what a stable sort gives
  pub sort_gives : (xs ys : List X) → IsSortedBy lt ys → IsStableBy lt xs ys → ys ≡ in_order lt xs
  sort_gives xs ys sorted stable =
      same_sorted ys (in_order lt xs) (up_of ys (sorted_far lt o ys sorted)) (up_in_order xs) (λ x. stable x ∙ sym (kept_in_order x xs))
