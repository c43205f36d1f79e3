-- The order of bytes, and lists that rise by a key.
use Rattle.std.proofs.Common.{◌≡◌, ℕ, zero, suc, ◌<◌, List, [], ◌∷◌, ◌++◌, Bool, true, false, refl, sym, ◌∙◌, ap, subst, take, drop, map, filter, length, get_or, All, arith}
use Rattle.std.specs.Cmp.Lexicographic.{slice_cmp}
use Rattle.std.specs.Ordering.{nat_cmp, is_lt, ordering_then, ordering_reverse}
use Rattle.std.specs.declared.cmp.Ordering.{Ordering}
use Rattle.std.specs.declared.cmp.Ordering.TheVariants.{Less, Equal, Greater}
use Rattle.std.proofs.lemmas.Cmp.{nat_list_cmp_total, tied_itself, nat_cmp_total, ranked, by_ranked}
use Rattle.std.proofs.lemmas.List.Elements.{All-append, All-map, All-take, All-head, All-tail, All-weaker}
use Rattle.std.proofs.lemmas.List.Kept.{AllPairs-cons, AllPairs-filter}
use Rattle.std.proofs.lemmas.List.Quantifiers.{all_pairs_push}
use Rattle.pocket_types.specs.Order.{IsBefore, is_before, Rises}

pub before_trans : (a b c : List ℕ) → IsBefore a b → IsBefore b c → IsBefore a c
before_trans a b c = nat_list_cmp_total.trans a b c

pub equal_itself : (a : List ℕ) → slice_cmp nat_cmp a a ≡ Equal
equal_itself a = tied_itself nat_list_cmp_total a

pub not_before_itself : (a : List ℕ) → IsBefore a a → ⊥
not_before_itself a h = let e = equal_itself a in cc

-- the other way round
pub after_from_before : (a b : List ℕ) → IsBefore a b → slice_cmp nat_cmp b a ≡ Greater
after_from_before a b h = nat_list_cmp_total.antisymm b a ∙ ap ordering_reverse h

pub before_from_after : (a b : List ℕ) → slice_cmp nat_cmp a b ≡ Greater → IsBefore b a
before_from_after a b h = nat_list_cmp_total.antisymm b a ∙ ap ordering_reverse h

pub not_before_back : (a b : List ℕ) → IsBefore a b → IsBefore b a → ⊥
not_before_back a b h k = let e = after_from_before a b h in cc

both_equal : (o p : Ordering) → ordering_then o p ≡ Equal → (o ≡ Equal) × (p ≡ Equal)
both_equal Less p h = (h, cc)
both_equal Equal p h = (refl, h)
both_equal Greater p h = (h, cc)

-- texts that tie are one text
pub same_from_equal : (a b : List ℕ) → slice_cmp nat_cmp a b ≡ Equal → a ≡ b
same_from_equal [] [] h = refl
same_from_equal [] (y ∷ ys) h = cc
same_from_equal (x ∷ xs) [] h = cc
same_from_equal (x ∷ xs) (y ∷ ys) h =
    let both = both_equal (nat_cmp x y) (slice_cmp nat_cmp xs ys) h in
    let first : x ≡ y = ranked x y Equal (sym both.0) in
    let rest = same_from_equal xs ys both.1 in
    cc

-- a common front decides nothing
pub cmp-append : (front a b : List ℕ) → slice_cmp nat_cmp (front ++ a) (front ++ b) ≡ slice_cmp nat_cmp a b
cmp-append [] a b = refl
cmp-append (c ∷ front) a b = rw (tied_itself nat_cmp_total c) (cmp-append front a b)

pub before_append : (front a b : List ℕ) → IsBefore a b → IsBefore (front ++ a) (front ++ b)
before_append front a b h = cmp-append front a b ∙ h

pub before_from_append : (front a b : List ℕ) → IsBefore (front ++ a) (front ++ b) → IsBefore a b
before_from_append front a b h = sym (cmp-append front a b) ∙ h

pub is_before_from : (a b : List ℕ) → IsBefore a b → is_before a b ≡ true
is_before_from a b h = ap is_lt h

less_from : (o : Ordering) → is_lt o ≡ true → o ≡ Less
less_from Less h = refl
less_from Equal h = cc
less_from Greater h = cc

pub before_from : (a b : List ℕ) → is_before a b ≡ true → IsBefore a b
before_from a b h = less_from (slice_cmp nat_cmp a b) h

pub is_before-itself : (a : List ℕ) → is_before a a ≡ false
is_before-itself a = ap is_lt (equal_itself a)

pub is_before-back : (a b : List ℕ) → IsBefore a b → is_before b a ≡ false
is_before-back a b h = ap is_lt (after_from_before a b h)

module _ {T : Type 0} (key : T → List ℕ) where
  pub rises_nil : Rises key []
  rises_nil i j d before within = absurd (omega arith)

  -- the first stands before all others
  pub rises_first : (x : T) (xs : List T) → Rises key (x ∷ xs) → All (λ y. IsBefore (key x) (key y)) xs
  rises_first x xs h k d within = h zero (suc k) d (omega arith) (omega arith)

  pub rises_rest : (x : T) (xs : List T) → Rises key (x ∷ xs) → Rises key xs
  rises_rest x xs h i j d before within = h (suc i) (suc j) d (omega arith) (omega arith)

  pub rises_cons : (x : T) (xs : List T) → All (λ y. IsBefore (key x) (key y)) xs → Rises key xs → Rises key (x ∷ xs)
  rises_cons x xs = AllPairs-cons (λ x y. IsBefore (key x) (key y)) x xs

  pub rises_filter : (p : T → Bool) (xs : List T) → Rises key xs → Rises key (filter p xs)
  rises_filter p xs = AllPairs-filter (λ x y. IsBefore (key x) (key y)) p xs

  pub rises_push : (xs : List T) (y : T) → Rises key xs → All (λ x. IsBefore (key x) (key y)) xs → Rises key (xs ++ y ∷ [])
  rises_push xs y h below = all_pairs_push (λ x y. IsBefore (key x) (key y)) xs y h below

  pub rises_take : (n : ℕ) (xs : List T) → Rises key xs → Rises key (take n xs)
  rises_take zero xs h = rises_nil
  rises_take (suc n) [] h = rises_nil
  rises_take (suc n) (x ∷ xs) h =
      rises_cons x (take n xs) (All-take (λ y. IsBefore (key x) (key y)) n xs (rises_first x xs h)) (rises_take n xs (rises_rest x xs h))

  pub rises_drop : (n : ℕ) (xs : List T) → Rises key xs → Rises key (drop n xs)
  rises_drop zero xs h = h
  rises_drop (suc n) [] h = h
  rises_drop (suc n) (x ∷ xs) h = rises_drop n xs (rises_rest x xs h)

  -- the parts of a list that rises
  pub rises_front : (xs ys : List T) → Rises key (xs ++ ys) → Rises key xs
  rises_front [] ys h = rises_nil
  rises_front (x ∷ xs) ys h = rises_cons x xs (front_all xs (rises_first x (xs ++ ys) h)) (rises_front xs ys (rises_rest x (xs ++ ys) h))
    where
      front_all : (xs : List T) → All (λ y. IsBefore (key x) (key y)) (xs ++ ys) → All (λ y. IsBefore (key x) (key y)) xs
      front_all [] h k d within = absurd (omega arith)
      front_all (x' ∷ xs) h zero d within = h zero d (omega arith)
      front_all (x' ∷ xs) h (suc k) d within = front_all xs (All-tail (λ y. IsBefore (key x) (key y)) x' (xs ++ ys) h) k d (omega arith)

  pub rises_back : (xs ys : List T) → Rises key (xs ++ ys) → Rises key ys
  rises_back [] ys h = h
  rises_back (x ∷ xs) ys h = rises_back xs ys (rises_rest x (xs ++ ys) h)

  -- what stands in front of an item stands before it
  pub rises_across : (xs : List T) (y : T) (ys : List T) → Rises key (xs ++ y ∷ ys) → All (λ x. IsBefore (key x) (key y)) xs
  rises_across [] y ys h k d within = absurd (omega arith)
  rises_across (x ∷ xs) y ys h zero d within = at_seam xs (rises_first x (xs ++ y ∷ ys) h)
    where
      at_seam : (xs : List T) → All (λ z. IsBefore (key x) (key z)) (xs ++ y ∷ ys) → IsBefore (key x) (key y)
      at_seam [] h = h zero y (omega arith)
      at_seam (z ∷ xs) h = at_seam xs (All-tail (λ z. IsBefore (key x) (key z)) z (xs ++ y ∷ ys) h)
  rises_across (x ∷ xs) y ys h (suc k) d within = rises_across xs y ys (rises_rest x (xs ++ y ∷ ys) h) k d (omega arith)

  -- two lists one behind the other
  pub rises_append : (xs ys : List T) → Rises key xs → Rises key ys → All (λ x. All (λ y. IsBefore (key x) (key y)) ys) xs → Rises key (xs ++ ys)
  rises_append [] ys hx hy across = hy
  rises_append (x ∷ xs) ys hx hy across =
      rises_cons x (xs ++ ys)
      (All-append (λ y. IsBefore (key x) (key y)) xs ys (rises_first x xs hx) (All-head (λ x. All (λ y. IsBefore (key x) (key y)) ys) x xs across))
      (rises_append xs ys (rises_rest x xs hx) hy (All-tail (λ x. All (λ y. IsBefore (key x) (key y)) ys) x xs across))

  -- two places with one key are one place
  pub rises_same : (xs : List T) (i j : ℕ) (d : T) → Rises key xs → i < length xs → j < length xs → key (get_or xs i d) ≡ key (get_or xs j d) → i ≡ j
  rises_same xs i j d h i_in j_in same =
      by_ranked (i < j) (i ≡ j) (j < i) (nat_cmp i j) (ranked i j (nat_cmp i j) refl)
      (λ _ lt. absurd (not_before_itself (key (get_or xs j d)) (subst (λ k. IsBefore k (key (get_or xs j d))) same (h i j d lt j_in))))
      (λ _ e. e)
      (λ _ gt. absurd (not_before_itself (key (get_or xs j d)) (subst (λ k. IsBefore (key (get_or xs j d)) k) same (h j i d gt i_in))))

-- what is made of a list that rises, where the order of the keys is kept
pub rises_map : {T U : Type 0} (key : T → List ℕ) (other : U → List ℕ) (f : T → U)
    → ((x y : T) → IsBefore (key x) (key y) → IsBefore (other (f x)) (other (f y)))
    → (xs : List T) → Rises key xs → Rises other (map f xs)
rises_map key other f keeps [] h = rises_nil other
rises_map key other f keeps (x ∷ xs) h =
    rises_cons other (f x) (map f xs)
    (All-map (λ u. IsBefore (other (f x)) (other u)) f xs (All-weaker (λ y. IsBefore (key x) (key y)) (λ y. IsBefore (other (f x)) (other (f y))) (keeps x) xs (rises_first key x xs h)))
    (rises_map key other f keeps xs (rises_rest key x xs h))
