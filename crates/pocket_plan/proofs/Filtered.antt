-- Tests of lists that another test has passed.
use Rattle.std.proofs.Common.{◌≡◌, ℕ, ◌+◌, ◌<◌, ◌≤◌, Bool, true, false, cond, ◌&&◌, List, [], ◌∷◌, length, get_or, take, drop, refl, sym, ap, ◌∙◌}
use Rattle.std.specs.Prelude.{Some, None, find, filter}
use Rattle.std.specs.Option.{option_or}
use Rattle.std.proofs.lemmas.List.{take-append-drop}
use Rattle.std.proofs.lemmas.List.Folds.{find-append}
use Rattle.pocket_meaning.proofs.ListLemmas.{take_one_more}
use Rattle.pocket_meaning.proofs.MeaningLemmas.{take_all}

pub find_in_filter : {X : Type 0} (p q : X → Bool) (xs : List X) → find p (filter q xs) ≡ find (λ x. q x && p x) xs
find_in_filter p q [] = refl
find_in_filter p q (x ∷ xs) = by (find_in_filter p q xs) (q x)
  where
    by : find p (filter q xs) ≡ find (λ x. q x && p x) xs → (b : Bool) → find p (cond b (x ∷ filter q xs) (filter q xs)) ≡ cond (b && p x) (Some x) (find (λ x. q x && p x) xs)
    by rest true = ap (cond (p x) (Some x)) rest
    by rest false = rest

-- the same, where the second test comes first
pub found_in_filter : {X : Type 0} (p q : X → Bool) (xs : List X) → find p (filter q xs) ≡ find (λ x. p x && q x) xs
found_in_filter p q [] = refl
found_in_filter p q (x ∷ xs) = by (found_in_filter p q xs) (p x) (q x) refl
  where
    by : find p (filter q xs) ≡ find (λ x. p x && q x) xs → (a b : Bool) → p x ≡ a → find p (cond b (x ∷ filter q xs) (filter q xs)) ≡ cond (a && b) (Some x) (find (λ x. p x && q x) xs)
    by rest true true e = ap (λ t. cond t (Some x) (find p (filter q xs))) e
    by rest false true e = ap (λ t. cond t (Some x) (find p (filter q xs))) e ∙ rest
    by rest true false e = rest
    by rest false false e = rest

pub filter_in_filter : {X : Type 0} (p q : X → Bool) (xs : List X) → filter p (filter q xs) ≡ filter (λ x. p x && q x) xs
filter_in_filter p q [] = refl
filter_in_filter p q (x ∷ xs) = by (filter_in_filter p q xs) (p x) (q x) refl
  where
    by : filter p (filter q xs) ≡ filter (λ x. p x && q x) xs → (a b : Bool) → p x ≡ a → filter p (cond b (x ∷ filter q xs) (filter q xs)) ≡ cond (a && b) (x ∷ filter (λ x. p x && q x) xs) (filter (λ x. p x && q x) xs)
    by rest true true e = ap (λ t. cond t (x ∷ filter p (filter q xs)) (filter p (filter q xs))) e ∙ ap (λ l. x ∷ l) rest
    by rest false true e = ap (λ t. cond t (x ∷ filter p (filter q xs)) (filter p (filter q xs))) e ∙ rest
    by rest true false e = rest
    by rest false false e = rest

-- ---- the first item that passes both tests, as a loop finds it

module _ {X : Type 0} (p q : X → Bool) (xs : List X) where
  passes_next : (i : ℕ) (x : X) → i < length xs → x ≡ get_or xs i x → find (λ x. p x && q x) (take i xs) ≡ None → find (λ x. p x && q x) (take (i + 1) xs) ≡ cond (p x && q x) (Some x) None
  passes_next i x within is none =
      ap (find (λ x. p x && q x)) (take_one_more xs i x within is) ∙ find-append (λ x. p x && q x) (take i xs) (x ∷ []) ∙ ap (λ o. option_or o (cond (p x && q x) (Some x) None)) none

  pub passes_here : (i : ℕ) (x : X) → i < length xs → x ≡ get_or xs i x → find (λ x. p x && q x) (take i xs) ≡ None → (p x && q x) ≡ true → Some x ≡ find p (filter q xs)
  passes_here i x within is none passes =
      let at : find (λ x. p x && q x) (take (i + 1) xs) ≡ Some x = passes_next i x within is none ∙ ap (λ b. cond b (Some x) None) passes in
      sym (found_in_filter p q xs ∙ ap (find (λ x. p x && q x)) (sym (take-append-drop (i + 1) xs)) ∙ find-append (λ x. p x && q x) (take (i + 1) xs) (drop (i + 1) xs) ∙ ap (λ o. option_or o (find (λ x. p x && q x) (drop (i + 1) xs))) at)

  pub passes_not : (i : ℕ) (x : X) → i < length xs → x ≡ get_or xs i x → find (λ x. p x && q x) (take i xs) ≡ None → (p x && q x) ≡ false → find (λ x. p x && q x) (take (i + 1) xs) ≡ None
  passes_not i x within is none fails = passes_next i x within is none ∙ ap (λ b. cond b (Some x) None) fails

  pub passes_nowhere : (k : ℕ) → length xs ≤ k → find (λ x. p x && q x) (take k xs) ≡ None → None ≡ find p (filter q xs)
  passes_nowhere k end none = sym (found_in_filter p q xs ∙ ap (find (λ x. p x && q x)) (sym (take_all xs k end)) ∙ none)
