-- Tests of all choices, member by member.
use Rattle.std.proofs.Common.{◌≡◌, ℕ, ◌+◌, ◌-◌, ◌<◌, ◌≤◌, List, [], ◌∷◌, ◌++◌, length, get_or, take, drop, map, refl, sym, ap, arith, ◌∙◌, Bool, true, false, ◌&&◌, ◌||◌}
use Rattle.std.specs.Prelude.{flat_map}
use Rattle.std.specs.List.{list_any, list_all}
use Rattle.std.proofs.lemmas.Grind.{common_steps}
use Rattle.std.proofs.lemmas.Bool.Decides.{nat_tests}
use Rattle.std.proofs.lemmas.List.{map-append}
use Rattle.std.proofs.lemmas.List.Folds.{list_any-append, list_all-append, list_any_at, list_all_at, list_all-map}
use Rattle.std.proofs.lemmas.Bool.{or_from, and_from}
use Rattle.pocket_types.specs.declared.resolved.Prefix.{Prefix}
use Rattle.pocket_meaning.specs.Members.{Member}
use Rattle.pocket_meaning.specs.Sights.{Sight}
use Rattle.pocket_meaning.specs.Choices.{Choice, choices_from, related, or_nobody}
use Rattle.pocket_meaning.proofs.ListLemmas.{take_one_more}

pub list_any-flat_map : {X Y : Type 0} (p : Y → Bool) (f : X → List Y) (xs : List X) → list_any p (flat_map f xs) ≡ list_any (λ x. list_any p (f x)) xs
list_any-flat_map p f [] = refl
list_any-flat_map p f (x ∷ xs) = list_any-append p (f x) (flat_map f xs) ∙ ap (λ b. list_any p (f x) || b) (list_any-flat_map p f xs)

pub list_all-flat_map : {X Y : Type 0} (p : Y → Bool) (f : X → List Y) (xs : List X) → list_all p (flat_map f xs) ≡ list_all (λ x. list_all p (f x)) xs
list_all-flat_map p f [] = refl
list_all-flat_map p f (x ∷ xs) = list_all-append p (f x) (flat_map f xs) ∙ ap (λ b. list_all p (f x) && b) (list_all-flat_map p f xs)

pub list_any-one : {X : Type 0} (p : X → Bool) (x : X) → list_any p (x ∷ []) ≡ p x
list_any-one p x = grind (arith, nat_tests)

pub list_all-one : {X : Type 0} (p : X → Bool) (x : X) → list_all p (x ∷ []) ≡ p x
list_all-one p x = grind (arith, nat_tests)

pub list_any-map : {X : Type 0} (p : X → Bool) {Y : Type 0} (h : Y → X) (ys : List Y) → list_any p (map h ys) ≡ list_any (λ y. p (h y)) ys
list_any-map p h [] = refl
list_any-map p h (y ∷ ys) = ap (λ b. p (h y) || b) (list_any-map p h ys)

-- some member passes, where the code's member at i does
pub any_hit : {X Y : Type 0} (f : X → Y) (q : Y → Bool) (xs : List X) (i : ℕ) (x : X) → i < length xs → x ≡ get_or xs i x → q (f x) ≡ true → list_any q (map f xs) ≡ true
any_hit f q xs i x l is h = list_any-map q f xs ∙ list_any_at (λ z. q (f z)) xs i x l (ap (λ z. q (f z)) (sym is) ∙ h)

-- no member so far passes, and this one doesn't
pub any_miss : {X Y : Type 0} (f : X → Y) (q : Y → Bool) (xs : List X) (i : ℕ) (x : X) → i < length xs → x ≡ get_or xs i x → list_any q (map f (take i xs)) ≡ false → q (f x) ≡ false → list_any q (map f (take (i + 1) xs)) ≡ false
any_miss f q xs i x l is so h = ap (λ zs. list_any q (map f zs)) (take_one_more xs i x l is) ∙ ap (list_any q) (map-append f (take i xs) (x ∷ [])) ∙ list_any-append q (map f (take i xs)) (f x ∷ []) ∙ or_from _ _ so (list_any-one q (f x) ∙ h)

-- some member fails, where the code's member at i does
pub all_hit : {X Y : Type 0} (f : X → Y) (q : Y → Bool) (xs : List X) (i : ℕ) (x : X) → i < length xs → x ≡ get_or xs i x → q (f x) ≡ false → list_all q (map f xs) ≡ false
all_hit f q xs i x l is h = list_all-map q f xs ∙ list_all_at (λ z. q (f z)) xs i x l (ap (λ z. q (f z)) (sym is) ∙ h)

-- each member so far passes, and this one does
pub all_miss : {X Y : Type 0} (f : X → Y) (q : Y → Bool) (xs : List X) (i : ℕ) (x : X) → i < length xs → x ≡ get_or xs i x → list_all q (map f (take i xs)) ≡ true → q (f x) ≡ true → list_all q (map f (take (i + 1) xs)) ≡ true
all_miss f q xs i x l is so h = ap (λ zs. list_all q (map f zs)) (take_one_more xs i x l is) ∙ ap (list_all q) (map-append f (take i xs) (x ∷ [])) ∙ list_all-append q (map f (take i xs)) (f x ∷ []) ∙ and_from _ _ so (list_all-one q (f x) ∙ h)

-- the tests of the choices that go on from one, member by member
pub any_choices : (s : Sight) (q : Choice → Bool) (p : Prefix) (ps : List Prefix) (c : Choice) → list_any q (choices_from s (p ∷ ps) c) ≡ list_any (λ m. list_any q (choices_from s ps (c ++ (p, m) ∷ []))) (or_nobody (related s c p))
any_choices s q p ps c = list_any-flat_map q (λ m. choices_from s ps (c ++ (p, m) ∷ [])) (or_nobody (related s c p))

pub all_choices : (s : Sight) (q : Choice → Bool) (p : Prefix) (ps : List Prefix) (c : Choice) → list_all q (choices_from s (p ∷ ps) c) ≡ list_all (λ m. list_all q (choices_from s ps (c ++ (p, m) ∷ []))) (or_nobody (related s c p))
all_choices s q p ps c = list_all-flat_map q (λ m. choices_from s ps (c ++ (p, m) ∷ [])) (or_nobody (related s c p))

pub take_all : {X : Type 0} (xs : List X) (k : ℕ) → length xs ≤ k → take k xs ≡ xs
take_all xs k h = grind (arith, common_steps)

-- the first item and the rest, as the code's pattern cuts them
pub cons_of : {X : Type 0} (xs : List X) (x : X) → 1 ≤ length xs → x ≡ get_or xs 0 x → xs ≡ x ∷ take (length xs - 1) (drop 1 xs)
cons_of [] x some is = absurd (omega arith)
cons_of (y ∷ ys) x some is = ap (λ z. z ∷ ys) (sym is) ∙ ap (λ zs. x ∷ zs) (sym (take_all ys (length (y ∷ ys) - 1) (omega arith)))

-- the members that the code tries, and the choices that go on with them
module _ {M : Type 0} (f : M → Member) (s : Sight) (q : Choice → Bool) (ps : List Prefix) (p : Prefix) (rest : List Prefix) (c : Choice) (ms : List M) where
  pub all_fail : ps ≡ p ∷ rest → map f ms ≡ or_nobody (related s c p) → (i : ℕ) (x : M) → i < length ms → x ≡ get_or ms i x → list_all q (choices_from s rest (c ++ (p, f x) ∷ [])) ≡ false → list_all q (choices_from s ps c) ≡ false
  all_fail is are i x l at h =
      ap (λ l. list_all q (choices_from s l c)) is ∙ all_choices s q p rest c ∙ ap (list_all (λ m. list_all q (choices_from s rest (c ++ (p, m) ∷ [])))) (sym are) ∙ all_hit f (λ m. list_all q (choices_from s rest (c ++ (p, m) ∷ []))) ms i x l at h

  pub all_pass : ps ≡ p ∷ rest → map f ms ≡ or_nobody (related s c p) → (k : ℕ) → length ms ≤ k → list_all (λ m. list_all q (choices_from s rest (c ++ (p, m) ∷ []))) (map f (take k ms)) ≡ true → list_all q (choices_from s ps c) ≡ true
  all_pass is are k end h =
      ap (λ l. list_all q (choices_from s l c)) is ∙ all_choices s q p rest c ∙ ap (list_all (λ m. list_all q (choices_from s rest (c ++ (p, m) ∷ [])))) (sym are ∙ ap (map f) (sym (take_all ms k end))) ∙ h

  pub any_pass : ps ≡ p ∷ rest → map f ms ≡ or_nobody (related s c p) → (i : ℕ) (x : M) → i < length ms → x ≡ get_or ms i x → list_any q (choices_from s rest (c ++ (p, f x) ∷ [])) ≡ true → list_any q (choices_from s ps c) ≡ true
  any_pass is are i x l at h =
      ap (λ l. list_any q (choices_from s l c)) is ∙ any_choices s q p rest c ∙ ap (list_any (λ m. list_any q (choices_from s rest (c ++ (p, m) ∷ [])))) (sym are) ∙ any_hit f (λ m. list_any q (choices_from s rest (c ++ (p, m) ∷ []))) ms i x l at h

  pub any_fail : ps ≡ p ∷ rest → map f ms ≡ or_nobody (related s c p) → (k : ℕ) → length ms ≤ k → list_any (λ m. list_any q (choices_from s rest (c ++ (p, m) ∷ []))) (map f (take k ms)) ≡ false → list_any q (choices_from s ps c) ≡ false
  any_fail is are k end h =
      ap (λ l. list_any q (choices_from s l c)) is ∙ any_choices s q p rest c ∙ ap (list_any (λ m. list_any q (choices_from s rest (c ++ (p, m) ∷ [])))) (sym are ∙ ap (map f) (sym (take_all ms k end))) ∙ h
