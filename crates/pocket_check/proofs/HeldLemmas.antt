-- What holds of the items of a field: each once, and without some.
use Rattle.std.proofs.Common.{◌≡◌, ◌≢◌, ◌≤◌, ℕ, Bool, true, false, not, List, [], ◌∷◌, length, filter, All, IsTrue, if◌then◌else◌, sym, ap, ◌∙◌, arith}
use Rattle.std.specs.List.{list_any}
use Rattle.std.specs.Str.{bytes_eq}
use Rattle.std.proofs.lemmas.Bool.{false≢true}
use Rattle.std.proofs.lemmas.List.Elements.{All-cons, All-filter, All-head, All-tail, All-weaker, filter_passes}
use Rattle.std.proofs.lemmas.List.Kept.{AllPairs-cons, AllPairs-filter}
use Rattle.pocket_types.specs.Kinds.{is_multiple}
use Rattle.pocket_types.specs.Lists.{once}
use Rattle.pocket_types.specs.Sound.{Differ, HoldsFew}
use Rattle.pocket_types.specs.declared.records.Kind.{Kind}
use Rattle.pocket_tables.proofs.KeyLemmas.{key_true}
use Rattle.pocket_check.specs.Bodies.{items_without}

-- ---- each once

pub once_all : (P : List ℕ → Type 0) (xs : List (List ℕ)) → All P xs → All P (once xs)
once_all P [] h = h
once_all P (x ∷ xs) h =
    All-cons P x (filter (λ y. not (bytes_eq x y)) (once xs)) (All-head P x xs h)
    (All-filter (λ y. not (bytes_eq x y)) P (once xs) (once_all P xs (All-tail P x xs h)))

not_itself : (x y : List ℕ) → not (bytes_eq x y) ≡ true → x ≢ y
not_itself x y other same = false≢true (sym (ap not (key_true x y same)) ∙ other)

pub once_differ : (xs : List (List ℕ)) → Differ (once xs)
once_differ [] = λ i j d l m. absurd (omega (arith, m))
once_differ (x ∷ xs) =
    AllPairs-cons (λ a b. a ≢ b) x (filter (λ y. not (bytes_eq x y)) (once xs))
    (All-weaker (λ y. not (bytes_eq x y) ≡ true) (λ y. x ≢ y) (not_itself x) (filter (λ y. not (bytes_eq x y)) (once xs)) (filter_passes (λ y. not (bytes_eq x y)) (once xs)))
    (AllPairs-filter (λ a b. a ≢ b) (λ y. not (bytes_eq x y)) (once xs) (once_differ xs))

-- ---- no more than before

pub filter_shorter : (p : List ℕ → Bool) (xs : List (List ℕ)) → length (filter p xs) ≤ length xs
filter_shorter p [] = omega arith
filter_shorter p (x ∷ xs) = by (p x) (filter_shorter p xs)
  where
    by : (b : Bool) → length (filter p xs) ≤ length xs → length (if b then x ∷ filter p xs else filter p xs) ≤ length (x ∷ xs)
    by true h = omega (arith, h)
    by false h = omega (arith, h)

pub once_shorter : (xs : List (List ℕ)) → length (once xs) ≤ length xs
once_shorter [] = omega arith
once_shorter (x ∷ xs) = omega (arith, filter_shorter (λ y. not (bytes_eq x y)) (once xs), once_shorter xs)

-- ---- the items of a field

-- items of a form, of which none stands twice, and few where the field holds few
abbrev pub AreHeld : (List ℕ → Type 0) → Kind → List (List ℕ) → Type 0
AreHeld P k items = All P items × Differ items × HoldsFew k items

pub held_once : (P : List ℕ → Type 0) (k : Kind) (items : List (List ℕ)) → IsTrue (is_multiple k) → All P items → AreHeld P k (once items)
held_once P k items several all = (once_all P items all, once_differ items, λ few. absurd (false≢true (sym few ∙ several)))

pub held_without : (P : List ℕ → Type 0) (k : Kind) (items gone : List (List ℕ)) → AreHeld P k items → AreHeld P k (items_without items gone)
held_without P k items gone h =
    let stays = λ (x : List ℕ). not (list_any (bytes_eq x) gone) in
    (All-filter stays P items h.0, AllPairs-filter (λ a b. a ≢ b) stays items h.1, λ few. omega (arith, filter_shorter stays items, h.2 few))
