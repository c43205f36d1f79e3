-- Lists that are read item by item.
use Rattle.std.proofs.Common.{◌≡◌, ◌<◌, ◌≤◌, ◌+◌, ℕ, List, [], ◌∷◌, ◌++◌, length, get_or, drop, drop-cons, add-one, Option, Some, None, option_map, option_and_then, refl, sym, ap, ◌∙◌, arith, append_assoc, append-nil}
use Rattle.std.proofs.lemmas.Grind.{common_steps}
use Rattle.pocket_types.specs.declared.json.Jv.{Jv}
use Rattle.pocket_rows.specs.FieldReading.{read_all}

-- the first items are read so, and the others are left
abbrev pub ReadSo : {A : Type 0} → (Jv → Option A) → List Jv → ℕ → List A → Type 0
ReadSo read trees i xs = read_all read trees ≡ option_map (λ ys. xs ++ ys) (read_all read (drop i trees))

pub read_begin : {A : Type 0} (read : Jv → Option A) (trees : List Jv) → ReadSo read trees 0 []
read_begin {A} read trees = by (read_all read trees)
  where
    by : (o : Option (List A)) → o ≡ option_map (λ ys. [] ++ ys) o
    by None = refl
    by (Some ys) = refl

head_of : (trees : List Jv) (i : ℕ) (t : Jv) → i < length trees → t ≡ get_or trees i t → drop i trees ≡ t ∷ drop (i + 1) trees
head_of trees i t l here = drop-cons trees i t l ∙ ap (λ n. get_or trees i t ∷ drop n trees) (sym (add-one i)) ∙ ap (λ x. x ∷ drop (i + 1) trees) (sym here)

pub read_more : {A : Type 0} (read : Jv → Option A) (trees : List Jv) (i : ℕ) (t : Jv) (xs : List A) (x : A) → i < length trees → t ≡ get_or trees i t → read t ≡ Some x → ReadSo read trees i xs
    → ReadSo read trees (i + 1) (xs ++ x ∷ [])
read_more {A} read trees i t xs x l here is so =
    so ∙ ap (λ ts. option_map (λ ys. xs ++ ys) (read_all read ts)) (head_of trees i t l here)
    ∙ ap (λ o. option_map (λ ys. xs ++ ys) (option_and_then (λ y. option_map (λ ys. y ∷ ys) (read_all read (drop (i + 1) trees))) o)) is
    ∙ by (read_all read (drop (i + 1) trees))
  where
    by : (o : Option (List A)) → option_map (λ ys. xs ++ ys) (option_map (λ ys. x ∷ ys) o) ≡ option_map (λ ys. (xs ++ x ∷ []) ++ ys) o
    by None = refl
    by (Some ys) = ap Some (sym (append_assoc xs (x ∷ []) ys))

pub read_none : {A : Type 0} (read : Jv → Option A) (trees : List Jv) (i : ℕ) (t : Jv) (xs : List A) → i < length trees → t ≡ get_or trees i t → read t ≡ None → ReadSo read trees i xs → read_all read trees ≡ None
read_none read trees i t xs l here is so =
    so ∙ ap (λ ts. option_map (λ ys. xs ++ ys) (read_all read ts)) (head_of trees i t l here)
    ∙ ap (λ o. option_map (λ ys. xs ++ ys) (option_and_then (λ y. option_map (λ ys. y ∷ ys) (read_all read (drop (i + 1) trees))) o)) is

pub read_end : {A : Type 0} (read : Jv → Option A) (trees : List Jv) (i : ℕ) (xs : List A) → length trees ≤ i → ReadSo read trees i xs → read_all read trees ≡ Some xs
read_end read trees i xs l so =
    let rest : drop i trees ≡ [] = grind (arith, common_steps) in
    so ∙ ap (λ ts. option_map (λ ys. xs ++ ys) (read_all read ts)) rest ∙ ap Some (append-nil xs)
