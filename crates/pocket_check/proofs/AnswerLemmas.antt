-- What stands behind answers that were given one after another.
use Rattle.std.proofs.Common.{◌≡◌, Bool, true, false, List, [], ◌∷◌, Option, Some, None, Result, Ok, Err, IfSome, All, filter_map, option_map, option_and_then, if◌then◌else◌, refl, ap, subst}
use Rattle.std.specs.List.{cons_option}
use Rattle.std.proofs.lemmas.List.Elements.{All-cons, All-head, All-nil, All-tail}
use Rattle.pocket_types.specs.Chains.{◌>>=◌, each, or_refuse, refuse_as}

-- ---- options

pub then_some : {A B : Type 0} (f : A → Option B) (o : Option A) (P : A → Type 0) (Q : B → Type 0) → IfSome o P → ((a : A) → P a → IfSome (f a) Q) → IfSome (option_and_then f o) Q
then_some f None P Q h more = tt
then_some f (Some a) P Q h more = more a h

pub map_some : {A B : Type 0} (f : A → B) (o : Option A) (P : A → Type 0) (Q : B → Type 0) → IfSome o P → ((a : A) → P a → Q (f a)) → IfSome (option_map f o) Q
map_some f None P Q h more = tt
map_some f (Some a) P Q h more = more a h

pub if_some : {A : Type 0} (b : Bool) (x y : Option A) (P : A → Type 0) → IfSome x P → IfSome y P → IfSome (if b then x else y) P
if_some true x y P h k = h
if_some false x y P h k = k

-- what is given of items that hold of P
pub some_all : {A B : Type 0} (h : A → Option B) (P : A → Type 0) (Q : B → Type 0) → ((x : A) → P x → IfSome (h x) Q) → (xs : List A) → All P xs → All Q (filter_map h xs)
some_all h P Q one [] all = All-nil Q
some_all {A} {B} h P Q one (x ∷ xs) all = by (h x) (one x (All-head P x xs all)) (some_all h P Q one xs (All-tail P x xs all))
  where
    by : (o : Option B) → IfSome o Q → All Q (filter_map h xs) → All Q (cons_option o (filter_map h xs))
    by None here rest = rest
    by (Some y) here rest = All-cons Q y (filter_map h xs) here rest

-- ---- answers

pub same_ok : {A E : Type 0} (x y : A) → ◌≡◌ {A = Result A E} (Ok x) (Ok y) → x ≡ y
same_ok x y e = cc

pub not_ok : {A E : Type 0} (r : E) (y : A) → ◌≡◌ {A = Result A E} (Err r) (Ok y) → ⊥
not_ok r y e = cc

-- where two after one another give a value, the first gave one, and the second for it
pub both_ok : {A B E : Type 0} (r : Result A E) (next : A → Result B E) (y : B) → (r >>= next) ≡ Ok y → (x : A) × (r ≡ Ok x) × (next x ≡ Ok y)
both_ok (Ok x) next y e = (x, refl, e)
both_ok (Err r) next y e = absurd (not_ok r y e)

pub was_there : {A E : Type 0} (o : Option A) (r : E) (x : A) → or_refuse o r ≡ Ok x → o ≡ Some x
was_there (Some y) r x e = ap (λ z. Some z) (same_ok y x e)
was_there None r x e = absurd (not_ok r x e)

pub was_told : {A E F : Type 0} (tell : E → F) (r : Result A E) (x : A) → refuse_as tell r ≡ Ok x → r ≡ Ok x
was_told tell (Ok y) x e = ap (λ z. Ok z) (same_ok y x e)
was_told tell (Err r) x e = absurd (not_ok (tell r) x e)

-- what is answered to items that hold of P
pub each_all : {A B E : Type 0} (ask : A → Result B E) (P : A → Type 0) (Q : B → Type 0) → ((x : A) (y : B) → P x → ask x ≡ Ok y → Q y)
    → (xs : List A) (ys : List B) → All P xs → each ask xs ≡ Ok ys → All Q ys
each_all ask P Q one [] ys all e = subst (All Q) (same_ok [] ys e) (All-nil Q)
each_all ask P Q one (x ∷ xs) ys all e =
    let first = both_ok (ask x) (λ y. each ask xs >>= λ ys. Ok (y ∷ ys)) ys e in
    let rest = both_ok (each ask xs) (λ ys. Ok (first.0 ∷ ys)) ys first.2 in
    subst (All Q) (same_ok (first.0 ∷ rest.0) ys rest.2)
    (All-cons Q first.0 rest.0 (one x first.0 (All-head P x xs all) first.1) (each_all ask P Q one xs rest.0 (All-tail P x xs all) rest.1))
