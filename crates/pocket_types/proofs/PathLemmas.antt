-- Beginnings of prefixes, one by one.
use Rattle.std.proofs.Common.{◌≡◌, ℕ, zero, suc, ◌+◌, ◌≤◌, List, [], ◌∷◌, ◌++◌, length, take, map, fold, refl, sym, ap, arith, ◌∙◌}
use Rattle.std.proofs.lemmas.Grind.{common_steps}
use Rattle.std.proofs.lemmas.List.{map-append}
use Rattle.std.proofs.Math.Seq.{take-length}
use Rattle.pocket_types.specs.declared.resolved.Prefix.{Prefix}
use Rattle.pocket_types.specs.Paths.{beginnings, begun, with_prefix}

pub take-map : {X Y : Type 0} (f : X → Y) (n : ℕ) (xs : List X) → take n (map f xs) ≡ map f (take n xs)
take-map f zero xs = refl
take-map f (suc n) [] = refl
take-map f (suc n) (x ∷ xs) = ap (λ ys. f x ∷ ys) (take-map f n xs)

pub fold-append : {A B : Type 0} (f : B → A → B) (b : B) (xs ys : List A) → fold f b (xs ++ ys) ≡ fold f (fold f b xs) ys
fold-append f b [] ys = refl
fold-append f b (x ∷ xs) ys = fold-append f (f b x) xs ys

pub length-beginnings : {X : Type 0} (xs : List X) → length (beginnings xs) ≡ length xs + 1
length-beginnings [] = refl
length-beginnings (x ∷ xs) = grind (arith, common_steps, length-beginnings xs)

-- one more beginning
pub beginnings_more : {X : Type 0} (xs : List X) (k : ℕ) → k ≤ length xs → take (suc k) (beginnings xs) ≡ take k (beginnings xs) ++ take k xs ∷ []
beginnings_more [] zero h = refl
beginnings_more [] (suc k) h = absurd (omega arith)
beginnings_more (x ∷ xs) zero h = refl
beginnings_more (x ∷ xs) (suc k) h =
    let f = λ (ys : List _). x ∷ ys in
    let more : take (suc k) (beginnings xs) ≡ take k (beginnings xs) ++ take k xs ∷ [] = beginnings_more xs k (omega arith) in
    ap (λ ys. [] ∷ ys) (take-map f (suc k) (beginnings xs) ∙ ap (map f) more ∙ map-append f (take k (beginnings xs)) (take k xs ∷ []) ∙ ap (λ ys. ys ++ f (take k xs) ∷ []) (sym (take-map f k (beginnings xs))))

abbrev pub part_of : Prefix → ℕ → Prefix
part_of p k = record { root = p.root; steps = take k p.steps }

pub begun_more : (p : Prefix) (k : ℕ) → k ≤ length p.steps → take (suc k) (begun p) ≡ take k (begun p) ++ part_of p k ∷ []
begun_more p k h =
    let f = λ (steps : List _). (let q : Prefix = record { root = p.root; steps = steps } in q) in
    take-map f (suc k) (beginnings p.steps) ∙ ap (map f) (beginnings_more p.steps k h) ∙ map-append f (take k (beginnings p.steps)) (take k p.steps ∷ []) ∙ ap (λ ys. ys ++ part_of p k ∷ []) (sym (take-map f k (beginnings p.steps)))

-- one more beginning put to a list
pub add_more : (ps : List Prefix) (p : Prefix) (k : ℕ) → k ≤ length p.steps → fold with_prefix ps (take (suc k) (begun p)) ≡ with_prefix (fold with_prefix ps (take k (begun p))) (part_of p k)
add_more ps p k h =
    ap (fold with_prefix ps) (begun_more p k h) ∙ fold-append with_prefix ps (take k (begun p)) (part_of p k ∷ [])

pub length-begun : (p : Prefix) → length (begun p) ≡ length p.steps + 1
length-begun p = grind (arith, common_steps, length-beginnings p.steps)

pub begun-all : (p : Prefix) → take (length p.steps + 1) (begun p) ≡ begun p
begun-all p = grind (arith, common_steps, length-begun p)

-- one more prefix leaves what stands in front
kept_with : (front ps : List Prefix) (p : Prefix) → take (length front) ps ≡ front → take (length front) (with_prefix ps p) ≡ front
kept_with front ps p h = grind (arith, common_steps)

-- so do several
kept_fold : (front ps more : List Prefix) → take (length front) ps ≡ front → take (length front) (fold with_prefix ps more) ≡ front
kept_fold front ps [] h = h
kept_fold front ps (p ∷ more) h = kept_fold front (with_prefix ps p) more (kept_with front ps p h)

pub kept_begun : (ps now : List Prefix) (p : Prefix) (k : ℕ) → now ≡ fold with_prefix ps (take k (begun p)) → take (length ps) now ≡ ps
kept_begun ps now p k h = rw h (kept_fold ps ps (take k (begun p)) (take-length ps))
