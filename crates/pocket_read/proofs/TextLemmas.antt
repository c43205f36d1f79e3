-- Texts without the spaces at their ends.
use Rattle.std.proofs.Common.{◌≡◌, ◌≢◌, ℕ, ◌<◌, eqb, cond, Bool, true, false, List, [], ◌∷◌, ◌++◌, length, map, reverse, refl, sym, ap, ◌∙◌, arith, eq-eqb, eqb-true, Bor, Option, Some, None}
use Rattle.std.specs.Prelude.{MatchOption, option_map}
use Rattle.std.proofs.lemmas.List.{length-reverse, reverse-append, reverse-reverse}
use Rattle.pocket_read.specs.Terms.{behind_byte, part_named, unindented}

-- a text that begins with a byte, or doesn't
pub behind_is : (c : ℕ) (bs : List ℕ) (r : Option (Bor (List ℕ))) → MatchOption r ((rest : List ℕ) → bs ≢ c ∷ rest) (λ x. bs ≡ c ∷ x.now)
    → option_map (λ x. x.now) r ≡ behind_byte c bs
behind_is c [] None h = refl
behind_is c (b ∷ bs) None h = by (eqb b c) refl
  where
    by : (t : Bool) → eqb b c ≡ t → None ≡ cond t (Some bs) None
    by true e = absurd (h bs (ap (λ x. x ∷ bs) (eqb-true b c e)))
    by false e = refl
behind_is c bs (Some x) h = sym (ap (behind_byte c) h ∙ ap (λ t. cond t (Some x.now) None) (eq-eqb c c refl))

-- a text that ends with a byte, or doesn't
pub before_is : (c : ℕ) (bs : List ℕ) (r : Option (Bor (List ℕ))) → MatchOption r ((front : List ℕ) → bs ≢ front ++ c ∷ []) (λ x. bs ≡ x.now ++ c ∷ [])
    → option_map (λ x. reverse x.now) r ≡ behind_byte c (reverse bs)
before_is c bs None h = by (reverse bs) refl
  where
    at : (t : Bool) (b : ℕ) (rest : List ℕ) → eqb b c ≡ t → reverse bs ≡ b ∷ rest → None ≡ cond t (Some rest) None
    at true b rest e f = absurd (h (reverse rest) (sym (reverse-reverse bs) ∙ ap reverse (f ∙ ap (λ x. x ∷ rest) (eqb-true b c e)) ∙ reverse-append (c ∷ []) rest))
    at false b rest e f = refl

    by : (l : List ℕ) → reverse bs ≡ l → None ≡ behind_byte c l
    by [] f = refl
    by (b ∷ rest) f = at (eqb b c) b rest refl f
before_is c bs (Some x) h = sym (ap (behind_byte c) (ap reverse h ∙ reverse-append x.now (c ∷ [])) ∙ ap (λ t. cond t (Some (reverse x.now)) None) (eq-eqb c c refl))

-- a space more
pub unindented_more : (bs rest : List ℕ) → Some rest ≡ behind_byte 32 bs → unindented rest ≡ unindented bs
unindented_more [] rest e = cc
unindented_more (b ∷ bs) rest e = by (eqb b 32) e
  where
    by : (t : Bool) → Some rest ≡ cond t (Some bs) None → unindented rest ≡ cond t (unindented bs) (b ∷ bs)
    by true f = let same : rest ≡ bs = cc in ap unindented same
    by false f = cc

pub unindented_end : (bs : List ℕ) → None ≡ behind_byte 32 bs → bs ≡ unindented bs
unindented_end [] e = refl
unindented_end (b ∷ bs) e = by (eqb b 32) e
  where
    by : (t : Bool) → None ≡ cond t (Some bs) None → b ∷ bs ≡ cond t (unindented bs) (b ∷ bs)
    by true f = cc
    by false f = refl

pub shorter_behind : (c : ℕ) (bs rest : List ℕ) → Some rest ≡ behind_byte c bs → length rest < length bs
shorter_behind c [] rest e = cc
shorter_behind c (b ∷ bs) rest e = by (eqb b c) e
  where
    by : (t : Bool) → Some rest ≡ cond t (Some bs) None → length rest < length (b ∷ bs)
    by true f = let same : rest ≡ bs = cc in omega (arith, ap length same)
    by false f = cc

pub shorter_before : (bs rest : List ℕ) → Some (reverse rest) ≡ behind_byte 32 (reverse bs) → length rest < length bs
shorter_before bs rest e = omega (arith, shorter_behind 32 (reverse bs) (reverse rest) e, length-reverse rest, length-reverse bs)

pub unreversed : (bs all : List ℕ) → unindented (reverse bs) ≡ unindented all → None ≡ behind_byte 32 (reverse bs) → bs ≡ reverse (unindented all)
unreversed bs all same none = sym (reverse-reverse bs) ∙ ap reverse (unindented_end (reverse bs) none ∙ same)

-- what was lent
pub parts_now : (pieces : List (Bor (List ℕ))) → map (λ s. part_named s.now) pieces ≡ map part_named (map (λ s. s.now) pieces)
parts_now [] = refl
parts_now (s ∷ pieces) = ap (λ rest. part_named s.now ∷ rest) (parts_now pieces)
