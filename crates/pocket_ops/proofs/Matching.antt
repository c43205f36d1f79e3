-- The test of a pattern tells whether the pattern matches.
use Rattle.std.proofs.Common.{◌≡◌, ℕ, ◌==◌, List, [], ◌∷◌, ◌++◌, ◌||◌, Bool, true, false, length, refl, sym, ◌∙◌, ap, subst, inl, inr, arith}
use Rattle.std.specs.Char.{eq_ignore_ascii_case, to_ascii_lowercase}
use Rattle.std.proofs.lemmas.Bool.{or_cases, and_parts, and_from, eqb-true}
use Rattle.std.proofs.lemmas.Bool.Decides.{Decides-eqb}
use Rattle.pocket_ops.specs.declared.likeness.Piece.{Piece}
use Rattle.pocket_ops.specs.declared.likeness.Piece.TheVariants as piece
use Rattle.pocket_ops.specs.Likeness.{pieces_of, wrapped, matches, some_end, begins, is_like, Matches, IsLike}

-- a text ends so, behind some run of bytes
abbrev Ends : (List ℕ → Type 0) → List ℕ → Type 0
Ends P text = (run : List ℕ) × (rest : List ℕ) × (text ≡ run ++ rest) × P rest

module _ (q : List ℕ → Bool) where
  end_from : (P : List ℕ → Type 0) → ((t : List ℕ) → q t ≡ true → P t) → (t : List ℕ) → some_end q t ≡ true → Ends P t
  end_from P tells [] h = ([], [], refl, tells [] h)
  end_from P tells (b ∷ t) h =
      elim (or_cases (q (b ∷ t)) (some_end q t) h) [
        | inl here ↦ ([], b ∷ t, refl, tells (b ∷ t) here)
        | inr later ↦ let found = end_from P tells t later in (b ∷ found.0, found.1, ap (λ x. b ∷ x) found.2, found.3)
      ]

  some_end_behind : (run rest : List ℕ) → q rest ≡ true → some_end q (run ++ rest) ≡ true
  some_end_behind [] [] h = h
  some_end_behind [] (b ∷ rest) h = ap (λ x. x || some_end q rest) h
  some_end_behind (b ∷ run) rest h = ap (λ x. q (b ∷ run ++ rest) || x) (some_end_behind run rest h) ∙ or_true (q (b ∷ run ++ rest))
    where
      or_true : (x : Bool) → x || true ≡ true
      or_true true = refl
      or_true false = refl

pub matches_tells : (ps : List Piece) (t : List ℕ) → matches ps t ≡ true → Matches ps t
matches_tells [] [] h = refl
matches_tells [] (b ∷ t) h = absurd (omega (arith, eqb-true (length (b ∷ t)) 0 h))
matches_tells (piece.Any ∷ ps) t h = end_from (matches ps) (Matches ps) (matches_tells ps) t h
matches_tells (piece.Byte c ∷ ps) [] h = cc
matches_tells (piece.Byte c ∷ ps) (b ∷ t) h =
    let both = and_parts (eq_ignore_ascii_case c b) (matches ps t) h in
    (b, t, refl, (Decides-eqb (to_ascii_lowercase c) (to_ascii_lowercase b)).0 both.0, matches_tells ps t both.1)

pub matches_from : (ps : List Piece) (t : List ℕ) → Matches ps t → matches ps t ≡ true
matches_from [] t h = subst (λ (x : List ℕ). (length x == 0) ≡ true) (sym h) refl
matches_from (piece.Any ∷ ps) t (run, rest, is, h) =
    subst (λ (x : List ℕ). some_end (matches ps) x ≡ true) (sym is) (some_end_behind (matches ps) run rest (matches_from ps rest h))
matches_from (piece.Byte c ∷ ps) t (b, rest, is, same, h) =
    subst (λ (x : List ℕ). begins c (matches ps) x ≡ true) (sym is)
    (and_from (eq_ignore_ascii_case c b) (matches ps rest) ((Decides-eqb (to_ascii_lowercase c) (to_ascii_lowercase b)).1 same) (matches_from ps rest h))

pub is_like_tells : (text pattern : List ℕ) → is_like text pattern ≡ true → IsLike text pattern
unfolding is_like
is_like_tells text pattern h = matches_tells (wrapped (pieces_of pattern)) text h

pub is_like_from : (text pattern : List ℕ) → IsLike text pattern → is_like text pattern ≡ true
unfolding is_like
is_like_from text pattern h = matches_from (wrapped (pieces_of pattern)) text h
