-- Reads one after the other.
use Rattle.std.proofs.Common.{◌≡◌, ℕ, List, [], ◌∷◌, ◌++◌, refl, ap, sym, ◌∙◌, subst, append_assoc, append-nil}
use Rattle.std.specs.List.{concat}
use Rattle.pocket_wire.specs.Reads.{ArePieces, ReadsWhile}

concat_append : (xs ys : List (List ℕ)) → concat (xs ++ ys) ≡ concat xs ++ concat ys
concat_append [] ys = refl
concat_append (x ∷ xs) ys = ap (λ s. x ++ s) (concat_append xs ys) ∙ sym (append_assoc x (concat xs) (concat ys))

module _ {S : Type 0} (gives : S → List ℕ → S → Type 0) where
  -- nothing is read
  pub reads_none : (before : List ℕ → Type 0) (bytes : List ℕ) (s : S) → ReadsWhile gives before bytes [] s s
  reads_none before bytes s = ([], refl, refl)

  -- one piece is read
  pub reads_piece : (before : List ℕ → Type 0) (bytes piece : List ℕ) (old new : S) → before bytes → gives old piece new
      → ReadsWhile gives before bytes piece old new
  reads_piece before bytes piece old new held gave = (piece ∷ [], sym (append-nil piece), (held, new, gave, refl))

  pieces_through : (before : List ℕ → Type 0) (bytes : List ℕ) (xs ys : List (List ℕ)) (a b c : S) → ArePieces gives before bytes xs a b
      → ArePieces gives before (bytes ++ concat xs) ys b c → ArePieces gives before bytes (xs ++ ys) a c
  pieces_through before bytes [] ys a b c first second =
      subst (λ s. ArePieces gives before s ys a c) (append-nil bytes) (subst (λ s. ArePieces gives before (bytes ++ []) ys s c) first second)
  pieces_through before bytes (x ∷ xs) ys a b c first second = (
    first.0,
    first.1,
    first.2,
    pieces_through before (bytes ++ x) xs ys first.1 b c first.3
        (subst (λ s. ArePieces gives before s ys b c) (sym (append_assoc bytes x (concat xs))) second),
  )

  -- what was read at one time and then at another
  pub reads_through : (before : List ℕ → Type 0) (bytes now x y : List ℕ) (a b c : S) → ReadsWhile gives before bytes x a b → now ≡ bytes ++ x
      → ReadsWhile gives before now y b c → ReadsWhile gives before bytes (x ++ y) a c
  reads_through before bytes now x y a b c first is second =
      let whole : now ≡ bytes ++ concat first.0 = is ∙ ap (λ s. bytes ++ s) first.1 in (
        first.0 ++ second.0,
        ap (λ s. s ++ y) first.1 ∙ ap (λ s. concat first.0 ++ s) second.1 ∙ sym (concat_append first.0 second.0),
        pieces_through before bytes first.0 second.0 a b c first.2 (subst (λ s. ArePieces gives before s second.0 b c) whole second.2),
      )

  pieces_hold : (before other : List ℕ → Type 0) (bytes : List ℕ) (xs : List (List ℕ)) (a b : S)
      → ((more : List ℕ) → before (bytes ++ more) → other (bytes ++ more)) → ArePieces gives before bytes xs a b → ArePieces gives other bytes xs a b
  pieces_hold before other bytes [] a b holds are = are
  pieces_hold before other bytes (x ∷ xs) a b holds are = (
    subst other (append-nil bytes) (holds [] (subst before (sym (append-nil bytes)) are.0)),
    are.1,
    are.2,
    pieces_hold before other (bytes ++ x) xs are.1 b
        (λ more h. subst other (sym (append_assoc bytes x more)) (holds (x ++ more) (subst before (append_assoc bytes x more) h))) are.3,
  )

  -- what held before each read leads to something else that did
  pub reads_hold : (before other : List ℕ → Type 0) (bytes got : List ℕ) (a b : S)
      → ((more : List ℕ) → before (bytes ++ more) → other (bytes ++ more)) → ReadsWhile gives before bytes got a b → ReadsWhile gives other bytes got a b
  reads_hold before other bytes got a b holds reads = (reads.0, reads.1, pieces_hold before other bytes reads.0 a b holds reads.2)
