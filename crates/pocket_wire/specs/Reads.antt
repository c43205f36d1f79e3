-- The pieces that the reads of a source give one after the other.
use Rattle.std.specs.Prelude.{◌≡◌, ℕ, List, [], ◌∷◌, ◌++◌, take, Result, Ok, Err}
use Rattle.std.specs.List.{concat}

-- the bytes that a read gave: so many of the front of its buffer, none where it failed
abbrev pub piece_of : {E : Type 0} → Result ℕ E → List ℕ → List ℕ
piece_of (Ok n) buffer = take n buffer
piece_of (Err e) buffer = []

-- reads led from the old source to the new one and gave these pieces in turn; each was read behind bytes of which `before` holds
abbrev pub ArePieces : {S : Type 0} → (S → List ℕ → S → Type 0) → (List ℕ → Type 0) → List ℕ → List (List ℕ) → S → S → Type 0
ArePieces gives before bytes [] old new = new ≡ old
ArePieces {S} gives before bytes (piece ∷ pieces) old new =
    before bytes × (next : S) × gives old piece next × ArePieces gives before (bytes ++ piece) pieces next new

-- the bytes that were got behind those that were there came piece by piece, and `before` held whenever one was read
abbrev pub ReadsWhile : {S : Type 0} → (S → List ℕ → S → Type 0) → (List ℕ → Type 0) → List ℕ → List ℕ → S → S → Type 0
ReadsWhile gives before bytes got old new =
    (pieces : List (List ℕ)) × (got ≡ concat pieces) × ArePieces gives before bytes pieces old new
