-- Marks that can't stand where they do after an ident.
use Rattle.std.specs.Prelude.{◌≡◌, ◌⊎◌, ℕ, ◌+◌, List, [], ◌∷◌, ◌++◌, length, slice_index, Bool, true, false, is_some, Some}
use Rattle.pocket_types.specs.Names.{is_word}
use Rattle.pocket_types.specs.declared.expr.Part.{Part}
use Rattle.pocket_types.specs.declared.faults.FilterFault.TheVariants.{BadByte}
use Rattle.pocket_filter.specs.Lexing.{ident_text, ArePath, Lexes}
use Rattle.pocket_filter.specs.Tokens.{Ident}

-- whether the last part has a suffix
abbrev pub last_suffixed : Bool → List Part → Bool
last_suffixed suffixed [] = suffixed
last_suffixed suffixed (part ∷ parts) = last_suffixed (is_some part.suffix) parts

-- a `.` or `:` that no name follows directly, or the second `:` of a part
abbrev pub IsStray : List Part → ℕ → List ℕ → Type 0
IsStray parts mark rest = (((mark ≡ 46) ⊎ (mark ≡ 58)) × (is_word (slice_index rest 0) ≡ false)) ⊎ ((mark ≡ 58) × (last_suffixed false parts ≡ true))

-- such a mark after an ident is a bad byte at its place, behind the ident as a token
abbrev pub StrayMarksAreBadBytes : Type 0
StrayMarksAreBadBytes = (at : ℕ) (sign : Bool) (parts : List Part) (mark : ℕ) (rest : List ℕ) → ArePath parts → IsStray parts mark rest
    → Lexes at (ident_text sign parts ++ mark ∷ rest) ((at, Ident (ident_text sign parts)) ∷ []) (Some (BadByte (at + length (ident_text sign parts))))
