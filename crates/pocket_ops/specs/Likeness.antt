-- When a text is like a pattern.
use Rattle.std.specs.Prelude.{◌≡◌, ℕ, List, [], ◌∷◌, ◌++◌, ◌==◌, ◌&&◌, ◌||◌, Bool, true, false, codes, length, if◌then◌else◌}
use Rattle.std.specs.Char.{eq_ignore_ascii_case, to_ascii_lowercase}
use Rattle.std.specs.Fmt.{signed_decimal}
use Rattle.pocket_types.specs.declared.values.Value.{Value}
use Rattle.pocket_types.specs.declared.values.Value.TheVariants as value
use Rattle.pocket_ops.specs.declared.likeness.Piece.{Piece}
use Rattle.pocket_ops.specs.declared.likeness.Piece.TheVariants as piece

-- the text of a value
abbrev pub value_text : Value → List ℕ
value_text value.Nothing = []
value_text (value.Num n) = signed_decimal n
value_text (value.Flag true) = codes "true"
value_text (value.Flag false) = codes "false"
value_text (value.Text text) = text

-- the pieces of a pattern: `\%` is a percent sign, `%` any run of bytes, each other byte itself
abbrev pub pieces_of : List ℕ → List Piece
pieces_of [] = []
pieces_of (b ∷ []) = (if b == 37 then piece.Any else piece.Byte b) ∷ []
pieces_of (b ∷ c ∷ rest) =
    if b == 92 && c == 37 then piece.Byte 37 ∷ pieces_of rest
    else (if b == 37 then piece.Any else piece.Byte b) ∷ pieces_of (c ∷ rest)

-- whether a piece is any run of bytes
abbrev pub is_any : Piece → Bool
is_any piece.Any = true
is_any (piece.Byte b) = false

-- whether any run of bytes is among the pieces
abbrev pub has_any : List Piece → Bool
has_any [] = false
has_any (p ∷ ps) = is_any p || has_any ps

-- pieces without any run of bytes have one at each end
abbrev pub wrapped : List Piece → List Piece
wrapped ps = if has_any ps then ps else piece.Any ∷ ps ++ piece.Any ∷ []

-- whether a test holds for a text or for what is left of it behind some byte
abbrev pub some_end : (List ℕ → Bool) → List ℕ → Bool
some_end test [] = test []
some_end test (b ∷ text) = test (b ∷ text) || some_end test text

-- whether a text begins with a byte, letters being equal in either case, and its rest passes a test
abbrev pub begins : ℕ → (List ℕ → Bool) → List ℕ → Bool
begins c test [] = false
begins c test (b ∷ text) = eq_ignore_ascii_case c b && test text

-- whether pieces match a text
abbrev pub matches : List Piece → List ℕ → Bool
matches [] text = length text == 0
matches (piece.Any ∷ ps) text = some_end (matches ps) text
matches (piece.Byte c ∷ ps) text = begins c (matches ps) text

-- whether a text is like a pattern
unfoldable pub is_like : List ℕ → List ℕ → Bool
is_like text pattern = matches (wrapped (pieces_of pattern)) text

-- the pieces match a text: any run of bytes stands for any beginning of it, and a letter for either case
abbrev pub Matches : List Piece → List ℕ → Type 0
Matches [] text = text ≡ []
Matches (piece.Any ∷ ps) text = (run : List ℕ) × (rest : List ℕ) × (text ≡ run ++ rest) × Matches ps rest
Matches (piece.Byte c ∷ ps) text = (b : ℕ) × (rest : List ℕ) × (text ≡ b ∷ rest) × (to_ascii_lowercase c ≡ to_ascii_lowercase b) × Matches ps rest

-- a text is like a pattern
abbrev pub IsLike : List ℕ → List ℕ → Type 0
IsLike text pattern = Matches (wrapped (pieces_of pattern)) text
