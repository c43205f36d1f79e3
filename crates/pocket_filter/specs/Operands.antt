-- The operands that tokens are.
use Rattle.std.specs.Prelude.{ℕ, ◌-◌, ◌==◌, ◌&&◌, ◌||◌, List, [], ◌∷◌, length, take, drop, map, slice_index, codes, Option, Some, None, if◌then◌else◌, true, false}
use Rattle.std.specs.List.{slice_split, before_first, after_first, list_any}
use Rattle.std.specs.Str.{bytes_eq}
use Rattle.pocket_types.specs.declared.expr.Operand.{Operand}
use Rattle.pocket_types.specs.declared.expr.Operand.TheVariants as operand_is
use Rattle.pocket_types.specs.declared.expr.Part.{Part}
use Rattle.pocket_filter.specs.Tokens.{Lexeme, Open, Close, And, Or, Test, Ident, Text, Number}

-- ---- texts

-- The bytes that a text gives. A backslash before a quote like those around it or before a backslash gives that character, and any
-- other backslash is itself.
abbrev pub unescaped : ℕ → List ℕ → List ℕ
unescaped quote [] = []
unescaped quote (b ∷ []) = b ∷ []
unescaped quote (b ∷ c ∷ rest) = if b == 92 && (c == quote || c == 92) then c ∷ unescaped quote rest else b ∷ unescaped quote (c ∷ rest)

-- what stands between the first byte and the last
abbrev pub inner : List ℕ → List ℕ
inner bytes = take (length bytes - 2) (drop 1 bytes)

abbrev pub text_operand : List ℕ → Operand
text_operand written = operand_is.Text (unescaped (slice_index written 0) (inner written))

-- ---- idents

-- a name, and what follows its first `:`
abbrev pub part_of : List ℕ → Part
part_of bytes = record {
  name = before_first (λ b. b == 58) bytes;
  suffix = if list_any (λ b. b == 58) bytes then Some (after_first (λ b. b == 58) bytes) else None;
}

-- the parts between dots
abbrev pub parts_of : List ℕ → List Part
parts_of bytes = map part_of (slice_split (λ b. b == 46) bytes)

abbrev pub path_operand : List ℕ → Operand
path_operand written =
    if slice_index written 0 == 64 then operand_is.Ident true (parts_of (drop 1 written)) else operand_is.Ident false (parts_of written)

-- a literal, or a path
abbrev pub ident_operand : List ℕ → Operand
ident_operand written =
    if bytes_eq written (codes "true") then operand_is.Flag true
    else (if bytes_eq written (codes "false") then operand_is.Flag false
    else (if bytes_eq written (codes "null") then operand_is.Null
    else path_operand written))

-- ---- tokens

-- the operand that a token is, where it is one
abbrev pub operand : Lexeme → Option Operand
operand Open = None
operand Close = None
operand And = None
operand Or = None
operand (Test any op) = None
operand (Ident written) = Some (ident_operand written)
operand (Text written) = Some (text_operand written)
operand (Number n) = Some (operand_is.Num n)
