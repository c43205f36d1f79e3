-- What the lexer's fault says of a text.
use Rattle.std.proofs.Common.{ℕ, ◌≤◌, List, Option, Some, IfSome, length}
use Rattle.pocket_types.specs.declared.faults.FilterFault.{FilterFault}
use Rattle.pocket_types.specs.declared.faults.FilterFault.TheVariants as faults
use Rattle.pocket_filter.specs.Faults.{Placed}
use Rattle.pocket_filter.specs.Filters.{IsFault}
use Rattle.pocket_filter.specs.Lexing.{Lexes, done, separator, token, over_range, open_text, no_token}

abbrev IsLexical : FilterFault → Type 0
IsLexical (faults.BadByte at) = Unit {0}
IsLexical (faults.OpenString at) = Unit {0}
IsLexical (faults.NumberRange at) = Unit {0}
IsLexical _ = ⊥

lexical : (at : ℕ) (bytes : List ℕ) (found : List Placed) (fault : Option FilterFault) → Lexes at bytes found fault → IfSome fault IsLexical
lexical at bytes found fault done = tt
lexical at bytes found fault (separator taken rest) = lexical _ _ _ _ rest
lexical at bytes found fault (token taken range rest) = lexical _ _ _ _ rest
lexical at bytes found fault (over_range taken range) = tt
lexical at bytes found fault (open_text quote none) = tt
lexical at bytes found fault (no_token quote blank none) = tt

lexical_is : (text : List ℕ) (found : List Placed) (fault : FilterFault) → length text ≤ 3500 → Lexes 0 text found (Some fault) → IsLexical fault → IsFault text fault
lexical_is text found (faults.BadByte at) short h k = record { tokens = found; short = short; lexed = h }
lexical_is text found (faults.OpenString at) short h k = record { tokens = found; short = short; lexed = h }
lexical_is text found (faults.NumberRange at) short h k = record { tokens = found; short = short; lexed = h }
lexical_is text found _ short h k = absurd k

-- the lexer's fault is the text's
pub lexed_fault : (text : List ℕ) (fault : FilterFault) → length text ≤ 3500 → (found : List Placed) × Lexes 0 text found (Some fault) → IsFault text fault
lexed_fault text fault short h = lexical_is text h.0 fault short h.1 (lexical 0 text h.0 (Some fault) h.1)
