-- The verdict of a text as a value: its tree, or its first fault.
use Rattle.std.specs.Prelude.{ℕ, zero, suc, ◌+◌, ◌-◌, ◌||◌, nat_lt, List, [], ◌∷◌, length, Bool, false, Result, Ok, Err}
use Rattle.pocket_types.specs.Chains.{◌>>=◌, refuse, or_refuse}
use Rattle.pocket_types.specs.Chains as chains
use Rattle.pocket_types.specs.declared.expr.Expr.{Expr}
use Rattle.pocket_types.specs.declared.faults.FilterFault.{FilterFault}
use Rattle.pocket_types.specs.declared.faults.FilterFault.TheVariants as fault
use Rattle.pocket_filter.specs.Faults.{Placed, lexemes, open_after, comparisons}
use Rattle.pocket_filter.specs.Fronts.{Front, Separator, Token, OverRange, OpenText, NoToken, front}
use Rattle.pocket_filter.specs.Parsing.{State, start, feed, finish}
use Rattle.pocket_filter.specs.Tokens.{Lexeme}

-- the tokens from a place on, those behind the front being given by its length
abbrev pub behind : ℕ → Front → (ℕ → Result (List Placed) FilterFault) → Result (List Placed) FilterFault
behind at (Separator n) rest = rest n
behind at (Token lexeme n) rest = rest n >>= λ tokens. Ok ((at, lexeme) ∷ tokens)
behind at OverRange rest = Err (fault.NumberRange at)
behind at OpenText rest = Err (fault.OpenString at)
behind at NoToken rest = Err (fault.BadByte at)

-- The tokens of a text from a place on, or its first lexical fault. So many bytes are passed over first.
abbrev pub tokens_from : ℕ → ℕ → List ℕ → Result (List Placed) FilterFault
tokens_from passed at [] = Ok []
tokens_from zero at (b ∷ text) = behind at (front (b ∷ text)) (λ n. tokens_from (n - 1) (at + 1) text)
tokens_from (suc passed) at (b ∷ text) = tokens_from passed (at + 1) text

-- whether more than 16 parentheses are open after some token, n being open before the first
abbrev pub goes_too_deep : ℕ → List Lexeme → Bool
goes_too_deep n [] = false
goes_too_deep n (l ∷ ls) = nat_lt 16 (open_after n (l ∷ [])) || goes_too_deep (open_after n (l ∷ [])) ls

-- the tree of tokens, or the place of the first that can't stand
abbrev pub tree_from : State → ℕ → List Placed → Result Expr FilterFault
tree_from s end [] = or_refuse (finish s) (fault.Unexpected end)
tree_from s end (t ∷ ts) = or_refuse (feed s t.1) (fault.Unexpected t.0) >>= λ next. tree_from next end ts

-- the tree of a text, or its first fault
unfoldable pub parsed : List ℕ → Result Expr FilterFault
parsed text = do
  _ ← refuse (nat_lt 3500 (length text)) fault.TooLong
  tokens ← tokens_from 0 0 text
  _ ← refuse (goes_too_deep 0 (lexemes tokens)) fault.TooDeep
  tree ← tree_from start (length text) tokens
  _ ← refuse (nat_lt 100 (comparisons tree)) fault.TooMany
  Ok tree

-- what a call gives: the answer, as its value is seen, or that memory is wanting
abbrev pub GivesAs : {A B : Type 0} → (A → B) → Result A FilterFault → Result B FilterFault → Type 0
GivesAs = chains.GivesAs fault.Memory

abbrev pub Gives : {A : Type 0} → Result A FilterFault → Result A FilterFault → Type 0
Gives = GivesAs (λ x. x)
