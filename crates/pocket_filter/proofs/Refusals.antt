-- What a `?` passes on, and what the parser says of a text's tokens.
use Rattle.std.proofs.Common.{◌≡◌, ℕ, ◌+◌, ◌<◌, List, Result, Ok, Err, map, drop, length, get_or, ap, sym, subst, ◌∙◌}
use Rattle.std.specs.Prelude.{MatchResult}
use Rattle.std.specs.Result.{IsErrAnd}
use Rattle.std.proofs.lemmas.List.{drop_more}
use Rattle.pocket_types.specs.Chains.{◌>>=◌, or_refuse}
use Rattle.pocket_types.specs.declared.faults.FilterFault.{FilterFault}
use Rattle.pocket_types.specs.declared.faults.FilterFault.TheVariants.{Unexpected}
use Rattle.pocket_filter.specs.declared.tokens.Token.{Token}
use Rattle.pocket_filter.specs.Parsed.{tree_from}
use Rattle.pocket_filter.specs.Parsing.{State, feed}
use Rattle.pocket_filter.specs.Tokens.{lexeme_of, placed}

-- what a `?` passes on
pub passed_on : {T : Type 0} (r : Result T FilterFault) (y : FilterFault) (P : T → Type 0) (Q : FilterFault → Type 0) → IsErrAnd r (λ z. z ≡ y) → Q y → MatchResult r P Q
passed_on (Ok x) y P Q e h = absurd e
passed_on (Err z) y P Q e h = subst Q (sym e) h

-- the tree from a token on, by what the parser says of it
pub tree_step : (end : ℕ) (ts : List Token) (i : ℕ) (d : Token) (s : State) (next : Result State FilterFault) → i < length ts
    → or_refuse (feed s (lexeme_of (get_or ts i d).kind)) (Unexpected (get_or ts i d).at) ≡ next
    → tree_from s end (map placed (drop i ts)) ≡ (next >>= λ p. tree_from p end (map placed (drop (i + 1) ts)))
tree_step end ts i d s next h e = ap (λ xs. tree_from s end (map placed xs)) (drop_more ts i d h) ∙ ap (λ o. o >>= λ p. tree_from p end (map placed (drop (i + 1) ts))) e
