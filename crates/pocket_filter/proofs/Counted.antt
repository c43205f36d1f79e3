-- What a text is parsed to, once its tokens have a tree.
use Rattle.std.proofs.Common.{◌≡◌, ℕ, ◌≤◌, nat_lt, List, Bool, false, Result, Ok, map, length, count_by, sym, ap, ◌∙◌}
use Rattle.std.proofs.lemmas.Bool.{le-ltb}
use Rattle.pocket_types.specs.Chains.{◌>>=◌, refuse}
use Rattle.pocket_types.specs.declared.expr.Expr.{Expr}
use Rattle.pocket_types.specs.declared.faults.FilterFault.{FilterFault}
use Rattle.pocket_types.specs.declared.faults.FilterFault.TheVariants as fault
use Rattle.pocket_filter.specs.declared.tokens.Token.{Token}
use Rattle.pocket_filter.specs.Faults.{Placed, lexemes, comparisons, is_test}
use Rattle.pocket_filter.specs.Parsed.{goes_too_deep, parsed, tokens_from, tree_from}
use Rattle.pocket_filter.specs.Parsing.{start}
use Rattle.pocket_filter.specs.Tokens.{lexeme_of, placed}
use Rattle.pocket_filter.proofs.Counts.{counts_are, counted}
use Rattle.pocket_filter.proofs.ParsedLemmas.{tree_read}

-- the tree, where its comparisons are so many
abbrev pub if_few : ℕ → Expr → Result Expr FilterFault
if_few n tree = refuse (nat_lt 100 n) fault.TooMany >>= λ _. Ok tree

abbrev if_grown : Result Expr FilterFault → Result Expr FilterFault
if_grown r = r >>= λ tree. if_few (comparisons tree) tree

abbrev if_flat : ℕ → Bool → List Placed → Result Expr FilterFault
if_flat end deep tokens = refuse deep fault.TooDeep >>= λ _. if_grown (tree_from start end tokens)

abbrev if_lexed : ℕ → Result (List Placed) FilterFault → Result Expr FilterFault
if_lexed end r = r >>= λ tokens. if_flat end (goes_too_deep 0 (lexemes tokens)) tokens

parsed_steps : (text : List ℕ) → length text ≤ 3500 → parsed text ≡ if_lexed (length text) (tokens_from 0 0 text)
unfolding parsed
parsed_steps text short = ap (λ b. refuse b fault.TooLong >>= λ _. if_lexed (length text) (tokens_from 0 0 text)) (le-ltb 3500 (length text) short)

-- of a text in memory: all three lists are its tokens
pub parsed_counted : (text : List ℕ) (items xs ys zs : List Token) (deep : Bool) (tree : Expr) (n : ℕ) → length text ≤ 3500 → tokens_from 0 0 text ≡ Ok (map placed items)
    → xs ≡ items → deep ≡ goes_too_deep 0 (lexemes (map placed xs)) → deep ≡ false → ys ≡ items → tree_from start (length text) (map placed ys) ≡ Ok tree
    → zs ≡ items → n ≡ count_by (λ t. is_test (lexeme_of t.kind)) zs → parsed text ≡ if_few n tree
parsed_counted text items xs ys zs deep tree n short lexed e d flat f grown g count =
    let same : goes_too_deep 0 (lexemes (map placed items)) ≡ false = ap (λ ts. goes_too_deep 0 (lexemes (map placed ts))) (sym e) ∙ sym d ∙ flat in
    let whole : tree_from start (length text) (map placed items) ≡ Ok tree = ap (λ ts. tree_from start (length text) (map placed ts)) (sym f) ∙ grown in
    let many : comparisons tree ≡ n =
    counts_are (lexemes (map placed items)) tree (tree_read (length text) (map placed items) tree whole) ∙ sym (counted items) ∙ ap (count_by (λ t. is_test (lexeme_of t.kind))) (sym g) ∙ sym count
    in
    parsed_steps text short ∙ ap (if_lexed (length text)) lexed ∙ ap (λ b. if_flat (length text) b (map placed items)) same ∙ ap if_grown whole ∙ ap (λ k. if_few k tree) many
