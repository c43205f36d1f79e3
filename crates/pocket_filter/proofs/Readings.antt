-- Steps of a reading.
use Rattle.std.proofs.Common.{◌≡◌, ◌+◌, ◌-◌, ◌<◌, ◌≤◌, ℕ, List, [], ◌∷◌, ◌++◌, length, drop, map, Result, Ok, Err, refl, sym, ap, ◌∙◌, arith, append_assoc}
use Rattle.std.proofs.lemmas.List.{length-drop, map_push}
use Rattle.pocket_types.specs.Chains.{◌>>=◌}
use Rattle.pocket_types.specs.declared.faults.FilterFault.{FilterFault}
use Rattle.pocket_filter.specs.declared.tokens.Token.{Token}
use Rattle.pocket_filter.specs.Faults.{Placed}
use Rattle.pocket_filter.specs.Fronts as fronts
use Rattle.pocket_filter.specs.Fronts.{Front, front}
use Rattle.pocket_filter.specs.Parsed.{behind, tokens_from}
use Rattle.pocket_filter.specs.Tokens.{placed}
use Rattle.pocket_filter.proofs.ParsedLemmas.{tokens_behind}

-- tokens, and those that follow
abbrev pub all_of : List Placed → Result (List Placed) FilterFault → Result (List Placed) FilterFault
all_of found rest = rest >>= λ more. Ok (found ++ more)

-- the place of a rest after n more bytes
further : (text rest left : List ℕ) (n : ℕ) → n ≤ length rest → left ≡ drop n rest → length rest ≤ length text → length text - length rest + n ≡ length text - length left
further text rest left n within e short = let long = ap length e ∙ length-drop n rest in omega arith

-- what follows the front
pub opened : (at : ℕ) (text : List ℕ) (f : Front) → 0 < length text → f ≡ front text → tokens_from 0 at text ≡ behind at f (λ n. tokens_from (n - 1) (at + 1) (drop 1 text))
opened at [] f some e = absurd (omega arith)
opened at (b ∷ text) f some e = sym (ap (λ g. behind at g (λ n. tokens_from (n - 1) (at + 1) text)) e)

left_tokens : (text rest left : List ℕ) (n : ℕ) → 0 < n → n ≤ length rest → left ≡ drop n rest → length rest ≤ length text
    → tokens_from (n - 1) (length text - length rest + 1) (drop 1 rest) ≡ tokens_from 0 (length text - length left) left
left_tokens text [] left n some within e short = absurd (omega arith)
left_tokens text (b ∷ rest) left n some within e short =
    tokens_behind n (length text - length (b ∷ rest)) b rest some ∙ ap (λ s. tokens_from 0 (length text - length (b ∷ rest) + n) s) (sym e)
    ∙ ap (λ at. tokens_from 0 at left) (further text (b ∷ rest) left n within e short)

-- after a separator the tokens are those of the rest
pub after_separator : (text rest left : List ℕ) (n : ℕ) → 0 < n → n ≤ length rest → fronts.Separator n ≡ front rest → left ≡ drop n rest → length rest ≤ length text
    → tokens_from 0 (length text - length rest) rest ≡ tokens_from 0 (length text - length left) left
after_separator text rest left n some within f e short =
    opened (length text - length rest) rest (fronts.Separator n) (omega arith) f ∙ left_tokens text rest left n some within e short

all_more : (found : List Placed) (t : Placed) (r : Result (List Placed) FilterFault) → all_of found (r >>= λ more. Ok (t ∷ more)) ≡ all_of (found ++ t ∷ []) r
all_more found t (Ok more) = ap Ok (sym (append_assoc found (t ∷ []) more))
all_more found t (Err e) = refl

-- after a token the tokens are it and those of the rest
pub after_token : (text rest left : List ℕ) (n : ℕ) (found : List Token) (t : Token) → 0 < n → n ≤ length rest → fronts.Token (placed t).1 n ≡ front rest → left ≡ drop n rest
    → length rest ≤ length text → t.at ≡ length text - length rest
    → all_of (map placed found) (tokens_from 0 (length text - length rest) rest) ≡ all_of (map placed (found ++ t ∷ [])) (tokens_from 0 (length text - length left) left)
after_token text rest left n found t some within f e short place =
    let l = (placed t).1 in
    let at = length text - length rest in
    ap (all_of (map placed found)) (opened at rest (fronts.Token l n) (omega arith) f ∙ ap (λ r. r >>= λ more. Ok ((at, l) ∷ more)) (left_tokens text rest left n some within e short))
    ∙ all_more (map placed found) (at, l) (tokens_from 0 (length text - length left) left)
    ∙ ap (λ k. all_of (map placed found ++ (k, l) ∷ []) (tokens_from 0 (length text - length left) left)) (sym place)
    ∙ ap (λ ts. all_of ts (tokens_from 0 (length text - length left) left)) (sym (map_push placed found t))
