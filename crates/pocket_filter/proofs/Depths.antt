-- How deep tokens nest.
use Rattle.std.proofs.Common.{◌≡◌, ℕ, ◌+◌, ◌-◌, ◌<◌, ◌≤◌, ◌||◌, List, [], ◌∷◌, ◌++◌, map, drop, length, get_or, true, nat_lt, sym, ap, ◌∙◌, refl, lt-ltb}
use Rattle.std.proofs.lemmas.Bool.{le-ltb}
use Rattle.std.proofs.lemmas.List.{drop_more}
use Rattle.pocket_filter.specs.declared.tokens.Token.{Token}
use Rattle.pocket_filter.specs.Faults.{lexemes, open_after}
use Rattle.pocket_filter.specs.Parsed.{goes_too_deep}
use Rattle.pocket_filter.specs.Tokens.{Lexeme, lexeme_of, placed}

pub open_after-append : (n : ℕ) (xs ys : List Lexeme) → open_after n (xs ++ ys) ≡ open_after (open_after n xs) ys
open_after-append n [] ys = refl
open_after-append n (Lexeme.Open ∷ xs) ys = open_after-append (n + 1) xs ys
open_after-append n (Lexeme.Close ∷ xs) ys = open_after-append (n - 1) xs ys
open_after-append n (_ ∷ xs) ys = open_after-append n xs ys

abbrev pub all : List Token → List Lexeme
all ts = lexemes (map placed ts)

-- one token more is too deep
pub deep_here : (ts : List Token) (i n m : ℕ) (d : Token) → i < length ts → m ≡ open_after n (lexeme_of (get_or ts i d).kind ∷ []) → 16 < m
    → goes_too_deep n (all (drop i ts)) ≡ true
deep_here ts i n m d h e over =
    ap (λ xs. goes_too_deep n (all xs)) (drop_more ts i d h) ∙ ap (λ k. nat_lt 16 k || goes_too_deep (open_after n (lexeme_of (get_or ts i d).kind ∷ [])) (all (drop (i + 1) ts))) (sym e)
    ∙ ap (λ t. t || goes_too_deep (open_after n (lexeme_of (get_or ts i d).kind ∷ [])) (all (drop (i + 1) ts))) (lt-ltb 16 m over)

-- one token more isn't
pub deep_later : (ts : List Token) (i n m : ℕ) (d : Token) → i < length ts → m ≡ open_after n (lexeme_of (get_or ts i d).kind ∷ []) → m ≤ 16
    → goes_too_deep n (all (drop i ts)) ≡ goes_too_deep m (all (drop (i + 1) ts))
deep_later ts i n m d h e within =
    ap (λ xs. goes_too_deep n (all xs)) (drop_more ts i d h) ∙ ap (λ k. nat_lt 16 k || goes_too_deep k (all (drop (i + 1) ts))) (sym e)
    ∙ ap (λ t. t || goes_too_deep m (all (drop (i + 1) ts))) (le-ltb 16 m within)
