-- What a text is parsed to is its verdict.
use Rattle.std.proofs.Common.{◌≡◌, ◌<◌, ◌≤◌, ◌+◌, ◌-◌, ◌||◌, ℕ, zero, suc, Bool, true, false, nat_lt, List, [], ◌∷◌, ◌++◌, length, take, drop, Option, Some, None, Result, Ok, Err, refl, sym, ap, subst, ◌∙◌, arith, append_assoc, append-nil, add-zero}
use Rattle.std.proofs.lemmas.Bool.{ltb-true, ltb-false}
use Rattle.std.proofs.lemmas.List.{length-drop, map-append}
use Rattle.std.proofs.lemmas.Str.{IsUtf8-drop}
use Rattle.std.specs.Prelude.{MatchResult, option_and_then}
use Rattle.std.specs.Str.{IsUtf8, IsCharBoundary}
use Rattle.pocket_types.specs.Chains.{◌>>=◌, or_refuse, refuse}
use Rattle.pocket_types.specs.declared.expr.Expr.{Expr}
use Rattle.pocket_types.specs.declared.faults.FilterFault.{FilterFault}
use Rattle.pocket_types.specs.declared.faults.FilterFault.TheVariants as fault
use Rattle.pocket_filter.specs.Faults.{Placed, lexemes, open_after, IsTooDeep, BeginsFilter, IsUnexpected, token, at_end, comparisons}
use Rattle.pocket_filter.specs.Filters.{HasTokens, IsFault, IsVerdict}
use Rattle.pocket_filter.specs.Fronts as fronts
use Rattle.pocket_filter.specs.Fronts.{Front, front}
use Rattle.pocket_filter.specs.Grammar.{IsOr}
use Rattle.pocket_filter.specs.Lexing as lexing
use Rattle.pocket_filter.specs.Lexing.{TakesLongest, TakesSeparator, IsInRange, Lexes}
use Rattle.pocket_filter.specs.Parsed.{behind, goes_too_deep, parsed, tokens_from, tree_from}
use Rattle.pocket_filter.specs.Parsing.{State, start, feed, feeds, finish}
use Rattle.pocket_filter.specs.Tokens.{Lexeme}
use Rattle.pocket_filter.proofs.Depths.{open_after-append}
use Rattle.pocket_filter.proofs.FrontLemmas.{IsFront, front_is}
use Rattle.pocket_filter.proofs.Holding.{begins, finished}
use Rattle.pocket_filter.proofs.TreesRead.{feeds_on, not_begun, not_whole}
use Rattle.pocket_filter.proofs.Verdicts.{lexed_fault}

-- ---- tokens

-- bytes that are passed over
passed_over : (k at : ℕ) (text : List ℕ) → tokens_from k at text ≡ tokens_from 0 (at + k) (drop k text)
passed_over zero at text = ap (λ n. tokens_from 0 n text) (sym (add-zero at))
passed_over (suc k) at [] = refl
passed_over (suc k) at (b ∷ text) =
    let same : at + 1 + k ≡ at + suc k = omega arith in
    passed_over k (at + 1) text ∙ ap (λ n. tokens_from 0 n (drop k text)) same

pub tokens_behind : (n at b : ℕ) (text : List ℕ) → 0 < n → tokens_from (n - 1) (at + 1) text ≡ tokens_from 0 (at + n) (drop n (b ∷ text))
tokens_behind zero at b text h = absurd (omega arith)
tokens_behind (suc n) at b text h =
    let less : suc n - 1 ≡ n = omega arith in
    let same : at + 1 + n ≡ at + suc n = omega arith in
    ap (λ k. tokens_from k (at + 1) text) less ∙ passed_over n (at + 1) text ∙ ap (λ k. tokens_from 0 k (drop n text)) same

-- the tokens of a text from a place on, or its first lexical fault
abbrev IsLexed : ℕ → List ℕ → Result (List Placed) FilterFault → Type 0
IsLexed at text r = MatchResult r (λ found. Lexes at text found None) (λ f. (found : List Placed) × Lexes at text found (Some f))

lexed_separator : (at n : ℕ) (text : List ℕ) → TakesSeparator text n → (r : Result (List Placed) FilterFault) → IsLexed (at + n) (drop n text) r → IsLexed at text r
lexed_separator at n text taken (Ok found) h = lexing.separator taken h
lexed_separator at n text taken (Err f) h = (h.0, lexing.separator taken h.1)

lexed_token : (at n : ℕ) (text : List ℕ) (l : Lexeme) → TakesLongest text n l → IsInRange l → (r : Result (List Placed) FilterFault)
    → IsLexed (at + n) (drop n text) r → IsLexed at text (r >>= λ found. Ok ((at, l) ∷ found))
lexed_token at n text l taken range (Ok found) h = lexing.token taken range h
lexed_token at n text l taken range (Err f) h = ((at, l) ∷ h.0, lexing.token taken range h.1)

lexed_front : (at : ℕ) (b : ℕ) (text : List ℕ) (f : Front) (rest : ℕ → Result (List Placed) FilterFault) → IsFront (b ∷ text) f
    → ((n : ℕ) → 0 < n → IsCharBoundary (b ∷ text) n → IsLexed (at + n) (drop n (b ∷ text)) (rest n)) → IsLexed at (b ∷ text) (behind at f rest)
lexed_front at b text (fronts.Separator n) rest h go = lexed_separator at n (b ∷ text) h.1 (rest n) (go n h.0 h.2)
lexed_front at b text (fronts.Token l n) rest h go = lexed_token at n (b ∷ text) l h.1 h.2 (rest n) (go n h.0 h.3)
lexed_front at b text fronts.OverRange rest h go = ([], lexing.over_range h.2 h.3)
lexed_front at b text fronts.OpenText rest h go = ([], lexing.open_text h.0 h.1)
lexed_front at b text fronts.NoToken rest h go = ([], lexing.no_token h.0 h.1 h.2)

-- no text is longer than `most`
tokens_are : (most at : ℕ) (text : List ℕ) → IsUtf8 text → length text ≤ most → IsLexed at text (tokens_from 0 at text)
tokens_are most at [] utf8 h = lexing.done
tokens_are zero at (b ∷ text) utf8 h = absurd (omega arith)
tokens_are (suc most) at (b ∷ text) utf8 h =
    let some : 0 < length (b ∷ text) = omega arith in
    lexed_front at b text (front (b ∷ text)) (λ n. tokens_from (n - 1) (at + 1) text) (front_is (b ∷ text) utf8 some)
    (λ n positive boundary.
    let shorter : length (drop n (b ∷ text)) ≤ most = let left = length-drop n (b ∷ text) in omega arith in
    subst (IsLexed (at + n) (drop n (b ∷ text))) (sym (tokens_behind n at b text positive)) (tokens_are most (at + n) (drop n (b ∷ text)) (IsUtf8-drop (b ∷ text) n utf8 boundary) shorter))

-- ---- depth

deep : (n : ℕ) (ls : List Lexeme) → goes_too_deep n ls ≡ true → (k : ℕ) × (16 < open_after n (take k ls))
deep n [] e = cc
deep n (l ∷ ls) e = by (deep (open_after n (l ∷ [])) ls) (nat_lt 16 (open_after n (l ∷ []))) refl e
  where
    by : (goes_too_deep (open_after n (l ∷ [])) ls ≡ true → (k : ℕ) × (16 < open_after (open_after n (l ∷ [])) (take k ls)))
        → (t : Bool) → nat_lt 16 (open_after n (l ∷ [])) ≡ t → (t || goes_too_deep (open_after n (l ∷ [])) ls) ≡ true → (k : ℕ) × (16 < open_after n (take k (l ∷ ls)))
    by later true f g = (1, ltb-true 16 (open_after n (l ∷ [])) f)
    by later false f g = let r = later g in (suc r.0, subst (λ m. 16 < m) (sym (open_after-append n (l ∷ []) (take r.0 ls))) r.1)

shallow : (n : ℕ) (ls : List Lexeme) → goes_too_deep n ls ≡ false → n ≤ 16 → (k : ℕ) → 16 < open_after n (take k ls) → ⊥
shallow n ls e h zero over = omega arith
shallow n [] e h (suc k) over = omega arith
shallow n (l ∷ ls) e h (suc k) over = by (λ f g. shallow (open_after n (l ∷ [])) ls f g k) (nat_lt 16 (open_after n (l ∷ []))) refl e
  where
    by : (goes_too_deep (open_after n (l ∷ [])) ls ≡ false → open_after n (l ∷ []) ≤ 16 → 16 < open_after (open_after n (l ∷ [])) (take k ls) → ⊥)
        → (t : Bool) → nat_lt 16 (open_after n (l ∷ [])) ≡ t → (t || goes_too_deep (open_after n (l ∷ [])) ls) ≡ false → ⊥
    by later true f g = cc
    by later false f g = later g (ltb-false 16 (open_after n (l ∷ [])) f) (subst (λ m. 16 < m) (open_after-append n (l ∷ []) (take k ls)) over)

-- ---- trees

-- the tree of tokens, those before being read already
abbrev IsTree : ℕ → List Placed → Result Expr FilterFault → Type 0
IsTree end ts r = MatchResult r (λ tree. IsOr (lexemes ts) tree) (λ f. (at : ℕ) × (f ≡ fault.Unexpected at) × IsUnexpected end ts at)

tree_is : (end : ℕ) (before ts : List Placed) (s : State) → feeds start (lexemes before) ≡ Some s → IsTree end (before ++ ts) (tree_from s end ts)
tree_is end before [] s e = subst (λ all. IsTree end all (tree_from s end [])) (sym (append-nil before)) (by (finish s) refl)
  where
    by : (o : Option Expr) → finish s ≡ o → IsTree end before (or_refuse o (fault.Unexpected end))
    by (Some tree) f = finished (lexemes before) s tree e f
    by None f = (end, refl, at_end refl (begins (lexemes before) s e) (not_whole (lexemes before) s e f))
tree_is end before (t ∷ ts) s e = by (λ next g. tree_is end (before ++ t ∷ []) ts next g) (feed s t.1) refl
  where
    more : lexemes (before ++ t ∷ []) ≡ lexemes before ++ t.1 ∷ []
    more = map-append (λ p. p.1) before (t ∷ [])

    by : ((next : State) → feeds start (lexemes (before ++ t ∷ [])) ≡ Some next → IsTree end ((before ++ t ∷ []) ++ ts) (tree_from next end ts))
        → (o : Option State) → feed s t.1 ≡ o → IsTree end (before ++ t ∷ ts) (or_refuse o (fault.Unexpected t.0) >>= λ next. tree_from next end ts)
    by rest None f =
        (t.0, refl, token before ts t refl refl (begins (lexemes before) s e) (λ b. not_begun (lexemes before) t.1 s e f (subst (λ w. BeginsFilter w) more b)))
    by rest (Some next) f =
        subst (λ all. IsTree end all (tree_from next end ts)) (append_assoc before (t ∷ []) ts)
        (rest next (ap (feeds start) more ∙ feeds_on start s (lexemes before) (t.1 ∷ []) e ∙ ap (λ o. option_and_then (λ u. feeds u []) o) f))

-- the tree that is read is that of the tokens
pub tree_read : (end : ℕ) (ts : List Placed) (tree : Expr) → tree_from start end ts ≡ Ok tree → IsOr (lexemes ts) tree
tree_read end ts tree e = subst (IsTree end ts) e (tree_is end [] ts start refl)

-- ---- verdicts

module _ (text : List ℕ) (short : length text ≤ 3500) where
  counted : (tokens : List Placed) → HasTokens text tokens → (tree : Expr) → IsOr (lexemes tokens) tree → (b : Bool) → nat_lt 100 (comparisons tree) ≡ b
      → IsVerdict text (refuse b fault.TooMany >>= λ _. Ok tree)
  counted tokens read tree derived true e = record { tokens = tokens; tree = tree; read = read; derived = derived; many = ltb-true 100 (comparisons tree) e }
  counted tokens read tree derived false e = let few = ltb-false 100 (comparisons tree) e in record { tokens = tokens; read = read; derived = derived; few = omega (arith, few) }

  grown : (tokens : List Placed) → HasTokens text tokens → (r : Result Expr FilterFault) → IsTree (length text) tokens r
      → IsVerdict text (r >>= λ tree. refuse (nat_lt 100 (comparisons tree)) fault.TooMany >>= λ _. Ok tree)
  grown tokens read (Ok tree) h = counted tokens read tree h (nat_lt 100 (comparisons tree)) refl
  grown tokens read (Err f) h = subst (λ g. IsFault text g) (sym h.1) (record { tokens = tokens; read = read; unexpected = h.2 })

  nested : (tokens : List Placed) → Lexes 0 text tokens None → (b : Bool) → goes_too_deep 0 (lexemes tokens) ≡ b
      → IsVerdict text (refuse b fault.TooDeep >>= λ _. tree_from start (length text) tokens >>= λ tree. refuse (nat_lt 100 (comparisons tree)) fault.TooMany >>= λ _. Ok tree)
  nested tokens lexed true e = record { tokens = tokens; short = short; lexed = lexed; deep = deep 0 (lexemes tokens) e }
  nested tokens lexed false e =
      let none : 0 ≤ 16 = omega arith in
      let flat : IsTooDeep (lexemes tokens) → ⊥ = λ d. shallow 0 (lexemes tokens) e none d.0 d.1 in
      grown tokens (record { short = short; lexed = lexed; shallow = flat }) (tree_from start (length text) tokens) (tree_is (length text) [] tokens start refl)

  lexed_verdict : (r : Result (List Placed) FilterFault) → IsLexed 0 text r
      → IsVerdict text (r >>= λ tokens. refuse (goes_too_deep 0 (lexemes tokens)) fault.TooDeep >>= λ _. tree_from start (length text) tokens >>= λ tree. refuse (nat_lt 100 (comparisons tree)) fault.TooMany >>= λ _. Ok tree)
  lexed_verdict (Ok tokens) h = nested tokens h (goes_too_deep 0 (lexemes tokens)) refl
  lexed_verdict (Err f) h = lexed_fault text f short h

pub parsed_is : (text : List ℕ) → IsUtf8 text → IsVerdict text (parsed text)
unfolding parsed
parsed_is text utf8 = by (nat_lt 3500 (length text)) refl
  where
    by : (b : Bool) → nat_lt 3500 (length text) ≡ b
        → IsVerdict text (refuse b fault.TooLong >>= λ _. tokens_from 0 0 text >>= λ tokens. refuse (goes_too_deep 0 (lexemes tokens)) fault.TooDeep
        >>= λ _. tree_from start (length text) tokens >>= λ tree. refuse (nat_lt 100 (comparisons tree)) fault.TooMany >>= λ _. Ok tree)
    by true e = ltb-true 3500 (length text) e
    by false e =
        let fits = ltb-false 3500 (length text) e in
        let same : length text ≤ length text = omega arith in
        lexed_verdict text (omega (arith, fits)) (tokens_from 0 0 text) (tokens_are (length text) 0 text utf8 same)
