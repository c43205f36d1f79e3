-- A text has one verdict.
use Rattle.std.proofs.Common.{◌≡◌, ◌≢◌, ◌⊎◌, inl, inr, ℕ, ◌<◌, ◌≤◌, List, [], ◌∷◌, ◌++◌, Option, Some, None, Result, Ok, Err, IfOk, IfErr, length, refl, sym, ap, subst, ◌∙◌, append_assoc, append-nil, arith}
use Rattle.std.proofs.lemmas.List.{map-append}
use Rattle.pocket_types.specs.declared.expr.Expr.{Expr}
use Rattle.pocket_types.specs.declared.faults.FilterFault.{FilterFault}
use Rattle.pocket_types.specs.declared.faults.FilterFault.TheVariants as faults
use Rattle.pocket_filter.specs.Faults.{Placed, lexemes, HasTree, BeginsFilter, IsTooDeep, IsUnexpected, token, at_end, comparisons}
use Rattle.pocket_filter.specs.Filters.{HasLexicalFault, IsFault, IsFilter, IsVerdict, IsAnswer}
use Rattle.pocket_filter.specs.Grammar.{IsOr}
use Rattle.pocket_filter.specs.Lexing.{Lexes}
use Rattle.pocket_filter.specs.Parsed.{Gives}
use Rattle.pocket_filter.specs.Tokens.{Lexeme}
use Rattle.pocket_filter.proofs.OneReading.{same_lexing}
use Rattle.pocket_filter.proofs.TreesRead.{one_tree}

-- ---- the first token that can't stand

begins_front : (w u : List Lexeme) → BeginsFilter (w ++ u) → BeginsFilter w
begins_front w u b = (u ++ b.0, (b.1.0, subst (λ v. IsOr v b.1.0) (append_assoc w u b.0) b.1.1))

begins_whole : (w : List Lexeme) → HasTree w → BeginsFilter w
begins_whole w h = ([], (h.0, subst (λ v. IsOr v h.0) (sym (append-nil w)) h.1))

-- a filter begins with the tokens after these
abbrev BeginsAfter : List Lexeme → List Placed → Type 0
BeginsAfter before ts = BeginsFilter (before ++ lexemes ts)

step_in : (before : List Lexeme) (t : Placed) (ts : List Placed) → BeginsAfter before (t ∷ ts) → BeginsAfter (before ++ t.1 ∷ []) ts
step_in before t ts b = subst BeginsFilter (sym (append_assoc before (t.1 ∷ []) (lexemes ts))) b

step_out : (before : List Lexeme) (t : Placed) (ts : List Placed) → BeginsAfter (before ++ t.1 ∷ []) ts → BeginsAfter before (t ∷ ts)
step_out before t ts b = subst BeginsFilter (append_assoc before (t.1 ∷ []) (lexemes ts)) b

-- the token after the longest front with which a filter begins is one
same_stop : (before : List Lexeme) (f g : List Placed) (t u : Placed) (r s : List Placed) → f ++ t ∷ r ≡ g ++ u ∷ s → BeginsAfter before f → BeginsAfter before g
    → (BeginsAfter before (f ++ t ∷ []) → ⊥) → (BeginsAfter before (g ++ u ∷ []) → ⊥) → t ≡ u
same_stop before [] [] t u r s e bf bg nf ng = cc
same_stop before [] (x ∷ g) t u r s e bf bg nf ng =
    let first : x ≡ t = cc in
    let longer : BeginsAfter (before ++ x.1 ∷ []) g = step_in before x g bg in
    absurd (nf (subst (λ y. BeginsAfter before (y ∷ [])) first (begins_front (before ++ x.1 ∷ []) (lexemes g) longer)))
same_stop before (x ∷ f) [] t u r s e bf bg nf ng =
    let first : x ≡ u = cc in
    let longer : BeginsAfter (before ++ x.1 ∷ []) f = step_in before x f bf in
    absurd (ng (subst (λ y. BeginsAfter before (y ∷ [])) first (begins_front (before ++ x.1 ∷ []) (lexemes f) longer)))
same_stop before (x ∷ f) (y ∷ g) t u r s e bf bg nf ng =
    let first : y ≡ x = cc in
    let rest : f ++ t ∷ r ≡ g ++ u ∷ s = cc in
    let other : BeginsAfter before (x ∷ g) = subst (λ z. BeginsAfter before (z ∷ g)) first bg in
    let refused : BeginsAfter before (x ∷ (g ++ u ∷ [])) → ⊥ = subst (λ z. BeginsAfter before (z ∷ (g ++ u ∷ [])) → ⊥) first ng in
    same_stop (before ++ x.1 ∷ []) f g t u r s rest (step_in before x f bf) (step_in before x g other) (λ b. nf (step_out before x (f ++ t ∷ []) b)) (λ b. refused (step_out before x (g ++ u ∷ []) b))

-- no filter begins with tokens up to one that can't stand
stops : (ts f r : List Placed) (t : Placed) → ts ≡ f ++ t ∷ r → (BeginsFilter (lexemes (f ++ t ∷ [])) → ⊥) → BeginsFilter (lexemes ts) → ⊥
stops ts f r t e none b =
    let cut : lexemes ts ≡ lexemes (f ++ t ∷ []) ++ lexemes r = ap lexemes (e ∙ sym (append_assoc f (t ∷ []) r)) ∙ map-append (λ p. p.1) (f ++ t ∷ []) r in
    none (begins_front (lexemes (f ++ t ∷ [])) (lexemes r) (subst BeginsFilter cut b))

same_place : (end : ℕ) (ts : List Placed) (a b : ℕ) → IsUnexpected end ts a → IsUnexpected end ts b → a ≡ b
same_place end ts a b (token f r t e at begun none) (token g s u d place other never) =
    at ∙ ap (λ p. p.0) (same_stop [] f g t u r s (sym e ∙ d) begun other none never) ∙ sym place
same_place end ts a b (token f r t e at begun none) (at_end place whole never) = absurd (stops ts f r t e none whole)
same_place end ts a b (at_end place whole never) (token f r t e at begun none) = absurd (stops ts f r t e none whole)
same_place end ts a b (at_end at whole none) (at_end place other never) = at ∙ sym place

-- tokens that are a filter go wrong nowhere
never_wrong : (end : ℕ) (ts : List Placed) (at : ℕ) → IsUnexpected end ts at → HasTree (lexemes ts) → ⊥
never_wrong end ts at (token f r t e place begun none) h = stops ts f r t e none (begins_whole (lexemes ts) h)
never_wrong end ts at (at_end place whole none) h = none h

-- ---- step by step

-- of tokens that don't nest too deep
abbrev AfterTree : Expr → Result Expr FilterFault → Type 0
AfterTree t v = ((100 < comparisons t) × (v ≡ Err faults.TooMany)) ⊎ ((comparisons t ≤ 100) × (v ≡ Ok t))

abbrev AfterDepth : ℕ → List Placed → Result Expr FilterFault → Type 0
AfterDepth end ts v = ((at : ℕ) × IsUnexpected end ts at × (v ≡ Err (faults.Unexpected at))) ⊎ ((t : Expr) × IsOr (lexemes ts) t × AfterTree t v)

-- of a text's tokens and its lexical fault
abbrev AfterTokens : ℕ → List Placed → Option FilterFault → Result Expr FilterFault → Type 0
AfterTokens end ts (Some fault) v = v ≡ Err fault
AfterTokens end ts None v = (IsTooDeep (lexemes ts) × (v ≡ Err faults.TooDeep)) ⊎ ((IsTooDeep (lexemes ts) → ⊥) × AfterDepth end ts v)

abbrev AfterLength : List ℕ → Result Expr FilterFault → Type 0
AfterLength text v = (ts : List Placed) × (fault : Option FilterFault) × Lexes 0 text ts fault × AfterTokens (length text) ts fault v

abbrev Verdict : List ℕ → Result Expr FilterFault → Type 0
Verdict text v = ((3500 < length text) × (v ≡ Err faults.TooLong)) ⊎ ((length text ≤ 3500) × AfterLength text v)

lexical : (text : List ℕ) (fault : FilterFault) → HasLexicalFault text fault → Verdict text (Err fault)
lexical text fault h = inr (h.short, (h.tokens, Some fault, h.lexed, refl))

steps : (text : List ℕ) (v : Result Expr FilterFault) → IsVerdict text v → Verdict text v
steps text (Ok t) h = inr (h.read.short, (h.tokens, None, h.read.lexed, inr (h.read.shallow, inr (t, h.derived, inr (h.few, refl)))))
steps text (Err faults.TooLong) h = inl (h, refl)
steps text (Err (faults.BadByte at)) h = lexical text (faults.BadByte at) h
steps text (Err (faults.OpenString at)) h = lexical text (faults.OpenString at) h
steps text (Err (faults.NumberRange at)) h = lexical text (faults.NumberRange at) h
steps text (Err faults.TooDeep) h = inr (h.short, (h.tokens, None, h.lexed, inl (h.deep, refl)))
steps text (Err (faults.Unexpected at)) h = inr (h.read.short, (h.tokens, None, h.read.lexed, inr (h.read.shallow, inl (at, h.unexpected, refl))))
steps text (Err faults.TooMany) h = inr (h.read.short, (h.tokens, None, h.read.lexed, inr (h.read.shallow, inr (h.tree, h.derived, inl (h.many, refl)))))
steps text (Err faults.Memory) h = absurd h

same_tree : (t u : Expr) (v w : Result Expr FilterFault) → t ≡ u → AfterTree t v → AfterTree u w → v ≡ w
same_tree t u v w e (inl (many, a)) (inl (more, b)) = a ∙ sym b
same_tree t u v w e (inl (many, a)) (inr (few, b)) = let same : comparisons t ≡ comparisons u = ap comparisons e in absurd (omega arith)
same_tree t u v w e (inr (few, a)) (inl (many, b)) = let same : comparisons t ≡ comparisons u = ap comparisons e in absurd (omega arith)
same_tree t u v w e (inr (few, a)) (inr (fewer, b)) = a ∙ ap Ok e ∙ sym b

same_depth : (end : ℕ) (ts : List Placed) (v w : Result Expr FilterFault) → AfterDepth end ts v → AfterDepth end ts w → v ≡ w
same_depth end ts v w (inl (at, h, a)) (inl (place, k, b)) = a ∙ ap (λ n. Err (faults.Unexpected n)) (same_place end ts at place h k) ∙ sym b
same_depth end ts v w (inl (at, h, a)) (inr (t, k, b)) = absurd (never_wrong end ts at h (t, k))
same_depth end ts v w (inr (t, k, b)) (inl (at, h, a)) = absurd (never_wrong end ts at h (t, k))
same_depth end ts v w (inr (t, h, a)) (inr (u, k, b)) = same_tree t u v w (one_tree (lexemes ts) t u h k) a b

same_tokens : (end : ℕ) (ts : List Placed) (fault : Option FilterFault) (v w : Result Expr FilterFault) → AfterTokens end ts fault v → AfterTokens end ts fault w → v ≡ w
same_tokens end ts (Some fault) v w a b = a ∙ sym b
same_tokens end ts None v w (inl (deep, a)) (inl (deeper, b)) = a ∙ sym b
same_tokens end ts None v w (inl (deep, a)) (inr (shallow, b)) = absurd (shallow deep)
same_tokens end ts None v w (inr (shallow, b)) (inl (deep, a)) = absurd (shallow deep)
same_tokens end ts None v w (inr (shallow, a)) (inr (flat, b)) = same_depth end ts v w a b

same_steps : (text : List ℕ) (v w : Result Expr FilterFault) → Verdict text v → Verdict text w → v ≡ w
same_steps text v w (inl (long, a)) (inl (longer, b)) = a ∙ sym b
same_steps text v w (inl (long, a)) (inr (short, b)) = absurd (omega arith)
same_steps text v w (inr (short, b)) (inl (long, a)) = absurd (omega arith)
same_steps text v w (inr (short, a)) (inr (brief, b)) =
    let same = same_lexing text a.0 b.0 a.1 b.1 a.2 b.2 in
    same_tokens (length text) b.0 b.1 v w
    (subst (λ x. AfterTokens (length text) b.0 x v) same.1 (subst (λ ts. AfterTokens (length text) ts a.1 v) same.0 a.3))
    b.3

pub one_verdict : (text : List ℕ) (v w : Result Expr FilterFault) → IsVerdict text v → IsVerdict text w → v ≡ w
one_verdict text v w h k = same_steps text v w (steps text v h) (steps text w k)

-- what is given of a text's one verdict is the verdict, unless memory ran out
pub known : (text : List ℕ) (r v : Result Expr FilterFault) → Gives r v → IsVerdict text v → IfOk r (λ tree. IsFilter text tree) × IfErr r (λ fault. fault ≢ faults.Memory → IsFault text fault)
known text (Ok tree) v g h = (subst (IsVerdict text) g h, tt)
known text (Err fault) v g h = (tt, λ other. subst (IsVerdict text) (g other) h)

failed : (fault : FilterFault) (v : Result Expr FilterFault) → (fault ≢ faults.Memory → v ≡ Err fault) → IsAnswer v (Err fault)
failed faults.Memory v g = inr refl
failed faults.TooLong v g = inl (sym (g (λ e. cc)))
failed faults.TooDeep v g = inl (sym (g (λ e. cc)))
failed faults.TooMany v g = inl (sym (g (λ e. cc)))
failed (faults.BadByte at) v g = inl (sym (g (λ e. cc)))
failed (faults.OpenString at) v g = inl (sym (g (λ e. cc)))
failed (faults.NumberRange at) v g = inl (sym (g (λ e. cc)))
failed (faults.Unexpected at) v g = inl (sym (g (λ e. cc)))

-- what a text is, is answered, unless memory runs out
pub answered : (text : List ℕ) (r v w : Result Expr FilterFault) → Gives r v → IsVerdict text v → IsVerdict text w → IsAnswer w r
answered text (Ok tree) v w g h k = inl (sym g ∙ one_verdict text v w h k)
answered text (Err fault) v w g h k = subst (λ u. IsAnswer u (Err fault)) (one_verdict text v w h k) (failed fault v g)
