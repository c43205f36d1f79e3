-- The printed form of a tree falls into its tokens.
use Rattle.std.proofs.Common.{◌≡◌, ◌≢◌, ℕ, suc, ◌+◌, ◌<◌, ◌≤◌, ◌^◌, ℤ, pos, negsuc, ◌⊎◌, inl, inr, Bool, true, false, List, [], ◌∷◌, ◌++◌, Option, Some, None, IfSome, length, take, drop, slice_index, codes, flat_map, refl, sym, ap, subst, ◌∙◌, arith, append_assoc, append-nil}
use Rattle.std.specs.Fmt.{decimal, signed_decimal}
use Rattle.std.specs.Prelude.{unsigned_abs, neg_ℤ, ◌==◌, ◌||◌}
use Rattle.std.specs.List.{AllByRecursion, list_all}
use Rattle.std.specs.Str.Parse.{AllDigits}
use Rattle.std.proofs.Math.Seq.{drop-append_seam, take-append_seam}
use Rattle.std.proofs.lemmas.Bool.{and_parts, eqb-false}
use Rattle.std.proofs.lemmas.Fmt.{decimal_is_IsNumeral}
use Rattle.std.proofs.lemmas.List.{length-append}
use Rattle.std.proofs.lemmas.List.Concat.{flat_map-append}
use Rattle.std.proofs.lemmas.Str.Parse.{digit_from_value}
use Rattle.pocket_types.specs.Inductions.{expr_test, expr_and, expr_or}
use Rattle.pocket_types.specs.Names.{is_word}
use Rattle.pocket_types.specs.declared.expr.Expr.{Expr}
use Rattle.pocket_types.specs.declared.expr.Op.{Op}
use Rattle.pocket_types.specs.declared.expr.Op.TheVariants.{Eq, Ne, Gt, Ge, Lt, Le, Like, Unlike}
use Rattle.pocket_types.specs.declared.expr.Operand.{Operand}
use Rattle.pocket_types.specs.declared.expr.Operand.TheVariants as operands
use Rattle.pocket_types.specs.declared.expr.Part.{Part}
use Rattle.pocket_types.specs.declared.faults.FilterFault.{FilterFault}
use Rattle.pocket_filter.specs.Faults.{Placed, lexemes, IsTooDeep}
use Rattle.pocket_filter.specs.Filters.{IsFilter}
use Rattle.pocket_filter.specs.Grammar.{IsOr}
use Rattle.pocket_filter.specs.Lexing.{op_text, test_text, IsName, suffix_text, part_text, IsPart, dotted, parts_text, ident_text, ArePath, IsIdent, Gives, nothing, itself, escaped, quoted, IsText, IsNumber, Spells, TakesLongest, IsInRange, TakesSeparator, Separates, blank, Lexes}
use Rattle.pocket_filter.specs.Lexing as lexing
use Rattle.pocket_filter.specs.Operands.{unescaped, inner, text_operand, ident_operand, operand}
use Rattle.pocket_filter.specs.Printed.{escape_byte, operand_lexeme, Top, comparison, conjunction, disjunction, Piece, wrapped, left_of_and, right_of_and, right_of_or, print_step, piece_of, printed_tokens, token_text, printed}
use Rattle.pocket_filter.specs.Tokens.{Lexeme}
use Rattle.pocket_filter.specs.Scanning.{class, closing}
use Rattle.pocket_filter.proofs.Fronts.{AtMost, longest_by}
use Rattle.pocket_filter.proofs.PrintedOperands.{ident_kept}
use Rattle.pocket_filter.proofs.PrintedTrees.{HasOperands, of_test, of_and, of_or, or_operands, printed_derived, printed_shallow}
use Rattle.pocket_filter.proofs.Spelled.{class_of, class_is, spelled_some}
use Rattle.pocket_filter.proofs.Texts.{closing_at}

-- ---- tokens that no blank and no closing parenthesis stands in

-- nothing follows, or a blank, or a closing parenthesis
abbrev Ends : List ℕ → Type 0
Ends [] = Unit {0}
Ends (b ∷ rest) = (b ≡ 32) ⊎ (b ≡ 41)

abbrev IsInside : ℕ → Type 0
IsInside b = (b ≢ 32) × (b ≢ 41)

abbrev AreInside : List ℕ → Type 0
AreInside bytes = AllByRecursion IsInside bytes

inside_append : (xs ys : List ℕ) → AreInside xs → AreInside ys → AreInside (xs ++ ys)
inside_append [] ys h g = g
inside_append (x ∷ xs) ys h g = (h.0, inside_append xs ys h.1 g)

word_inside : (b : ℕ) → is_word b ≡ true → IsInside b
word_inside b h = (λ e. cc, λ e. cc)

name_inside : (name : List ℕ) → list_all is_word name ≡ true → AreInside name
name_inside [] h = tt
name_inside (b ∷ name) h =
    let parts = and_parts (is_word b) (list_all is_word name) h in
    (word_inside b parts.0, name_inside name parts.1)

suffix_inside : (suffix : Option (List ℕ)) → IfSome suffix IsName → AreInside (suffix_text suffix)
suffix_inside None h = tt
suffix_inside (Some name) h = ((λ e. omega arith, λ e. omega arith), name_inside name h.1)

part_inside : (part : Part) → IsPart part → AreInside (part_text part)
part_inside part h = inside_append part.name (suffix_text part.suffix) (name_inside part.name h.name.1) (suffix_inside part.suffix h.suffix)

dotted_inside : (parts : List Part) → AllByRecursion IsPart parts → AreInside (dotted parts)
dotted_inside [] h = tt
dotted_inside (part ∷ parts) h = ((λ e. omega arith, λ e. omega arith), inside_append (part_text part) (dotted parts) (part_inside part h.0) (dotted_inside parts h.1))

path_inside : (parts : List Part) → AllByRecursion IsPart parts → AreInside (parts_text parts)
path_inside [] h = tt
path_inside (part ∷ parts) h = inside_append (part_text part) (dotted parts) (part_inside part h.0) (dotted_inside parts h.1)

ident_inside : (sign : Bool) (parts : List Part) → ArePath parts → AreInside (ident_text sign parts)
ident_inside true parts h = ((λ e. omega arith, λ e. omega arith), path_inside parts h.each)
ident_inside false parts h = path_inside parts h.each

digits_inside : (digits : List ℕ) → AllDigits 10 digits → AreInside digits
digits_inside [] h = tt
digits_inside (c ∷ cs) h = let digit = digit_from_value c h.0 in ((λ e. let low = digit.0 in omega arith, λ e. let low = digit.0 in omega arith), digits_inside cs h.1)

number_inside : (bytes : List ℕ) (n : ℤ) → IsNumber bytes n → AreInside bytes
number_inside bytes n (true, digits, h, e, _) = subst AreInside (sym e) ((λ e. omega arith, λ e. omega arith), digits_inside digits h.1)
number_inside bytes n (false, digits, h, e, _) = subst AreInside (sym e) (digits_inside digits h.1)

op_inside : (op : Op) → AreInside (op_text op)
op_inside Eq = ((λ e. omega arith, λ e. omega arith), tt)
op_inside Gt = ((λ e. omega arith, λ e. omega arith), tt)
op_inside Lt = ((λ e. omega arith, λ e. omega arith), tt)
op_inside Like = ((λ e. omega arith, λ e. omega arith), tt)
op_inside _ = ((λ e. omega arith, λ e. omega arith), ((λ e. omega arith, λ e. omega arith), tt))

test_inside : (any : Bool) (op : Op) → AreInside (test_text any op)
test_inside true op = ((λ e. omega arith, λ e. omega arith), op_inside op)
test_inside false op = op_inside op

-- a token that is no text
plain_inside : (bytes : List ℕ) (l : Lexeme) → Spells bytes l → class_of l ≢ 1 → (bytes ≡ 41 ∷ []) ⊎ AreInside bytes
plain_inside bytes Lexeme.Close s apart = inl s
plain_inside bytes Lexeme.Open s apart = inr (subst AreInside (sym s) ((λ e. omega arith, λ e. omega arith), tt))
plain_inside bytes Lexeme.And s apart = inr (subst AreInside (sym s) ((λ e. omega arith, λ e. omega arith), ((λ e. omega arith, λ e. omega arith), tt)))
plain_inside bytes Lexeme.Or s apart = inr (subst AreInside (sym s) ((λ e. omega arith, λ e. omega arith), ((λ e. omega arith, λ e. omega arith), tt)))
plain_inside bytes (Lexeme.Test any op) s apart = inr (subst AreInside (sym s) (test_inside any op))
plain_inside bytes (Lexeme.Ident written) s apart = let i = s.1 in inr (subst AreInside (sym i.3) (ident_inside i.0 i.1 i.2))
plain_inside bytes (Lexeme.Text written) s apart = absurd (apart refl)
plain_inside bytes (Lexeme.Number n) s apart = inr (number_inside bytes n s)

-- ---- the longest token

ends_outside : (b : ℕ) (rest : List ℕ) → Ends (b ∷ rest) → IsInside b → ⊥
ends_outside b rest (inl e) h = h.0 e
ends_outside b rest (inr e) h = h.1 e

within : (w token rest tail : List ℕ) → w ++ rest ≡ token ++ tail → Ends rest → AreInside token → length token ≤ length w
within w [] rest tail e ends h = omega arith
within [] (b ∷ token) [] tail e ends h = cc
within [] (b ∷ token) (c ∷ rest) tail e ends h =
    let same : c ≡ b = cc in
    absurd (ends_outside c rest ends (subst IsInside (sym same) h.0))
within (x ∷ w) (b ∷ token) rest tail e ends h =
    let further : w ++ rest ≡ token ++ tail = cc in
    let r = within w token rest tail further ends h.1 in
    omega arith

same_class : (w token rest tail : List ℕ) (l o : Lexeme) → w ++ rest ≡ token ++ tail → Spells w l → Spells token o → class_of o ≡ class_of l
same_class [] token rest tail l o e s t = absurd (spelled_some l s)
same_class (x ∷ w) [] rest tail l o e s t = absurd (spelled_some o t)
same_class (x ∷ w) (b ∷ token) rest tail l o e s t =
    let same : b ≡ x = cc in
    sym (class_is (b ∷ token) o t) ∙ ap class same ∙ class_is (x ∷ w) l s

spelled_length : (w : List ℕ) (l : Lexeme) → Spells w l → 1 ≤ length w
spelled_length [] l s = absurd (spelled_some l s)
spelled_length (x ∷ w) l s = omega arith

-- a token at the front is the longest one where none is longer
front_longest : (w rest : List ℕ) (l : Lexeme) → Spells w l → AtMost (w ++ rest) (length w) → TakesLongest (w ++ rest) (length w) l
front_longest w rest l s most =
    let front : take (length w) (w ++ rest) ≡ w = take-append_seam w rest in
    longest_by (w ++ rest) (length w) l (omega (arith, length-append w rest)) (subst (λ t. Spells t l) (sym front) s) most

plain_longest : (w rest : List ℕ) (l : Lexeme) → Spells w l → class_of l ≢ 1 → Ends rest → TakesLongest (w ++ rest) (length w) l
plain_longest w rest l s apart ends =
    front_longest w rest l s (λ token tail o e t.
    let same = same_class w token rest tail l o e s t in
    elim (plain_inside token o t (λ f. apart (sym same ∙ f))) [
      | inl close ↦ (let one : length token ≡ 1 = ap length close in let some = spelled_length w l s in omega arith)
      | inr inside ↦ within w token rest tail e ends inside
    ])

-- ---- texts

text_token : (token : List ℕ) (o : Lexeme) → class_of o ≡ 1 → Spells token o → IsText token
text_token token (Lexeme.Text written) e t = t.1
text_token token Lexeme.Open e t = absurd (omega arith)
text_token token Lexeme.Close e t = absurd (omega arith)
text_token token Lexeme.And e t = absurd (omega arith)
text_token token Lexeme.Or e t = absurd (omega arith)
text_token token (Lexeme.Test any op) e t = absurd (omega arith)
text_token token (Lexeme.Ident written) e t = absurd (omega arith)
text_token token (Lexeme.Number n) e t = absurd (omega arith)

quoted_then : (quote : ℕ) (written rest : List ℕ) → quoted quote written ++ rest ≡ quote ∷ (written ++ quote ∷ rest)
quoted_then quote written rest = ap (λ s. quote ∷ s) (append_assoc written (quote ∷ []) rest)

no_backslash : (b : ℕ) → b ≡ 34 → b ≢ 92
no_backslash b e f = omega arith

-- two texts at one place end at the same quote
texts_same : (written given rest other given2 tail : List ℕ) (quote : ℕ) → Gives 34 written given → Gives quote other given2
    → quoted 34 written ++ rest ≡ quoted quote other ++ tail → length written ≡ length other
texts_same written given rest other given2 tail quote g h e =
    let whole : 34 ∷ (written ++ 34 ∷ rest) ≡ quote ∷ (other ++ quote ∷ tail) = sym (quoted_then 34 written rest) ∙ e ∙ quoted_then quote other tail in
    let opens : quote ≡ 34 = cc in
    let inside : written ++ 34 ∷ rest ≡ other ++ 34 ∷ tail = cc in
    let apart = no_backslash 34 refl in
    let found : Some (0 + length written) ≡ Some (0 + length other) =
    sym (closing_at apart g 0 rest) ∙ ap (closing 34 false 0) inside ∙ closing_at apart (subst (λ q. Gives q other given2) opens h) 0 tail in
    let same : 0 + length written ≡ 0 + length other = cc in
    omega arith

text_longest : (written given rest : List ℕ) → Gives 34 written given → TakesLongest (quoted 34 written ++ rest) (length (quoted 34 written)) (Lexeme.Text (quoted 34 written))
text_longest written given rest g =
    let l = Lexeme.Text (quoted 34 written) in
    let s : Spells (quoted 34 written) l = (refl, (34, written, given, refl, g, refl)) in
    front_longest (quoted 34 written) rest l s (λ token tail o e t.
    let same = same_class (quoted 34 written) token rest tail l o e s t in
    let text = text_token token o same t in
    let even = texts_same written given rest text.1 text.2 tail text.0 g text.4 (e ∙ ap (λ x. x ++ tail) text.5) in
    let long = ap length text.5 in
    omega (arith, length-append written (34 ∷ []), length-append text.1 (text.0 ∷ [])))

-- ---- parentheses

op_first : (op : Op) → (slice_index (op_text op) 0 ≢ 40) × (slice_index (op_text op) 0 ≢ 41)
op_first Eq = (λ e. omega arith, λ e. omega arith)
op_first Ne = (λ e. omega arith, λ e. omega arith)
op_first Gt = (λ e. omega arith, λ e. omega arith)
op_first Ge = (λ e. omega arith, λ e. omega arith)
op_first Lt = (λ e. omega arith, λ e. omega arith)
op_first Le = (λ e. omega arith, λ e. omega arith)
op_first Like = (λ e. omega arith, λ e. omega arith)
op_first Unlike = (λ e. omega arith, λ e. omega arith)

test_first : (any : Bool) (op : Op) → (slice_index (test_text any op) 0 ≢ 40) × (slice_index (test_text any op) 0 ≢ 41)
test_first true op = (λ e. omega arith, λ e. omega arith)
test_first false op = op_first op

neither : (b : ℕ) → (b ≡ 40) ⊎ (b ≡ 41) → (b ≢ 40) × (b ≢ 41) → ⊥
neither b (inl e) h = h.0 e
neither b (inr e) h = h.1 e

paren_class : (b : ℕ) → (b ≡ 40) ⊎ (b ≡ 41) → class b ≡ 0
paren_class b (inl e) = ap class e
paren_class b (inr e) = ap class e

-- a token that begins with a parenthesis is one
paren_alone : (token : List ℕ) (o : Lexeme) → (slice_index token 0 ≡ 40) ⊎ (slice_index token 0 ≡ 41) → Spells token o → length token ≡ 1
paren_alone token Lexeme.Open h t = ap length t
paren_alone token Lexeme.Close h t = ap length t
paren_alone token Lexeme.And h t = absurd (neither 38 (subst (λ s. (slice_index s 0 ≡ 40) ⊎ (slice_index s 0 ≡ 41)) t h) (λ e. omega arith, λ e. omega arith))
paren_alone token Lexeme.Or h t = absurd (neither 124 (subst (λ s. (slice_index s 0 ≡ 40) ⊎ (slice_index s 0 ≡ 41)) t h) (λ e. omega arith, λ e. omega arith))
paren_alone token (Lexeme.Test any op) h t = absurd (neither (slice_index (test_text any op) 0) (subst (λ s. (slice_index s 0 ≡ 40) ⊎ (slice_index s 0 ≡ 41)) t h) (test_first any op))
paren_alone token (Lexeme.Ident written) h t = let apart : 0 ≡ class_of (Lexeme.Ident written) = sym (paren_class (slice_index token 0) h) ∙ class_is token (Lexeme.Ident written) t in absurd (omega arith)
paren_alone token (Lexeme.Text written) h t = let apart : 0 ≡ class_of (Lexeme.Text written) = sym (paren_class (slice_index token 0) h) ∙ class_is token (Lexeme.Text written) t in absurd (omega arith)
paren_alone token (Lexeme.Number n) h t = let apart : 0 ≡ class_of (Lexeme.Number n) = sym (paren_class (slice_index token 0) h) ∙ class_is token (Lexeme.Number n) t in absurd (omega arith)

paren_most : (b : ℕ) (rest : List ℕ) → (b ≡ 40) ⊎ (b ≡ 41) → AtMost (b ∷ rest) 1
paren_most b rest h [] tail o e t = omega arith
paren_most b rest h (c ∷ token) tail o e t =
    let same : b ≡ c = cc in
    let one = paren_alone (c ∷ token) o (subst (λ x. (x ≡ 40) ⊎ (x ≡ 41)) same h) t in
    omega arith

-- ---- reading on

-- from any place, the bytes are read as these tokens
abbrev LexesTo : List ℕ → List Lexeme → Type 0
LexesTo bytes ls = (at : ℕ) → (found : List Placed) × (lexemes found ≡ ls) × Lexes at bytes found None

end_read : LexesTo [] []
end_read at = ([], refl, lexing.done)

token_read : (w rest : List ℕ) (l : Lexeme) (more : List Lexeme) → TakesLongest (w ++ rest) (length w) l → IsInRange l → LexesTo rest more → LexesTo (w ++ rest) (l ∷ more)
token_read w rest l more t range next at =
    let n = next (at + length w) in
    let after : drop (length w) (w ++ rest) ≡ rest = drop-append_seam w rest in
    ((at, l) ∷ n.0, ap (λ s. l ∷ s) n.1, lexing.token t range (subst (λ bytes. Lexes (at + length w) bytes n.0 None) (sym after) n.2))

blank_read : (rest : List ℕ) (more : List Lexeme) → LexesTo rest more → LexesTo (32 ∷ rest) more
blank_read rest more next at =
    let n = next (at + 1) in
    let first : TakesSeparator (32 ∷ rest) 1 = record { within = omega arith; separates = blank refl } in
    (n.0, n.1, lexing.separator first n.2)

open_read : (rest : List ℕ) (more : List Lexeme) → LexesTo rest more → LexesTo (40 ∷ rest) (Lexeme.Open ∷ more)
open_read rest more next = token_read (40 ∷ []) rest Lexeme.Open more (front_longest (40 ∷ []) rest Lexeme.Open refl (paren_most 40 rest (inl refl))) tt next

close_read : (rest : List ℕ) (more : List Lexeme) → LexesTo rest more → LexesTo (41 ∷ rest) (Lexeme.Close ∷ more)
close_read rest more next = token_read (41 ∷ []) rest Lexeme.Close more (front_longest (41 ∷ []) rest Lexeme.Close refl (paren_most 41 rest (inr refl))) tt next

-- a token between blanks
spaced_read : (w rest : List ℕ) (l : Lexeme) (more : List Lexeme) → Spells w l → class_of l ≢ 1 → IsInRange l → LexesTo rest more → LexesTo (32 ∷ (w ++ 32 ∷ rest)) (l ∷ more)
spaced_read w rest l more s apart range next =
    blank_read (w ++ 32 ∷ rest) (l ∷ more) (token_read w (32 ∷ rest) l more (plain_longest w (32 ∷ rest) l s apart (inl refl)) range (blank_read rest more next))

-- ---- operands

-- a token as it stands in some text
abbrev pub IsWritten : Lexeme → Type 0
IsWritten l = (bytes : List ℕ) × Spells bytes l × IsInRange l

-- where a token is printed before a blank, a closing parenthesis or the end, it is the longest there
abbrev IsReadable : Lexeme → Type 0
IsReadable l = IsInRange l × ((rest : List ℕ) → Ends rest → TakesLongest (token_text l ++ rest) (length (token_text l)) l)

escape_gives : (text : List ℕ) → Gives 34 (flat_map escape_byte text) text
escape_gives [] = nothing
escape_gives (b ∷ text) = go (b == 34) (b == 92) refl refl (escape_gives text)
  where
    go : (t u : Bool) → (b == 34) ≡ t → (b == 92) ≡ u → Gives 34 (flat_map escape_byte text) text → Gives 34 (escape_byte b ++ flat_map escape_byte text) (b ∷ text)
    go true u e f g = let special : (b == 34 || b == 92) ≡ true = rw e refl in rw e (escaped special g)
    go false true e f g = let special : (b == 34 || b == 92) ≡ true = rw (e, f) refl in rw (e, f) (escaped special g)
    go false false e f g = rw (e, f) (itself (eqb-false b 34 e) (eqb-false b 92 f) g)

number_spelled : (n : ℤ) → unsigned_abs n < 2 ^ 53 → IsNumber (signed_decimal n) n
number_spelled (pos n) small =
    let d = decimal_is_IsNumeral n (omega arith) in
    (false, decimal n, d.0, refl, ap pos (sym d.1))
number_spelled (negsuc n) small =
    let d = decimal_is_IsNumeral (suc n) (omega arith) in
    (true, decimal (suc n), d.0, refl, ap (λ m. neg_ℤ (pos m)) (sym d.1))

readable : (l : Lexeme) (o : Operand) → IsWritten l → operand l ≡ Some o → IsReadable (operand_lexeme o)
readable (Lexeme.Ident written) o w e =
    let same : o ≡ ident_operand written = cc in
    let s = w.1 in
    let spelled : Spells written (Lexeme.Ident written) = (refl, subst IsIdent s.0 s.1) in
    let here : IsReadable (Lexeme.Ident written) = (tt, λ rest ends. plain_longest written rest (Lexeme.Ident written) spelled (λ e. omega arith) ends) in
    subst IsReadable (sym (ap operand_lexeme same ∙ ident_kept written)) here
readable (Lexeme.Text written) o w e =
    let same : o ≡ text_operand written = cc in
    let text = unescaped (slice_index written 0) (inner written) in
    let here : IsReadable (operand_lexeme (operands.Text text)) = (tt, λ rest ends. text_longest (flat_map escape_byte text) text rest (escape_gives text)) in
    subst (λ x. IsReadable (operand_lexeme x)) (sym same) here
readable (Lexeme.Number n) o w e =
    let same : o ≡ operands.Num n = cc in
    let spelled = number_spelled n w.2 in
    let here : IsReadable (Lexeme.Number n) = (w.2, λ rest ends. plain_longest (signed_decimal n) rest (Lexeme.Number n) spelled (λ e. omega arith) ends) in
    subst (λ x. IsReadable (operand_lexeme x)) (sym same) here
readable Lexeme.Open o w e = cc
readable Lexeme.Close o w e = cc
readable Lexeme.And o w e = cc
readable Lexeme.Or o w e = cc
readable (Lexeme.Test any op) o w e = cc

-- the tokens of a text stand in it
pub lexed_written : {at : ℕ} {bytes : List ℕ} {found : List Placed} {fault : Option FilterFault} → Lexes at bytes found fault → AllByRecursion IsWritten (lexemes found)
lexed_written lexing.done = tt
lexed_written (lexing.separator s next) = lexed_written next
lexed_written (lexing.token {n = n} {bytes = bytes} t range next) = ((take n bytes, t.spelled, range), lexed_written next)
lexed_written (lexing.over_range t out) = tt
lexed_written (lexing.open_text q none) = tt
lexed_written (lexing.no_token q s none) = tt

-- ---- trees

-- tokens are read from their printed form, whatever ends it
abbrev Reads : List Lexeme → Type 0
Reads ls = (rest : List ℕ) (more : List Lexeme) → Ends rest → LexesTo rest more → LexesTo (flat_map token_text ls ++ rest) (ls ++ more)

-- how a comparison lies before what follows it
laid_out : (a t b rest : List ℕ) → (a ++ ((32 ∷ t ++ 32 ∷ []) ++ (b ++ []))) ++ rest ≡ a ++ 32 ∷ (t ++ 32 ∷ (b ++ rest))
laid_out a t b rest =
    append_assoc a ((32 ∷ t ++ 32 ∷ []) ++ (b ++ [])) rest
    ∙ ap (λ s. a ++ 32 ∷ s) (append_assoc (t ++ 32 ∷ []) (b ++ []) rest ∙ append_assoc t (32 ∷ []) ((b ++ []) ++ rest) ∙ ap (λ s. t ++ 32 ∷ (s ++ rest)) (append-nil b))

reads_test : (left right : Operand) (any : Bool) (op : Op) → IsReadable (operand_lexeme left) → IsReadable (operand_lexeme right)
    → Reads (operand_lexeme left ∷ Lexeme.Test any op ∷ operand_lexeme right ∷ [])
reads_test left right any op l r rest more ends next =
    let a = operand_lexeme left in
    let b = operand_lexeme right in
    let last = token_read (token_text b) rest b more (r.1 rest ends) r.0 next in
    let middle = spaced_read (test_text any op) (token_text b ++ rest) (Lexeme.Test any op) (b ∷ more) refl (λ e. omega arith) tt last in
    let tail = 32 ∷ (test_text any op ++ 32 ∷ (token_text b ++ rest)) in
    let first = token_read (token_text a) tail a (Lexeme.Test any op ∷ b ∷ more) (l.1 tail (inl refl)) l.0 middle in
    subst (λ s. LexesTo s (a ∷ Lexeme.Test any op ∷ b ∷ more)) (sym (laid_out (token_text a) (test_text any op) (token_text b) rest)) first

-- tokens, and then one more that is printed as these bytes
reads_then : (s u : List Lexeme) (rest : List ℕ) (more : List Lexeme) → LexesTo (flat_map token_text s ++ (flat_map token_text u ++ rest)) (s ++ (u ++ more)) → LexesTo (flat_map token_text (s ++ u) ++ rest) ((s ++ u) ++ more)
reads_then s u rest more h =
    let bytes : flat_map token_text s ++ (flat_map token_text u ++ rest) ≡ flat_map token_text (s ++ u) ++ rest =
    sym (append_assoc (flat_map token_text s) (flat_map token_text u) rest) ∙ ap (λ x. x ++ rest) (sym (flat_map-append token_text s u)) in
    subst (λ x. LexesTo x ((s ++ u) ++ more)) bytes (subst (LexesTo _) (sym (append_assoc s u more)) h)

reads_and : (s u : List Lexeme) → Reads s → Reads u → Reads (s ++ Lexeme.And ∷ u)
reads_and s u h g rest more ends next =
    let second = g rest more ends next in
    let middle = spaced_read (codes "&&") (flat_map token_text u ++ rest) Lexeme.And (u ++ more) refl (λ e. omega arith) tt second in
    reads_then s (Lexeme.And ∷ u) rest more (h (32 ∷ 38 ∷ 38 ∷ 32 ∷ (flat_map token_text u ++ rest)) (Lexeme.And ∷ (u ++ more)) (inl refl) middle)

reads_or : (s u : List Lexeme) → Reads s → Reads u → Reads (s ++ Lexeme.Or ∷ u)
reads_or s u h g rest more ends next =
    let second = g rest more ends next in
    let middle = spaced_read (codes "||") (flat_map token_text u ++ rest) Lexeme.Or (u ++ more) refl (λ e. omega arith) tt second in
    reads_then s (Lexeme.Or ∷ u) rest more (h (32 ∷ 124 ∷ 124 ∷ 32 ∷ (flat_map token_text u ++ rest)) (Lexeme.Or ∷ (u ++ more)) (inl refl) middle)

reads_wrapped : (s : List Lexeme) → Reads s → Reads (wrapped s)
reads_wrapped s h rest more ends next =
    let inside = h (41 ∷ rest) (Lexeme.Close ∷ more) (inr refl) (close_read rest more next) in
    open_read (flat_map token_text (s ++ Lexeme.Close ∷ []) ++ rest) ((s ++ Lexeme.Close ∷ []) ++ more) (reads_then s (Lexeme.Close ∷ []) rest more inside)

reads_left : (top : Top) (s : List Lexeme) → Reads s → Reads (left_of_and top s)
reads_left comparison s h = h
reads_left conjunction s h = h
reads_left disjunction s h = reads_wrapped s h

reads_right : (top : Top) (s : List Lexeme) → Reads s → Reads (right_of_and top s)
reads_right comparison s h = h
reads_right conjunction s h = reads_wrapped s h
reads_right disjunction s h = reads_wrapped s h

reads_right_of_or : (top : Top) (s : List Lexeme) → Reads s → Reads (right_of_or top s)
reads_right_of_or comparison s h = h
reads_right_of_or conjunction s h = h
reads_right_of_or disjunction s h = reads_wrapped s h

reads : (t : Expr) → HasOperands IsWritten t → Reads (printed_tokens t)
reads t (of_test a b left right any op p e q f) =
    subst (λ x. Reads x.tokens) (sym (expr_test Piece print_step left any op right)) (reads_test left right any op (readable a left p e) (readable b right q f))
reads t (of_and a b h k) =
    subst (λ x. Reads x.tokens) (sym (expr_and Piece print_step a b))
    (reads_and _ _ (reads_left (piece_of a).top (piece_of a).tokens (reads a h)) (reads_right (piece_of b).top (piece_of b).tokens (reads b k)))
reads t (of_or a b h k) =
    subst (λ x. Reads x.tokens) (sym (expr_or Piece print_step a b))
    (reads_or _ _ (reads a h) (reads_right_of_or (piece_of b).top (piece_of b).tokens (reads b k)))

printed_lexed : (t : Expr) → HasOperands IsWritten t → LexesTo (printed t) (printed_tokens t)
printed_lexed t h =
    let all = reads t h [] [] tt end_read in
    subst (λ x. LexesTo x (printed_tokens t)) (append-nil (printed t)) (subst (LexesTo (printed t ++ [])) (append-nil (printed_tokens t)) all)

-- the printed form of a filter is a filter, with the same tree
pub printed_is_filter : (text : List ℕ) (t : Expr) → IsFilter text t → length (printed t) ≤ 3500 → IsFilter (printed t) t
printed_is_filter text t f short =
    let o = or_operands IsWritten (lexemes f.tokens) t f.derived (lexed_written f.read.lexed) in
    let found = printed_lexed t o 0 in
    record {
      tokens = found.0;
      read = record {
        short = short;
        lexed = found.2;
        shallow = λ deep. printed_shallow (lexemes f.tokens) t f.derived o f.read.shallow (subst IsTooDeep found.1 deep);
      };
      derived = subst (λ ls. IsOr ls t) (sym found.1) (printed_derived t o);
      few = f.few;
    }
