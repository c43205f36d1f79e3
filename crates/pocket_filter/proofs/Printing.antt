-- How the printed form grows, one level of a tree at a time.
use Rattle.std.proofs.Common.{◌≡◌, ℕ, suc, ◌<◌, ◌≤◌, ◌++◌, Bool, List, [], ◌∷◌, length, get_or, codes, flat_map, refl, ap, ◌∙◌, arith, encode_utf8}
use Rattle.std.proofs.lemmas.Bool.Decides.{nat_tests}
use Rattle.std.proofs.lemmas.List.{append-nil}
use Rattle.std.proofs.lemmas.List.Concat.{flat_map-append}
use Rattle.std.proofs.lemmas.Str.{encode_ascii}
use Rattle.pocket_types.proofs.PrintLemmas.{high_bytes}
use Rattle.pocket_types.specs.Inductions.{expr_test, expr_and, expr_or}
use Rattle.pocket_types.specs.declared.expr.Expr.{Expr}
use Rattle.pocket_types.specs.declared.expr.Expr.TheOpen as expr
use Rattle.pocket_types.specs.declared.expr.Expr.TheVariants as made
use Rattle.pocket_types.specs.declared.expr.Op.{Op}
use Rattle.pocket_types.specs.declared.expr.Operand.{Operand}
use Rattle.pocket_filter.specs.Lexing.{test_text}
use Rattle.pocket_filter.specs.Printed.{escape_byte, operand_lexeme, token_text, Top, comparison, conjunction, disjunction, Piece, wrapped, left_of_and, right_of_and, right_of_or, print_step, piece_of, printed}
use Rattle.pocket_filter.specs.Printing.{top_of, is_or, is_join, side}
use Rattle.pocket_filter.specs.Tokens.{Lexeme}

-- ---- texts

-- a byte that needs no escape
escape_kept : (b : ℕ) → 93 ≤ b → escape_byte b ≡ b ∷ []
escape_kept b h = grind (arith, nat_tests)

kept : (bs : List ℕ) → ((k : ℕ) → k < length bs → 128 ≤ get_or bs k 0) → flat_map escape_byte bs ≡ bs
kept [] h = refl
kept (b ∷ bs) h =
    let low : 128 ≤ b = h 0 (omega arith) in
    let here = escape_kept b (omega arith) in
    let more = kept bs (λ k l. h (suc k) (omega arith)) in
    rw (here, more) refl

pub escape_high : (c : ℕ) → 128 ≤ c → flat_map escape_byte (encode_utf8 c) ≡ encode_utf8 c
escape_high c h = kept (encode_utf8 c) (λ k l. high_bytes c k h l)

pub escape_low : (c : ℕ) → c < 128 → flat_map escape_byte (encode_utf8 c) ≡ escape_byte c
escape_low c h = rw (encode_ascii c h) (append-nil (escape_byte c))

-- ---- sides

wrapped_text : (tokens : List Lexeme) → flat_map token_text (wrapped tokens) ≡ 40 ∷ flat_map token_text tokens ++ 41 ∷ []
wrapped_text tokens = ap (λ s. 40 ∷ s) (flat_map-append token_text tokens (Lexeme.Close ∷ []))

left_of_and_text : (top : Top) (tokens : List Lexeme) → flat_map token_text (left_of_and top tokens) ≡ side (is_or top) (flat_map token_text tokens)
left_of_and_text comparison tokens = refl
left_of_and_text conjunction tokens = refl
left_of_and_text disjunction tokens = wrapped_text tokens

right_of_and_text : (top : Top) (tokens : List Lexeme) → flat_map token_text (right_of_and top tokens) ≡ side (is_join top) (flat_map token_text tokens)
right_of_and_text comparison tokens = refl
right_of_and_text conjunction tokens = wrapped_text tokens
right_of_and_text disjunction tokens = wrapped_text tokens

right_of_or_text : (top : Top) (tokens : List Lexeme) → flat_map token_text (right_of_or top tokens) ≡ side (is_or top) (flat_map token_text tokens)
right_of_or_text comparison tokens = refl
right_of_or_text conjunction tokens = refl
right_of_or_text disjunction tokens = wrapped_text tokens

-- ---- levels

and_text : (a b : Piece) → flat_map token_text (print_step (expr.And a b)).tokens ≡ side (is_or a.top) (flat_map token_text a.tokens) ++ (codes " && " ++ side (is_join b.top) (flat_map token_text b.tokens))
and_text a b =
    flat_map-append token_text (left_of_and a.top a.tokens) (Lexeme.And ∷ right_of_and b.top b.tokens)
    ∙ rw (left_of_and_text a.top a.tokens, right_of_and_text b.top b.tokens) refl

or_text : (a b : Piece) → flat_map token_text (print_step (expr.Or a b)).tokens ≡ flat_map token_text a.tokens ++ (codes " || " ++ side (is_or b.top) (flat_map token_text b.tokens))
or_text a b =
    flat_map-append token_text a.tokens (Lexeme.Or ∷ right_of_or b.top b.tokens)
    ∙ rw (right_of_or_text b.top b.tokens) refl

pub printed_test : (l : Operand) (any : Bool) (op : Op) (r : Operand) → printed (made.Test l any op r) ≡ token_text (operand_lexeme l) ++ ((32 ∷ test_text any op ++ 32 ∷ []) ++ token_text (operand_lexeme r))
printed_test l any op r =
    ap (λ p. flat_map token_text p.tokens) (expr_test Piece print_step l any op r)
    ∙ rw (append-nil (token_text (operand_lexeme r))) refl

pub printed_and : (a b : Expr) → printed (made.And a b) ≡ side (is_or (top_of a)) (printed a) ++ (codes " && " ++ side (is_join (top_of b)) (printed b))
printed_and a b =
    ap (λ p. flat_map token_text p.tokens) (expr_and Piece print_step a b) ∙ and_text (piece_of a) (piece_of b)

pub printed_or : (a b : Expr) → printed (made.Or a b) ≡ printed a ++ (codes " || " ++ side (is_or (top_of b)) (printed b))
printed_or a b =
    ap (λ p. flat_map token_text p.tokens) (expr_or Piece print_step a b) ∙ or_text (piece_of a) (piece_of b)
