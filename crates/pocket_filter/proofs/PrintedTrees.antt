-- The tokens of a printed tree are in the grammar, and nest no deeper than any others with this tree.
use Rattle.std.proofs.Common.{◌≡◌, ℕ, zero, suc, ◌+◌, ◌-◌, ◌<◌, ◌≤◌, ◌⊎◌, inl, inr, Bool, true, false, List, [], ◌∷◌, ◌++◌, take, Some, refl, sym, subst, arith, append_assoc, append-nil}
use Rattle.std.specs.Prelude.{max}
use Rattle.std.specs.List.{AllByRecursion}
use Rattle.pocket_types.specs.Inductions.{expr_test, expr_and, expr_or}
use Rattle.pocket_types.specs.declared.expr.Expr.{Expr, fold-Expr}
use Rattle.pocket_types.specs.declared.expr.Expr.TheOpen as expr
use Rattle.pocket_types.specs.declared.expr.Expr.TheOpen.{Expr-F}
use Rattle.pocket_types.specs.declared.expr.Expr.TheVariants as made
use Rattle.pocket_types.specs.declared.expr.Op.{Op}
use Rattle.pocket_types.specs.declared.expr.Operand.{Operand}
use Rattle.pocket_types.specs.declared.expr.Operand.TheVariants as operands
use Rattle.pocket_filter.specs.Faults.{open_after, IsTooDeep}
use Rattle.pocket_filter.specs.Grammar.{IsOr, IsAnd, IsUnit, only_and, join_or, only_unit, join_and, group, test}
use Rattle.pocket_filter.specs.Operands.{operand}
use Rattle.pocket_filter.specs.Printed.{operand_lexeme, Top, comparison, conjunction, disjunction, Piece, wrapped, left_of_and, right_of_and, right_of_or, print_step, piece_of, printed_tokens}
use Rattle.pocket_filter.specs.Tokens.{Lexeme}
use Rattle.pocket_filter.proofs.PrintedOperands.{operand_kept}

-- ---- what the operands of a tree are

-- each operand of a tree is one of a token of which this holds
pub data HasOperands (P : Lexeme → Type 0) : Expr → Type 0 where
  of_test : (a b : Lexeme) (left right : Operand) (any : Bool) (op : Op) → P a → operand a ≡ Some left → P b → operand b ≡ Some right → HasOperands P (made.Test left any op right)
  of_and : (t v : Expr) → HasOperands P t → HasOperands P v → HasOperands P (made.And t v)
  of_or : (t v : Expr) → HasOperands P t → HasOperands P v → HasOperands P (made.Or t v)

all_left : (P : Lexeme → Type 0) (s u : List Lexeme) → AllByRecursion P (s ++ u) → AllByRecursion P s
all_left P [] u h = tt
all_left P (x ∷ s) u h = (h.0, all_left P s u h.1)

all_right : (P : Lexeme → Type 0) (s u : List Lexeme) → AllByRecursion P (s ++ u) → AllByRecursion P u
all_right P [] u h = h
all_right P (x ∷ s) u h = all_right P s u h.1

mutual
  pub or_operands : (P : Lexeme → Type 0) (s : List Lexeme) (t : Expr) → IsOr s t → AllByRecursion P s → HasOperands P t
  or_operands P s t (only_and _ _ h) all = and_operands P s t h all
  or_operands P s t (join_or s1 u t1 v h k) all =
      of_or t1 v (or_operands P s1 t1 h (all_left P s1 (Lexeme.Or ∷ u) all)) (and_operands P u v k ((all_right P s1 (Lexeme.Or ∷ u) all).1))

  and_operands : (P : Lexeme → Type 0) (s : List Lexeme) (t : Expr) → IsAnd s t → AllByRecursion P s → HasOperands P t
  and_operands P s t (only_unit _ _ h) all = unit_operands P s t h all
  and_operands P s t (join_and s1 u t1 v h k) all =
      of_and t1 v (and_operands P s1 t1 h (all_left P s1 (Lexeme.And ∷ u) all)) (unit_operands P u v k ((all_right P s1 (Lexeme.And ∷ u) all).1))

  unit_operands : (P : Lexeme → Type 0) (s : List Lexeme) (t : Expr) → IsUnit s t → AllByRecursion P s → HasOperands P t
  unit_operands P s t (group s1 _ h) all = or_operands P s1 t h (all_left P s1 (Lexeme.Close ∷ []) all.1)
  unit_operands P s t (test a b any op left right e f) all = of_test a b left right any op all.0 e all.1.1.0 f

-- ---- the grammar

-- the tokens of a tree, as each part of the grammar takes them
record Derives (p : Piece) (t : Expr) : Type 0 where
  unit : IsUnit (right_of_and p.top p.tokens) t
  and : IsAnd (left_of_and p.top p.tokens) t
  or : IsOr p.tokens t

right_of_or_is : (top : Top) (s : List Lexeme) → right_of_or top s ≡ left_of_and top s
right_of_or_is comparison s = refl
right_of_or_is conjunction s = refl
right_of_or_is disjunction s = refl

derives_test : (left right : Operand) (any : Bool) (op : Op) → operand (operand_lexeme left) ≡ Some left → operand (operand_lexeme right) ≡ Some right
    → Derives (print_step (expr.Test left any op right)) (made.Test left any op right)
derives_test left right any op e f =
    let unit = test (operand_lexeme left) (operand_lexeme right) any op left right e f in
    record { unit = unit; and = only_unit _ _ unit; or = only_and _ _ (only_unit _ _ unit) }

derives_and : (p q : Piece) (a b : Expr) → Derives p a → Derives q b → Derives (print_step (expr.And p q)) (made.And a b)
derives_and p q a b h k =
    let and = join_and (left_of_and p.top p.tokens) (right_of_and q.top q.tokens) a b h.and k.unit in
    let or = only_and _ _ and in
    record { unit = group _ _ or; and = and; or = or }

derives_or : (p q : Piece) (a b : Expr) → Derives p a → Derives q b → Derives (print_step (expr.Or p q)) (made.Or a b)
derives_or p q a b h k =
    let right = subst (λ s. IsAnd s b) (sym (right_of_or_is q.top q.tokens)) k.and in
    let or = join_or p.tokens (right_of_or q.top q.tokens) a b h.or right in
    let unit = group _ _ or in
    record { unit = unit; and = only_unit _ _ unit; or = or }

derives : {P : Lexeme → Type 0} (t : Expr) → HasOperands P t → Derives (piece_of t) t
derives t (of_test a b left right any op p e q f) =
    subst (λ x. Derives x t) (sym (expr_test Piece print_step left any op right)) (derives_test left right any op (operand_kept a left e) (operand_kept b right f))
derives t (of_and a b h k) =
    subst (λ x. Derives x t) (sym (expr_and Piece print_step a b)) (derives_and (piece_of a) (piece_of b) a b (derives a h) (derives b k))
derives t (of_or a b h k) =
    subst (λ x. Derives x t) (sym (expr_or Piece print_step a b)) (derives_or (piece_of a) (piece_of b) a b (derives a h) (derives b k))

-- the tokens of a printed tree are in the grammar, with this tree
pub printed_derived : {P : Lexeme → Type 0} (t : Expr) → HasOperands P t → IsOr (printed_tokens t) t
printed_derived t h = (derives t h).or

-- ---- depth

-- from n parentheses that are open, no prefix of the tokens opens more than k
abbrev Stays : ℕ → ℕ → List Lexeme → Type 0
Stays k n [] = n ≤ k
Stays k n (Lexeme.Open ∷ ls) = (n ≤ k) × Stays k (n + 1) ls
Stays k n (Lexeme.Close ∷ ls) = (n ≤ k) × Stays k (n - 1) ls
Stays k n (_ ∷ ls) = (n ≤ k) × Stays k n ls

stays_from : (k n : ℕ) (ls : List Lexeme) → ((i : ℕ) → open_after n (take i ls) ≤ k) → Stays k n ls
stays_from k n [] h = h 0
stays_from k n (Lexeme.Open ∷ ls) h = (h 0, stays_from k (n + 1) ls (λ i. h (suc i)))
stays_from k n (Lexeme.Close ∷ ls) h = (h 0, stays_from k (n - 1) ls (λ i. h (suc i)))
stays_from k n (_ ∷ ls) h = (h 0, stays_from k n ls (λ i. h (suc i)))

stays_here : (k n : ℕ) (ls : List Lexeme) → Stays k n ls → n ≤ k
stays_here k n [] h = h
stays_here k n (Lexeme.Open ∷ ls) h = h.0
stays_here k n (Lexeme.Close ∷ ls) h = h.0
stays_here k n (_ ∷ ls) h = h.0

stays_to : (k n : ℕ) (ls : List Lexeme) → Stays k n ls → (i : ℕ) → open_after n (take i ls) ≤ k
stays_to k n ls h zero = stays_here k n ls h
stays_to k n [] h (suc i) = h
stays_to k n (Lexeme.Open ∷ ls) h (suc i) = stays_to k (n + 1) ls h.1 i
stays_to k n (Lexeme.Close ∷ ls) h (suc i) = stays_to k (n - 1) ls h.1 i
stays_to k n (_ ∷ ls) h (suc i) = stays_to k n ls h.1 i

-- what stands at the top of a tree, and how deep parentheses nest that it can't do without
record Nest : Type 0 where
  top : Top
  depth : ℕ

-- the depth of the left side of an `&&`, and of the right side of an `||`
abbrev and_depth : Top → ℕ → ℕ
and_depth comparison n = n
and_depth conjunction n = n
and_depth disjunction n = n + 1

-- the depth of the right side of an `&&`
abbrev unit_depth : Top → ℕ → ℕ
unit_depth comparison n = n
unit_depth conjunction n = n + 1
unit_depth disjunction n = n + 1

abbrev nest_step : Expr-F Nest → Nest
nest_step (expr.Test left any op right) = record { top = comparison; depth = 0 }
nest_step (expr.And a b) = record { top = conjunction; depth = max (and_depth a.top a.depth) (unit_depth b.top b.depth) }
nest_step (expr.Or a b) = record { top = disjunction; depth = max a.depth (and_depth b.top b.depth) }

abbrev nest_of : Expr → Nest
nest_of = fold-Expr Nest nest_step

-- ---- tokens with a tree nest as deep as the tree needs

and_least : (top : Top) (n : ℕ) → n ≤ and_depth top n
and_least comparison n = omega arith
and_least conjunction n = omega arith
and_least disjunction n = omega arith

and_to_unit : (top : Top) (n : ℕ) → and_depth top n ≤ unit_depth top n
and_to_unit comparison n = omega arith
and_to_unit conjunction n = omega arith
and_to_unit disjunction n = omega arith

unit_most : (top : Top) (n : ℕ) → unit_depth top n ≤ n + 1
unit_most comparison n = omega arith
unit_most conjunction n = omega arith
unit_most disjunction n = omega arith

-- after tokens that need this depth
abbrev Needs : ℕ → List Lexeme → Type 0
Needs depth s = (k n : ℕ) (rest : List Lexeme) → Stays k n (s ++ rest) → (n + depth ≤ k) × Stays k n rest

needs_less : (d e : ℕ) (s : List Lexeme) → d ≤ e → Needs e s → Needs d s
needs_less d e s le h k n rest st = let r = h k n rest st in (let deep = r.0 in omega arith, r.1)

operand_passed : (k n : ℕ) (a : Lexeme) (o : Operand) (rest : List Lexeme) → operand a ≡ Some o → Stays k n (a ∷ rest) → Stays k n rest
operand_passed k n Lexeme.Open o rest e h = cc
operand_passed k n Lexeme.Close o rest e h = cc
operand_passed k n _ o rest e h = h.1

test_needs : (a b : Lexeme) (any : Bool) (op : Op) (left right : Operand) → operand a ≡ Some left → operand b ≡ Some right → Needs 0 (a ∷ Lexeme.Test any op ∷ b ∷ [])
test_needs a b any op left right e f k n rest h =
    let here = stays_here k n (a ∷ Lexeme.Test any op ∷ b ∷ rest) h in
    let second = operand_passed k n a left (Lexeme.Test any op ∷ b ∷ rest) e h in
    (omega arith, operand_passed k n b right rest f second.1)

group_needs : (d : ℕ) (s : List Lexeme) → Needs d s → Needs (d + 1) (Lexeme.Open ∷ s ++ Lexeme.Close ∷ [])
group_needs d s h k n rest st =
    let inside = subst (Stays k (n + 1)) (append_assoc s (Lexeme.Close ∷ []) rest) st.1 in
    let r = h k (n + 1) (Lexeme.Close ∷ rest) inside in
    let back : n + 1 - 1 ≡ n = omega arith in
    (let deep = r.0 in omega arith, subst (λ m. Stays k m rest) back r.1.1)

and_joined_needs : (d e : ℕ) (s u : List Lexeme) → Needs d s → Needs e u → Needs (max d e) (s ++ Lexeme.And ∷ u)
and_joined_needs d e s u h g k n rest st =
    let first = h k n (Lexeme.And ∷ u ++ rest) (subst (Stays k n) (append_assoc s (Lexeme.And ∷ u) rest) st) in
    let second = g k n rest first.1.1 in
    (let a = first.0 in let b = second.0 in omega arith, second.1)

or_joined_needs : (d e : ℕ) (s u : List Lexeme) → Needs d s → Needs e u → Needs (max d e) (s ++ Lexeme.Or ∷ u)
or_joined_needs d e s u h g k n rest st =
    let first = h k n (Lexeme.Or ∷ u ++ rest) (subst (Stays k n) (append_assoc s (Lexeme.Or ∷ u) rest) st) in
    let second = g k n rest first.1.1 in
    (let a = first.0 in let b = second.0 in omega arith, second.1)

mutual
  or_needs : (s : List Lexeme) (t : Expr) → IsOr s t → Needs (nest_of t).depth s
  or_needs s t (only_and _ _ h) = needs_less _ _ s (and_least (nest_of t).top (nest_of t).depth) (and_needs s t h)
  or_needs s t (join_or s1 u a b h k) =
      subst (λ m. Needs m.depth s) (sym (expr_or Nest nest_step a b)) (or_joined_needs _ _ s1 u (or_needs s1 a h) (and_needs u b k))

  and_needs : (s : List Lexeme) (t : Expr) → IsAnd s t → Needs (and_depth (nest_of t).top (nest_of t).depth) s
  and_needs s t (only_unit _ _ h) = needs_less _ _ s (and_to_unit (nest_of t).top (nest_of t).depth) (unit_needs s t h)
  and_needs s t (join_and s1 u a b h k) =
      subst (λ m. Needs (and_depth m.top m.depth) s) (sym (expr_and Nest nest_step a b)) (and_joined_needs _ _ s1 u (and_needs s1 a h) (unit_needs u b k))

  unit_needs : (s : List Lexeme) (t : Expr) → IsUnit s t → Needs (unit_depth (nest_of t).top (nest_of t).depth) s
  unit_needs s t (group s1 _ h) = needs_less _ _ s (unit_most (nest_of t).top (nest_of t).depth) (group_needs _ s1 (or_needs s1 t h))
  unit_needs s t (test a b any op left right e f) =
      subst (λ m. Needs (unit_depth m.top m.depth) s) (sym (expr_test Nest nest_step left any op right)) (test_needs a b any op left right e f)

-- ---- printed tokens nest no deeper than that

abbrev Allows : ℕ → List Lexeme → Type 0
Allows depth s = (k n : ℕ) (rest : List Lexeme) → n + depth ≤ k → Stays k n rest → Stays k n (s ++ rest)

record Fits (p : Piece) (m : Nest) : Type 0 where
  same_top : p.top ≡ m.top
  allows : Allows m.depth p.tokens

operand_over : (k n : ℕ) (o : Operand) (rest : List Lexeme) → Stays k n rest → Stays k n (operand_lexeme o ∷ rest)
operand_over k n (operands.Ident sign parts) rest h = (stays_here k n rest h, h)
operand_over k n (operands.Text text) rest h = (stays_here k n rest h, h)
operand_over k n (operands.Num i) rest h = (stays_here k n rest h, h)
operand_over k n (operands.Flag true) rest h = (stays_here k n rest h, h)
operand_over k n (operands.Flag false) rest h = (stays_here k n rest h, h)
operand_over k n operands.Null rest h = (stays_here k n rest h, h)

wrapped_allows : (d : ℕ) (s : List Lexeme) → Allows d s → Allows (d + 1) (wrapped s)
wrapped_allows d s h k n rest deep st =
    let back : n ≡ n + 1 - 1 = omega arith in
    let after : Stays k (n + 1) (Lexeme.Close ∷ rest) = (omega arith, subst (λ m. Stays k m rest) back st) in
    (omega arith, subst (Stays k (n + 1)) (sym (append_assoc s (Lexeme.Close ∷ []) rest)) (h k (n + 1) (Lexeme.Close ∷ rest) (omega arith) after))

left_allows : (top : Top) (d : ℕ) (s : List Lexeme) → Allows d s → Allows (and_depth top d) (left_of_and top s)
left_allows comparison d s h = h
left_allows conjunction d s h = h
left_allows disjunction d s h = wrapped_allows d s h

right_allows : (top : Top) (d : ℕ) (s : List Lexeme) → Allows d s → Allows (unit_depth top d) (right_of_and top s)
right_allows comparison d s h = h
right_allows conjunction d s h = wrapped_allows d s h
right_allows disjunction d s h = wrapped_allows d s h

right_of_or_allows : (top : Top) (d : ℕ) (s : List Lexeme) → Allows d s → Allows (and_depth top d) (right_of_or top s)
right_of_or_allows top d s h = subst (Allows (and_depth top d)) (sym (right_of_or_is top s)) (left_allows top d s h)

and_allows : (d e : ℕ) (s u : List Lexeme) → Allows d s → Allows e u → Allows (max d e) (s ++ Lexeme.And ∷ u)
and_allows d e s u h g k n rest deep st =
    let after = g k n rest (omega arith) st in
    subst (Stays k n) (sym (append_assoc s (Lexeme.And ∷ u) rest)) (h k n (Lexeme.And ∷ u ++ rest) (omega arith) (omega arith, after))

or_allows : (d e : ℕ) (s u : List Lexeme) → Allows d s → Allows e u → Allows (max d e) (s ++ Lexeme.Or ∷ u)
or_allows d e s u h g k n rest deep st =
    let after = g k n rest (omega arith) st in
    subst (Stays k n) (sym (append_assoc s (Lexeme.Or ∷ u) rest)) (h k n (Lexeme.Or ∷ u ++ rest) (omega arith) (omega arith, after))

fits_test : (left right : Operand) (any : Bool) (op : Op) → Fits (print_step (expr.Test left any op right)) (nest_step (expr.Test left any op right))
fits_test left right any op = record {
  same_top = refl;
  allows = λ k n rest deep st.
      let last = operand_over k n right rest st in
      let middle : Stays k n (Lexeme.Test any op ∷ operand_lexeme right ∷ rest) = (stays_here k n (operand_lexeme right ∷ rest) last, last) in
      operand_over k n left (Lexeme.Test any op ∷ operand_lexeme right ∷ rest) middle;
}

fits_and : (p q : Piece) (a b : Nest) → Fits p a → Fits q b → Fits (print_step (expr.And p q)) (nest_step (expr.And a b))
fits_and p q a b h g = record {
  same_top = refl;
  allows =
      let left = subst (λ t. Allows (and_depth t a.depth) (left_of_and p.top p.tokens)) h.same_top (left_allows p.top a.depth p.tokens h.allows) in
      let right = subst (λ t. Allows (unit_depth t b.depth) (right_of_and q.top q.tokens)) g.same_top (right_allows q.top b.depth q.tokens g.allows) in
      and_allows _ _ _ _ left right;
}

fits_or : (p q : Piece) (a b : Nest) → Fits p a → Fits q b → Fits (print_step (expr.Or p q)) (nest_step (expr.Or a b))
fits_or p q a b h g = record {
  same_top = refl;
  allows =
      let right = subst (λ t. Allows (and_depth t b.depth) (right_of_or q.top q.tokens)) g.same_top (right_of_or_allows q.top b.depth q.tokens g.allows) in
      or_allows _ _ _ _ h.allows right;
}

fits : {P : Lexeme → Type 0} (t : Expr) → HasOperands P t → Fits (piece_of t) (nest_of t)
fits t (of_test a b left right any op p e q f) =
    subst (λ m. Fits (piece_of t) m) (sym (expr_test Nest nest_step left any op right))
    (subst (λ p. Fits p (nest_step (expr.Test left any op right))) (sym (expr_test Piece print_step left any op right)) (fits_test left right any op))
fits t (of_and a b h k) =
    subst (λ m. Fits (piece_of t) m) (sym (expr_and Nest nest_step a b))
    (subst (λ p. Fits p (nest_step (expr.And (nest_of a) (nest_of b)))) (sym (expr_and Piece print_step a b)) (fits_and (piece_of a) (piece_of b) (nest_of a) (nest_of b) (fits a h) (fits b k)))
fits t (of_or a b h k) =
    subst (λ m. Fits (piece_of t) m) (sym (expr_or Nest nest_step a b))
    (subst (λ p. Fits p (nest_step (expr.Or (nest_of a) (nest_of b)))) (sym (expr_or Piece print_step a b)) (fits_or (piece_of a) (piece_of b) (nest_of a) (nest_of b) (fits a h) (fits b k)))

at_most_or_over : (n : ℕ) → (n ≤ 16) ⊎ (16 < n)
at_most_or_over n = grind arith

shallow_at : (ls : List Lexeme) → (IsTooDeep ls → ⊥) → (i : ℕ) → open_after 0 (take i ls) ≤ 16
shallow_at ls h i = elim (at_most_or_over (open_after 0 (take i ls))) [ inl most ↦ most | inr over ↦ absurd (h (i, over)) ]

-- where any tokens with this tree aren't too deep, the printed ones aren't
pub printed_shallow : {P : Lexeme → Type 0} (s : List Lexeme) (t : Expr) → IsOr s t → HasOperands P t → (IsTooDeep s → ⊥) → IsTooDeep (printed_tokens t) → ⊥
printed_shallow s t h o shallow deep =
    let from = subst (Stays 16 0) (sym (append-nil s)) (stays_from 16 0 s (shallow_at s shallow)) in
    let least = (or_needs s t h 16 0 [] from).0 in
    let within = (fits t o).allows 16 0 [] least (omega arith) in
    let bound = stays_to 16 0 (printed_tokens t) (subst (Stays 16 0) (append-nil (printed_tokens t)) within) deep.0 in
    let over = deep.1 in
    omega arith
