-- The parser reads exactly the grammar.
use Rattle.std.proofs.Common.{◌≡◌, List, [], ◌∷◌, ◌++◌, Option, Some, None, Bool, refl, sym, ap, ◌∙◌}
use Rattle.std.specs.Prelude.{option_and_then, option_map}
use Rattle.pocket_types.specs.declared.expr.Expr.{Expr}
use Rattle.pocket_types.specs.declared.expr.Expr.TheVariants as made
use Rattle.pocket_types.specs.declared.expr.Op.{Op}
use Rattle.pocket_types.specs.declared.expr.Operand.{Operand}
use Rattle.pocket_filter.specs.declared.parser.Group.{Group}
use Rattle.pocket_filter.specs.declared.parser.Want.{Want}
use Rattle.pocket_filter.specs.declared.parser.Want.TheVariants as want
use Rattle.pocket_filter.specs.Grammar.{IsOr, IsAnd, IsUnit, only_and, join_or, only_unit, join_and, group, test}
use Rattle.pocket_filter.specs.Operands.{operand}
use Rattle.pocket_filter.specs.Tokens.{Lexeme}
use Rattle.pocket_filter.specs.Parsing.{State, start, with_and, with_or, with_unit, feed, feed_unit, feeds, finish}
use Rattle.pocket_filter.specs.Faults.{HasTree, BeginsFilter}

-- ---- tokens one after another

feeds_more : (xs ys : List Lexeme) (o : Option State) → ((s : State) → feeds s (xs ++ ys) ≡ option_and_then (λ t. feeds t ys) (feeds s xs))
    → option_and_then (λ t. feeds t (xs ++ ys)) o ≡ option_and_then (λ t. feeds t ys) (option_and_then (λ t. feeds t xs) o)
feeds_more xs ys None h = refl
feeds_more xs ys (Some t) h = h t

pub feeds-append : (s : State) (xs ys : List Lexeme) → feeds s (xs ++ ys) ≡ option_and_then (λ t. feeds t ys) (feeds s xs)
feeds-append s [] ys = refl
feeds-append s (x ∷ xs) ys = feeds_more xs ys (feed s x) (λ t. feeds-append t xs ys)

-- tokens after tokens that lead to a state
pub feeds_on : (s t : State) (xs ys : List Lexeme) → feeds s xs ≡ Some t → feeds s (xs ++ ys) ≡ feeds t ys
feeds_on s t xs ys e = feeds-append s xs ys ∙ ap (option_and_then (λ u. feeds u ys)) e

-- one token more
pub feeds_then : (s t : State) (x : Lexeme) (xs : List Lexeme) → feed s x ≡ Some t → feeds s (x ∷ xs) ≡ feeds t xs
feeds_then s t x xs e = ap (option_and_then (λ u. feeds u xs)) e

-- ---- a tree of the grammar is read

abbrev here : List Group → Option Expr → Option Expr → Want → State
here outer o a w = record { outer = outer; group = record { or = o; and = a }; want = w }

feed_operand : (outer : List Group) (g : Group) (x : Lexeme) (l : Operand) → operand x ≡ Some l
    → feed_unit outer g x ≡ Some (record { outer = outer; group = g; want = want.Op l })
feed_operand outer g Lexeme.Open l e = cc
feed_operand outer g _ l e = ap (option_map (λ left. record { outer = outer; group = g; want = want.Op left })) e

feed_first : (outer : List Group) (o a : Option Expr) (x : Lexeme) (l : Operand) → operand x ≡ Some l → feed (here outer o a want.Unit) x ≡ Some (here outer o a (want.Op l))
unfolding feed
feed_first outer o a x l e = feed_operand outer (record { or = o; and = a }) x l e

feed_test : (outer : List Group) (o a : Option Expr) (l : Operand) (any : Bool) (op : Op) → feed (here outer o a (want.Op l)) (Lexeme.Test any op) ≡ Some (here outer o a (want.Right l any op))
unfolding feed
feed_test outer o a l any op = refl

feed_second : (outer : List Group) (o a : Option Expr) (l : Operand) (any : Bool) (op : Op) (y : Lexeme) (r : Operand) → operand y ≡ Some r
    → feed (here outer o a (want.Right l any op)) y ≡ Some (here outer o None (want.Join (with_and a (made.Test l any op r))))
unfolding feed
feed_second outer o a l any op y r e = ap (option_map (λ right. with_unit outer (record { or = o; and = a }) (made.Test l any op right))) e

feed_open : (outer : List Group) (o a : Option Expr) → feed (here outer o a want.Unit) Lexeme.Open ≡ Some (here (record { or = o; and = a } ∷ outer) None None want.Unit)
unfolding feed
feed_open outer o a = refl

feed_closing : (outer : List Group) (o a left : Option Expr) (last : Expr)
    → feed (here (record { or = o; and = a } ∷ outer) left None (want.Join last)) Lexeme.Close ≡ Some (here outer o None (want.Join (with_and a (with_or left last))))
unfolding feed
feed_closing outer o a left last = refl

feed_and : (outer : List Group) (o : Option Expr) (t : Expr) → feed (here outer o None (want.Join t)) Lexeme.And ≡ Some (here outer o (Some t) want.Unit)
unfolding feed
feed_and outer o t = refl

feed_or : (outer : List Group) (o : Option Expr) (t : Expr) → feed (here outer o None (want.Join t)) Lexeme.Or ≡ Some (here outer (Some (with_or o t)) None want.Unit)
unfolding feed
feed_or outer o t = refl

-- what the parser holds after an `or`: its last `and`, and what that is joined to
record EndsOr (outer : List Group) (w : List Lexeme) (t : Expr) : Type 0 where
  left : Option Expr
  last : Expr
  reads : feeds (here outer None None want.Unit) w ≡ Some (here outer left None (want.Join last))
  joined : with_or left last ≡ t

-- one more `and`
ends_or : (outer : List Group) (s u : List Lexeme) (v x : Expr) → EndsOr outer s v
    → ((o : Option Expr) → feeds (here outer o None want.Unit) u ≡ Some (here outer o None (want.Join x))) → EndsOr outer (s ++ Lexeme.Or ∷ u) (made.Or v x)
ends_or outer s u v x h k = record {
  left = Some v;
  last = x;
  reads = feeds_on _ _ s (Lexeme.Or ∷ u) h.reads ∙ feeds_then _ _ Lexeme.Or u (feed_or outer h.left h.last)
      ∙ ap (λ t. feeds (here outer (Some t) None want.Unit) u) h.joined ∙ k (Some v);
  joined = refl;
}

-- one more unit
ends_and : (outer : List Group) (o : Option Expr) (s u : List Lexeme) (v x : Expr) → feeds (here outer o None want.Unit) s ≡ Some (here outer o None (want.Join v))
    → feeds (here outer o (Some v) want.Unit) u ≡ Some (here outer o None (want.Join (made.And v x)))
    → feeds (here outer o None want.Unit) (s ++ Lexeme.And ∷ u) ≡ Some (here outer o None (want.Join (made.And v x)))
ends_and outer o s u v x h k = feeds_on _ _ s (Lexeme.And ∷ u) h ∙ feeds_then _ _ Lexeme.And u (feed_and outer o v) ∙ k

-- parentheses round an `or`
ends_group : (outer : List Group) (o a : Option Expr) (s : List Lexeme) (t : Expr) → EndsOr (record { or = o; and = a } ∷ outer) s t
    → feeds (here outer o a want.Unit) (Lexeme.Open ∷ s ++ Lexeme.Close ∷ []) ≡ Some (here outer o None (want.Join (with_and a t)))
ends_group outer o a s t h =
    feeds_then _ _ Lexeme.Open (s ++ Lexeme.Close ∷ []) (feed_open outer o a) ∙ feeds_on _ _ s (Lexeme.Close ∷ []) h.reads
    ∙ feeds_then _ _ Lexeme.Close [] (feed_closing outer o a h.left h.last) ∙ ap (λ u. Some (here outer o None (want.Join (with_and a u)))) h.joined

ends_test : (outer : List Group) (o a : Option Expr) (x y : Lexeme) (any : Bool) (op : Op) (l r : Operand) → operand x ≡ Some l → operand y ≡ Some r
    → feeds (here outer o a want.Unit) (x ∷ Lexeme.Test any op ∷ y ∷ []) ≡ Some (here outer o None (want.Join (with_and a (made.Test l any op r))))
ends_test outer o a x y any op l r e f =
    feeds_then _ _ x (Lexeme.Test any op ∷ y ∷ []) (feed_first outer o a x l e) ∙ feeds_then _ _ (Lexeme.Test any op) (y ∷ []) (feed_test outer o a l any op)
    ∙ feeds_then _ _ y [] (feed_second outer o a l any op y r f)

mutual
  reads_or : (w : List Lexeme) (t : Expr) → IsOr w t → (outer : List Group) → EndsOr outer w t
  reads_or w t (only_and s u h) outer = record { left = None; last = u; reads = reads_and s u h outer None; joined = refl }
  reads_or w t (join_or s u v x h k) outer = ends_or outer s u v x (reads_or s v h outer) (reads_and u x k outer)

  reads_and : (w : List Lexeme) (t : Expr) → IsAnd w t → (outer : List Group) (o : Option Expr) → feeds (here outer o None want.Unit) w ≡ Some (here outer o None (want.Join t))
  reads_and w t (only_unit s u h) outer o = reads_unit s u h outer o None
  reads_and w t (join_and s u v x h k) outer o = ends_and outer o s u v x (reads_and s v h outer o) (reads_unit u x k outer o (Some v))

  reads_unit : (w : List Lexeme) (t : Expr) → IsUnit w t → (outer : List Group) (o a : Option Expr) → feeds (here outer o a want.Unit) w ≡ Some (here outer o None (want.Join (with_and a t)))
  reads_unit w t (group s u h) outer o a = ends_group outer o a s u (reads_or s u h (record { or = o; and = a } ∷ outer))
  reads_unit w t (test x y any op l r e f) outer o a = ends_test outer o a x y any op l r e f

-- a filter is read, and then the tokens may end
pub record IsRead (w : List Lexeme) (t : Expr) : Type 0 where
  pub state : State
  pub reads : feeds start w ≡ Some state
  pub ends : finish state ≡ Some t

pub read : (w : List Lexeme) (t : Expr) → IsOr w t → IsRead w t
unfolding finish
read w t h =
    let r = reads_or w t h [] in
    record { state = here [] r.left None (want.Join r.last); reads = r.reads; ends = ap Some r.joined }

-- tokens have one tree
pub one_tree : (w : List Lexeme) (a b : Expr) → IsOr w a → IsOr w b → a ≡ b
one_tree w a b h k =
    let p = read w a h in
    let q = read w b k in
    let e : Some p.state ≡ Some q.state = sym p.reads ∙ q.reads in
    let same : p.state ≡ q.state = cc in
    let f : Some a ≡ Some b = sym p.ends ∙ ap finish same ∙ q.ends in
    cc

-- no filter begins with tokens that the parser refuses
pub not_begun : (w : List Lexeme) (x : Lexeme) (s : State) → feeds start w ≡ Some s → feed s x ≡ None → BeginsFilter (w ++ x ∷ []) → ⊥
not_begun w x s e refused b =
    let r = read ((w ++ x ∷ []) ++ b.0) b.1.0 b.1.1 in
    let stops : feeds start (w ++ x ∷ []) ≡ None = feeds_on start s w (x ∷ []) e ∙ ap (option_and_then (λ t. feeds t [])) refused in
    let none : feeds start ((w ++ x ∷ []) ++ b.0) ≡ None = feeds-append start (w ++ x ∷ []) b.0 ∙ ap (option_and_then (λ t. feeds t b.0)) stops in
    let some : feeds start ((w ++ x ∷ []) ++ b.0) ≡ Some r.state = r.reads in
    cc

-- tokens with which the parser isn't done are no filter
pub not_whole : (w : List Lexeme) (s : State) → feeds start w ≡ Some s → finish s ≡ None → HasTree w → ⊥
not_whole w s e open_end h =
    let r = read w h.0 h.1 in
    let both : Some s ≡ Some r.state = sym e ∙ r.reads in
    let same : s ≡ r.state = cc in
    let none : finish r.state ≡ None = ap finish (sym same) ∙ open_end in
    let some : finish r.state ≡ Some h.0 = r.ends in
    cc
