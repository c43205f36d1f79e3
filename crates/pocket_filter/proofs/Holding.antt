-- What the parser holds are trees of the tokens that it has read.
use Rattle.std.proofs.Common.{◌≡◌, List, [], ◌∷◌, ◌++◌, Option, Some, None, Bool, false, pos, refl, sym, ap, subst, ◌∙◌, append_assoc, append-nil}
use Rattle.std.specs.Prelude.{option_and_then, option_map}
use Rattle.pocket_types.specs.declared.expr.Expr.{Expr}
use Rattle.pocket_types.specs.declared.expr.Expr.TheVariants as made
use Rattle.pocket_types.specs.declared.expr.Op.{Op}
use Rattle.pocket_types.specs.declared.expr.Op.TheVariants as op
use Rattle.pocket_types.specs.declared.expr.Operand.{Operand}
use Rattle.pocket_types.specs.declared.expr.Operand.TheVariants as operands
use Rattle.pocket_filter.specs.declared.parser.Group.{Group}
use Rattle.pocket_filter.specs.declared.parser.Want.{Want}
use Rattle.pocket_filter.specs.declared.parser.Want.TheVariants as want
use Rattle.pocket_filter.specs.Grammar.{IsOr, IsAnd, IsUnit, only_and, join_or, only_unit, join_and, group, test}
use Rattle.pocket_filter.specs.Operands.{operand}
use Rattle.pocket_filter.specs.Tokens.{Lexeme}
use Rattle.pocket_filter.specs.Parsing.{State, start, no_group, with_and, with_or, with_unit, feed, feed_want, feed_unit, feed_op, feed_join, feed_close, feeds, finish, finish_want}
use Rattle.pocket_filter.specs.Faults.{BeginsFilter}

-- ---- what stands left of a tree

abbrev pub LeftOfOr : Option Expr → List Lexeme → Type 0
LeftOfOr None w = w ≡ []
LeftOfOr (Some t) w = (s : List Lexeme) × IsOr s t × (w ≡ s ++ Lexeme.Or ∷ [])

abbrev pub LeftOfAnd : Option Expr → List Lexeme → Type 0
LeftOfAnd None w = w ≡ []
LeftOfAnd (Some t) w = (s : List Lexeme) × IsAnd s t × (w ≡ s ++ Lexeme.And ∷ [])

-- the tokens of a group in which a unit is wanted
pub record InGroup (g : Group) (w : List Lexeme) : Type 0 where
  pub ors : List Lexeme
  pub ands : List Lexeme
  pub or : LeftOfOr g.or ors
  pub and : LeftOfAnd g.and ands
  pub is : w ≡ ors ++ ands

-- the tokens before a group, each group around it with its parenthesis
abbrev pub InOuter : List Group → List Lexeme → Type 0
InOuter [] w = w ≡ []
InOuter (g ∷ outer) w = (before inside : List Lexeme) × InOuter outer before × InGroup g inside × (w ≡ (before ++ inside) ++ Lexeme.Open ∷ [])

-- an `or` that is whole but for the unit after it
pub record Holds (outer : List Group) (g : Group) (w : List Lexeme) : Type 0 where
  pub before : List Lexeme
  pub inside : List Lexeme
  pub around : InOuter outer before
  pub here : InGroup g inside
  pub is : w ≡ before ++ inside

-- a group whose last `and` is whole
pub record HoldsJoin (outer : List Group) (o : Option Expr) (t : Expr) (w : List Lexeme) : Type 0 where
  pub before : List Lexeme
  pub ors : List Lexeme
  pub last : List Lexeme
  pub around : InOuter outer before
  pub or : LeftOfOr o ors
  pub and : IsAnd last t
  pub is : w ≡ before ++ (ors ++ last)

-- after the first tokens of a comparison
pub record HoldsLeft (outer : List Group) (g : Group) (l : Operand) (rest w : List Lexeme) : Type 0 where
  pub before : List Lexeme
  pub operator : Lexeme
  pub held : Holds outer g before
  pub left : operand operator ≡ Some l
  pub is : w ≡ before ++ (operator ∷ rest)

abbrev pub HoldsWant : List Group → Group → Want → List Lexeme → Type 0
HoldsWant outer g want.Unit w = Holds outer g w
HoldsWant outer g (want.Op l) w = HoldsLeft outer g l [] w
HoldsWant outer g (want.Right l any op) w = HoldsLeft outer g l (Lexeme.Test any op ∷ []) w
HoldsWant outer g (want.Join t) w = HoldsJoin outer g.or t w

abbrev pub HoldsState : State → List Lexeme → Type 0
HoldsState s w = HoldsWant s.outer s.group s.want w

-- ---- joining

-- a unit joined to the `and` left of it
and_more : (o : Option Expr) (w u : List Lexeme) (t : Expr) → LeftOfAnd o w → IsUnit u t → IsAnd (w ++ u) (with_and o t)
and_more None w u t h k = subst (λ v. IsAnd (v ++ u) t) (sym h) (only_unit u t k)
and_more (Some v) w u t h k =
    subst (λ x. IsAnd x (made.And v t)) (sym (append_assoc h.0 (Lexeme.And ∷ []) u) ∙ ap (λ x. x ++ u) (sym h.2)) (join_and h.0 u v t h.1 k)

or_more : (o : Option Expr) (w u : List Lexeme) (t : Expr) → LeftOfOr o w → IsAnd u t → IsOr (w ++ u) (with_or o t)
or_more None w u t h k = subst (λ v. IsOr (v ++ u) t) (sym h) (only_and u t k)
or_more (Some v) w u t h k =
    subst (λ x. IsOr x (made.Or v t)) (sym (append_assoc h.0 (Lexeme.Or ∷ []) u) ∙ ap (λ x. x ++ u) (sym h.2)) (join_or h.0 u v t h.1 k)

-- a unit is whole
unit_held : (outer : List Group) (g : Group) (w u : List Lexeme) (t : Expr) → Holds outer g w → IsUnit u t → HoldsJoin outer g.or (with_and g.and t) (w ++ u)
unit_held outer g w u t h k =
    let i = h.here in
    record {
      before = h.before;
      ors = i.ors;
      last = i.ands ++ u;
      around = h.around;
      or = i.or;
      and = and_more g.and i.ands u t i.and k;
      is = ap (λ x. x ++ u) (h.is ∙ ap (λ x. h.before ++ x) i.is) ∙ append_assoc h.before (i.ors ++ i.ands) u ∙ ap (λ x. h.before ++ x) (append_assoc i.ors i.ands u);
    }

-- nothing stands in a new group
group_opened : (outer : List Group) (g : Group) (w : List Lexeme) → Holds outer g w → Holds (g ∷ outer) no_group (w ++ Lexeme.Open ∷ [])
group_opened outer g w h = record {
  before = w ++ Lexeme.Open ∷ [];
  inside = [];
  around = (h.before, h.inside, h.around, h.here, ap (λ x. x ++ Lexeme.Open ∷ []) h.is);
  here = record { ors = []; ands = []; or = refl; and = refl; is = refl };
  is = sym (append-nil (w ++ Lexeme.Open ∷ []));
}

-- the tree of a group
whole : (outer : List Group) (o : Option Expr) (t : Expr) (w : List Lexeme) → HoldsJoin outer o t w
    → (before inside : List Lexeme) × InOuter outer before × IsOr inside (with_or o t) × (w ≡ before ++ inside)
whole outer o t w h = (h.before, h.ors ++ h.last, h.around, or_more o h.ors h.last t h.or h.and, h.is)

-- a group is closed: it is a unit of the group around it
group_closed : (outer : List Group) (g : Group) (o : Option Expr) (t : Expr) (w : List Lexeme) → HoldsJoin (g ∷ outer) o t w
    → HoldsJoin outer g.or (with_and g.and (with_or o t)) (w ++ Lexeme.Close ∷ [])
group_closed outer g o t w h =
    let p = whole (g ∷ outer) o t w h in
    let around = p.2 in
    let inside = p.1 in
    let left : Holds outer g (around.0 ++ around.1) = record { before = around.0; inside = around.1; around = around.2; here = around.3; is = refl } in
    let moved : w ++ Lexeme.Close ∷ [] ≡ (around.0 ++ around.1) ++ (Lexeme.Open ∷ inside ++ Lexeme.Close ∷ []) =
    ap (λ x. x ++ Lexeme.Close ∷ []) (p.4 ∙ ap (λ x. x ++ inside) around.4) ∙ ap (λ x. x ++ Lexeme.Close ∷ []) (append_assoc (around.0 ++ around.1) (Lexeme.Open ∷ []) inside)
    ∙ append_assoc (around.0 ++ around.1) (Lexeme.Open ∷ inside) (Lexeme.Close ∷ [])
    in
    subst (λ x. HoldsJoin outer g.or (with_and g.and (with_or o t)) x) (sym moved)
    (unit_held outer g (around.0 ++ around.1) (Lexeme.Open ∷ inside ++ Lexeme.Close ∷ []) (with_or o t) left (group inside (with_or o t) p.3))

-- `&&` after a whole `and`
and_begun : (outer : List Group) (o : Option Expr) (t : Expr) (w : List Lexeme) → HoldsJoin outer o t w → Holds outer (record { or = o; and = Some t }) (w ++ Lexeme.And ∷ [])
and_begun outer o t w h = record {
  before = h.before;
  inside = h.ors ++ (h.last ++ Lexeme.And ∷ []);
  around = h.around;
  here = record { ors = h.ors; ands = h.last ++ Lexeme.And ∷ []; or = h.or; and = (h.last, h.and, refl); is = refl };
  is = ap (λ x. x ++ Lexeme.And ∷ []) h.is ∙ append_assoc h.before (h.ors ++ h.last) (Lexeme.And ∷ []) ∙ ap (λ x. h.before ++ x) (append_assoc h.ors h.last (Lexeme.And ∷ []));
}

-- `||` after a whole `or`
or_begun : (outer : List Group) (o : Option Expr) (t : Expr) (w : List Lexeme) → HoldsJoin outer o t w → Holds outer (record { or = Some (with_or o t); and = None }) (w ++ Lexeme.Or ∷ [])
or_begun outer o t w h =
    let p = whole outer o t w h in
    record {
      before = p.0;
      inside = p.1 ++ Lexeme.Or ∷ [];
      around = p.2;
      here = record { ors = p.1 ++ Lexeme.Or ∷ []; ands = []; or = (p.1, p.3, refl); and = refl; is = sym (append-nil (p.1 ++ Lexeme.Or ∷ [])) };
      is = ap (λ x. x ++ Lexeme.Or ∷ []) p.4 ∙ append_assoc p.0 p.1 (Lexeme.Or ∷ []);
    }

-- ---- one token

-- the next state, where there is one, holds one token more
abbrev Goes : List Lexeme → Option State → Type 0
Goes w None = Unit {0}
Goes w (Some s) = HoldsState s w

goes_operand : (outer : List Group) (g : Group) (w : List Lexeme) (x : Lexeme) (o : Option Operand) → operand x ≡ o → Holds outer g w
    → Goes (w ++ x ∷ []) (option_map (λ left. record { outer = outer; group = g; want = want.Op left }) o)
goes_operand outer g w x None e h = tt
goes_operand outer g w x (Some l) e h = record { before = w; operator = x; held = h; left = e; is = refl }

goes_unit : (outer : List Group) (g : Group) (w : List Lexeme) (x : Lexeme) → Holds outer g w → Goes (w ++ x ∷ []) (feed_unit outer g x)
goes_unit outer g w Lexeme.Open h = group_opened outer g w h
goes_unit outer g w x h = goes_operand outer g w x (operand x) refl h

goes_op : (outer : List Group) (g : Group) (l : Operand) (w : List Lexeme) (x : Lexeme) → HoldsLeft outer g l [] w → Goes (w ++ x ∷ []) (feed_op outer g l x)
goes_op outer g l w (Lexeme.Test any op) h = record {
  before = h.before;
  operator = h.operator;
  held = h.held;
  left = h.left;
  is = ap (λ v. v ++ Lexeme.Test any op ∷ []) h.is ∙ append_assoc h.before (h.operator ∷ []) (Lexeme.Test any op ∷ []);
}
goes_op outer g l w _ h = tt

goes_second : (outer : List Group) (g : Group) (l : Operand) (any : Bool) (op : Op) (w : List Lexeme) (x : Lexeme) (o : Option Operand) → operand x ≡ o
    → HoldsLeft outer g l (Lexeme.Test any op ∷ []) w
    → Goes (w ++ x ∷ []) (option_map (λ right. with_unit outer g (made.Test l any op right)) o)
goes_second outer g l any op w x None e h = tt
goes_second outer g l any op w x (Some r) e h =
    let moved : w ++ x ∷ [] ≡ h.before ++ (h.operator ∷ Lexeme.Test any op ∷ x ∷ []) =
    ap (λ v. v ++ x ∷ []) h.is ∙ append_assoc h.before (h.operator ∷ Lexeme.Test any op ∷ []) (x ∷ [])
    in
    subst (λ v. HoldsJoin outer g.or (with_and g.and (made.Test l any op r)) v) (sym moved)
    (unit_held outer g h.before (h.operator ∷ Lexeme.Test any op ∷ x ∷ []) (made.Test l any op r) h.held (test h.operator x any op l r h.left e))

goes_close : (outer : List Group) (o : Option Expr) (t : Expr) (w : List Lexeme) → HoldsJoin outer o t w → Goes (w ++ Lexeme.Close ∷ []) (feed_close outer (with_or o t))
goes_close [] o t w h = tt
goes_close (g ∷ outer) o t w h = group_closed outer g o t w h

goes_join : (outer : List Group) (g : Group) (t : Expr) (w : List Lexeme) (x : Lexeme) → HoldsJoin outer g.or t w → Goes (w ++ x ∷ []) (feed_join outer g t x)
goes_join outer g t w Lexeme.And h = and_begun outer g.or t w h
goes_join outer g t w Lexeme.Or h = or_begun outer g.or t w h
goes_join outer g t w Lexeme.Close h = goes_close outer g.or t w h
goes_join outer g t w _ h = tt

goes_want : (outer : List Group) (g : Group) (v : Want) (w : List Lexeme) (x : Lexeme) → HoldsWant outer g v w → Goes (w ++ x ∷ []) (feed_want outer g v x)
goes_want outer g want.Unit w x h = goes_unit outer g w x h
goes_want outer g (want.Op l) w x h = goes_op outer g l w x h
goes_want outer g (want.Right l any op) w x h = goes_second outer g l any op w x (operand x) refl h
goes_want outer g (want.Join t) w x h = goes_join outer g t w x h

goes : (s : State) (w : List Lexeme) (x : Lexeme) → HoldsState s w → Goes (w ++ x ∷ []) (feed s x)
unfolding feed
goes s w x h = goes_want s.outer s.group s.want w x h

-- ---- all tokens

held_along : (s : State) (w xs : List Lexeme) → HoldsState s w → Goes (w ++ xs) (feeds s xs)
held_along s w [] h = subst (λ v. HoldsState s v) (sym (append-nil w)) h
held_along s w (x ∷ xs) h = subst (λ v. Goes v (feeds s (x ∷ xs))) (append_assoc w (x ∷ []) xs) (more (feed s x) (goes s w x h) (λ t. held_along t (w ++ x ∷ []) xs))
  where
    more : (o : Option State) → Goes (w ++ x ∷ []) o → ((t : State) → HoldsState t (w ++ x ∷ []) → Goes ((w ++ x ∷ []) ++ xs) (feeds t xs))
        → Goes ((w ++ x ∷ []) ++ xs) (option_and_then (λ t. feeds t xs) o)
    more None k rest = tt
    more (Some t) k rest = rest t k

held_start : HoldsState start []
held_start = record { before = []; inside = []; around = refl; here = record { ors = []; ands = []; or = refl; and = refl; is = refl }; is = refl }

-- the state after tokens holds them
pub held : (w : List Lexeme) (s : State) → feeds start w ≡ Some s → HoldsState s w
held w s e = subst (λ o. Goes w o) e (held_along start [] w held_start)

-- ---- the end

ended : (outer : List Group) (g : Group) (v : Want) (w : List Lexeme) (t : Expr) → HoldsWant outer g v w → finish_want outer g v ≡ Some t → IsOr w t
ended [] g (want.Join last) w t h e =
    let p = whole [] g.or last w h in
    let same : with_or g.or last ≡ t = cc in
    subst (λ u. IsOr w u) same (subst (λ v. IsOr v (with_or g.or last)) (sym (p.4 ∙ ap (λ v. v ++ p.1) p.2)) p.3)
ended outer g _ w t h e = cc

-- where the tokens may end, they are a filter
pub finished : (w : List Lexeme) (s : State) (t : Expr) → feeds start w ≡ Some s → finish s ≡ Some t → IsOr w t
unfolding finish
finished w s t e f = ended s.outer s.group s.want w t (held w s e) f

-- ---- what may follow

-- any operand
abbrev one : Lexeme
one = Lexeme.Number (pos 1)

abbrev any_test : List Lexeme
any_test = one ∷ Lexeme.Test false op.Eq ∷ one ∷ []

begins_front : (w u : List Lexeme) → BeginsFilter (w ++ u) → BeginsFilter w
begins_front w u b = (u ++ b.0, (b.1.0, subst (λ v. IsOr v b.1.0) (append_assoc w u b.0) b.1.1))

closing : (outer : List Group) (o : Option Expr) (t : Expr) (w : List Lexeme) → HoldsJoin outer o t w → BeginsFilter w
closing [] o t w h =
    let p = whole [] o t w h in
    ([], (with_or o t, subst (λ v. IsOr v (with_or o t)) (sym (append-nil w ∙ p.4 ∙ ap (λ v. v ++ p.1) p.2)) p.3))
closing (g ∷ outer) o t w h = begins_front w (Lexeme.Close ∷ []) (closing outer g.or (with_and g.and (with_or o t)) (w ++ Lexeme.Close ∷ []) (group_closed outer g o t w h))

after_unit : (outer : List Group) (g : Group) (w u : List Lexeme) (t : Expr) → Holds outer g w → IsUnit u t → BeginsFilter (w ++ u)
after_unit outer g w u t h k = closing outer g.or (with_and g.and t) (w ++ u) (unit_held outer g w u t h k)

-- a comparison begun is ended
after_left : (outer : List Group) (g : Group) (l : Operand) (any : Bool) (by : Op) (w : List Lexeme) → HoldsLeft outer g l (Lexeme.Test any by ∷ []) w → BeginsFilter w
after_left outer g l any by w h =
    let moved : w ++ one ∷ [] ≡ h.before ++ (h.operator ∷ Lexeme.Test any by ∷ one ∷ []) =
    ap (λ v. v ++ one ∷ []) h.is ∙ append_assoc h.before (h.operator ∷ Lexeme.Test any by ∷ []) (one ∷ [])
    in
    begins_front w (one ∷ [])
    (subst BeginsFilter (sym moved) (after_unit outer g h.before _ (made.Test l any by (operands.Num (pos 1))) h.held (test h.operator one any by l (operands.Num (pos 1)) h.left refl)))

begins_want : (outer : List Group) (g : Group) (v : Want) (w : List Lexeme) → HoldsWant outer g v w → BeginsFilter w
begins_want outer g want.Unit w h =
    begins_front w any_test (after_unit outer g w any_test _ h (test one one false op.Eq (operands.Num (pos 1)) (operands.Num (pos 1)) refl refl))
begins_want outer g (want.Op l) w h =
    let compared = Lexeme.Test false op.Eq in
    begins_front w (compared ∷ [])
    (after_left outer g l false op.Eq (w ++ compared ∷ [])
    (record { before = h.before; operator = h.operator; held = h.held; left = h.left; is = ap (λ v. v ++ compared ∷ []) h.is ∙ append_assoc h.before (h.operator ∷ []) (compared ∷ []) }))
begins_want outer g (want.Right l any by) w h = after_left outer g l any by w h
begins_want outer g (want.Join t) w h = closing outer g.or t w h

-- a filter begins with tokens that the parser takes
pub begins : (w : List Lexeme) (s : State) → feeds start w ≡ Some s → BeginsFilter w
begins w s e = begins_want s.outer s.group s.want w (held w s e)
