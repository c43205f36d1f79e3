-- What holds of every filter, one layer at a time, and a fold's value at each layer.
use Rattle.std.specs.Prelude.{◌≡◌, Bool}
use Rattle.std.proofs.Common.{rules}
use Rattle.pocket_types.specs.declared.expr.Op.{Op}
use Rattle.pocket_types.specs.declared.expr.Operand.{Operand}
use Rattle.pocket_types.specs.declared.expr.Expr.{Expr, Expr-F, ind-Expr, fold-Expr, roll-Expr, map-Expr}
use Rattle.pocket_types.specs.declared.expr.Expr as exprs
use Rattle.pocket_types.specs.declared.expr.Expr.TheVariants as written
use Rattle.pocket_types.specs.declared.expr.Expr.TheOpen as expr
use Rattle.pocket_types.specs.declared.resolved.Leaf.{Leaf}
use Rattle.pocket_types.specs.declared.resolved.Resolved.{Resolved, Resolved-F, ind-Resolved, fold-Resolved, roll-Resolved, map-Resolved}
use Rattle.pocket_types.specs.declared.resolved.Resolved as filters
use Rattle.pocket_types.specs.declared.resolved.Resolved.TheVariants as made
use Rattle.pocket_types.specs.declared.resolved.Resolved.TheOpen as filter

pub expr_induction : (P : Expr → Type 0) → ((l : Operand) (a : Bool) (o : Op) (r : Operand) → P (written.Test l a o r)) → ((a b : Expr) → P a → P b → P (written.And a b)) → ((a b : Expr) → P a → P b → P (written.Or a b)) → (e : Expr) → P e
unfolding roll-Expr denote.Hole.Carrier.roll
expr_induction P t n o =
    ind-Expr P
    (λ x y e.
    rw (← e)
    (elim y as (λ z. P (roll-Expr (map-Expr _ Expr (λ s. s.0) z))) [ expr.Test l a p r ↦ t l a p r | expr.And a b ↦ n a.0 b.0 a.1 b.1 | expr.Or a b ↦ o a.0 b.0 a.1 b.1 ]))

pub expr_test : (X : Type 0) (step : Expr-F X → X) (l : Operand) (a : Bool) (o : Op) (r : Operand) → fold-Expr X step (written.Test l a o r) ≡ step (expr.Test l a o r)
expr_test X step l a o r = search (rules, exprs.the_lemmas)

pub expr_and : (X : Type 0) (step : Expr-F X → X) (a b : Expr) → fold-Expr X step (written.And a b) ≡ step (expr.And (fold-Expr X step a) (fold-Expr X step b))
expr_and X step a b = search (rules, exprs.the_lemmas)

pub expr_or : (X : Type 0) (step : Expr-F X → X) (a b : Expr) → fold-Expr X step (written.Or a b) ≡ step (expr.Or (fold-Expr X step a) (fold-Expr X step b))
expr_or X step a b = search (rules, exprs.the_lemmas)

pub resolved_induction : (P : Resolved → Type 0) → ((l : Leaf) (a : Bool) (o : Op) (r : Leaf) → P (made.Test l a o r)) → ((a b : Resolved) → P a → P b → P (made.And a b)) → ((a b : Resolved) → P a → P b → P (made.Or a b)) → (f : Resolved) → P f
unfolding roll-Resolved denote.Hole.Carrier.roll
resolved_induction P t n o =
    ind-Resolved P
    (λ x y e.
    rw (← e)
    (elim y as (λ z. P (roll-Resolved (map-Resolved _ Resolved (λ s. s.0) z))) [ filter.Test l a p r ↦ t l a p r | filter.And a b ↦ n a.0 b.0 a.1 b.1 | filter.Or a b ↦ o a.0 b.0 a.1 b.1 ]))

pub resolved_test : (X : Type 0) (step : Resolved-F X → X) (l : Leaf) (a : Bool) (o : Op) (r : Leaf) → fold-Resolved X step (made.Test l a o r) ≡ step (filter.Test l a o r)
resolved_test X step l a o r = search (rules, filters.the_lemmas)

pub resolved_and : (X : Type 0) (step : Resolved-F X → X) (a b : Resolved) → fold-Resolved X step (made.And a b) ≡ step (filter.And (fold-Resolved X step a) (fold-Resolved X step b))
resolved_and X step a b = search (rules, filters.the_lemmas)

pub resolved_or : (X : Type 0) (step : Resolved-F X → X) (a b : Resolved) → fold-Resolved X step (made.Or a b) ≡ step (filter.Or (fold-Resolved X step a) (fold-Resolved X step b))
resolved_or X step a b = search (rules, filters.the_lemmas)
