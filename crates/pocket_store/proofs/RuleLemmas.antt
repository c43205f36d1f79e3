-- Which texts are filters that resolve.
use Rattle.std.proofs.Common.{◌≡◌, ◌≢◌, inl, inr, ℕ, List, Bool, true, false, Result, Ok, Err}
use Rattle.std.specs.Prelude.{MatchBool}
use Rattle.pocket_types.specs.declared.expr.Expr.{Expr}
use Rattle.pocket_types.specs.declared.faults.FilterFault.{FilterFault}
use Rattle.pocket_types.specs.declared.faults.FilterFault.TheVariants as filter
use Rattle.pocket_types.specs.declared.faults.ResolveFault.{ResolveFault}
use Rattle.pocket_types.specs.declared.names.Name.{Name}
use Rattle.pocket_types.specs.declared.records.Collection.{Collection}
use Rattle.pocket_filter.specs.Filters.{IsFilter, IsVerdict, IsAnswer}
use Rattle.pocket_resolve.specs.Filters.{resolution}
use Rattle.pocket_resolve.specs.declared.purpose.Purpose.{Purpose}
use Rattle.pocket_resolve.specs.declared.purpose.Purpose.TheVariants.{RuleOf}
use Rattle.pocket_store.specs.Reading.{IsResolved, IsOnlyTree}
use Rattle.pocket_store.specs.Stores.{HoldsFilter}

-- a text that is read with a fault is no filter
pub no_tree : (text : List ℕ) (f : FilterFault) → f ≢ filter.Memory
    → ((verdict : Result Expr FilterFault) → IsVerdict text verdict → IsAnswer verdict (Err f)) → (tree : Expr) → ¬ IsFilter text tree
no_tree text f other answers tree h =
    elim (answers (Ok tree) h) [
      | inl e ↦ cc
      | inr e ↦ other cc
    ]

-- the tree that is read is the only one
pub one_tree : (text : List ℕ) (tree : Expr) → ((verdict : Result Expr FilterFault) → IsVerdict text verdict → IsAnswer verdict (Ok tree))
    → IsFilter text tree → IsOnlyTree text tree
one_tree text tree answers parses = record {
  parses = parses;
  only = λ other h.
      elim (answers (Ok other) h) [
        | inl e ↦ cc
        | inr e ↦ cc
      ];
}

-- what has a fault doesn't resolve
pub no_resolved : (cs : List Collection) (p : Purpose) (tree : Expr) (f : ResolveFault) → resolution cs p tree ≡ Err f → ¬ IsResolved cs p tree
no_resolved cs p tree f e h = let r = h.resolves in cc

-- a text that has no tree holds no filter
pub no_filter : (cs : List Collection) (name : Name) (text : List ℕ) → ((tree : Expr) → ¬ IsFilter text tree) → ¬ HoldsFilter cs name text
no_filter cs name text none h = none h.tree h.parses

-- a text is a filter that resolves where its one tree does
pub filter_by : (cs : List Collection) (name : Name) (p : Purpose) (text : List ℕ) (tree : Expr) → p ≡ RuleOf name → IsOnlyTree text tree → (b : Bool)
    → MatchBool b (IsResolved cs p tree) (¬ IsResolved cs p tree) → MatchBool b (HoldsFilter cs name text) (¬ HoldsFilter cs name text)
filter_by cs name p text tree e is true h = record { tree = tree; resolved = h.resolved; parses = is.parses; resolves = rw e at h.resolves }
filter_by cs name p text tree e is false h = λ g.
    let same = is.only g.tree g.parses in h (record { resolved = g.resolved; resolves = rw (same, ← e) at g.resolves })
