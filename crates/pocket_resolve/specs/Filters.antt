-- The resolved filter of an expression, or its first fault.
use Rattle.std.specs.Prelude.{ℕ, ◌+◌, Bool, true, false, not, List, [], ◌∷◌, ◌++◌, count_by, nat_lt, Result, Ok}
use Rattle.pocket_types.specs.Paths.{with_parents, prefixes_of}
use Rattle.pocket_types.specs.declared.expr.Expr.{Expr, fold-Expr}
use Rattle.pocket_types.specs.declared.expr.Expr.TheOpen.{Expr-F}
use Rattle.pocket_types.specs.declared.expr.Expr.TheOpen as expr
use Rattle.pocket_types.specs.declared.expr.Op.{Op}
use Rattle.pocket_types.specs.declared.expr.Operand.{Operand}
use Rattle.pocket_types.specs.declared.faults.ResolveFault.{ResolveFault}
use Rattle.pocket_types.specs.declared.faults.ResolveFault.TheVariants as fault
use Rattle.pocket_types.specs.declared.names.Name.{Name}
use Rattle.pocket_types.specs.declared.records.Collection.{Collection}
use Rattle.pocket_types.specs.declared.resolved.Prefix.{Prefix}
use Rattle.pocket_types.specs.declared.resolved.Step.{Step}
use Rattle.pocket_types.specs.declared.resolved.Root.{Root}
use Rattle.pocket_types.specs.declared.resolved.Root.TheVariants as root
use Rattle.pocket_types.specs.declared.resolved.Resolved.{Resolved, fold-Resolved}
use Rattle.pocket_types.specs.declared.resolved.Resolved.TheOpen.{Resolved-F}
use Rattle.pocket_types.specs.declared.resolved.Resolved.TheOpen as resolved
use Rattle.pocket_types.specs.declared.resolved.Resolved.TheViews.{roll-Resolved}
use Rattle.pocket_resolve.specs.declared.purpose.Purpose.{Purpose}
use Rattle.pocket_resolve.specs.declared.purpose.Purpose.TheVariants as purpose
use Rattle.pocket_types.specs.Chains.{◌>>=◌, refuse}
use Rattle.pocket_resolve.specs.Paths.{Setting}
use Rattle.pocket_resolve.specs.Roots.{side}

-- ---- comparisons

abbrev pub home_of : Purpose → Name
home_of (purpose.RuleOf home) = home
home_of (purpose.ClientOf home admin) = home

abbrev pub is_guarded : Purpose → Bool
is_guarded (purpose.RuleOf home) = false
is_guarded (purpose.ClientOf home admin) = not admin

-- the setting of an operand by its number
abbrev pub setting : List Collection → Purpose → ℕ → Bool → Setting
setting collections p operand any =
    record { collections = collections; home = home_of p; guarded = is_guarded p; operand = operand; any = any }

-- the resolved filter, and the number of the next operand
abbrev pub Numbered : Type 0
Numbered = Resolved × ℕ

-- a comparison whose left side has a number
unfoldable pub test_from : List Collection → Purpose → Operand → Bool → Op → Operand → ℕ → Result Numbered ResolveFault
test_from collections p left any op right n = do
  l ← side (setting collections p n any) left
  r ← side (setting collections p (n + 1) any) right
  Ok (roll-Resolved (resolved.Test l any op r), n + 1 + 1)

-- one layer, where what stands in it is resolved from an operand's number on
abbrev pub filter_step : List Collection → Purpose → Expr-F (ℕ → Result Numbered ResolveFault) → ℕ → Result Numbered ResolveFault
filter_step collections p (expr.Test left any op right) n = test_from collections p left any op right n
filter_step collections p (expr.And a b) n = do
  l ← a n
  r ← b l.1
  Ok (roll-Resolved (resolved.And l.0 r.0), r.1)
filter_step collections p (expr.Or a b) n = do
  l ← a n
  r ← b l.1
  Ok (roll-Resolved (resolved.Or l.0 r.0), r.1)

-- an expression whose first operand has a number
unfoldable pub filter_from : List Collection → Purpose → Expr → ℕ → Result Numbered ResolveFault
filter_from collections p = fold-Expr (ℕ → Result Numbered ResolveFault) (filter_step collections p)

-- ---- prefixes

abbrev pub prefixes_step : Resolved-F (List Prefix) → List Prefix
prefixes_step (resolved.Test left any op right) = prefixes_of left ++ prefixes_of right
prefixes_step (resolved.And a b) = a ++ b
prefixes_step (resolved.Or a b) = a ++ b

-- the prefixes of a filter's sides
abbrev pub filter_prefixes : Resolved → List Prefix
filter_prefixes = fold-Resolved (List Prefix) prefixes_step

-- the record itself, the caller's record and the body aren't counted
abbrev pub counts : Root → List Step → Bool
counts (root.Look name alias) steps = true
counts _ [] = false
counts _ (step ∷ steps) = true

abbrev pub is_counted : Prefix → Bool
is_counted p = counts p.root p.steps

abbrev pub max_prefixes : ℕ
max_prefixes = 12

-- over 12 different prefixes, each with all that it begins with
abbrev pub has_too_many : Resolved → Bool
has_too_many f = nat_lt max_prefixes (count_by is_counted (with_parents (filter_prefixes f)))

-- ---- the whole

-- the resolved filter of an expression, or its first fault
unfoldable pub resolution : List Collection → Purpose → Expr → Result Resolved ResolveFault
resolution collections p expr = do
  found ← filter_from collections p expr 0
  _ ← refuse (has_too_many found.0) fault.TooManyPrefixes
  Ok found.0
