-- What is built from collections: their rules, and the guard by their view rules.
use Rattle.std.specs.Prelude.{List, Option, Some, None, map, if◌then◌else◌}
use Rattle.pocket_types.specs.Callers.{is_admin}
use Rattle.pocket_types.specs.declared.names.Name.{Name}
use Rattle.pocket_types.specs.declared.records.Collection.{Collection}
use Rattle.pocket_types.specs.declared.records.Rec.{Rec}
use Rattle.pocket_types.specs.declared.records.Rule.{Rule}
use Rattle.pocket_types.specs.declared.records.Rule.TheVariants as rule
use Rattle.pocket_types.specs.declared.requests.Action.{Action}
use Rattle.pocket_types.specs.declared.requests.Action.TheVariants as action
use Rattle.pocket_types.specs.declared.requests.Ask.{Ask}
use Rattle.pocket_types.specs.declared.requests.Caller.{Caller}
use Rattle.pocket_types.specs.declared.resolved.Resolved.{Resolved}
use Rattle.pocket_types.specs.declared.world.World.{World}
use Rattle.pocket_plan.specs.declared.guard.Guard.{Guard}
use Rattle.pocket_plan.specs.declared.guard.View.{View}
use Rattle.pocket_plan.specs.declared.guard.ViewTest.{ViewTest}
use Rattle.pocket_plan.specs.declared.guard.ViewTest.TheVariants as test
use Rattle.pocket_gate.specs.Rules.{filter_verdict, rule_filter, rule_for}
use Rattle.pocket_gate.specs.declared.rules.Rules.{Rules}
use Rattle.pocket_gate.specs.declared.verdict.Verdict.{Verdict}
use Rattle.pocket_gate.specs.declared.verdict.Verdict.TheVariants as verdict_is

-- whom a rule's filter lets through; where a rule is no filter nobody
abbrev pub filter_test : Option Resolved → ViewTest
filter_test None = test.Nobody
filter_test (Some f) = test.ByPlan f

-- whom a rule of the collection of this name lets through
abbrev pub test_of : List Collection → Name → Rule → ViewTest
test_of cs name rule.Locked = test.Nobody
test_of cs name rule.Free = test.All
test_of cs name (rule.Filter text) = filter_test (rule_filter cs name text)

-- a collection with its rule for an action
abbrev pub view_for : List Collection → Action → Collection → View
view_for cs act c = record { collection = c.name; test = test_of cs c.name (rule_for act c) }

-- all collections with their rules for an action
abbrev pub views_for : List Collection → Action → List View
views_for cs act = map (view_for cs act) cs

-- the guard by the view rules
unfoldable pub guard_of : List Collection → Guard
guard_of cs = record { views = views_for cs action.View }

-- the guard for a caller: none for the administrator
abbrev pub guard_for : List Collection → Caller → Option Guard
guard_for cs who = if is_admin who then None else Some (guard_of cs)

-- the rules of collections
unfoldable pub rules_of : List Collection → Rules
rules_of cs = record {
  list = views_for cs action.List;
  guard = guard_of cs;
  create = views_for cs action.Create;
  update = views_for cs action.Update;
  delete = views_for cs action.Delete;
}

-- the collections with their rules for an action, as rules hold them
abbrev pub views_in : Rules → Action → List View
views_in rules action.List = rules.list
views_in rules action.View = rules.guard.views
views_in rules action.Create = rules.create
views_in rules action.Update = rules.update
views_in rules action.Delete = rules.delete

-- what a test says of a record to a caller who isn't the administrator
abbrev pub test_verdict : World → Ask → Action → Name → Rec → ViewTest → Verdict
test_verdict w ask act name r test.All = verdict_is.Allowed
test_verdict w ask act name r test.Nobody = verdict_is.Locked name act
test_verdict w ask act name r (test.ByPlan f) = filter_verdict w ask act name r (Some f)
