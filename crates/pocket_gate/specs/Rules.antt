-- What a rule says of a record.
use Rattle.std.specs.Prelude.{ℕ, Bool, true, false, not, ◌&&◌, List, Option, Some, None, option_and_then, if◌then◌else◌}
use Rattle.std.specs.Result.{result_ok}
use Rattle.pocket_types.specs.Callers.{is_admin}
use Rattle.pocket_types.specs.Within.{collections_of}
use Rattle.pocket_types.specs.declared.names.Name.{Name}
use Rattle.pocket_types.specs.declared.records.Collection.{Collection}
use Rattle.pocket_types.specs.declared.records.Rec.{Rec}
use Rattle.pocket_types.specs.declared.records.Rule.{Rule}
use Rattle.pocket_types.specs.declared.records.Rule.TheVariants as rule
use Rattle.pocket_types.specs.declared.requests.Action.{Action}
use Rattle.pocket_types.specs.declared.requests.Action.TheVariants as action
use Rattle.pocket_types.specs.declared.requests.Ask.{Ask}
use Rattle.pocket_types.specs.declared.requests.Caller.{Caller}
use Rattle.pocket_types.specs.declared.resolved.Resolved.{Resolved}
use Rattle.pocket_types.specs.declared.world.World.{World}
use Rattle.pocket_filter.specs.Parsed.{parsed}
use Rattle.pocket_resolve.specs.Filters.{resolution}
use Rattle.pocket_resolve.specs.declared.purpose.Purpose.TheVariants.{RuleOf}
use Rattle.pocket_meaning.specs.Meaning.{holds}
use Rattle.pocket_gate.specs.declared.verdict.Verdict.{Verdict}
use Rattle.pocket_gate.specs.declared.verdict.Verdict.TheVariants as verdict_is

-- the rule of a collection for an action
abbrev pub rule_for : Action → Collection → Rule
rule_for action.List c = c.list_rule
rule_for action.View c = c.view_rule
rule_for action.Create c = c.create_rule
rule_for action.Update c = c.update_rule
rule_for action.Delete c = c.delete_rule

abbrev pub is_locked : Rule → Bool
is_locked rule.Locked = true
is_locked _ = false

-- whether a rule keeps a caller out, whatever the record
abbrev pub keeps_out : Caller → Rule → Bool
keeps_out who r = not (is_admin who) && is_locked r

-- the filter of a rule's text, for the collection of this name among others: it parses and resolves
unfoldable pub rule_filter : List Collection → Name → List ℕ → Option Resolved
rule_filter cs name text = option_and_then (λ tree. result_ok (resolution cs (RuleOf name) tree)) (result_ok (parsed text))

-- what a rule's filter says of a record; where a rule is no filter nobody is let through, as where it is locked
abbrev pub filter_verdict : World → Ask → Action → Name → Rec → Option Resolved → Verdict
filter_verdict w ask act name r None = verdict_is.Locked name act
filter_verdict w ask act name r (Some f) = if holds w ask name r f then verdict_is.Allowed else verdict_is.RuleFalse name act

-- what a rule of the collection of this name says of a record to a caller who isn't the administrator
abbrev pub rule_verdict : World → Ask → Action → Name → Rec → Rule → Verdict
rule_verdict w ask act name r rule.Locked = verdict_is.Locked name act
rule_verdict w ask act name r rule.Free = verdict_is.Allowed
rule_verdict w ask act name r (rule.Filter text) = filter_verdict w ask act name r (rule_filter (collections_of w) name text)

-- the verdict on a record of a collection, for a request in a world; the record need not stand there
unfoldable pub verdict : World → Ask → Action → Collection → Rec → Verdict
verdict w ask act c r = if is_admin ask.caller then verdict_is.Allowed else rule_verdict w ask act c.name r (rule_for act c)

abbrev pub is_allowed : Verdict → Bool
is_allowed verdict_is.Allowed = true
is_allowed _ = false

-- whether a record is admitted
abbrev pub may : World → Ask → Action → Collection → Rec → Bool
may w ask act c r = is_allowed (verdict w ask act c r)
