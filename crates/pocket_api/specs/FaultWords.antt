-- The words for faults, codes, limits and rules.
use Rattle.std.specs.Prelude.{ℕ, List, [], ◌++◌, codes, decimal}
use Rattle.pocket_types.specs.declared.faults.Code.{Code}
use Rattle.pocket_types.specs.declared.faults.Code.TheVariants as code
use Rattle.pocket_types.specs.declared.faults.FilterFault.{FilterFault}
use Rattle.pocket_types.specs.declared.faults.FilterFault.TheVariants as filter_fault
use Rattle.pocket_types.specs.declared.faults.Limit.{Limit}
use Rattle.pocket_types.specs.declared.faults.Limit.TheVariants as limit
use Rattle.pocket_types.specs.declared.faults.ResolveFault.{ResolveFault}
use Rattle.pocket_types.specs.declared.faults.ResolveFault.TheVariants as resolve_fault
use Rattle.pocket_types.specs.declared.faults.RuleFault.{RuleFault}
use Rattle.pocket_types.specs.declared.faults.RuleFault.TheVariants as rule_fault
use Rattle.pocket_types.specs.declared.requests.Action.{Action}
use Rattle.pocket_types.specs.declared.requests.Action.TheVariants as action

-- a fault at a place
abbrev pub at_place : List ℕ → ℕ → List ℕ
at_place fault at = fault ++ (codes " at " ++ decimal at)

abbrev pub filter_text : FilterFault → List ℕ
filter_text (filter_fault.BadByte at) = at_place (codes "parse 1") at
filter_text (filter_fault.OpenString at) = at_place (codes "parse 2") at
filter_text (filter_fault.Unexpected at) = at_place (codes "parse 3") at
filter_text filter_fault.TooLong = codes "parse 4"
filter_text filter_fault.TooDeep = codes "parse 5"
filter_text filter_fault.TooMany = codes "parse 6"
filter_text (filter_fault.NumberRange at) = at_place (codes "parse 7") at
filter_text filter_fault.Memory = []

abbrev pub resolve_text : ResolveFault → List ℕ
resolve_text (resolve_fault.NoCollection name) = codes "resolve 1 " ++ name
resolve_text (resolve_fault.NoField name) = codes "resolve 2 " ++ name
resolve_text (resolve_fault.NotRelation name) = codes "resolve 3 " ++ name
resolve_text (resolve_fault.BadModifier at) = at_place (codes "resolve 4") at
resolve_text resolve_fault.TooManySteps = codes "resolve 5"
resolve_text resolve_fault.TooManyPrefixes = codes "resolve 6"
resolve_text (resolve_fault.SuperuserOnly at) = at_place (codes "resolve 7") at
resolve_text (resolve_fault.HiddenField name) = codes "resolve 8 " ++ name
resolve_text resolve_fault.Memory = []

abbrev pub rule_fault_text : RuleFault → List ℕ
rule_fault_text (rule_fault.Parse f) = filter_text f
rule_fault_text (rule_fault.Resolve f) = resolve_text f

abbrev pub code_text : Code → List ℕ
code_text code.Kind = codes "kind"
code_text code.Range = codes "range"
code_text code.Required = codes "required"
code_text code.Min = codes "min"
code_text code.Max = codes "max"
code_text code.Value = codes "value"
code_text code.Missing = codes "missing"
code_text code.Taken = codes "taken"

abbrev pub limit_text : Limit → List ℕ
limit_text limit.Collections = codes "collections"
limit_text limit.Fields = codes "fields"
limit_text limit.Records = codes "records"
limit_text limit.Record = codes "record"
limit_text limit.Store = codes "store"
limit_text limit.Tokens = codes "tokens"
limit_text limit.Requests = codes "requests"

-- the key of an action's rule in a collection's JSON
abbrev pub rule_key : Action → List ℕ
rule_key action.List = codes "listRule"
rule_key action.View = codes "viewRule"
rule_key action.Create = codes "createRule"
rule_key action.Update = codes "updateRule"
rule_key action.Delete = codes "deleteRule"
