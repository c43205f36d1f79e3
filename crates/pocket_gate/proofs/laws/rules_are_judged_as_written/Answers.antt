use Rattle.std.proofs.Common.{◌∙◌, ap}
use Rattle.std.specs.Prelude.{option_and_then}
use Rattle.std.specs.Result.{result_ok}
use Rattle.pocket_types.specs.Within.{collections_of}
use Rattle.pocket_resolve.specs.Filters.{resolution}
use Rattle.pocket_resolve.specs.declared.purpose.Purpose.TheVariants.{RuleOf}
use Rattle.pocket_gate.specs.Rules.{filter_verdict, rule_filter}
use Rattle.pocket_gate.proofs.laws.rules_are_judged_as_written.Goals as goal

pub returns-clause-filter : goal.returns-clause-filter
unfolding rule_filter
returns-clause-filter c = λ w ask act name r text tree f parses resolves.
    ap (λ p. filter_verdict w ask act name r (option_and_then (λ t. result_ok (resolution (collections_of w) (RuleOf name) t)) (result_ok p))) parses
    ∙ ap (λ x. filter_verdict w ask act name r (result_ok x)) resolves
