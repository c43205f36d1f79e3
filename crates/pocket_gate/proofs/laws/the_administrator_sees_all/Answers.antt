use Rattle.std.proofs.Common.{cond, ap}
use Rattle.pocket_plan.specs.Cutting.{open_world}
use Rattle.pocket_types.specs.Callers.{is_admin}
use Rattle.pocket_gate.specs.Rules.{rule_for, rule_verdict, verdict}
use Rattle.pocket_gate.specs.Seen.{seen_world, viewable_world}
use Rattle.pocket_gate.specs.declared.verdict.Verdict.TheVariants as verdict_is
use Rattle.pocket_gate.proofs.laws.the_administrator_sees_all.Goals as goal

pub returns-clause-verdict : goal.returns-clause-verdict
unfolding verdict
returns-clause-verdict c = λ w ask act k r e. ap (λ who. cond (is_admin who) verdict_is.Allowed (rule_verdict w ask act k.name r (rule_for act k))) e

pub returns-clause-seen : goal.returns-clause-seen
unfolding seen_world
returns-clause-seen c = λ w ask e. ap (λ who. cond (is_admin who) w (open_world (viewable_world w ask))) e
