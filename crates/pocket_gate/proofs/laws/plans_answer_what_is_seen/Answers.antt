use Rattle.pocket_gate.proofs.Sights.{plan_truth-seen}
use Rattle.pocket_gate.proofs.laws.plans_answer_what_is_seen.Goals as goal

pub returns : goal.returns
returns c = λ w ask home r f tabled. plan_truth-seen w ask home r f (c.guards_show_what_is_seen.ensures w ask tabled)
