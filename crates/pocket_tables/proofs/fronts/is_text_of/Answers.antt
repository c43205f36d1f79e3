use Rattle.std.proofs.Common.{◌∙◌, ap}
use Rattle.pocket_types.specs.Json.{printed}
use Rattle.pocket_tables.proofs.FrontLemmas.{is_end, end_is}
use Rattle.pocket_tables.proofs.fronts.is_text_of.Goals as goal

pub returns-in-Some : goal.returns-in-Some
returns-in-Some c = c.is_empty.ensures ∙ ap is_end c.in-Some.ensures ∙ end_is (printed c.args.tree.now) c.args.text.now

pub returns-in-None : goal.returns-in-None
returns-in-None c = ap is_end c.in-None.ensures ∙ end_is (printed c.args.tree.now) c.args.text.now
