use Rattle.std.proofs.Common.{◌∙◌, sym, ap}
use Rattle.std.specs.Option.{option_copied}
use Rattle.std.proofs.lemmas.Bool.Decides.{Decides-eqb}
use Rattle.std.proofs.lemmas.Slice.Eq.{strip_prefix_is}
use Rattle.pocket_tables.specs.Fronts.{then_behind}
use Rattle.pocket_tables.proofs.FrontLemmas.{stripped}
use Rattle.pocket_tables.proofs.fronts.behind.Goals as goal

pub returns : goal.returns
returns c =
    stripped c.args.front.now c.in_ok-text.field-0.now c.strip_prefix.result
    (strip_prefix_is Decides-eqb c.in_ok-text.field-0.now c.args.front.now c.strip_prefix.result c.strip_prefix.ensures.cases)
    ∙ ap (λ t. then_behind c.args.front.now (option_copied t)) (sym c.in_ok-text.was)
