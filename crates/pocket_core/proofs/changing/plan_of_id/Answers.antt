use Rattle.std.proofs.Common.{◌≡◌, false, subst}
use Rattle.std.specs.Option.{option_copied}
use Rattle.pocket_types.specs.Names.{is_id}
use Rattle.pocket_core.proofs.PlanLemmas.{update_refused}
use Rattle.pocket_core.proofs.ViewLemmas.{no_rec}
use Rattle.pocket_core.proofs.changing.plan_of_id.Goals as goal

pub returns-in-None-clause-delta : goal.returns-in-None-clause-delta
returns-in-None-clause-delta g c =
    let w = c.args.tables.now.world in
    let form = subst (λ t. is_id t ≡ false) c.as_str.ensures c.in-None.ensures in
    update_refused w c.args.ask.now c.args.id.now (option_copied c.args.body) c.refuse_update.result _
    (λ d. no_rec w d.name c.args.id.now c.requires.sound form) c.refuse_update.ensures.fault
