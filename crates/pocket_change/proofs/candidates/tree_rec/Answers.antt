use Rattle.std.proofs.Common.{sym, subst}
use Rattle.std.proofs.lemmas.Result.{IfOk-weaker}
use Rattle.pocket_change.specs.Changes.{put_checked}
use Rattle.pocket_change.specs.Plans.{LeadsTo}
use Rattle.pocket_change.proofs.ChainLemmas.{old_goes_on, old_shape, old_stops}
use Rattle.pocket_change.proofs.candidates.tree_rec.Goals as goal

pub returns-in-Ok-clause-leads : goal.returns-in-Ok-clause-leads
returns-in-Ok-clause-leads g c =
    let w = c.args.tables.now.world in
    let same = old_goes_on w c.args.ask.now c.args.collection.now c.args.old.now c.args.tree.now c.in-Ok.fields c.in-Ok.ensures in
    subst (LeadsTo (put_checked w c.args.collection.now) c.admitted_rec.result) (sym same) c.admitted_rec.ensures.leads

pub returns-in-Ok-clause-shape : goal.returns-in-Ok-clause-shape
returns-in-Ok-clause-shape g c =
    IfOk-weaker c.admitted_rec.result _ _
    (λ r cells. old_shape c.sent_cells_have_shape.ensures c.args.ask.now.caller c.args.collection.now c.args.old.now c.args.tree.now c.in-Ok.fields r
    c.requires.sound c.requires.fit c.requires.profile c.in-Ok.ensures cells) c.admitted_rec.ensures.cells

pub returns-in-Err-clause-leads : goal.returns-in-Err-clause-leads
returns-in-Err-clause-leads g c = λ told.
    old_stops c.args.tables.now.world c.args.ask.now c.args.collection.now c.args.old.now c.args.tree.now c.in-Err.fault (c.in-Err.ensures told)
