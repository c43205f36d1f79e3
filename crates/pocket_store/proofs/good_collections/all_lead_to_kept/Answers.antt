use Rattle.pocket_store.specs.Stores.{LeadsToKept}
use Rattle.pocket_store.proofs.ListLemmas.{all_more, all_tried}
use Rattle.pocket_store.proofs.good_collections.all_lead_to_kept.Goals as goal

pub loop-field-preserved : goal.loop-field-preserved
loop-field-preserved c =
    let leads = rw c.if-not-branch.false at c.in_ok-leads_to_kept.ensures in
    all_more (LeadsToKept c.args.rows.now) c.args.fields.now c.loop-field.field-index c.field-item.result c.loop-field-test.true c.field-item.is leads c.loop-field.invariant

pub returns : goal.returns
returns c = all_tried (LeadsToKept c.args.rows.now) c.args.fields.now c.loop-field.field-index c.loop-field-test.false c.loop-field.invariant
