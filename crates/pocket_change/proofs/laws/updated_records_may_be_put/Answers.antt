use Rattle.pocket_change.proofs.PutLaws.{updated_may}
use Rattle.pocket_change.proofs.laws.updated_records_may_be_put.Goals as goal

pub returns : goal.returns
returns c = updated_may c.record_changes_fit.ensures c.deltas_are_made_at_once.ensures c.shelves_are_found.ensures c.sent_cells_have_shape.ensures c.faultless_cells_fit.ensures
    c.faultless_relations_lead_within.ensures
