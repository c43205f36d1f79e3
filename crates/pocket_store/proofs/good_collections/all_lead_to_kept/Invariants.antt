use Rattle.std.proofs.Common.{take, All}
use Rattle.pocket_store.specs.Stores.{LeadsToKept}
use Rattle.pocket_store.proofs.good_collections.all_lead_to_kept.Given as goal

abbrev pub invariant-loop-field : goal.invariant-loop-field
invariant-loop-field l = All (LeadsToKept l.rows) (take l.field-index l.fields)
