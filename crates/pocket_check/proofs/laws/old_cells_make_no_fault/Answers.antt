use Rattle.pocket_check.proofs.FaultLemmas.{same_update_fault}
use Rattle.pocket_check.proofs.laws.old_cells_make_no_fault.Goals as goal

pub returns : goal.returns
returns c = same_update_fault
