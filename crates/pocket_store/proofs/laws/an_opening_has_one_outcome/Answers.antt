use Rattle.pocket_store.proofs.OutcomeLemmas.{bad_once, not_both, state_once}
use Rattle.pocket_store.proofs.laws.an_opening_has_one_outcome.Goals as goal

pub returns : goal.returns
returns c = record { state = state_once; row = bad_once; either = not_both }
