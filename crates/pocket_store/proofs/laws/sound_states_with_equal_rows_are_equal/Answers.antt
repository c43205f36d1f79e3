use Rattle.pocket_store.proofs.LawLemmas.{equal_states}
use Rattle.pocket_store.proofs.laws.sound_states_with_equal_rows_are_equal.Goals as goal

pub returns : goal.returns
returns c = equal_states
