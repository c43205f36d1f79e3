use Rattle.pocket_store.proofs.OpenLemmas.{sound_opens}
use Rattle.pocket_store.proofs.laws.a_sound_state_opens.Goals as goal

pub returns : goal.returns
returns c = sound_opens
