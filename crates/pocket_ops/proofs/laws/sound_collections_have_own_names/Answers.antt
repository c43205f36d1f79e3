use Rattle.pocket_ops.proofs.LengthLemmas.{sound_own_names}
use Rattle.pocket_ops.proofs.laws.sound_collections_have_own_names.Goals as goal

pub returns : goal.returns
returns c = sound_own_names
