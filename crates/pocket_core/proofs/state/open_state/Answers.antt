use Rattle.pocket_states.proofs.PutWorldLemmas.{sound_tabled}
use Rattle.pocket_core.proofs.state.open_state.Goals as goal

pub build-requires : goal.build-requires
build-requires c = sound_tabled c.args.stored.world c.requires.world
