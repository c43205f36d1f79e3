use Rattle.pocket_states.proofs.PutLaws.{keep_sound}
use Rattle.pocket_states.proofs.laws.puts_keep_states_sound.Goals as goal

pub returns : goal.returns
returns c = keep_sound
