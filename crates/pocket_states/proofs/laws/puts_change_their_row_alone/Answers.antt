use Rattle.pocket_states.proofs.PutLaws.{keep_rows}
use Rattle.pocket_states.proofs.laws.puts_change_their_row_alone.Goals as goal

pub returns : goal.returns
returns c = keep_rows
