use Rattle.pocket_meaning.proofs.Orders.{shared_some, shared_each}
use Rattle.pocket_meaning.proofs.laws.a_shared_start_gives_the_truth.Goals as goal

pub returns : goal.returns
returns c = record { some = shared_some; each = shared_each }
