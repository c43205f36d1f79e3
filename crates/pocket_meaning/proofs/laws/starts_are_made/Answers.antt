use Rattle.pocket_meaning.proofs.Picks.{nothing_start}
use Rattle.pocket_meaning.proofs.Orders.{start_more, shared_start, one_member}
use Rattle.pocket_meaning.proofs.laws.starts_are_made.Goals as goal

pub returns : goal.returns
returns c = record { nothing = nothing_start; one_more = start_more; shared = shared_start; one_member = one_member }
