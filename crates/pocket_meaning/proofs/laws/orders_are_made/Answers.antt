use Rattle.pocket_meaning.proofs.Picks.{in_order}
use Rattle.pocket_meaning.proofs.Orders.{rest_in_order}
use Rattle.pocket_meaning.proofs.laws.orders_are_made.Goals as goal

pub returns : goal.returns
returns c = record { parents = in_order; rest = rest_in_order }
