use Rattle.std.proofs.Common.{rules}
use Rattle.pocket_desk.proofs.Steps.{adds_to_serving}
use Rattle.pocket_desk.proofs.turn.end_turn.Goals as goal

pub fetch_add-requires : goal.fetch_add-requires
fetch_add-requires g c = let turn = c.requires.turn in (search rules, search rules, adds_to_serving _ _ _ _ _ _ turn.1.0 turn.0.0 _ _ turn.1.1 turn.0.1 turn.1.2 c.requires.said)
