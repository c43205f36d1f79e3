use Rattle.std.proofs.Common.{rules}
use Rattle.pocket_desk.proofs.Steps.{adds_to_length}
use Rattle.pocket_desk.proofs.turn.add_entry.Goals as goal

pub fetch_add-requires : goal.fetch_add-requires
fetch_add-requires g c = let turn = c.requires.turn in (search rules, search rules, adds_to_length _ _ _ _ _ _ turn.0 _ _ turn.1 turn.2 c.requires.said (search rules))
