use Rattle.std.specs.Prelude.{Some}
use Rattle.pocket_desk.specs.View.{call_of}
use Rattle.pocket_desk.proofs.turn.serve.Given as goal

abbrev pub ghosts-add_entry : goal.ghosts-add_entry
ghosts-add_entry g a = record { said = Some a.asked.now.value }

abbrev pub ghosts-end_turn : goal.ghosts-end_turn
ghosts-end_turn g a = record { said = Some (call_of a.position a.asked.now.value a.reply.now) }
