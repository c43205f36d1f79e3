use Rattle.std.proofs.Common.{rules, Some, ◌∷◌, ap, sym, ◌∙◌}
use Rattle.atomic_table.specs.Table.{rest}
use Rattle.pocket_desk.proofs.turn.take_machine.Goals as goal

pub exchange-requires : goal.exchange-requires
exchange-requires g c = let held = c.requires.slot in (search rules, (Some held.0, held.1 ∙ ap (λ l. (0, Some held.0) ∷ rest l) (sym held.1)))
