use Rattle.std.proofs.Common.{◌≡◌}
use Rattle.pocket_desk.specs.Turn.{IsSameSeat}
use Rattle.pocket_desk.proofs.turn.await_turn.Given as goal

abbrev pub invariant-loop : goal.invariant-loop
invariant-loop g l = IsSameSeat l.initial.seat l.seat × (l.seat.me ≡ l.initial.seat.me)
