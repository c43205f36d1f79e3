use Rattle.std.proofs.Common.{rules}
use Rattle.pocket_desk.proofs.Steps.{splits}
use Rattle.pocket_desk.proofs.Passes.{left_rests, right_rests, split_so}
use Rattle.pocket_desk.proofs.desk.Desk.split.Goals as goal

pub split_seat-other-requires : goal.split_seat-other-requires
split_seat-other-requires g c = (search rules, search rules, splits _ _ _ _ _ c.pass.invariant.idle c.pass.invariant.merged)

pub invariant_of-result : goal.invariant_of-result
invariant_of-result g c = left_rests c.pass.inside.seat.me _ c.pass.invariant c.split_seat-other.ensures.2

pub invariant_of-result-2 : goal.invariant_of-result-2
invariant_of-result-2 g c = right_rests c.pass.inside.seat.me _ c.pass.invariant c.split_seat-other.ensures.4

pub returns-clause-split : goal.returns-clause-split
returns-clause-split g c = rw (← c.pass.view_is)
    (split_so c.pass.inside.seat.table_id c.split_seat-other.new.seat.table_id c.split_seat-other.result.table_id c.pass.inside.seat.me _ _ c.pass.invariant c.split_seat-other.ensures.2 c.split_seat-other.ensures.4)

pub returns-clause-own : goal.returns-clause-own
returns-clause-own g c = (
  (left_rests c.pass.inside.seat.me _ c.pass.invariant c.split_seat-other.ensures.2).own.0,
  (right_rests c.pass.inside.seat.me _ c.pass.invariant c.split_seat-other.ensures.4).own.0,
)
