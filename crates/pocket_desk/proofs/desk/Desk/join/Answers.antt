use Rattle.std.proofs.Common.{rules, ap, ◌∙◌}
use Rattle.pocket_desk.proofs.Steps.{joins, merges}
use Rattle.pocket_desk.proofs.Passes.{joined}
use Rattle.pocket_desk.proofs.desk.Desk.join.Goals as goal

pub join_seat-requires : goal.join_seat-requires
join_seat-requires g c = (search rules, search rules, search rules, search rules, joins _ _ _ _ _ _ _ c.one.invariant.idle c.two.invariant.idle)

pub load-requires : goal.load-requires
load-requires g c = (search rules, search rules, merges _ _ _ _ _ _ (ap (λ m. m.0.stage) c.join_seat.ensures.2 ∙ c.one.invariant.idle))

pub invariant_of-result : goal.invariant_of-result
invariant_of-result g c = let s = c.load.new.seat in
    (joined s.table_id s.table_id s.table_id c.one.inside.seat.me c.two.inside.seat.me _ s.me c.one.invariant c.two.invariant c.join_seat.ensures.2 c.load.ensures.2).0

pub returns-clause-join : goal.returns-clause-join
returns-clause-join g c = rw (← c.one.view_is, ← c.two.view_is)
    (joined c.one.inside.seat.table_id c.two.inside.seat.table_id c.load.new.seat.table_id c.one.inside.seat.me c.two.inside.seat.me _ c.load.new.seat.me c.one.invariant c.two.invariant c.join_seat.ensures.2 c.load.ensures.2).1

pub returns-clause-own : goal.returns-clause-own
returns-clause-own g c = let s = c.load.new.seat in
    (joined s.table_id s.table_id s.table_id c.one.inside.seat.me c.two.inside.seat.me _ s.me c.one.invariant c.two.invariant c.join_seat.ensures.2 c.load.ensures.2).0.own.0
