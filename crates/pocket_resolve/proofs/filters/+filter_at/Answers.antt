use Rattle.pocket_resolve.proofs.FilterLemmas.{and_whole, or_whole}
use Rattle.pocket_resolve.proofs.filters.+filter_at.Goals as goal

pub returns-in_ok-a-in-And : goal.returns-in_ok-a-in-And
returns-in_ok-a-in-And t c =
    rw c.in-And.is
    (and_whole c.args.collections.now c.args.purpose.now c.in-And.a c.in-And.b c.args.number.now c.filter_at.new.number c.filter_at-b.new.number c.in_ok-a-in-And.a c.filter_at-b.result c.both.result (rw (← c.get.ensures) c.in_ok-a-in-And.ensures) (rw (← c.get-in-And.ensures) c.filter_at-b.ensures) c.both.ensures)

pub returns-in_ok-a-in-Or : goal.returns-in_ok-a-in-Or
returns-in_ok-a-in-Or t c =
    rw c.in-Or.is
    (or_whole c.args.collections.now c.args.purpose.now c.in-Or.a c.in-Or.b c.args.number.now c.filter_at-in-Or.new.number c.filter_at-b-in-Or.new.number c.in_ok-a-in-Or.a c.filter_at-b-in-Or.result c.either.result (rw (← c.get-in-Or.ensures) c.in_ok-a-in-Or.ensures) (rw (← c.get-in-Or-2.ensures) c.filter_at-b-in-Or.ensures) c.either.ensures)
