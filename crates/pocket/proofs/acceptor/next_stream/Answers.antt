use Rattle.std.proofs.Common.{◌≡◌, ◌-◌, None, Some, arith, refl, subst, sym}
use Rattle.pocket.specs.Listening.{GivesWithin}
use Rattle.pocket.proofs.Listening.{gave, gave_none}
use Rattle.pocket.proofs.acceptor.next_stream.Goals as goal

pub returns-in-Some : goal.returns-in-Some
returns-in-Some g c =
    c.loop.invariant (Some c.in-Some.stream) c.take_stream.new.self
    (gave g.L.Listener.gives 8 c.loop.counter c.loop-test.true c.loop.listener c.in-Some.stream c.take_stream.new.self c.in-Some.ensures)

pub loop-preserved : goal.loop-preserved
loop-preserved g c given last others =
    c.loop.invariant given last
    (gave_none g.L.Listener.gives 8 c.loop.counter c.loop-test.true c.loop.listener c.take_stream.new.self given last c.in_default.ensures others)

pub returns : goal.returns
returns g c =
    let over : 8 - c.loop.counter ≡ 0 = omega (arith, c.loop-test.false) in
    c.loop.invariant None c.loop.listener
    (subst (λ n. GivesWithin g.L.Listener.gives n c.loop.listener None c.loop.listener) (sym over) (refl, refl))
