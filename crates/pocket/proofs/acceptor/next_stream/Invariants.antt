use Rattle.std.proofs.Common.{◌-◌}
use Rattle.pocket.specs.Listening.{GivesWithin}
use Rattle.pocket.proofs.acceptor.next_stream.Given as goal

-- what the tries that are left come to, all of them come to
abbrev pub invariant-loop : goal.invariant-loop
invariant-loop g l =
    (given : _) (last : _) → GivesWithin g.L.Listener.gives (8 - l.counter) l.listener given last → GivesWithin g.L.Listener.gives 8 l.fn.listener given last
