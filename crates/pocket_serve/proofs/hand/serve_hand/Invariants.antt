use Rattle.std.proofs.Common.{◌≡◌, List, length}
use Rattle.pocket_desk.specs.History.{works}
use Rattle.pocket_desk.specs.Pass.{IsOf}
use Rattle.pocket_serve.specs.Hands.{AreSessions, HasServed, Served, calls_of, hand_view}
use Rattle.pocket_serve.specs.Owners.{Shared, SharedFits}
use Rattle.pocket_serve.specs.Passes.{HasCalled}
use Rattle.pocket_serve.proofs.hand.serve_hand.Given as goal

abbrev pub invariant-links : goal.invariant-links
invariant-links g l = record {
  desk : IsOf l.desk l.pass;
  progress : (links : List Served)
      × HasCalled (g.M.Machine.enters (g.M.Machine.opening l.desk.opened)) l.fn.pass (calls_of links) l.pass
      × AreSessions (SharedFits (g.M.Machine.fits (g.M.Machine.opening l.desk.opened))) (g.M.Machine.enters (g.M.Machine.opening l.desk.opened)) Shared
      (works l.pass.seen) (length (works l.fn.pass.seen)) links (length (works l.pass.seen))
      × HasServed (hand_view g.A.Acceptor.told g.C.Clock.answers g.D.Dice.answers l.fn.hand) (hand_view g.A.Acceptor.told g.C.Clock.answers g.D.Dice.answers l.hand) links
      × (l.connections ≡ length links);
}

abbrev pub decreases-links : goal.decreases-links
decreases-links g l = (g.A.Acceptor.told l.hand.acceptor).waiting
