-- What follows from the definition of a session.
use Rattle.std.specs.Prelude.{ℕ, List, ◌++◌}
use Rattle.pocket_wire.specs.declared.request.Ended.{Ended}
use Rattle.pocket_api.specs.declared.reply.Reply.{Reply}
use Rattle.pocket_api.specs.declared.work.Work.{Work}
use Rattle.pocket_desk.specs.declared.view.Call.{Call}
use Rattle.pocket_serve.specs.Hands.{AreSessions, Served}
use Rattle.pocket_serve.specs.Owners.{Alone, Shared}
use Rattle.pocket_serve.specs.Positions.{Rise}
use Rattle.pocket_serve.specs.Sessions.{IsSession}

module _ (fits enters : List Work → Work → Reply → Type 0) where
  -- a session over a history is one over every list that the history is a prefix of
  abbrev pub SessionsExtend : (ℕ → ℕ → Type 0) → Type 0
  SessionsExtend follows =
      (history more : List Work) (seen : ℕ) (calls : List (Call Work Reply)) (bytes said last : List ℕ) (ended : Ended) (next : ℕ)
      → IsSession fits enters follows history seen calls bytes said last ended next
      → IsSession fits enters follows (history ++ more) seen calls bytes said last ended next

  -- a session of one owner is one among many callers
  abbrev pub OwnSessionsAreShared : Type 0
  OwnSessionsAreShared =
      (history more : List Work) (seen : ℕ) (calls : List (Call Work Reply)) (bytes said last : List ℕ) (ended : Ended) (next : ℕ)
      → IsSession fits enters Alone history seen calls bytes said last ended next
      → IsSession fits enters Shared (history ++ more) seen calls bytes said last ended next

  -- the positions of one owner's calls rise by one at each that enters its work, and not else
  abbrev pub OwnPositionsRise : Type 0
  OwnPositionsRise =
      (history : List Work) (seen : ℕ) (calls : List (Call Work Reply)) (bytes said last : List ℕ) (ended : Ended) (next : ℕ)
      → IsSession fits enters Alone history seen calls bytes said last ended next → Rise enters history seen calls next

  -- a worker's sessions over a history are such over every list that the history is a prefix of
  abbrev pub HandsExtend : (ℕ → ℕ → Type 0) → Type 0
  HandsExtend follows =
      (history more : List Work) (seen : ℕ) (links : List Served) (next : ℕ)
      → AreSessions fits enters follows history seen links next → AreSessions fits enters follows (history ++ more) seen links next
