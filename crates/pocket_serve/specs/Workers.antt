-- All workers of a server, over the history of its machine.
use Rattle.std.specs.Prelude.{◌≡◌, ℕ, List, [], ◌∷◌, length}
use Rattle.pocket_api.specs.declared.reply.Reply.{Reply}
use Rattle.pocket_api.specs.declared.work.Work.{Work}
use Rattle.pocket_desk.specs.History.{IsInterleaved}
use Rattle.pocket_serve.specs.Entered.{AreEntered, StandBetween}
use Rattle.pocket_serve.specs.Hands.{AreSessions, HandView, IsHandRun, Served, calls_of}
use Rattle.pocket_serve.specs.declared.hand.WorkerEnd.{WorkerEnd}

module _ (fits enters : List Work → Work → Reply → Type 0) (follows : ℕ → ℕ → Type 0) (history : List Work) where
  -- a worker served some links, which are sessions over the history, and ended so. By their calls these works were entered
  pub record IsWorked (old new : HandView) (end : WorkerEnd) (entered : List Work) : Type 0 where
    pub links : List Served
    pub run : IsHandRun old new links end.connections end.faulted
    pub next : ℕ
    pub sessions : AreSessions fits enters follows history 0 links next
    pub within : StandBetween 0 (length history) (calls_of links)
    pub are_entered : AreEntered enters history (calls_of links) entered

  -- the same of each worker, in order; the works that all of them entered are those of each, interleaved
  abbrev pub AreWorked : List HandView → List HandView → List WorkerEnd → List Work → Type 0
  AreWorked [] [] [] entered = entered ≡ []
  AreWorked (old ∷ olds) (new ∷ news) (end ∷ ends) entered =
      (own : List Work) × (others : List Work) × IsInterleaved own others entered × IsWorked old new end own × AreWorked olds news ends others
  AreWorked olds news ends entered = ⊥
