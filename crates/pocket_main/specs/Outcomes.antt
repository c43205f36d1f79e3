-- What the program comes to, and the exit status.
use Rattle.std.specs.Prelude.{◌≡◌, ◌⊎◌, ℕ, true, List, length, All, Option, Some, None, ⊤}
use Rattle.pocket.specs.Exits.{exit_status, serve_exit}
use Rattle.pocket.specs.Runs.{OnSession}
use Rattle.pocket.specs.declared.status.RunEnd.TheVariants as run
use Rattle.pocket_wire.specs.declared.request.Ended.TheVariants.{Done}
use Rattle.pocket_serve.specs.declared.hand.WorkerEnd.{WorkerEnd}
use Rattle.pocket_words.specs.declared.command.Command.{Command}
use Rattle.pocket_words.specs.declared.command.Command.TheVariants as command
use Rattle.pocket_main.specs.declared.outcome.Outcome.{Outcome}
use Rattle.pocket_main.specs.declared.outcome.Outcome.TheVariants.{Ended, Served}

-- a worker served so many connections, or ended because none could be accepted
abbrev pub HasServed : ℕ → WorkerEnd → Type 0
HasServed connections worker = (worker.faulted ≡ true) ⊎ (worker.connections ≡ connections)

-- where a server was started it had so many workers, each for so many connections
abbrev pub IsServedBy : ℕ → ℕ → Outcome → Type 0
IsServedBy workers connections (Ended ended) = ⊤
IsServedBy workers connections (Served status accepted) =
    OnSession status.started (λ _. (length status.workers ≡ workers) × All (HasServed connections) status.workers)

-- only a server has workers
abbrev pub IsEnded : Outcome → Type 0
IsEnded (Ended ended) = ⊤
IsEnded (Served status accepted) = ⊥

-- what the words' command may come to
abbrev pub IsOutcomeOf : Option Command → Outcome → Type 0
IsOutcomeOf (Some (command.Pipe admin store sample)) outcome = IsEnded outcome
IsOutcomeOf (Some (command.Serve admin port workers connections store)) outcome = IsServedBy workers connections outcome
IsOutcomeOf (Some (command.Load start count)) outcome = outcome ≡ Ended run.Words
IsOutcomeOf (Some command.Check) outcome = outcome ≡ Ended run.Words
IsOutcomeOf None outcome = outcome ≡ Ended run.Words

-- the exit status of an outcome; a server's is 4 where the length of its history couldn't be printed
abbrev pub IsExitOf : Outcome → ℕ → Type 0
IsExitOf (Ended ended) code = code ≡ exit_status ended
IsExitOf (Served status accepted) code =
    (code ≡ serve_exit status.started status.workers) ⊎ ((status.started ≡ run.Session Done) × (code ≡ exit_status run.SinkFault))
