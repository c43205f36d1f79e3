-- What a run comes to.
use Rattle.std.specs.Prelude.{◌≡◌, ℕ, List, [], Option, ⊤}
use Rattle.pocket_types.specs.Causes.{Rose}
use Rattle.pocket_wire.specs.declared.request.Ended.{Ended}
use Rattle.pocket_wire.specs.declared.request.Ended.TheVariants.{Done}
use Rattle.pocket_keeper.specs.Keeping.{IfBothTold}
use Rattle.pocket_keeper.specs.declared.rows.KeptRow.{KeptRow}
use Rattle.pocket_store.specs.Stores.{IsFirstBadRow, IsStoreOf}
use Rattle.pocket_states.specs.States.{IsSoundState, MachineState, stored_in}
use Rattle.pocket_core.specs.declared.opening.StartFault.{StartFault}
use Rattle.pocket_core.specs.declared.opening.StartFault.TheVariants as start
use Rattle.pocket.specs.Words.{IsPipe, IsServe}
use Rattle.pocket_words.specs.declared.command.WordFault.{WordFault}
use Rattle.pocket_words.specs.declared.command.WordFault.TheVariants as words
use Rattle.pocket.specs.declared.status.RunEnd.{RunEnd}
use Rattle.pocket.specs.declared.status.RunEnd.TheVariants as run

-- the ends that a program may have, each with its cause: `Names` says with which token the words name it, and `Ends` how its sessions end
abbrev pub IsEndOf : (List ℕ → Type 0) → (Ended → Type 0) → Option (List KeptRow) → Option (List KeptRow) → ℕ → ℕ → RunEnd → Type 0
IsEndOf Names Ends old new before now (run.Session ended) = Ends ended
IsEndOf Names Ends old new before now run.Words = (token : List ℕ) → ¬ Names token
IsEndOf Names Ends old new before now run.KeeperFault = Rose before now
IsEndOf Names Ends old new before now (run.BadStore key) = IfBothTold old new (λ told _. IsFirstBadRow told key)
IsEndOf Names Ends old new before now run.Memory = ⊤
IsEndOf Names Ends old new before now run.SourceFault = ⊥
IsEndOf Names Ends old new before now run.SinkFault = ⊥
IsEndOf Names Ends old new before now (run.Faults count) = ⊥
IsEndOf Names Ends old new before now run.BadInput = ⊥
IsEndOf Names Ends old new before now run.NotEmpty = ⊥

-- `pipe` may end as any session does
abbrev pub IsPipeEnd : List (List ℕ) → Option (List KeptRow) → Option (List KeptRow) → ℕ → ℕ → RunEnd → Type 0
IsPipeEnd words = IsEndOf (IsPipe words) (λ _. ⊤)

-- `serve` is done where it was started
abbrev pub IsServeEnd : List (List ℕ) → Option (List KeptRow) → Option (List KeptRow) → ℕ → ℕ → RunEnd → Type 0
IsServeEnd words = IsEndOf (IsServe words) (λ ended. ended ≡ Done)

-- the words name the program with a token, unless they are refused or memory is wanting
abbrev pub AreRead : (List ℕ → Type 0) → RunEnd → Type 0
AreRead Names run.Words = ⊤
AreRead Names run.Memory = ⊤
AreRead Names _ = (token : List ℕ) × Names token

-- a fact of a run whose words are those of `pipe`
abbrev pub OnPipe : List (List ℕ) → Type 0 → Type 0
OnPipe words P = (token : List ℕ) → IsPipe words token → P

-- a fact of the session, where there was one
abbrev pub OnSession : RunEnd → (Ended → Type 0) → Type 0
OnSession (run.Session ended) P = P ended
OnSession _ P = ⊤

-- a fact of a run without a session
abbrev pub OnUnopened : RunEnd → Type 0 → Type 0
OnUnopened (run.Session ended) P = ⊤
OnUnopened _ P = P

-- the sound state that is opened: that of the rows told at first, where they are told to the end, with a token that the words name the
-- program with, and no clients
pub record IsOpeningFor (Names : List ℕ → Type 0) (old new : Option (List KeptRow)) (opening : MachineState) : Type 0 where
  pub token : Names opening.admin
  pub clients : opening.clients ≡ []
  pub sound : IsSoundState opening
  pub kept : IfBothTold old new (λ told _. IsStoreOf told (stored_in opening))

-- the end that a fault of the opening makes
abbrev pub end_of : StartFault → RunEnd
end_of start.KeeperFault = run.KeeperFault
end_of (start.BadStore key) = run.BadStore key
end_of start.Memory = run.Memory

-- the end that a fault of the words makes
abbrev pub word_end_of : WordFault → RunEnd
word_end_of words.BadWords = run.Words
word_end_of words.Memory = run.Memory
