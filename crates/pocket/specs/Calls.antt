-- The calls of a run, which one state answers alone, and the turns that they are noted as.
use Rattle.std.specs.Prelude.{◌≡◌, ◌≤◌, ◌+◌, ◌-◌, ◌^◌, ◌==◌, ℕ, List, [], ◌∷◌, map, length, min, Option, if◌then◌else◌}
use Rattle.pocket_types.specs.Causes.{StaysUntold}
use Rattle.pocket_keeper.specs.declared.rows.KeptRow.{KeptRow}
use Rattle.pocket_wire.specs.declared.request.Ended.{Ended}
use Rattle.pocket_api.specs.declared.reply.Reply.{Reply}
use Rattle.pocket_api.specs.declared.work.Work.{Work}
use Rattle.pocket_desk.specs.declared.view.Call.{Call}
use Rattle.pocket_serve.specs.Owners.{Alone, SharedFits}
use Rattle.pocket_serve.specs.Sessions.{IsSession}
use Rattle.pocket_core.specs.Answers.{EntersWork, answer}
use Rattle.pocket_core.specs.Entering.{IsCounted, IsReply}
use Rattle.pocket_states.specs.States.{MachineState}
use Rattle.pocket_office.specs.Offices.{IsOfficeReply}
use Rattle.pocket.specs.declared.status.Turn.{Turn}

-- a reply to a work after a history from an opened state: the machine's answer, that memory is wanting, or that the keeper failed
abbrev pub StateFits : MachineState → List Work → Work → Reply → Type 0
StateFits = IsReply

-- a reply at a desk, which doesn't tell whether the keeper's count rose
abbrev pub OfficeFits : MachineState → List Work → Work → Reply → Type 0
OfficeFits opening = SharedFits (IsOfficeReply opening)

-- it enters the work
abbrev pub StateEnters : MachineState → List Work → Work → Reply → Type 0
StateEnters opening history work reply = EntersWork (answer opening history work) reply

-- the turn that a call is noted as
abbrev pub turn_of : Call Work Reply → Turn
turn_of call = record { at = call.position; draw = call.work.draw }

abbrev pub turns_of : List (Call Work Reply) → List Turn
turns_of calls = map turn_of calls

-- a session that a state answers alone, from its opening to the end of its history
abbrev pub IsOwnSession : MachineState → List Work → List (Call Work Reply) → List ℕ → List ℕ → List ℕ → Ended → Type 0
IsOwnSession opening history calls bytes said last ended =
    IsSession (StateFits opening) (StateEnters opening) Alone history 0 calls bytes said last ended (length history)

-- ---- the keeper

-- the keeper's count over calls, one after the other: it doesn't fall, and rises at each that is answered 500
abbrev pub CountsOver : List (Call Work Reply) → ℕ → ℕ → Type 0
CountsOver [] before now = now ≡ before
CountsOver (call ∷ calls) before now = (middle : ℕ) × IsCounted before middle call.reply × CountsOver calls middle now

-- how many of these calls were answered 500
abbrev pub failures : List (Call Work Reply) → ℕ
failures [] = 0
failures (call ∷ calls) = (if call.reply.status == 500 then 1 else 0) + failures calls

-- a count rose by so many at least, or stands at its end
abbrev pub RoseBy : ℕ → ℕ → ℕ → Type 0
RoseBy n before now = min (before + n) (2 ^ 64 - 1) ≤ now

-- what becomes of a keeper over calls: what it didn't tell it doesn't tell now, and its count didn't fall and rose by the failures
pub record IsKeptOver (calls : List (Call Work Reply)) (old new : Option (List KeptRow)) (before now : ℕ) : Type 0 where
  pub untold : StaysUntold old new
  pub later : before ≤ now
  pub failed : RoseBy (failures calls) before now
