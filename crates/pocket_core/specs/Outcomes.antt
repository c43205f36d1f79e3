-- What a call comes to: a refusal, something shown, or another state. Answer and effect follow from the one outcome.
use Rattle.std.specs.Prelude.{◌≡◌, ℕ, Bool, true, false, Result, Ok, IfOk}
use Rattle.pocket_types.specs.declared.json.Jv.{Jv}
use Rattle.pocket_api.specs.Refusals.{Refusal}
use Rattle.pocket_states.specs.States.{MachineState}

-- what an accepted call answers: nothing, or a tree
pub data Body : Type 0 where
  Empty : Body
  Tree : Jv → Body

-- an accepted call: it shows something and changes nothing, or it is entered and makes another state
pub data Accepted : Type 0 where
  Shows : Body → Accepted
  Enters : MachineState → Body → Accepted

-- an accepted call, or a refusal
abbrev pub Outcome : Type 0
Outcome = Result Accepted Refusal

-- how many commands were accepted before, and their bytes
pub record Tally : Type 0 where
  pub entries : ℕ
  pub bytes : ℕ

-- whether an accepted call is entered into the history
abbrev pub is_entered : Accepted → Bool
is_entered (Shows body) = false
is_entered (Enters s body) = true

-- a refusal, or something shown: nothing is entered
abbrev pub IsReading : Outcome → Type 0
IsReading o = IfOk o (λ done. is_entered done ≡ false)

-- the state after a call: only one that is entered changes it
abbrev pub state_after : MachineState → Outcome → MachineState
state_after s (Ok (Enters next body)) = next
state_after s _ = s
