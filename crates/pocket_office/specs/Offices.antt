-- A state and its keeper behind a desk.
use Rattle.std.specs.Prelude.{◌≡◌, ◌⊎◌, ◌≤◌, ℕ, ◌-◌, ◌^◌, min, Bool, List, length, take, Option, Some, slice_get, IsTrue}
use Rattle.pocket_types.specs.Causes.{StaysUntold}
use Rattle.pocket_keeper.specs.declared.rows.KeptRow.{KeptRow}
use Rattle.pocket_api.specs.Refusals.{IsNoMemory}
use Rattle.pocket_api.specs.declared.reply.Reply.{Reply}
use Rattle.pocket_api.specs.declared.work.Work.{Work}
use Rattle.pocket_states.specs.States.{MachineState, StateView}
use Rattle.pocket_core.specs.Answers.{IsAnswer, after, answer}
use Rattle.pocket_core.specs.Entering.{IsUnkept}
use Rattle.pocket_core.specs.Opening.{AreRowsOf}

-- what contracts see of an office: the state, the keeper, and the keeper as it was at first
pub record OfficeView (K : Type 0) : Type 0 where
  pub state : StateView
  pub keeper : K
  pub first : K

-- what an office begins with: the state that was opened, and the keeper
pub record OfficeOpening (K : Type 0) : Type 0 where
  pub state : MachineState
  pub keeper : K

-- each command of a history is one that the machine enters after the commands before it
abbrev pub AreAccepted : MachineState → List Work → Type 0
AreAccepted opening history =
    (place : ℕ) (work : Work) → slice_get history place ≡ Some work → IsTrue (answer opening (take place history) work).enters

-- the rows that are told are those of the state, and its history is one of accepted commands. What the keeper didn't tell at first it
-- doesn't tell now, and its count of faults didn't fall
pub record IsOffice {K : Type 0} (told : K → Option (List KeptRow)) (count : K → ℕ) (office : OfficeView K) : Type 0 where
  pub rows : AreRowsOf (told office.keeper) (after office.state.opening office.state.journal)
  pub accepted : AreAccepted office.state.opening office.state.journal
  pub untold : StaysUntold (told office.first) (told office.keeper)
  pub later : count office.first ≤ count office.keeper

-- a count of faults, up to the end of its type
abbrev pub counted : ℕ → ℕ
counted n = min n (2 ^ 64 - 1)

-- what an office says to a work: the machine's answer, or that memory is wanting; and where the keeper's count rose, that the keeper failed
abbrev pub IsOfficeReply : MachineState → List Work → Work → Reply → Bool → Type 0
IsOfficeReply opening history work reply risen =
    IsAnswer (answer opening history work) reply ⊎ (IsNoMemory (length history) reply ⊎ (IsTrue risen × IsUnkept opening history work reply))
