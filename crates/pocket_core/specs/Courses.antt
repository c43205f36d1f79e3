-- What is to be done of a call: it is answered at once, or a record is put.
use Rattle.std.specs.Prelude.{◌≡◌, ◌≢◌, ◌⊎◌, ℕ, true, List, length, Some, None, Result, Ok, Err, MatchResult}
use Rattle.pocket_types.specs.Within.{collections_of}
use Rattle.pocket_types.specs.declared.deltas.Delta.{Delta}
use Rattle.pocket_types.specs.declared.names.Name.{Name}
use Rattle.pocket_types.specs.declared.records.Collection.{Collection}
use Rattle.pocket_types.specs.declared.requests.Ask.{Ask}
use Rattle.pocket_types.specs.declared.world.World.{World}
use Rattle.pocket_resolve.specs.Fields.{collection_named}
use Rattle.pocket_tables.specs.Kept.{IsReady, Kept}
use Rattle.pocket_tables.specs.Worlds.{collection_at}
use Rattle.pocket_change.specs.Changes.{puts}
use Rattle.pocket_change.specs.Puts.{MayBePut}
use Rattle.pocket_states.specs.Putting.{row_stands}
use Rattle.pocket_states.specs.States.{MachineState}
use Rattle.pocket_api.specs.Refusals.{IsNoMemory, Refusal, because}
use Rattle.pocket_api.specs.declared.call.Shown.{Shown}
use Rattle.pocket_api.specs.declared.reply.Reply.{Reply}
use Rattle.pocket_api.specs.declared.why.Why.{Why}
use Rattle.pocket_api.specs.declared.why.Why.TheVariants as why
use Rattle.pocket_core.specs.Answers.{IsAnswer, answer_of, call_outcome, is_full}
use Rattle.pocket_core.specs.Callers.{whole_of}
use Rattle.pocket_core.specs.Changing.{Put, put_outcome}
use Rattle.pocket_core.specs.Entering.{Entry, IsAsBefore, Standing, tally_in}
use Rattle.pocket_core.specs.Outcomes.{IsReading, Outcome}
use Rattle.pocket_core.specs.Showing.{display_of}
use Rattle.pocket_core.specs.declared.callers.Rest.{Rest}
use Rattle.pocket_core.specs.declared.courses.Course.{Course}
use Rattle.pocket_core.specs.declared.courses.Course.TheVariants as course

-- a record may be put into a collection of this world
pub record IsPlaced (w : World) (put : Put) : Type 0 where
  pub there : collection_at w put.collection.name ≡ Some put.collection
  pub may : MayBePut w put.collection put.rec

-- tables can make the change that puts a record, by this delta and without memory
pub record IsPlanned (tables : Kept) (put : Put) (delta : Delta) : Type 0 where
  pub placed : IsPlaced tables.world put
  pub delta_is : delta ≡ puts put.collection.name put.rec
  pub ready : IsReady tables delta

-- the delta puts what is to be put, or the refusal is the cause, unless memory is wanting
abbrev pub GivesPlan : Kept → Result Delta Why → Result Put Refusal → Type 0
GivesPlan tables result answer =
    MatchResult result (λ delta. (put : Put) × (answer ≡ Ok put) × IsPlanned tables put delta) (λ cause. cause ≢ why.Memory → answer ≡ Err (because cause))

-- the same state with another world
abbrev pub state_in : MachineState → World → MachineState
state_in s w = record s { world = w }

-- the outcome of a work that was taken apart, in a state with this world
abbrev pub outcome_in : MachineState → World → Ask → Rest → Outcome
outcome_in s w ask rest = call_outcome (state_in s w) ask rest.draw.words rest.call

-- the reply says the cause, which isn't want of memory
abbrev pub IsRefusedCourse : ℕ → Why → Course → Type 0
IsRefusedCourse at cause c = (reply : Reply) × (c ≡ course.Replies reply) × (cause ≢ why.Memory) × IsAnswer (answer_of at (Err (because cause))) reply

-- the course of a change: what is planned is put and shown, or the reply says the cause
abbrev pub IsPlannedCourse : ℕ → Shown → Result Delta Why → Course → Type 0
IsPlannedCourse at shown (Ok delta) c = c ≡ course.Puts (record { delta = delta; display = display_of shown })
IsPlannedCourse at shown (Err cause) c = IsRefusedCourse at cause c

-- the name is that of the collection of this name, or there is none, unless memory is wanting
abbrev pub NamesCollection : World → List ℕ → Result Name Why → Type 0
NamesCollection w name (Ok found) = (c : Collection) × (collection_named (collections_of w) name ≡ Some c) × (found ≡ c.name)
NamesCollection w name (Err cause) = (cause ≡ why.Memory) ⊎ ((cause ≡ why.NoCollection) × (collection_named (collections_of w) name ≡ None))

-- the reply is the outcome, and enters nothing; or a record is to be put, which is the outcome
abbrev pub IsCourse : ℕ → MachineState → Kept → Ask → Rest → Course → Type 0
IsCourse at s tables ask rest (course.Replies reply) =
    IsReading (outcome_in s tables.world ask rest) × IsAnswer (answer_of at (outcome_in s tables.world ask rest)) reply
IsCourse at s tables ask rest (course.Puts plan) =
    (shown : Shown) × (put : Put) × (plan.display ≡ display_of shown) × IsPlanned tables put plan.delta
    × (outcome_in s tables.world ask rest ≡ put_outcome (state_in s tables.world) ask shown put)

-- ---- works

-- what becomes of a work: its reply is the outcome and enters nothing, memory is wanting, or a record is put
pub data Handling (s : MachineState) (ask : Ask) (rest : Rest) (old new : Standing) (reply : Reply) : Type 0 where
  Silent : IsReading (outcome_in s old.world ask rest) → IsAnswer (answer_of (length old.history) (outcome_in s old.world ask rest)) reply
      → IsAsBefore old new → Handling s ask rest old new reply
  Wanting : IsNoMemory (length old.history) reply → IsAsBefore old new → Handling s ask rest old new reply
  Puts : (shown : Shown) (put : Put) → IsPlaced old.world put → outcome_in s old.world ask rest ≡ put_outcome (state_in s old.world) ask shown put
      → Entry ask (whole_of ask rest) (display_of shown) put old new reply → Handling s ask rest old new reply

-- whether the keeper was asked: it is quiet, or a record is put, and then it is quiet where the history is full or the row stands
pub data Asking (s : MachineState) (ask : Ask) (rest : Rest) (old : Standing) (Quiet : Type 0) : Type 0 where
  Never : Quiet → Asking s ask rest old Quiet
  Perhaps : (shown : Shown) (put : Put) → IsPlaced old.world put → outcome_in s old.world ask rest ≡ put_outcome (state_in s old.world) ask shown put
      → ((is_full (tally_in old) (whole_of ask rest) ≡ true) ⊎ (row_stands old.world put.collection put.rec ≡ true) → Quiet)
      → Asking s ask rest old Quiet
