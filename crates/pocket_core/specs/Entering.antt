-- What a call finds, what it answers, and what it leaves.
use Rattle.std.specs.Prelude.{◌≡◌, ◌⊎◌, ◌<◌, ◌≤◌, ℕ, ◌+◌, true, false, List, [], ◌∷◌, ◌++◌, length, Option, Err, IsTrue, if◌then◌else◌}
use Rattle.pocket_types.specs.Causes.{Rose, StaysUntold}
use Rattle.pocket_types.specs.declared.requests.Ask.{Ask}
use Rattle.pocket_types.specs.declared.world.World.{World}
use Rattle.pocket_keeper.specs.Keeping.{AreAsBefore, IfBothTold, committed}
use Rattle.pocket_keeper.specs.Texts.{rec_row}
use Rattle.pocket_keeper.specs.declared.rows.KeptRow.{KeptRow}
use Rattle.pocket_store.specs.Stores.{HaveSameRows}
use Rattle.pocket_change.specs.Changes.{world_with}
use Rattle.pocket_states.specs.Putting.{row_stands}
use Rattle.pocket_states.specs.States.{IsSoundState, MachineState, rows_of}
use Rattle.pocket_api.specs.Refusals.{IsNoMemory, because}
use Rattle.pocket_api.specs.declared.reply.Reply.{Reply}
use Rattle.pocket_api.specs.declared.why.Why.TheVariants as why
use Rattle.pocket_api.specs.declared.work.Work.{Work}
use Rattle.pocket_core.specs.Answers.{Answer, IsAnswer, IsHistoryAfter, accepted_answer, after, answer, answer_of, full_history, is_full, tally_of}
use Rattle.pocket_core.specs.Changing.{Put}
use Rattle.pocket_core.specs.Opening.{AreRowsOf}
use Rattle.pocket_core.specs.Outcomes.{Tally, Tree}
use Rattle.pocket_core.specs.Showing.{displayed}
use Rattle.pocket_core.specs.declared.showing.Display.{Display}

-- ---- what is answered

-- a work that would be entered, and with which the kept rows change: for such alone the keeper is asked
pub record Commits (opening : MachineState) (history : List Work) (work : Work) : Type 0 where
  pub enters : IsTrue (answer opening history work).enters
  pub changes : ¬ HaveSameRows (rows_of (after opening history)) (rows_of (after opening (history ++ work ∷ [])))

-- the answer that stands in place of one that the keeper refused to keep
abbrev pub unkept_answer : ℕ → Answer
unkept_answer at = answer_of at (Err (because why.KeeperFault))

-- the keeper was asked and failed: the reply is 500
pub record IsUnkept (opening : MachineState) (history : List Work) (work : Work) (reply : Reply) : Type 0 where
  pub commits : Commits opening history work
  pub said : IsAnswer (unkept_answer (length history)) reply

-- what is said to a work: the machine's answer, that memory is wanting, or that the keeper failed
abbrev pub IsReply : MachineState → List Work → Work → Reply → Type 0
IsReply opening history work reply =
    IsAnswer (answer opening history work) reply ⊎ (IsNoMemory (length history) reply ⊎ IsUnkept opening history work reply)

-- the count of the keeper's faults didn't fall, and rose exactly where the reply is 500; a count at its end stays there
pub record IsCounted (before now : ℕ) (reply : Reply) : Type 0 where
  pub later : before ≤ now
  pub failed : reply.status ≡ 500 → Rose before now
  pub told : before < now → reply.status ≡ 500

-- ---- what is left

-- what stands before or after a call: the world, the accepted commands and their bytes, the rows that are told, and the keeper's count
pub record Standing : Type 0 where
  pub world : World
  pub history : List Work
  pub bytes : ℕ
  pub rows : Option (List KeptRow)
  pub faults : ℕ

abbrev pub tally_in : Standing → Tally
tally_in old = record { entries = length old.history; bytes = old.bytes }

-- what stands is that of a state after its history: the state is sound, the bytes are counted and fit, the rows are its own
pub record IsStandingOf (opening : MachineState) (old : Standing) (s : MachineState) : Type 0 where
  pub now : s ≡ after opening old.history
  pub world : old.world ≡ s.world
  pub sound : IsSoundState s
  pub bytes : old.bytes ≡ (tally_of old.history).bytes
  pub within : old.bytes ≤ 268435456
  pub rows : AreRowsOf old.rows s

-- all but the keeper's count is as before, though the keeper may have been asked
pub record IsUnchanged (old new : Standing) : Type 0 where
  pub world : new.world ≡ old.world
  pub history : new.history ≡ old.history
  pub bytes : new.bytes ≡ old.bytes
  pub rows : AreAsBefore old.rows new.rows
  pub untold : StaysUntold old.rows new.rows

-- and so is the count
pub record IsAsBefore (old new : Standing) : Type 0 where
  pub rest : IsUnchanged old new
  pub faults : new.faults ≡ old.faults

-- the keeper failed, so its count rose
pub record IsUndone (old new : Standing) : Type 0 where
  pub rest : IsUnchanged old new
  pub later : old.faults ≤ new.faults
  pub rose : Rose old.faults new.faults

-- the rows with that of a record, which is committed where its text isn't there already
abbrev pub rows_with_put : World → Put → List KeptRow → List KeptRow
rows_with_put w put told =
    if row_stands w put.collection put.rec then told else committed told (rec_row put.collection put.rec ∷ []) []

-- the work is entered, with a record put into the world and its row kept
pub record IsEntered (work : Work) (put : Put) (old new : Standing) : Type 0 where
  pub world : new.world ≡ world_with old.world put.collection put.rec
  pub history : new.history ≡ old.history ++ work ∷ []
  pub bytes : new.bytes ≡ old.bytes + work.cost
  pub rows : IfBothTold old.rows new.rows (λ before now. now ≡ rows_with_put old.world put before)
  pub untold : StaysUntold old.rows new.rows
  pub faults : new.faults ≡ old.faults

-- the answer to a work that puts a record: it is shown as it then stands
abbrev pub put_answer : Ask → Display → Put → Standing → Answer
put_answer ask display put old =
    accepted_answer (Tree (displayed (world_with old.world put.collection put.rec) ask put.collection display put.rec)) (length old.history) true

-- what becomes of a work that puts a record: it is entered, or the history is full, memory is wanting or the keeper failed
pub data Entry (ask : Ask) (work : Work) (display : Display) (put : Put) (old new : Standing) (reply : Reply) : Type 0 where
  Entered : is_full (tally_in old) work ≡ false → IsAnswer (put_answer ask display put old) reply → IsEntered work put old new
      → Entry ask work display put old new reply
  Full : is_full (tally_in old) work ≡ true → IsAnswer (answer_of (length old.history) (Err (full_history (tally_in old) work))) reply → IsAsBefore old new
      → Entry ask work display put old new reply
  Wanting : IsNoMemory (length old.history) reply → IsAsBefore old new → Entry ask work display put old new reply
  Unkept : is_full (tally_in old) work ≡ false → row_stands old.world put.collection put.rec ≡ false
      → IsAnswer (unkept_answer (length old.history)) reply → IsUndone old new → Entry ask work display put old new reply

-- ---- whole calls

-- a call of a work after a history: what is said, what is entered, and that the state that is left is sound and its rows are kept
pub record IsCall (opening : MachineState) (work : Work) (old new : Standing) (next : MachineState) (reply : Reply) : Type 0 where
  pub said : IsReply opening old.history work reply
  pub history : IsHistoryAfter (answer opening old.history work) reply work old.history new.history
  pub now : next ≡ after opening new.history
  pub sound : IsSoundState next
  pub bytes : new.bytes ≡ (tally_of new.history).bytes
  pub within : new.bytes ≤ 268435456
  pub rows : AreRowsOf new.rows next
  pub untold : StaysUntold old.rows new.rows
  pub count : IsCounted old.faults new.faults reply
