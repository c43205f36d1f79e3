-- From what becomes of a work that was taken apart to a whole call.
use Rattle.std.proofs.Common.{◌≡◌, ◌∙◌, ◌⊎◌, inl, inr, ℕ, true, List, Option, ap, arith, length, refl, subst, sym}
use Rattle.pocket_types.specs.Within.{collections_of}
use Rattle.pocket_types.specs.declared.requests.Ask.{Ask}
use Rattle.pocket_types.specs.declared.world.World.{World}
use Rattle.pocket_keeper.specs.declared.rows.KeptRow.{KeptRow}
use Rattle.pocket_tables.specs.Kept.{Kept}
use Rattle.pocket_tables.specs.Worlds.{IsTabled}
use Rattle.pocket_states.specs.Laws.{IsPutting}
use Rattle.pocket_states.specs.Putting.{row_stands}
use Rattle.pocket_states.specs.States.{MachineState, sender}
use Rattle.pocket_api.specs.Asks.{bare_ask}
use Rattle.pocket_api.specs.Refusals.{IsNoMemory}
use Rattle.pocket_api.specs.declared.call.Shown.{Shown}
use Rattle.pocket_api.specs.declared.reply.Reply.{Reply}
use Rattle.pocket_api.specs.declared.work.Work.{Work}
use Rattle.pocket_core.specs.Answers.{IsAnswer, answer_of, call_outcome, has_no_room, is_full, work_outcome}
use Rattle.pocket_core.specs.Callers.{whole_of}
use Rattle.pocket_core.specs.Changing.{Put, put_jv, put_outcome}
use Rattle.pocket_core.specs.Courses.{Asking, Handling, IsCourse, IsPlaced, IsPlanned, outcome_in, state_in}
use Rattle.pocket_core.specs.Courses as courses
use Rattle.pocket_core.specs.Entering.{Commits, Entry, IsAsBefore, IsCall, IsStandingOf, Standing, tally_in}
use Rattle.pocket_core.specs.Entering as entering
use Rattle.pocket_core.specs.Outcomes.{IsReading}
use Rattle.pocket_core.specs.Showing.{display_of}
use Rattle.pocket_core.specs.declared.callers.Rest.{Rest}
use Rattle.pocket_core.specs.declared.courses.Course.TheVariants as course
use Rattle.pocket_core.specs.declared.courses.Plan.{Plan}
use Rattle.pocket_core.specs.declared.showing.Display.{Display}
use Rattle.pocket_core.proofs.EnterLemmas.{asks_or_not, entered_call, in_place, silent_call, wanting_call}
use Rattle.pocket_core.proofs.KeepLemmas.{rows_same, same_collections}

-- ---- collections

-- a record that is put leaves the collections
entry_collections : (ask : Ask) (work : Work) (display : Display) (put : Put) (old new : Standing) (reply : Reply) → IsTabled old.world → IsPlaced old.world put
    → Entry ask work display put old new reply → collections_of new.world ≡ collections_of old.world
entry_collections ask work display put old new reply tabled placed (entering.Entered free said e) =
    ap collections_of e.world ∙ same_collections old.world put tabled placed
entry_collections ask work display put old new reply tabled placed (entering.Full full said same) = ap collections_of same.rest.world
entry_collections ask work display put old new reply tabled placed (entering.Wanting wanting same) = ap collections_of same.rest.world
entry_collections ask work display put old new reply tabled placed (entering.Unkept free other said undone) = ap collections_of undone.rest.world

-- and so does every work
pub handled_collections : (s : MachineState) (ask : Ask) (rest : Rest) (old new : Standing) (reply : Reply) → IsTabled old.world
    → Handling s ask rest old new reply → collections_of new.world ≡ collections_of old.world
handled_collections s ask rest old new reply tabled (courses.Silent reads said same) = ap collections_of same.rest.world
handled_collections s ask rest old new reply tabled (courses.Wanting wanting same) = ap collections_of same.rest.world
handled_collections s ask rest old new reply tabled (courses.Puts shown put placed is entry) =
    entry_collections ask (whole_of ask rest) (display_of shown) put old new reply tabled placed entry

-- ---- calls

module _ (opening : MachineState) (work : Work) (old new : Standing) (s : MachineState) (reply : Reply) (h : IsStandingOf opening old s) (ask : Ask) (rest : Rest)
    (asks : ask ≡ bare_ask (sender s work) work) (whole : whole_of ask rest ≡ work) where
  -- the outcome of the parts is that of the work
  same_outcome : outcome_in s old.world ask rest ≡ work_outcome s work
  same_outcome = λ i. call_outcome (state_in s (h.world i)) (asks i) (whole i).draw.words (whole i).call

  module _ (shown : Shown) (put : Put) (is : outcome_in s old.world ask rest ≡ put_outcome (state_in s old.world) ask shown put) where
    asked : work_outcome s work ≡ put_outcome s ask shown put
    asked = sym same_outcome ∙ is ∙ ap (λ w. put_outcome (state_in s w) ask shown put) h.world

    putting : IsPlaced old.world put → IsPutting s put.collection put.rec
    putting placed =
        let here = subst (λ w. IsPlaced w put) h.world placed in
        record { sound = h.sound; there = here.there; may = here.may }

  -- what becomes of the parts is a call of the work
  pub handled_call : Handling s ask rest old new reply → IsCall opening work old new (record s { world = new.world }) reply
  handled_call (courses.Silent reads said same) =
      in_place opening work old new s reply h same.rest
      (silent_call opening work old new s reply h (subst IsReading same_outcome reads) (inl (subst (λ o. IsAnswer (answer_of (length old.history) o) reply) same_outcome said)) same)
  handled_call (courses.Wanting wanting same) = in_place opening work old new s reply h same.rest (wanting_call opening work old new s reply h wanting same)
  handled_call (courses.Puts shown put placed is entry) =
      entered_call opening work old new s reply h ask (display_of shown) put (putting shown put is placed) (asked shown put is)
      (subst (λ w. Entry ask w (display_of shown) put old new reply) whole entry)

  -- where the keeper isn't to be asked, it is quiet
  pub quiet_call : (Quiet : Type 0) → Asking s ask rest old Quiet → ¬ Commits opening old.history work → Quiet
  quiet_call Quiet (courses.Never quiet) never = quiet
  quiet_call Quiet (courses.Perhaps shown put placed is then) never =
      then (either (asks_or_not opening work old new s reply h put (put_jv s.world ask shown put) (putting shown put is placed) (asked shown put is) never))
    where
      either : (is_full (tally_in old) work ≡ true) ⊎ (row_stands s.world put.collection put.rec ≡ true)
          → (is_full (tally_in old) (whole_of ask rest) ≡ true) ⊎ (row_stands old.world put.collection put.rec ≡ true)
      either (inl full) = inl (ap (is_full (tally_in old)) whole ∙ full)
      either (inr stands) = inr (ap (λ w. row_stands w put.collection put.rec) h.world ∙ stands)

-- ---- from a course to what becomes of a work

module _ (ask : Ask) (rest : Rest) (w : World) (history : List Work) (bytes : ℕ) (rows : Option (List KeptRow)) (faults : ℕ) (tables : Kept)
    (same : tables.world ≡ w) (at : ℕ) (at_is : at ≡ length history) (reply : Reply) (s : MachineState) where
  abbrev found : World → Standing
  found v = record { world = v; history = history; bytes = bytes; rows = rows; faults = faults }

  stays : IsAsBefore (found tables.world) (found tables.world)
  stays = record {
    rest = record { world = refl; history = refl; bytes = refl; rows = rows_same rows; untold = λ none. none };
    faults = refl;
  }

  pub replies_handled : IsCourse at s tables ask rest (course.Replies reply) → Handling s ask rest (found w) (found tables.world) reply
  replies_handled is =
      subst (λ v. Handling s ask rest (found v) (found tables.world) reply) same
      (courses.Silent is.0 (subst (λ n. IsAnswer (answer_of n (outcome_in s tables.world ask rest)) reply) at_is is.1) stays)

  pub wanting_handled : IsNoMemory at reply → Handling s ask rest (found w) (found tables.world) reply
  wanting_handled wanting =
      subst (λ v. Handling s ask rest (found v) (found tables.world) reply) same
      (courses.Wanting (subst (λ n. IsNoMemory n reply) at_is wanting) stays)

  module _ (plan : Plan) (is : IsCourse at s tables ask rest (course.Puts plan)) where
    pub puts_handled : (new : Standing)
        → ((put : Put) → IsPlanned tables put plan.delta → Entry ask (whole_of ask rest) plan.display put (found tables.world) new reply)
        → Handling s ask rest (found w) new reply
    puts_handled new entry =
        subst (λ v. Handling s ask rest (found v) new reply) same
        (courses.Puts is.0 is.1 is.3.placed is.4
        (subst (λ d. Entry ask (whole_of ask rest) d is.1 (found tables.world) new reply) is.2 (entry is.1 is.3)))

    pub puts_asked : (Quiet : Type 0)
        → ((put : Put) → IsPlanned tables put plan.delta
        → (has_no_room (record { entries = length history; bytes = bytes }) rest.cost ≡ true) ⊎ (row_stands tables.world put.collection put.rec ≡ true) → Quiet)
        → Asking s ask rest (found w) Quiet
    puts_asked Quiet quiet =
        subst (λ v. Asking s ask rest (found v) Quiet) same (courses.Perhaps is.0 is.1 is.3.placed is.4 (quiet is.1 is.3))
