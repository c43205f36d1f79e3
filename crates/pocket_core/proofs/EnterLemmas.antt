-- What becomes of a work, as a whole call: it is entered with a record put, or all is as before.
use Rattle.std.proofs.Common.{◌≡◌, ◌∙◌, ◌⊎◌, inl, inr, ℕ, ◌+◌, ◌≤◌, Bool, true, false, cond, List, [], ◌∷◌, ◌++◌, Option, Some, None, Ok, Err, ap, arith, length, refl, subst, sym}
use Rattle.std.specs.Prelude.{◌||◌, MatchBool, is_some, nat_le, nat_lt}
use Rattle.std.proofs.lemmas.Bool.{MatchBool-at_false, false≢true, ltb-false, true≢false}
use Rattle.pocket_types.specs.Causes.{StaysUntold}
use Rattle.pocket_types.specs.declared.json.Jv.{Jv}
use Rattle.pocket_types.specs.declared.requests.Ask.{Ask}
use Rattle.pocket_types.specs.declared.world.World.{World}
use Rattle.pocket_keeper.specs.Keeping.{AreAsBefore, IfBothTold, committed}
use Rattle.pocket_keeper.specs.Texts.{rec_row}
use Rattle.pocket_keeper.specs.declared.rows.KeptRow.{KeptRow}
use Rattle.pocket_store.specs.Stores.{HaveSameRows}
use Rattle.pocket_change.specs.Changes.{world_with}
use Rattle.pocket_states.specs.Laws.{IsPutting}
use Rattle.pocket_states.specs.Putting.{row_stands, state_with}
use Rattle.pocket_states.specs.States.{MachineState, rows_of}
use Rattle.pocket_states.proofs.PutLaws.{decide, keep_rows, keep_sound}
use Rattle.pocket_api.specs.Refusals.{IsNoMemory, Refusal}
use Rattle.pocket_api.specs.declared.reply.Reply.{Reply}
use Rattle.pocket_api.specs.declared.work.Work.{Work}
use Rattle.pocket_core.specs.Answers.{EntersWork, IsAnswer, accepted_answer, after, answer, answer_of, full_history, is_full, outcome, tally_of, work_outcome}
use Rattle.pocket_core.specs.Changing.{Put}
use Rattle.pocket_core.specs.Entering.{Commits, Entered, Entry, Full, IsAsBefore, IsCall, IsCounted, IsEntered, IsReply, IsStandingOf, IsUnchanged, IsUndone, Standing, Unkept, Wanting, rows_with_put, tally_in, unkept_answer}
use Rattle.pocket_core.specs.Opening.{AreRowsOf, IfTold}
use Rattle.pocket_core.specs.Outcomes.{Enters, IsReading, Outcome, Tally, Tree, state_after}
use Rattle.pocket_core.specs.Showing.{displayed}
use Rattle.pocket_core.specs.declared.showing.Display.{Display}
use Rattle.pocket_core.proofs.HistoryLemmas.{after_more, answer_reads, entries_are, outcome_enters, outcome_full, outcome_reads, tally_more}
use Rattle.pocket_core.proofs.StatusLemmas.{answer_counts, entering_is_low, no_answer_is_500, wanting_counts}

-- ---- rows that are told

-- what is told afterwards was told before
module _ (P : List KeptRow → List KeptRow → Type 0) (Q R : List KeptRow → Type 0) (step : (before now : List KeptRow) → P before now → Q before → R now) where
  pub told_then : (old new : Option (List KeptRow)) → IfBothTold old new P → StaysUntold old new → IfTold old Q → IfTold new R
  told_then old None both untold h = tt
  told_then None (Some now) both untold h = let none : is_some (Some now) ≡ false = untold refl in absurd (true≢false none)
  told_then (Some before) (Some now) both untold h = step before now both h

-- rows that are as before are those of the same state
pub rows_stay : (s : MachineState) (old new : Option (List KeptRow)) → AreAsBefore old new → StaysUntold old new → AreRowsOf old s → AreRowsOf new s
rows_stay s old new =
    told_then (λ before now. now ≡ before) (λ told. HaveSameRows told (rows_of s)) (λ told. HaveSameRows told (rows_of s))
    (λ before now e same. subst (λ told. HaveSameRows told (rows_of s)) (sym e) same) old new

-- the state with a record put
abbrev put_into : MachineState → Put → MachineState
put_into s put = state_with s put.collection put.rec

module _ (s : MachineState) (put : Put) (putting : IsPutting s put.collection put.rec) where
  -- rows with the record's own are those of the state with the record
  with_put : (told : List KeptRow) → HaveSameRows told (rows_of s) → HaveSameRows (rows_with_put s.world put told) (rows_of (put_into s put))
  with_put told same = by (row_stands s.world put.collection put.rec) (decide s put.collection put.rec putting)
    where
      by : (b : Bool) → MatchBool b (HaveSameRows (rows_of s) (rows_of (put_into s put))) (¬ HaveSameRows (rows_of s) (rows_of (put_into s put)))
          → HaveSameRows (cond b told (committed told (rec_row put.collection put.rec ∷ []) [])) (rows_of (put_into s put))
      by true stays = λ row. (λ has. (stays row).0 ((same row).0 has), λ has. (same row).1 ((stays row).1 has))
      by false changes = keep_rows s put.collection put.rec told putting same

  pub rows_put : (w : World) → w ≡ s.world → (old new : Option (List KeptRow))
      → IfBothTold old new (λ before now. now ≡ rows_with_put w put before) → StaysUntold old new → AreRowsOf old s
      → AreRowsOf new (state_with s put.collection put.rec)
  rows_put w is old new =
      told_then (λ before now. now ≡ rows_with_put w put before) (λ told. HaveSameRows told (rows_of s)) (λ told. HaveSameRows told (rows_of (put_into s put)))
      (λ before now e same. subst (λ told. HaveSameRows told (rows_of (put_into s put))) (sym (e ∙ ap (λ v. rows_with_put v put before) is)) (with_put before same))
      old new

-- ---- a history that isn't full

neither : (a b : Bool) → (a || b) ≡ false → b ≡ false
neither true b e = absurd (true≢false e)
neither false b e = e

-- a history that isn't full has room for the bytes
pub has_room : (t : Tally) (work : Work) → is_full t work ≡ false → t.bytes + work.cost ≤ 268435456
has_room t work free = ltb-false 268435456 (t.bytes + work.cost) (neither (nat_le 1000000 t.entries) (nat_lt 268435456 (t.bytes + work.cost)) free)

-- ---- calls

module _ (opening : MachineState) (work : Work) (old new : Standing) (s : MachineState) (reply : Reply) (h : IsStandingOf opening old s) where
  abbrev place : ℕ
  place = length old.history

  abbrev with_world : World → MachineState
  with_world w = record s { world = w }

  tally_is : tally_of old.history ≡ tally_in old
  tally_is = λ i. record { entries = entries_are old.history i; bytes = sym h.bytes i }

  -- the answer and the state afterwards, as they follow from what stands there
  answer_here : answer opening old.history work ≡ answer_of place (outcome (tally_in old) s work)
  answer_here = λ i. answer_of place (outcome (tally_is i) (sym h.now i) work)

  after_here : after opening (old.history ++ work ∷ []) ≡ state_after s (outcome (tally_in old) s work)
  after_here = after_more opening old.history work ∙ (λ i. state_after (sym h.now i) (outcome (tally_is i) (sym h.now i) work))

  -- ---- all is as before

  -- what the reply is decides, where the work isn't entered
  stays : IsReply opening old.history work reply → ¬ EntersWork (answer opening old.history work) reply
      → IsCounted old.faults new.faults reply → IsUnchanged old new → IsCall opening work old new s reply
  stays said out count same = record {
    said = said;
    history = inr (out, same.history);
    now = h.now ∙ ap (after opening) (sym same.history);
    sound = h.sound;
    bytes = same.bytes ∙ h.bytes ∙ ap (λ works. (tally_of works).bytes) (sym same.history);
    within = subst (λ n. n ≤ 268435456) (sym same.bytes) h.within;
    rows = rows_stay s old.rows new.rows same.rows same.untold h.rows;
    untold = same.untold;
    count = count;
  }

  -- the state that is left is the same, told with the world that is left
  pub in_place : IsUnchanged old new → IsCall opening work old new s reply → IsCall opening work old new (record s { world = new.world }) reply
  in_place same call = subst (λ next. IsCall opening work old new next reply) (ap with_world (sym (same.world ∙ h.world))) call

  -- whatever the outcome, memory may be wanting
  pub wanting_call : IsNoMemory (length old.history) reply → IsAsBefore old new → IsCall opening work old new s reply
  wanting_call wanting same =
      let out = λ (enters : EntersWork (answer opening old.history work) reply).
      let low = entering_is_low place (outcome (tally_of old.history) (after opening old.history) work) enters.1 in
      absurd (omega (arith, low, enters.0.status, wanting.status)) in
      stays (inr (inl wanting)) out (wanting_counts place reply old.faults new.faults same.faults wanting) same.rest

  -- an outcome that isn't entered is the answer
  said_call : (o : Outcome) → outcome (tally_in old) s work ≡ o → IsReading o → IsAnswer (answer_of (length old.history) o) reply → IsAsBefore old new
      → IsCall opening work old new s reply
  said_call o is reads said same =
      let path : answer opening old.history work ≡ answer_of place o = answer_here ∙ ap (answer_of place) is in
      let answers = subst (λ a. IsAnswer a reply) (sym path) said in
      let out = λ (enters : EntersWork (answer opening old.history work) reply).
      false≢true (sym (answer_reads place o reads) ∙ ap (λ a. a.enters) (sym path) ∙ enters.1) in
      stays (inl answers) out (answer_counts opening old.history work reply old.faults new.faults same.faults answers) same.rest

  -- a work that isn't entered
  pub silent_call : IsReading (work_outcome s work)
      → IsAnswer (answer_of (length old.history) (work_outcome s work)) reply ⊎ IsNoMemory (length old.history) reply → IsAsBefore old new
      → IsCall opening work old new s reply
  silent_call reads (inl said) same = said_call (work_outcome s work) (outcome_reads (tally_in old) s work reads) reads said same
  silent_call reads (inr wanting) same = wanting_call wanting same

  -- a work that is refused
  pub refused_call : (r : Refusal) → work_outcome s work ≡ Err r
      → IsAnswer (answer_of (length old.history) (Err r)) reply ⊎ IsNoMemory (length old.history) reply → IsAsBefore old new
      → IsCall opening work old new s reply
  refused_call r refused said same =
      silent_call (subst IsReading (sym refused) tt)
      (subst (λ o. IsAnswer (answer_of place o) reply ⊎ IsNoMemory place reply) (sym refused) said) same

  -- for a work that isn't entered the keeper isn't asked
  pub reads_alone : IsReading (work_outcome s work) → ¬ Commits opening old.history work
  reads_alone reads c =
      let path : answer opening old.history work ≡ answer_of place (work_outcome s work) =
      answer_here ∙ ap (answer_of place) (outcome_reads (tally_in old) s work reads) in
      false≢true (sym (answer_reads place (work_outcome s work) reads) ∙ ap (λ a. a.enters) (sym path) ∙ c.enters)

  -- ---- a record is put

  module _ (put : Put) (tree : Jv) (putting : IsPutting s put.collection put.rec)
      (asked : work_outcome s work ≡ Ok (Enters (state_with s put.collection put.rec) (Tree tree))) where
    module _ (free : is_full (tally_in old) work ≡ false) where
      enters_here : outcome (tally_in old) s work ≡ Ok (Enters (put_into s put) (Tree tree))
      enters_here = outcome_enters (tally_in old) s work (put_into s put) (Tree tree) asked free

      answer_enters : answer opening old.history work ≡ accepted_answer (Tree tree) place true
      answer_enters = answer_here ∙ ap (answer_of place) enters_here

      after_put : after opening (old.history ++ work ∷ []) ≡ put_into s put
      after_put = after_here ∙ ap (state_after s) enters_here

      commits_put : row_stands s.world put.collection put.rec ≡ false → Commits opening old.history work
      commits_put other = record {
        enters = ap (λ a. a.enters) answer_enters;
        changes = λ same.
            MatchBool-at_false (HaveSameRows (rows_of s) (rows_of (put_into s put))) (¬ HaveSameRows (rows_of s) (rows_of (put_into s put))) other
            (decide s put.collection put.rec putting)
            (subst (λ t. HaveSameRows (rows_of s) (rows_of t)) after_put
            (subst (λ t. HaveSameRows (rows_of t) (rows_of (after opening (old.history ++ work ∷ [])))) (sym h.now) same));
      }

      put_call : IsAnswer (accepted_answer (Tree tree) (length old.history) true) reply → IsEntered work put old new
          → IsCall opening work old new (state_with s put.collection put.rec) reply
      put_call said e =
          let answers = subst (λ a. IsAnswer a reply) (sym answer_enters) said in
          let more : (tally_of new.history).bytes ≡ old.bytes + work.cost =
          ap (λ works. (tally_of works).bytes) e.history ∙ ap (λ t. t.bytes) (tally_more old.history work) ∙ ap (λ n. n + work.cost) (sym h.bytes) in
          record {
            said = inl answers;
            history = inl ((answers, ap (λ a. a.enters) answer_enters), e.history);
            now = sym after_put ∙ ap (after opening) (sym e.history);
            sound = (keep_sound s put.collection put.rec putting).sound;
            bytes = e.bytes ∙ sym more;
            within = subst (λ n. n ≤ 268435456) (sym e.bytes) (has_room (tally_in old) work free);
            rows = rows_put s put putting old.world h.world old.rows new.rows e.rows e.untold h.rows;
            untold = e.untold;
            count = answer_counts opening old.history work reply old.faults new.faults e.faults answers;
          }

    -- where the keeper isn't to be asked, the history is full or the record's row stands there
    pub asks_or_not : (¬ Commits opening old.history work)
        → (is_full (tally_in old) work ≡ true) ⊎ (row_stands s.world put.collection put.rec ≡ true)
    asks_or_not never = by (is_full (tally_in old) work) refl (row_stands s.world put.collection put.rec) refl
      where
        by : (full : Bool) → is_full (tally_in old) work ≡ full → (stands : Bool) → row_stands s.world put.collection put.rec ≡ stands
            → (is_full (tally_in old) work ≡ true) ⊎ (row_stands s.world put.collection put.rec ≡ true)
        by true full stands there = inl full
        by false free true there = inr there
        by false free false other = absurd (never (commits_put free other))

  module _ (ask : Ask) (display : Display) (put : Put) (putting : IsPutting s put.collection put.rec)
      (asked : work_outcome s work ≡ Ok (Enters (state_with s put.collection put.rec)
      (Tree (displayed (world_with s.world put.collection put.rec) ask put.collection display put.rec)))) where
    abbrev shown_then : World → Jv
    shown_then w = displayed (world_with w put.collection put.rec) ask put.collection display put.rec

    unkept_call : is_full (tally_in old) work ≡ false → row_stands old.world put.collection put.rec ≡ false
        → IsAnswer (unkept_answer (length old.history)) reply → IsUndone old new → IsCall opening work old new s reply
    unkept_call free other said undone =
        let commits = commits_put put (shown_then s.world) putting asked free (ap (λ w. row_stands w put.collection put.rec) (sym h.world) ∙ other) in
        let out = λ (enters : EntersWork (answer opening old.history work) reply).
        no_answer_is_500 opening old.history work (sym enters.0.status ∙ said.status) in
        let count : IsCounted old.faults new.faults reply =
        record { later = undone.later; failed = λ _. undone.rose; told = λ _. said.status } in
        stays (inr (inr (record { commits = commits; said = said }))) out count undone.rest

    -- a work that puts a record
    pub entered_call : Entry ask work display put old new reply → IsCall opening work old new (record s { world = new.world }) reply
    entered_call (Entered free said e) =
        let answers = subst (λ w. IsAnswer (accepted_answer (Tree (shown_then w)) (length old.history) true) reply) h.world said in
        let world : new.world ≡ world_with s.world put.collection put.rec = e.world ∙ ap (λ w. world_with w put.collection put.rec) h.world in
        subst (λ next. IsCall opening work old new next reply) (ap with_world (sym world))
        (put_call put (shown_then s.world) putting asked free answers e)
    entered_call (Full full said same) =
        let refused = outcome_full (tally_in old) s work (state_with s put.collection put.rec) (Tree (shown_then s.world)) asked full in
        in_place same.rest (said_call (Err (full_history (tally_in old) work)) refused tt said same)
    entered_call (Wanting wanting same) = in_place same.rest (wanting_call wanting same)
    entered_call (Unkept free other said undone) = in_place undone.rest (unkept_call free other said undone)
