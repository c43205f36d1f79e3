-- From what a state holds to what a call of it says and leaves.
use Rattle.std.proofs.Common.{◌≡◌, ◌∙◌, ℕ, List, Option, ap, refl, subst, sym}
use Rattle.pocket_types.specs.declared.requests.Ask.{Ask}
use Rattle.pocket_types.specs.declared.requests.Caller.{Caller}
use Rattle.pocket_keeper.specs.declared.rows.KeptRow.{KeptRow}
use Rattle.pocket_gate.specs.Built.{rules_of}
use Rattle.pocket_states.specs.States.{IsSoundState, MachineState, StateView, sender}
use Rattle.pocket_states.proofs.PutWorldLemmas.{sound_tabled}
use Rattle.pocket_api.specs.Asks.{bare_ask}
use Rattle.pocket_api.specs.declared.reply.Reply.{Reply}
use Rattle.pocket_api.specs.declared.work.Work.{Work}
use Rattle.pocket_core.specs.Answers.{IsHistoryAfter, after, answer}
use Rattle.pocket_core.specs.Callers.{whole_of}
use Rattle.pocket_core.specs.Courses.{Asking, Handling}
use Rattle.pocket_core.specs.Entering.{Commits, IsCall, IsReply, IsStandingOf, Standing}
use Rattle.pocket_core.specs.Kept.{IsKept, present, view_of}
use Rattle.pocket_core.specs.Opening.{AreRowsOf}
use Rattle.pocket_core.specs.declared.callers.Rest.{Rest}
use Rattle.pocket_core.specs.declared.state.State.TheInside.{Inside}
use Rattle.pocket_core.proofs.HandleLemmas.{handled_call, handled_collections, quiet_call}

-- what stands in a state, with what is told of a keeper
abbrev pub standing_in : Inside → Option (List KeptRow) → ℕ → Standing
standing_in s rows faults = record { world = s.tables.world; history = s.journal.items; bytes = s.costs; rows = rows; faults = faults }

module _ (inside : Inside) (v : StateView) (view_is : view_of inside ≡ v) (kept : IsKept inside) (work : Work) (who : Caller)
    (who_is : who ≡ sender (after v.opening v.journal) work) (ask : Ask) (rest : Rest) (asks : ask ≡ bare_ask who work) (whole : whole_of ask rest ≡ work)
    (rows : Option (List KeptRow)) (faults : ℕ) (told : AreRowsOf rows (after v.opening v.journal)) where
  abbrev opened : MachineState
  opened = (view_of inside).opening

  abbrev before : Standing
  before = standing_in inside rows faults

  stands : IsStandingOf opened before (present inside)
  stands = record {
    now = kept.now;
    world = refl;
    sound = kept.sound;
    bytes = kept.costs;
    within = kept.within;
    rows = subst (AreRowsOf rows) (sym kept.now) (subst (λ u. AreRowsOf rows (after u.opening u.journal)) (sym view_is) told);
  }

  asks_here : ask ≡ bare_ask (sender (present inside) work) work
  asks_here =
      asks
      ∙ ap (λ caller. bare_ask caller work)
      (who_is ∙ ap (λ u. sender (after u.opening u.journal) work) (sym view_is) ∙ ap (λ s. sender s work) (sym kept.now))

  -- where the keeper isn't to be asked it is quiet
  pub state_quiet : (Quiet : Type 0) → (reply : Reply) → ((s : MachineState) → Asking s ask rest before Quiet) → ¬ Commits v.opening v.journal work → Quiet
  state_quiet Quiet reply asked never =
      quiet_call opened work before before (present inside) reply stands ask rest asks_here whole Quiet (asked (present inside))
      (λ commits. never (subst (λ u. Commits u.opening u.journal work) view_is commits))

  module _ (next : Inside) (told_then : Option (List KeptRow)) (faults_then : ℕ) (reply : Reply)
      (handled : (s : MachineState) → Handling s ask rest before (standing_in next told_then faults_then) reply) where
    abbrev left : Standing
    left = standing_in next told_then faults_then

    pub state_call : IsCall opened work before left (record (present inside) { world = next.tables.world }) reply
    state_call = handled_call opened work before left (present inside) reply stands ask rest asks_here whole (handled (present inside))

    pub state_reply : IsReply v.opening v.journal work reply
    state_reply = subst (λ u. IsReply u.opening u.journal work reply) view_is state_call.said

    pub state_history : IsHistoryAfter (answer v.opening v.journal work) reply work v.journal next.journal.items
    state_history = subst (λ u. IsHistoryAfter (answer u.opening u.journal work) reply work u.journal next.journal.items) view_is state_call.history

    pub state_sound : IsSoundState (after opened next.journal.items)
    state_sound = subst IsSoundState state_call.now state_call.sound

    pub state_rows : AreRowsOf told_then (after opened next.journal.items)
    state_rows = subst (AreRowsOf told_then) state_call.now state_call.rows

    -- what the state holds then is kept
    pub state_kept : next.rules ≡ inside.rules → present next ≡ record (present inside) { world = next.tables.world } → (view_of next).opening ≡ opened → IsKept next
    state_kept rules now opening = record {
      now = now ∙ state_call.now ∙ ap (λ o. after o next.journal.items) (sym opening);
      sound = subst IsSoundState (sym now) state_call.sound;
      rules =
          rules ∙ kept.rules
          ∙ ap rules_of
          (sym
          (handled_collections (present inside) ask rest before left reply (sound_tabled inside.tables.world kept.sound.kept.world)
          (handled (present inside))));
      costs = state_call.bytes;
      within = state_call.within;
    }
