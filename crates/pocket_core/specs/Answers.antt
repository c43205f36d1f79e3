-- What the abstract machine answers, and what it becomes.
use Rattle.std.specs.Prelude.{◌≡◌, ◌⊎◌, ℕ, ◌+◌, nat_le, nat_lt, Bool, true, false, ◌&&◌, ◌||◌, List, [], ◌∷◌, ◌++◌, fold, length, Option, Some, None, Ok, Err, IsTrue}
use Rattle.pocket_types.specs.Chains.{◌>>=◌, refuse}
use Rattle.pocket_types.specs.declared.json.Jv.{Jv}
use Rattle.pocket_types.specs.declared.requests.Ask.{Ask}
use Rattle.pocket_ops.specs.Lengths.{held}
use Rattle.pocket_api.specs.Asks.{bare_ask}
use Rattle.pocket_api.specs.Refusals.{Refusal, because, body_of, refusal_jv}
use Rattle.pocket_core.specs.Changing.{create_outcome, update_outcome}
use Rattle.pocket_core.specs.Lists.{list_outcome}
use Rattle.pocket_core.specs.Outcomes.{Body, Empty, Enters, Outcome, Shows, Tally, Tree, is_entered, state_after}
use Rattle.pocket_states.specs.States.{MachineState, sender}
use Rattle.pocket_core.specs.Views.{view_outcome}
use Rattle.pocket_api.specs.declared.reply.Reply.{Reply}
use Rattle.pocket_api.specs.declared.reply.ReplyBody.{ReplyBody}
use Rattle.pocket_api.specs.declared.reply.ReplyBody.TheVariants as reply_body
use Rattle.pocket_api.specs.declared.why.Why.{Why}
use Rattle.pocket_api.specs.declared.why.Why.TheVariants as why
use Rattle.pocket_api.specs.declared.call.Call.{Call}
use Rattle.pocket_api.specs.declared.call.Call.TheVariants as call
use Rattle.pocket_api.specs.declared.work.Work.{Work}

-- ---- outcomes

-- the outcome of each call; one that isn't built yet has no route
abbrev pub call_outcome : MachineState → Ask → List ℕ → Call → Outcome
call_outcome s ask words (call.List name query) = list_outcome s.world ask name query
call_outcome s ask words (call.View target shown) = view_outcome s.world ask target shown
call_outcome s ask words (call.Create name body shown) = create_outcome s ask words name body shown
call_outcome s ask words (call.Update target body shown) = update_outcome s ask target body shown
call_outcome s ask words _ = Err (because why.NoRoute)

-- the outcome of a work in a state
abbrev pub work_outcome : MachineState → Work → Outcome
work_outcome s work = call_outcome s (bare_ask (sender s work) work) work.draw.words work.call

-- whether a history has no room for one more command, of this cost
abbrev pub has_no_room : Tally → ℕ → Bool
has_no_room t cost = nat_le 1000000 t.entries || nat_lt 268435456 (t.bytes + cost)

abbrev pub is_full : Tally → Work → Bool
is_full t work = has_no_room t work.cost

-- the refusal of a full history, which tells its commands and what its bytes would be
abbrev pub no_room : Tally → ℕ → Refusal
no_room t cost = because (why.HistoryFull t.entries (held (t.bytes + cost)))

abbrev pub full_history : Tally → Work → Refusal
full_history t work = no_room t work.cost

-- the outcome of a work in a state, after so many commands: a full history refuses what would be entered, last of all
unfoldable pub outcome : Tally → MachineState → Work → Outcome
outcome t s work = do
  done ← work_outcome s work
  _ ← refuse (is_entered done && is_full t work) (full_history t work)
  Ok done

-- ---- histories

-- one command more
abbrev pub counted : Tally → Work → Tally
counted t work = record { entries = t.entries + 1; bytes = t.bytes + work.cost }

abbrev pub no_commands : Tally
no_commands = record { entries = 0; bytes = 0 }

abbrev pub tally_of : List Work → Tally
tally_of history = fold counted no_commands history

-- the state after more accepted commands
abbrev pub after_from : Tally → MachineState → List Work → MachineState
after_from t s [] = s
after_from t s (work ∷ works) = after_from (counted t work) (state_after s (outcome t s work)) works

-- the state after a history of accepted commands
abbrev pub after : MachineState → List Work → MachineState
after opening history = after_from no_commands opening history

-- ---- answers

-- an answer: its status, its body where it has one, its cause, its place in the history, and whether the work is entered there
pub record Answer : Type 0 where
  pub status : ℕ
  pub body : Option Jv
  pub why : Why
  pub at : ℕ
  pub enters : Bool

-- an accepted call: 200 with its body, or 204
abbrev pub accepted_answer : Body → ℕ → Bool → Answer
accepted_answer Empty at enters = record { status = 204; body = None; why = why.Done; at = at; enters = enters }
accepted_answer (Tree tree) at enters = record { status = 200; body = Some tree; why = why.Done; at = at; enters = enters }

-- the answer that an outcome is
abbrev pub answer_of : ℕ → Outcome → Answer
answer_of at (Ok (Shows body)) = accepted_answer body at false
answer_of at (Ok (Enters s body)) = accepted_answer body at true
answer_of at (Err r) = record { status = r.status; body = Some (refusal_jv r.status r.detail); why = r.why; at = at; enters = false }

-- the answer to a work after a history from an opened state
abbrev pub answer : MachineState → List Work → Work → Answer
answer opening history work = answer_of (length history) (outcome (tally_of history) (after opening history) work)

-- ---- replies

-- the body that a reply with this status carries
abbrev pub carried : ℕ → Option Jv → ReplyBody
carried status None = reply_body.Empty
carried status (Some tree) = body_of status tree

-- the reply is that answer
pub record IsAnswer (a : Answer) (reply : Reply) : Type 0 where
  pub status : reply.status ≡ a.status
  pub body : reply.body ≡ carried a.status a.body
  pub why : reply.why ≡ a.why
  pub at : reply.at ≡ a.at

-- the reply enters its work: it is the answer, and the answer enters it
abbrev pub EntersWork : Answer → Reply → Type 0
EntersWork a reply = IsAnswer a reply × IsTrue a.enters

-- the history after a call grew by the work exactly where the reply enters it
abbrev pub IsHistoryAfter : Answer → Reply → Work → List Work → List Work → Type 0
IsHistoryAfter a reply work old new =
    (EntersWork a reply × (new ≡ old ++ work ∷ [])) ⊎ ((¬ EntersWork a reply) × (new ≡ old))
