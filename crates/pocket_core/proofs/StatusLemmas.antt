-- The statuses of refusals: the keeper's faults alone have 500, and no answer has it.
use Rattle.std.proofs.Common.{◌≡◌, ◌∙◌, ℕ, ◌≤◌, Bool, true, false, List, Option, Some, None, Result, Ok, Err, ap, arith, length, refl, sym}
use Rattle.std.specs.Prelude.{◌≢◌, ◌&&◌, IfErr}
use Rattle.std.proofs.lemmas.Bool.{false≢true}
use Rattle.pocket_types.specs.Chains.{◌>>=◌, or_refuse, refuse, refuse_as}
use Rattle.pocket_types.specs.Within.{collections_of}
use Rattle.pocket_types.specs.declared.faults.ResolveFault.{ResolveFault}
use Rattle.pocket_types.specs.declared.faults.ResolveFault.TheVariants as resolve_fault
use Rattle.pocket_types.specs.declared.json.Jv.{Jv}
use Rattle.pocket_types.specs.declared.records.Collection.{Collection}
use Rattle.pocket_types.specs.declared.records.Rec.{Rec}
use Rattle.pocket_types.specs.declared.requests.Action.{Action}
use Rattle.pocket_types.specs.declared.requests.Action.TheVariants as action
use Rattle.pocket_types.specs.declared.requests.Ask.{Ask}
use Rattle.pocket_types.specs.declared.world.World.{World}
use Rattle.pocket_resolve.specs.Fields.{collection_named}
use Rattle.pocket_tables.specs.Worlds.{rec_at}
use Rattle.pocket_gate.specs.Rules.{keeps_out, verdict}
use Rattle.pocket_gate.specs.declared.verdict.Verdict.{Verdict}
use Rattle.pocket_gate.specs.declared.verdict.Verdict.TheVariants as verdict_is
use Rattle.pocket_read.specs.Pages.{page_of}
use Rattle.pocket_read.specs.declared.faults.ReadFault.{ReadFault}
use Rattle.pocket_read.specs.declared.faults.ReadFault.TheVariants as fault
use Rattle.pocket_read.specs.declared.page.Page.{Page}
use Rattle.pocket_change.specs.Changes.{created, updated}
use Rattle.pocket_change.specs.declared.fault.ChangeFault.{ChangeFault}
use Rattle.pocket_change.specs.declared.fault.ChangeFault.TheVariants as change
use Rattle.pocket_states.specs.States.{MachineState, sender}
use Rattle.pocket_api.specs.Asks.{bare_ask}
use Rattle.pocket_api.specs.Refusals.{IsNoMemory, Refusal, because, false_rule, path_status, status_of}
use Rattle.pocket_api.specs.declared.call.Call.{Call}
use Rattle.pocket_api.specs.declared.call.Call.TheVariants as call
use Rattle.pocket_api.specs.declared.call.ListQuery.{ListQuery}
use Rattle.pocket_api.specs.declared.call.Shown.{Shown}
use Rattle.pocket_api.specs.declared.call.Target.{Target}
use Rattle.pocket_api.specs.declared.reply.Reply.{Reply}
use Rattle.pocket_api.specs.declared.why.Why.{Why}
use Rattle.pocket_api.specs.declared.why.Why.TheVariants as why
use Rattle.pocket_api.specs.declared.work.Work.{Work}
use Rattle.pocket_core.specs.Answers.{IsAnswer, after, answer, answer_of, call_outcome, full_history, is_full, outcome, tally_of, work_outcome}
use Rattle.pocket_core.specs.Changing.{change_refusal, change_why, create_outcome, created_in, put_in, put_outcome, update_outcome, updated_in}
use Rattle.pocket_core.specs.Entering.{IsCounted}
use Rattle.pocket_core.specs.Lists.{list_outcome, page_or_refusal, read_why, verdict_why}
use Rattle.pocket_core.specs.Outcomes.{Empty, Enters, Outcome, Shows, Tally, Tree, is_entered}
use Rattle.pocket_core.specs.Views.{admitted, view_outcome}

-- ---- the statuses of causes

-- a cause has a low status, or one that it has alone
data Grade (cause : Why) : Type 0 where
  Low : status_of cause ≤ 404 → Grade cause
  Keeper : cause ≡ why.KeeperFault → Grade cause
  Full : status_of cause ≡ 503 → Grade cause
  Wanting : cause ≡ why.Memory → Grade cause

low_rule : (act : Action) → (false_rule act).0 ≤ 404
low_rule action.Create = omega arith
low_rule _ = omega arith

low_path : (f : ResolveFault) → path_status f ≤ 404
low_path (resolve_fault.SuperuserOnly at) = omega arith
low_path _ = omega arith

grade : (cause : Why) → Grade cause
grade why.KeeperFault = Keeper refl
grade (why.HistoryFull entries bytes) = Full refl
grade why.Memory = Wanting refl
grade (why.RuleFalse c act) = Low (low_rule act)
grade (why.BadPath f) = Low (low_path f)
grade _ = Low (omega arith)

-- 500 is the status of the keeper's faults alone
pub keeper_alone_is_500 : (cause : Why) → status_of cause ≡ 500 → cause ≡ why.KeeperFault
keeper_alone_is_500 cause e = by (grade cause)
  where
    by : Grade cause → cause ≡ why.KeeperFault
    by (Low low) = absurd (omega (arith, e, low))
    by (Keeper same) = same
    by (Full other) = absurd (omega (arith, e, other))
    by (Wanting same) = let other : 507 ≡ 500 = sym (ap status_of same) ∙ e in absurd (omega (arith, other))

other_than_keeper : (cause : Why) → cause ≢ why.KeeperFault → status_of cause ≢ 500
other_than_keeper cause other e = other (keeper_alone_is_500 cause e)

verdict_not_keeper : (v : Verdict) → verdict_why v ≢ why.KeeperFault
verdict_not_keeper verdict_is.Allowed e = cc
verdict_not_keeper _ e = cc

read_not_keeper : (f : ReadFault) → read_why f ≢ why.KeeperFault
read_not_keeper (fault.Denied v) e = verdict_not_keeper v e
read_not_keeper _ e = cc

change_not_keeper : (f : ChangeFault) → change_why f ≢ why.KeeperFault
change_not_keeper (change.Denied v) e = verdict_not_keeper v e
change_not_keeper _ e = cc

-- ---- outcomes step by step

-- a refusal, where there is one, has another status than 500
abbrev IsOther : {A : Type 0} → Result A Refusal → Type 0
IsOther x = IfErr x (λ r. r.status ≢ 500)

step_other : {A B : Type 0} (x : Result A Refusal) (f : A → Result B Refusal) → IsOther x → ((a : A) → IsOther (f a)) → IsOther (x >>= f)
step_other (Ok a) f first h = h a
step_other (Err r) f first h = first

refuse_other : (b : Bool) (r : Refusal) → r.status ≢ 500 → IsOther (refuse b r)
refuse_other true r h = h
refuse_other false r h = tt

there_other : {A : Type 0} (o : Option A) (r : Refusal) → r.status ≢ 500 → IsOther (or_refuse o r)
there_other (Some x) r h = tt
there_other None r h = h

admitted_other : (v : Verdict) → IsOther (admitted v)
admitted_other verdict_is.Allowed = tt
admitted_other (verdict_is.Locked c act) = other_than_keeper (why.Locked c act) (λ e. cc)
admitted_other (verdict_is.RuleFalse c act) = other_than_keeper (why.RuleFalse c act) (λ e. cc)

page_other : (x : Result Page ReadFault) → IsOther (page_or_refusal x)
page_other (Ok page) = tt
page_other (Err f) = other_than_keeper (read_why f) (read_not_keeper f)

changed_other : (x : Result Rec ChangeFault) → IsOther (refuse_as change_refusal x)
changed_other (Ok r) = tt
changed_other (Err f) = other_than_keeper (change_why f) (change_not_keeper f)

no_collection : status_of why.NoCollection ≢ 500
no_collection = other_than_keeper why.NoCollection (λ e. cc)

view_other : (w : World) (ask : Ask) (target : Target) (shown : Shown) → IsOther (view_outcome w ask target shown)
unfolding view_outcome
view_other w ask target shown =
    step_other (or_refuse (collection_named (collections_of w) target.collection) (because why.NoCollection)) _
    (there_other (collection_named (collections_of w) target.collection) (because why.NoCollection) no_collection)
    (λ c.
    step_other (refuse (keeps_out ask.caller c.view_rule) (because (why.Locked c.name action.View))) _
    (refuse_other (keeps_out ask.caller c.view_rule) (because (why.Locked c.name action.View))
    (other_than_keeper (why.Locked c.name action.View) (λ e. cc)))
    (λ _.
    step_other (or_refuse (rec_at w c.name target.id) (because why.NoRecord)) _
    (there_other (rec_at w c.name target.id) (because why.NoRecord) (other_than_keeper why.NoRecord (λ e. cc)))
    (λ r. step_other (admitted (verdict w ask action.View c r)) _ (admitted_other (verdict w ask action.View c r)) (λ _. tt))))

list_other : (w : World) (ask : Ask) (name : List ℕ) (query : ListQuery) → IsOther (list_outcome w ask name query)
unfolding list_outcome
list_other w ask name query =
    step_other (or_refuse (collection_named (collections_of w) name) (because why.NoCollection)) _
    (there_other (collection_named (collections_of w) name) (because why.NoCollection) no_collection)
    (λ c. step_other (page_or_refusal (page_of w ask c query)) _ (page_other (page_of w ask c query)) (λ _. tt))

put_other : (w : World) (name : List ℕ) (make : Collection → Result Rec ChangeFault) → IsOther (put_in w name make)
put_other w name make =
    step_other (or_refuse (collection_named (collections_of w) name) (because why.NoCollection)) _
    (there_other (collection_named (collections_of w) name) (because why.NoCollection) no_collection)
    (λ c. step_other (refuse_as change_refusal (make c)) _ (changed_other (make c)) (λ _. tt))

create_other : (s : MachineState) (ask : Ask) (words name : List ℕ) (body : Option Jv) (shown : Shown)
    → IsOther (create_outcome s ask words name body shown)
unfolding created_in
create_other s ask words name body shown =
    step_other (created_in s.world ask name body words) (put_outcome s ask shown)
    (put_other s.world name (λ c. created s.world ask c body words)) (λ _. tt)

update_other : (s : MachineState) (ask : Ask) (target : Target) (body : Option Jv) (shown : Shown)
    → IsOther (update_outcome s ask target body shown)
unfolding updated_in
update_other s ask target body shown =
    step_other (updated_in s.world ask target body) (put_outcome s ask shown)
    (put_other s.world target.collection (λ c. updated s.world ask c target.id body)) (λ _. tt)

call_other : (s : MachineState) (ask : Ask) (words : List ℕ) (c : Call) → IsOther (call_outcome s ask words c)
call_other s ask words (call.List name query) = list_other s.world ask name query
call_other s ask words (call.View target shown) = view_other s.world ask target shown
call_other s ask words (call.Create name body shown) = create_other s ask words name body shown
call_other s ask words (call.Update target body shown) = update_other s ask target body shown
call_other s ask words _ = other_than_keeper why.NoRoute (λ e. cc)

outcome_other : (t : Tally) (s : MachineState) (work : Work) → IsOther (outcome t s work)
unfolding outcome
outcome_other t s work =
    step_other (work_outcome s work) _ (call_other s (bare_ask (sender s work) work) work.draw.words work.call)
    (λ done.
    step_other (refuse (is_entered done && is_full t work) (full_history t work)) _
    (refuse_other (is_entered done && is_full t work) (full_history t work)
    (other_than_keeper (full_history t work).why (λ e. cc)))
    (λ _. tt))

-- ---- answers and replies

answered_other : (at : ℕ) (o : Outcome) → IsOther o → (answer_of at o).status ≢ 500
answered_other at (Ok (Shows Empty)) h e = absurd (omega (arith, e))
answered_other at (Ok (Shows (Tree tree))) h e = absurd (omega (arith, e))
answered_other at (Ok (Enters s Empty)) h e = absurd (omega (arith, e))
answered_other at (Ok (Enters s (Tree tree))) h e = absurd (omega (arith, e))
answered_other at (Err r) h e = h e

-- the machine itself never answers that the keeper failed
pub no_answer_is_500 : (opening : MachineState) (history : List Work) (work : Work) → (answer opening history work).status ≡ 500 → ⊥
no_answer_is_500 opening history work e =
    answered_other (length history) (outcome (tally_of history) (after opening history) work)
    (outcome_other (tally_of history) (after opening history) work) e

-- so a reply that is its answer is counted where the keeper's count stays
pub answer_counts : (opening : MachineState) (history : List Work) (work : Work) (reply : Reply) (before now : ℕ) → now ≡ before
    → IsAnswer (answer opening history work) reply → IsCounted before now reply
answer_counts opening history work reply before now same said = record {
  later = omega (arith, same);
  failed = λ e. absurd (no_answer_is_500 opening history work (sym said.status ∙ e));
  told = λ rose. absurd (omega (arith, same, rose));
}

-- and so is one that tells of want of memory
pub wanting_counts : (place : ℕ) (reply : Reply) (before now : ℕ) → now ≡ before → IsNoMemory place reply → IsCounted before now reply
wanting_counts place reply before now same wanting = record {
  later = omega (arith, same);
  failed = λ e. let other : 507 ≡ 500 = sym wanting.status ∙ e in absurd (omega (arith, other));
  told = λ rose. absurd (omega (arith, same, rose));
}

-- no answer that enters its work says that it is refused
pub entering_is_low : (at : ℕ) (o : Outcome) → (answer_of at o).enters ≡ true → (answer_of at o).status ≤ 204
entering_is_low at (Ok (Shows Empty)) h = absurd (false≢true h)
entering_is_low at (Ok (Shows (Tree tree))) h = absurd (false≢true h)
entering_is_low at (Ok (Enters s Empty)) h = omega arith
entering_is_low at (Ok (Enters s (Tree tree))) h = omega arith
entering_is_low at (Err r) h = absurd (false≢true h)
