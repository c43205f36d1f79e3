-- Views and lists show something and change nothing.
use Rattle.std.proofs.Common.{◌≡◌, ℕ, List, length, refl, ap}
use Rattle.pocket_types.specs.Chains.{or_refuse, refuse}
use Rattle.pocket_types.specs.Within.{collections_of}
use Rattle.pocket_types.specs.declared.requests.Action.TheVariants as action
use Rattle.pocket_types.specs.declared.requests.Ask.{Ask}
use Rattle.pocket_types.specs.declared.world.World.{World}
use Rattle.pocket_resolve.specs.Fields.{collection_named}
use Rattle.pocket_tables.specs.Worlds.{rec_at}
use Rattle.pocket_gate.specs.Rules.{keeps_out, verdict}
use Rattle.pocket_read.specs.Pages.{page_of}
use Rattle.pocket_core.specs.Answers.{after, answer, answer_of, tally_of, work_outcome}
use Rattle.pocket_core.specs.Lists.{list_outcome, page_or_refusal}
use Rattle.pocket_core.specs.Outcomes.{IsReading}
use Rattle.pocket_states.specs.States.{MachineState}
use Rattle.pocket_core.specs.Views.{admitted, view_outcome}
use Rattle.pocket_api.specs.Refusals.{because}
use Rattle.pocket_api.specs.declared.why.Why.TheVariants as why
use Rattle.pocket_api.specs.declared.call.ListQuery.{ListQuery}
use Rattle.pocket_api.specs.declared.call.Shown.{Shown}
use Rattle.pocket_api.specs.declared.call.Target.{Target}
use Rattle.pocket_api.specs.declared.work.Work.{Work}
use Rattle.pocket_core.proofs.HistoryLemmas.{outcome_reads, step_reads}

pub view_reads : (w : World) (ask : Ask) (target : Target) (shown : Shown) → IsReading (view_outcome w ask target shown)
unfolding view_outcome
view_reads w ask target shown =
    step_reads (or_refuse (collection_named (collections_of w) target.collection) (because why.NoCollection)) _
    (λ c.
    step_reads (refuse (keeps_out ask.caller c.view_rule) (because (why.Locked c.name action.View))) _
    (λ _.
    step_reads (or_refuse (rec_at w c.name target.id) (because why.NoRecord)) _
    (λ r. step_reads (admitted (verdict w ask action.View c r)) _ (λ _. refl))))

pub list_reads : (w : World) (ask : Ask) (name : List ℕ) (query : ListQuery) → IsReading (list_outcome w ask name query)
unfolding list_outcome
list_reads w ask name query =
    step_reads (or_refuse (collection_named (collections_of w) name) (because why.NoCollection)) _
    (λ c. step_reads (page_or_refusal (page_of w ask c query)) _ (λ _. refl))

-- what isn't entered is answered by its outcome, however full the history is
pub answer_is : (opening : MachineState) (history : List Work) (work : Work) → IsReading (work_outcome (after opening history) work)
    → answer opening history work ≡ answer_of (length history) (work_outcome (after opening history) work)
answer_is opening history work reads = ap (answer_of (length history)) (outcome_reads (tally_of history) (after opening history) work reads)
