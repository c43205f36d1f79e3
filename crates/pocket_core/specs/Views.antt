-- A view of one record.
use Rattle.std.specs.Prelude.{ℕ, List, Result, Ok, Err}
use Rattle.pocket_types.specs.Chains.{◌>>=◌, or_refuse, refuse}
use Rattle.pocket_types.specs.Within.{collections_of}
use Rattle.pocket_types.specs.declared.records.Collection.{Collection}
use Rattle.pocket_types.specs.declared.records.Rec.{Rec}
use Rattle.pocket_types.specs.declared.requests.Action.TheVariants as action
use Rattle.pocket_types.specs.declared.requests.Ask.{Ask}
use Rattle.pocket_types.specs.declared.world.World.{World}
use Rattle.pocket_resolve.specs.Fields.{collection_named}
use Rattle.pocket_tables.specs.Worlds.{rec_at}
use Rattle.pocket_gate.specs.Rules.{keeps_out, verdict}
use Rattle.pocket_gate.specs.declared.verdict.Verdict.{Verdict}
use Rattle.pocket_gate.specs.declared.verdict.Verdict.TheVariants as verdict_is
use Rattle.pocket_core.specs.Outcomes.{Outcome, Shows, Tree}
use Rattle.pocket_core.specs.Showing.{shown_jv}
use Rattle.pocket_api.specs.Refusals.{Refusal, because}
use Rattle.pocket_api.specs.declared.why.Why.TheVariants as why
use Rattle.pocket_api.specs.declared.call.Shown.{Shown}
use Rattle.pocket_api.specs.declared.call.Target.{Target}

-- a verdict that keeps the caller out is a refusal
abbrev pub admitted : Verdict → Result (Unit {0}) Refusal
admitted verdict_is.Allowed = Ok tt
admitted (verdict_is.Locked c act) = Err (because (why.Locked c act))
admitted (verdict_is.RuleFalse c act) = Err (because (why.RuleFalse c act))

-- a record whose rule lets the caller through is shown
abbrev pub rec_outcome : World → Ask → Collection → Shown → Rec → Outcome
rec_outcome w ask c shown r = do
  _ ← admitted (verdict w ask action.View c r)
  Ok (Shows (Tree (shown_jv w ask c shown r)))

-- the record of a collection, where it is there
abbrev pub rec_named_outcome : World → Ask → Collection → List ℕ → Shown → Outcome
rec_named_outcome w ask c id shown = do
  r ← or_refuse (rec_at w c.name id) (because why.NoRecord)
  rec_outcome w ask c shown r

-- a view: the collection first, then its locked rule, then the record, then what the rule says of it
unfoldable pub view_outcome : World → Ask → Target → Shown → Outcome
view_outcome w ask target shown = do
  c ← or_refuse (collection_named (collections_of w) target.collection) (because why.NoCollection)
  _ ← refuse (keeps_out ask.caller c.view_rule) (because (why.Locked c.name action.View))
  rec_named_outcome w ask c target.id shown
