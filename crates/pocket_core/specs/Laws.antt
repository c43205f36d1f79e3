-- On what a reading reply depends.
use Rattle.std.specs.Prelude.{◌≡◌, ℕ, List, [], filter, map, Option}
use Rattle.std.specs.Option.{option_map_or}
use Rattle.pocket_types.specs.Within.{collections_of}
use Rattle.pocket_types.specs.declared.json.Jv.{Jv}
use Rattle.pocket_types.specs.declared.records.Collection.{Collection}
use Rattle.pocket_types.specs.declared.records.Rec.{Rec}
use Rattle.pocket_types.specs.declared.requests.Action.TheVariants as action
use Rattle.pocket_types.specs.declared.requests.Ask.{Ask}
use Rattle.pocket_types.specs.declared.world.World.{World}
use Rattle.pocket_resolve.specs.Fields.{collection_named}
use Rattle.pocket_tables.specs.Worlds.{recs_at}
use Rattle.pocket_gate.specs.Rules.{may}
use Rattle.pocket_gate.specs.Seen.{seen_world}
use Rattle.pocket_expand.specs.Expansion.{shown_rec}
use Rattle.pocket_api.specs.Asks.{bare_ask}
use Rattle.pocket_api.specs.declared.call.Call.TheVariants as call
use Rattle.pocket_api.specs.declared.call.ListQuery.{ListQuery}
use Rattle.pocket_api.specs.declared.call.Shown.{Shown}
use Rattle.pocket_api.specs.declared.call.Target.{Target}
use Rattle.pocket_api.specs.declared.work.Work.{Work}
use Rattle.pocket_core.specs.Answers.{Answer, after, answer}
use Rattle.pocket_states.specs.States.{IsSoundState, MachineState, sender}

-- what is told of an answer: its status and its body
abbrev pub told : Answer → ℕ × Option Jv
told a = (a.status, a.body)

-- the sender of a work is the same in two states, the collections are the same, and so is what the sender sees of the records
pub record SeesTheSame (s t : MachineState) (work : Work) : Type 0 where
  pub collections : collections_of s.world ≡ collections_of t.world
  pub caller : sender s work ≡ sender t work
  pub seen : seen_world s.world (bare_ask (sender s work) work) ≡ seen_world t.world (bare_ask (sender t work) work)

-- the records of a collection that a caller may list, as it sees them
abbrev pub listed_in : World → Ask → Collection → List Rec
listed_in w ask c = map (shown_rec ask.caller c) (filter (may w ask action.List c) (recs_at w c.name))

abbrev pub listed : World → Ask → List ℕ → List Rec
listed w ask name = option_map_or (listed_in w ask) (collection_named (collections_of w) name) []

-- and of a collection the same records are on the list
pub record ListsTheSame (s t : MachineState) (work : Work) (name : List ℕ) : Type 0 where
  pub sees : SeesTheSame s t work
  pub lists : listed s.world (bare_ask (sender s work) work) name ≡ listed t.world (bare_ask (sender t work) work) name

-- a view tells the same in two sound states in which its caller sees the same, whatever else they hold
abbrev pub ViewsTellWhatIsSeen : Type 0
ViewsTellWhatIsSeen =
    (opening other : MachineState) (history others : List Work) (work : Work) (target : Target) (shown : Shown)
    → IsSoundState (after opening history) → IsSoundState (after other others) → work.call ≡ call.View target shown
    → SeesTheSame (after opening history) (after other others) work → told (answer opening history work) ≡ told (answer other others work)

-- a list tells the same where its caller sees the same, and the same records are on the list
abbrev pub ListsTellWhatIsSeen : Type 0
ListsTellWhatIsSeen =
    (opening other : MachineState) (history others : List Work) (work : Work) (name : List ℕ) (query : ListQuery)
    → IsSoundState (after opening history) → IsSoundState (after other others) → work.call ≡ call.List name query
    → ListsTheSame (after opening history) (after other others) work name → told (answer opening history work) ≡ told (answer other others work)
