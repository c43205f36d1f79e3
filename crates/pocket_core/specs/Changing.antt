-- Creations and updates of records.
use Rattle.std.specs.Prelude.{ℕ, List, Option, Result, Ok}
use Rattle.pocket_types.specs.Chains.{◌>>=◌, or_refuse, refuse_as}
use Rattle.pocket_types.specs.Within.{collections_of}
use Rattle.pocket_types.specs.declared.json.Jv.{Jv}
use Rattle.pocket_types.specs.declared.records.Collection.{Collection}
use Rattle.pocket_types.specs.declared.records.Rec.{Rec}
use Rattle.pocket_types.specs.declared.requests.Ask.{Ask}
use Rattle.pocket_types.specs.declared.world.World.{World}
use Rattle.pocket_resolve.specs.Fields.{collection_named}
use Rattle.pocket_change.specs.Changes.{created, updated, world_with}
use Rattle.pocket_change.specs.declared.fault.ChangeFault.{ChangeFault}
use Rattle.pocket_change.specs.declared.fault.ChangeFault.TheVariants as change
use Rattle.pocket_states.specs.Putting.{state_with}
use Rattle.pocket_states.specs.States.{MachineState}
use Rattle.pocket_api.specs.Refusals.{Refusal, because}
use Rattle.pocket_api.specs.declared.call.Shown.{Shown}
use Rattle.pocket_api.specs.declared.call.Target.{Target}
use Rattle.pocket_api.specs.declared.why.Why.{Why}
use Rattle.pocket_api.specs.declared.why.Why.TheVariants as why
use Rattle.pocket_core.specs.Lists.{verdict_why}
use Rattle.pocket_core.specs.Outcomes.{Enters, Outcome, Tree}
use Rattle.pocket_core.specs.Showing.{shown_jv}

-- why nothing is changed, as the cause of a refusal
abbrev pub change_why : ChangeFault → Why
change_why (change.Denied v) = verdict_why v
change_why change.NoRecord = why.NoRecord
change_why change.BadBody = why.BadBody
change_why (change.BadValue name) = why.BadValue name
change_why (change.Invalid faults) = why.Invalid faults
change_why (change.RequiredReference c id field) = why.Required c id field
change_why (change.Limit l) = why.Limit l
change_why change.Memory = why.Memory
change_why change.IdTaken = why.IdTaken

abbrev pub change_refusal : ChangeFault → Refusal
change_refusal f = because (change_why f)

-- a record that is put into a collection
pub record Put : Type 0 where
  pub collection : Collection
  pub rec : Rec

-- what makes a record of a collection puts it there
abbrev pub put_in : World → List ℕ → (Collection → Result Rec ChangeFault) → Result Put Refusal
put_in w name make = do
  c ← or_refuse (collection_named (collections_of w) name) (because why.NoCollection)
  r ← refuse_as change_refusal (make c)
  Ok (record { collection = c; rec = r })

-- what a creation puts: the collection first, then the record that the body creates
unfoldable pub created_in : World → Ask → List ℕ → Option Jv → List ℕ → Result Put Refusal
created_in w ask name body words = put_in w name (λ c. created w ask c body words)

-- what an update puts: the collection first, then the record that the body makes of the one of the id
unfoldable pub updated_in : World → Ask → Target → Option Jv → Result Put Refusal
updated_in w ask target body = put_in w target.collection (λ c. updated w ask c target.id body)

-- a record that is put, as it then stands: its view rule isn't asked
abbrev pub put_jv : World → Ask → Shown → Put → Jv
put_jv w ask shown put = shown_jv (world_with w put.collection put.rec) ask put.collection shown put.rec

-- the call is entered, with the record in the state, and shows it
abbrev pub put_outcome : MachineState → Ask → Shown → Put → Outcome
put_outcome s ask shown put = Ok (Enters (state_with s put.collection put.rec) (Tree (put_jv s.world ask shown put)))

-- a creation
abbrev pub create_outcome : MachineState → Ask → List ℕ → List ℕ → Option Jv → Shown → Outcome
create_outcome s ask words name body shown = created_in s.world ask name body words >>= put_outcome s ask shown

-- an update
abbrev pub update_outcome : MachineState → Ask → Target → Option Jv → Shown → Outcome
update_outcome s ask target body shown = updated_in s.world ask target body >>= put_outcome s ask shown
