-- The parts of a creation and of an update, in the order in which they are planned.
use Rattle.std.specs.Prelude.{◌≡◌, ◌≢◌, ℕ, List, Option, Some, None, Result, Ok, Err, MatchResult}
use Rattle.pocket_types.specs.Chains.{◌>>=◌, or_refuse, refuse_as}
use Rattle.pocket_types.specs.Sound.{IsSoundCollection}
use Rattle.pocket_types.specs.declared.deltas.Delta.{Delta}
use Rattle.pocket_types.specs.declared.ids.Id.{Id}
use Rattle.pocket_types.specs.declared.json.Jv.{Jv}
use Rattle.pocket_types.specs.declared.names.Name.{Name}
use Rattle.pocket_types.specs.declared.records.Collection.{Collection}
use Rattle.pocket_types.specs.declared.records.Rec.{Rec}
use Rattle.pocket_types.specs.declared.requests.Action.{Action}
use Rattle.pocket_types.specs.declared.requests.Action.TheVariants as action
use Rattle.pocket_types.specs.declared.requests.Ask.{Ask}
use Rattle.pocket_types.specs.declared.world.World.{World}
use Rattle.pocket_tables.specs.Worlds.{HasShape, collection_at, rec_at, shapes_of}
use Rattle.pocket_gate.specs.Rules.{verdict}
use Rattle.pocket_check.specs.Bodies.{given_id, sent, sent_over, with_sent}
use Rattle.pocket_check.specs.Cells.{zero_cells}
use Rattle.pocket_check.specs.Validity.{faults_of}
use Rattle.pocket_change.specs.Changes.{allowed, candidate_put, faultless, new_rec, of_check, old_put, put_checked, puts, unlocked, within_limits, world_with}
use Rattle.pocket_change.specs.Limits.{passed_limit}
use Rattle.pocket_change.specs.declared.fault.ChangeFault.{ChangeFault}
use Rattle.pocket_change.specs.declared.fault.ChangeFault.TheVariants as fault

-- what a first part gives: that the rest of the answer follows from its value, or the refusal, or that memory is wanting
abbrev pub LeadsTo : {A B : Type 0} → (A → Result B ChangeFault) → Result A ChangeFault → Result B ChangeFault → Type 0
LeadsTo rest result answer = MatchResult result (λ x. answer ≡ rest x) (λ e. e ≢ fault.Memory → answer ≡ Err e)

-- ---- bodies

-- the body of a change whose rule isn't locked
abbrev pub body_given : Ask → Action → Collection → Option Jv → Result Jv ChangeFault
body_given ask act c body = do
  _ ← unlocked ask act c
  or_refuse body fault.BadBody

-- the creation that a body's tree asks for
abbrev pub tree_created : World → Ask → Collection → List ℕ → Jv → Result Rec ChangeFault
tree_created w ask c words tree = do
  given ← refuse_as of_check (given_id tree)
  fields ← refuse_as of_check (sent ask.caller c None tree)
  candidate_put w ask c fields (new_rec given words ask.moment (with_sent fields c (zero_cells c)))

-- the update of a record that a body's tree asks for
abbrev pub old_updated : World → Ask → Collection → Rec → Jv → Result Rec ChangeFault
old_updated w ask c old tree = do
  fields ← refuse_as of_check (sent_over ask.caller c old.cells tree)
  old_put w ask c fields old

-- where no record stands the body's tree is read too, over zero cells
abbrev pub none_updated : Ask → Collection → Jv → Result Rec ChangeFault
none_updated ask c tree = do
  _ ← refuse_as of_check (sent_over ask.caller c (zero_cells c) tree)
  Err fault.NoRecord

-- ---- judgements

-- the put of a new record whose id is free, for a request with the fields that it sent
abbrev pub admitted_put : World → Ask → Collection → Rec → Result Rec ChangeFault
admitted_put w ask c r = do
  _ ← allowed (verdict (world_with w c r) ask action.Create c r)
  put_checked w c r

-- what is wrong with a record in the world in which it stands, or which limit is passed
abbrev pub checked : World → Collection → Rec → Result (Unit {0}) ChangeFault
checked w c r = do
  _ ← faultless (faults_of w c r)
  within_limits (passed_limit w c r)

-- a new record is admitted by the create rule of the world in which it stands, before it is checked
abbrev pub admitted : World → Ask → Collection → Rec → Result (Unit {0}) ChangeFault
admitted w ask c r = do
  _ ← allowed (verdict w ask action.Create c r)
  checked w c r

-- a record that stands in a world is checked; one that a request creates is admitted first
abbrev pub judged : World → Option Ask → Collection → Rec → Result (Unit {0}) ChangeFault
judged w None c r = checked w c r
judged w (Some ask) c r = admitted w ask c r

-- the put of a record that is judged so in the world with it put in
abbrev pub put_judged : World → Option Ask → Collection → Rec → Result Rec ChangeFault
put_judged w None c r = put_checked w c r
put_judged w (Some ask) c r = admitted_put w ask c r

-- the delta of such a put
abbrev pub put_planned : World → Option Ask → Collection → Rec → Result Delta ChangeFault
put_planned w creator c r = put_judged w creator c r >>= λ s. Ok (puts c.name s)

-- a sound collection of this name stands in a world, with a record of this id in its shape
pub record Stands (w : World) (name : Name) (id : Id) : Type 0 where
  pub collection : Collection
  pub rec : Rec
  pub there : collection_at w name ≡ Some collection
  pub found : rec_at w name id ≡ Some rec
  pub sound : IsSoundCollection collection
  pub shape : HasShape (shapes_of collection) rec
