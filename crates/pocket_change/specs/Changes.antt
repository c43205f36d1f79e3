-- Creations and updates: what becomes of a record, or the first refusal.
use Rattle.std.specs.Prelude.{ℕ, ℤ, List, [], ◌∷◌, is_some, slice_index, unwrap_or, Option, Some, None, Result, Ok, Err}
use Rattle.std.specs.Option.{option_map_or}
use Rattle.pocket_types.specs.Chains.{◌>>=◌, or_refuse, refuse, refuse_as}
use Rattle.pocket_types.specs.Names.{made_id}
use Rattle.pocket_types.specs.declared.deltas.Delta.{Delta}
use Rattle.pocket_types.specs.declared.faults.FieldFault.{FieldFault}
use Rattle.pocket_types.specs.declared.faults.Limit.{Limit}
use Rattle.pocket_types.specs.declared.ids.Id.{Id}
use Rattle.pocket_types.specs.declared.json.Jv.{Jv}
use Rattle.pocket_types.specs.declared.names.Name.{Name}
use Rattle.pocket_types.specs.declared.records.Cell.{Cell}
use Rattle.pocket_types.specs.declared.records.Collection.{Collection}
use Rattle.pocket_types.specs.declared.records.Rec.{Rec}
use Rattle.pocket_types.specs.declared.requests.Action.{Action}
use Rattle.pocket_types.specs.declared.requests.Action.TheVariants as action
use Rattle.pocket_types.specs.declared.requests.Ask.{Ask}
use Rattle.pocket_types.specs.declared.requests.Sent.{Sent}
use Rattle.pocket_types.specs.declared.world.World.{World}
use Rattle.pocket_tables.specs.Deltas.{world_after}
use Rattle.pocket_tables.specs.Worlds.{rec_at}
use Rattle.pocket_gate.specs.Rules.{keeps_out, rule_for, verdict}
use Rattle.pocket_gate.specs.declared.verdict.Verdict.{Verdict}
use Rattle.pocket_gate.specs.declared.verdict.Verdict.TheVariants as verdict_is
use Rattle.pocket_check.specs.Bodies.{given_id, sent, sent_over, with_sent}
use Rattle.pocket_check.specs.Cells.{zero_cells}
use Rattle.pocket_check.specs.Validity.{faults_of}
use Rattle.pocket_check.specs.declared.fault.CheckFault.{CheckFault}
use Rattle.pocket_check.specs.declared.fault.CheckFault.TheVariants as check
use Rattle.pocket_change.specs.Limits.{passed_limit}
use Rattle.pocket_change.specs.declared.fault.ChangeFault.{ChangeFault}
use Rattle.pocket_change.specs.declared.fault.ChangeFault.TheVariants as fault

-- ---- refusals that several changes have

-- the fault of a body in the words of a change
abbrev pub of_check : CheckFault → ChangeFault
of_check check.BadBody = fault.BadBody
of_check (check.BadValue name) = fault.BadValue name
of_check check.Memory = fault.Memory

-- a locked rule
abbrev pub unlocked : Ask → Action → Collection → Result (Unit {0}) ChangeFault
unlocked ask act c = refuse (keeps_out ask.caller (rule_for act c)) (fault.Denied (verdict_is.Locked c.name act))

-- a rule that lets nobody through, or isn't true
abbrev pub allowed : Verdict → Result (Unit {0}) ChangeFault
allowed verdict_is.Allowed = Ok tt
allowed v = Err (fault.Denied v)

-- a record with something wrong
abbrev pub faultless : List FieldFault → Result (Unit {0}) ChangeFault
faultless [] = Ok tt
faultless (f ∷ fs) = Err (fault.Invalid (f ∷ fs))

-- a record with which a limit is passed
abbrev pub within_limits : Option Limit → Result (Unit {0}) ChangeFault
within_limits None = Ok tt
within_limits (Some l) = Err (fault.Limit l)

-- ---- what is put

-- the delta that puts one record
abbrev pub puts : Name → Rec → Delta
puts name r = record { shelves = []; recs = record { collection = name; id = r.id; after = Some r } ∷ [] }

-- the world with a record put in
abbrev pub world_with : World → Collection → Rec → World
world_with w c r = world_after (puts c.name r) w

-- a record that is put has nothing wrong with it, and passes no limit; it is put then
abbrev pub put_checked : World → Collection → Rec → Result Rec ChangeFault
put_checked w c r = do
  _ ← faultless (faults_of (world_with w c r) c r)
  _ ← within_limits (passed_limit (world_with w c r) c r)
  Ok r

-- ---- creations

-- a new record: its id is the one given or the one that the words make
abbrev pub new_rec : Option Id → List ℕ → ℤ → List Cell → Rec
new_rec given words moment cells =
    record { id = unwrap_or given (made_id (slice_index words 0) (slice_index words 1)); created = moment; updated = moment; cells = cells }

-- a new record where its id is free and the create rule admits it, judged in the world with it put in
abbrev pub candidate_put : World → Ask → Collection → List Sent → Rec → Result Rec ChangeFault
candidate_put w ask c sent r = do
  _ ← refuse (is_some (rec_at w c.name r.id)) fault.IdTaken
  _ ← allowed (verdict (world_with w c r) (record ask { body = sent }) action.Create c r)
  put_checked w c r

-- the record that a body creates
unfoldable pub created : World → Ask → Collection → Option Jv → List ℕ → Result Rec ChangeFault
created w ask c body words = do
  _ ← unlocked ask action.Create c
  tree ← or_refuse body fault.BadBody
  given ← refuse_as of_check (given_id tree)
  fields ← refuse_as of_check (sent ask.caller c None tree)
  candidate_put w ask c fields (new_rec given words ask.moment (with_sent fields c (zero_cells c)))

-- ---- updates

-- the cells over which a body is read: those of the record, or zero cells where there is none
abbrev pub cells_under : Collection → Option Rec → List Cell
cells_under c old = option_map_or (λ r. r.cells) old (zero_cells c)

-- a record with other cells, at a moment
abbrev pub rewritten : Rec → ℤ → List Cell → Rec
rewritten old moment cells = record old { updated = moment; cells = cells }

-- the record with the fields that were sent, where the update rule admits the old one, judged in the world before
abbrev pub old_put : World → Ask → Collection → List Sent → Rec → Result Rec ChangeFault
old_put w ask c sent old = do
  _ ← allowed (verdict w (record ask { body = sent }) action.Update c old)
  put_checked w c (rewritten old ask.moment (with_sent sent c old.cells))

-- the record that a body makes of the one of an id
unfoldable pub updated : World → Ask → Collection → Id → Option Jv → Result Rec ChangeFault
updated w ask c id body = do
  _ ← unlocked ask action.Update c
  tree ← or_refuse body fault.BadBody
  fields ← refuse_as of_check (sent_over ask.caller c (cells_under c (rec_at w c.name id)) tree)
  old ← or_refuse (rec_at w c.name id) fault.NoRecord
  old_put w ask c fields old

-- ---- deltas

-- the delta of a creation
abbrev pub creation : World → Ask → Collection → Option Jv → List ℕ → Result Delta ChangeFault
creation w ask c body words = created w ask c body words >>= λ r. Ok (puts c.name r)

-- the delta of an update
abbrev pub update : World → Ask → Collection → Id → Option Jv → Result Delta ChangeFault
update w ask c id body = updated w ask c id body >>= λ r. Ok (puts c.name r)
