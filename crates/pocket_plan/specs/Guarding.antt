-- What a filter sees under a guard, told in whole records: hidden fields lead nowhere and have no value.
use Rattle.std.specs.Prelude.{Bool, false, ◌&&◌, List, [], Option, Some, None, map, find, filter, zip}
use Rattle.std.specs.Option.{option_map_or}
use Rattle.std.specs.Str.{bytes_eq}
use Rattle.pocket_types.specs.World.{shelf_named}
use Rattle.pocket_types.specs.declared.ids.Id.{Id}
use Rattle.pocket_types.specs.declared.names.Name.{Name}
use Rattle.pocket_types.specs.declared.records.Cell.{Cell}
use Rattle.pocket_types.specs.declared.records.Collection.{Collection}
use Rattle.pocket_types.specs.declared.records.Field.{Field}
use Rattle.pocket_types.specs.declared.records.Rec.{Rec}
use Rattle.pocket_types.specs.declared.requests.Ask.{Ask}
use Rattle.pocket_types.specs.declared.requests.Sent.{Sent}
use Rattle.pocket_types.specs.declared.resolved.Modifier.{Modifier}
use Rattle.pocket_types.specs.declared.resolved.Step.{Step}
use Rattle.pocket_types.specs.declared.resolved.Step.TheVariants as step
use Rattle.pocket_types.specs.declared.values.Value.{Value}
use Rattle.pocket_types.specs.declared.values.Value.TheVariants as value
use Rattle.pocket_types.specs.declared.world.World.{World}
use Rattle.pocket_ops.specs.Cells.{items_of}
use Rattle.pocket_ops.specs.DateReading.{◌>>=◌}
use Rattle.pocket_meaning.specs.Members.{Member}
use Rattle.pocket_meaning.specs.Members as member
use Rattle.pocket_meaning.specs.Related.{sent_for, held, refers, root_list}
use Rattle.pocket_meaning.specs.Sights.{Sight}
use Rattle.pocket_meaning.specs.Values.{value_among}
use Rattle.pocket_plan.specs.Cutting.{is_open, admitted_world}
use Rattle.pocket_plan.specs.declared.guard.Guard.{Guard}

-- the first field of a name that isn't hidden, with its cell
abbrev pub open_field_at : Collection → Rec → Name → Option (Field × Cell)
open_field_at c r name = find (λ x. is_open x.0 && bytes_eq x.0.name name) (zip c.fields r.cells)

-- a field of the home collection that isn't hidden and was sent, with the cell that it will have
abbrev pub open_sent_field : World → Name → List Sent → Name → Option (Field × Cell)
open_sent_field w home body name = do
  s ← shelf_named home w.shelves
  f ← find (λ f. is_open f && bytes_eq f.name name) s.collection.fields
  x ← sent_for body name
  Some (f, x.cell)

-- whether a record's field that isn't hidden refers to the record of a collection and an id
abbrev pub open_points_to : Collection → Name → Name → Id → Rec → Bool
open_points_to c field name id r = option_map_or (refers name id) (open_field_at c r field) false

-- the records of a collection whose field isn't hidden and refers to a record, by id
abbrev pub open_holders : World → Name → Name → Collection → Rec → List Member
open_holders w from field c r =
    let points : Collection → Rec → Bool = λ k. open_points_to k field c.name r.id in
    option_map_or (λ s. map (member.Record s.collection) (filter (points s.collection) s.recs)) (shelf_named from w.shelves) []

-- a field of a member that isn't hidden, with its cell: of a record, or of what was sent
abbrev pub open_field_from : (Name → Option (Field × Cell)) → Member → Name → Option (Field × Cell)
open_field_from sent (member.Record c r) name = open_field_at c r name
open_field_from sent member.Sent name = sent name
open_field_from sent _ name = None

-- the members to which a step over a field that isn't hidden leads
abbrev pub open_step_list : World → (Name → Option (Field × Cell)) → Step → Member → List Member
open_step_list w sent (step.Forward f) m = option_map_or (held w) (open_field_from sent m f) []
open_step_list w sent (step.Item f) m = option_map_or (λ x. map member.Item (items_of x.1)) (open_field_from sent m f) []
open_step_list w sent (step.Back from f) (member.Record c r) = open_holders w from f c r
open_step_list w sent (step.Back from f) _ = []

-- a field of a member that isn't hidden; Nothing of all but records
abbrev pub open_value : Member → Name → Modifier → Value
open_value (member.Record c r) name modifier = value_among c r name (open_field_at c r name) modifier
open_value _ name modifier = value.Nothing

-- what is seen under a guard
abbrev pub guarded_sight : World → Guard → Ask → Name → Rec → Sight
guarded_sight w g ask home r = record {
  ask = ask;
  sent = open_sent_field w home ask.body;
  roots = root_list (admitted_world w g ask) ask home r;
  steps = open_step_list (admitted_world w g ask) (open_sent_field w home ask.body);
  values = open_value;
}
