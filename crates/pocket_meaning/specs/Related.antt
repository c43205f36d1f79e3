-- The related lists: the members of each root, and those to which a step leads from a member.
use Rattle.std.specs.Prelude.{Bool, false, ◌&&◌, List, [], ◌∷◌, map, Option, Some, find, filter, filter_map, option_map}
use Rattle.std.specs.List.{list_any}
use Rattle.std.specs.Option.{option_map_or}
use Rattle.std.specs.Str.{bytes_eq}
use Rattle.pocket_types.specs.Kinds.{target_of}
use Rattle.pocket_types.specs.World.{shelf_named, rec_of}
use Rattle.pocket_types.specs.declared.ids.Id.{Id}
use Rattle.pocket_types.specs.declared.names.Name.{Name}
use Rattle.pocket_types.specs.declared.records.Cell.{Cell}
use Rattle.pocket_types.specs.declared.records.Collection.{Collection}
use Rattle.pocket_types.specs.declared.records.Field.{Field}
use Rattle.pocket_types.specs.declared.records.Rec.{Rec}
use Rattle.pocket_types.specs.declared.requests.Ask.{Ask}
use Rattle.pocket_types.specs.declared.requests.Caller.{Caller}
use Rattle.pocket_types.specs.declared.requests.Caller.TheVariants as caller
use Rattle.pocket_types.specs.declared.requests.Sent.{Sent}
use Rattle.pocket_types.specs.declared.resolved.Root.{Root}
use Rattle.pocket_types.specs.declared.resolved.Root.TheVariants as root
use Rattle.pocket_types.specs.declared.resolved.Step.{Step}
use Rattle.pocket_types.specs.declared.resolved.Step.TheVariants as step
use Rattle.pocket_types.specs.declared.world.Shelf.{Shelf}
use Rattle.pocket_types.specs.declared.world.World.{World}
use Rattle.pocket_ops.specs.Cells.{items_of}
use Rattle.pocket_ops.specs.DateReading.{◌>>=◌}
use Rattle.pocket_ops.specs.Fields.{field_at, ids_of}
use Rattle.pocket_meaning.specs.Members.{Member}
use Rattle.pocket_meaning.specs.Members as member

-- what was sent for a field
abbrev pub sent_for : List Sent → Name → Option Sent
sent_for body name = find (λ x. bytes_eq x.field name) body

-- a field of the home collection that was sent, with the cell that it will have
abbrev pub sent_field : World → Name → List Sent → Name → Option (Field × Cell)
sent_field w home body name = do
  s ← shelf_named home w.shelves
  f ← find (λ f. bytes_eq f.name name) s.collection.fields
  x ← sent_for body name
  Some (f, x.cell)

-- the record of an id on a shelf
abbrev pub shelf_member : Shelf → Id → Option Member
shelf_member s id = option_map (member.Record s.collection) (rec_of id s.recs)

-- the records of its target that a relation holds, in the held order
abbrev pub held : World → Field × Cell → List Member
held w (field, cell) =
    option_map_or (λ s. filter_map (shelf_member s) (ids_of cell)) (target_of field.kind >>= λ target. shelf_named target w.shelves) []

-- whether a field is a relation to a collection and holds this id
abbrev pub refers : Name → Id → Field × Cell → Bool
refers name id (field, cell) =
    option_map_or (λ target. bytes_eq target name) (target_of field.kind) false && list_any (λ held. bytes_eq held id) (ids_of cell)

-- whether a record's field refers to the record of a collection and an id
abbrev pub points_to : Collection → Name → Name → Id → Rec → Bool
points_to c field name id r = option_map_or (refers name id) (field_at c r field) false

-- the records of a collection whose field refers to a record, by id
abbrev pub holders : World → Name → Name → Collection → Rec → List Member
holders w from field c r =
    option_map_or (λ s. map (member.Record s.collection) (filter (points_to s.collection field c.name r.id) s.recs)) (shelf_named from w.shelves) []

-- the members to which a step leads
abbrev pub step_list : World → (Name → Option (Field × Cell)) → Step → Member → List Member
step_list w sent (step.Forward f) (member.Record c r) = option_map_or (held w) (field_at c r f) []
step_list w sent (step.Forward f) member.Sent = option_map_or (held w) (sent f) []
step_list w sent (step.Back from f) (member.Record c r) = holders w from f c r
step_list w sent (step.Item f) (member.Record c r) = option_map_or (λ x. map member.Item (items_of x.1)) (field_at c r f) []
step_list w sent (step.Item f) member.Sent = option_map_or (λ x. map member.Item (items_of x.1)) (sent f) []
step_list w sent _ _ = []

-- the caller's record, where the caller is a member and the record is there
abbrev pub caller_list : World → Caller → List Member
caller_list w (caller.Member name id) =
    option_map_or (λ m. m ∷ []) (shelf_named name w.shelves >>= λ s. shelf_member s id) []
caller_list w _ = []

-- the members of a root
abbrev pub root_list : World → Ask → Name → Rec → Root → List Member
root_list w ask home rec root.Home = option_map_or (λ s. member.Record s.collection rec ∷ []) (shelf_named home w.shelves) []
root_list w ask home rec root.Auth = caller_list w ask.caller
root_list w ask home rec root.Body = member.Sent ∷ []
root_list w ask home rec (root.Look name alias) = option_map_or (λ s. map (member.Record s.collection) s.recs) (shelf_named name w.shelves) []
