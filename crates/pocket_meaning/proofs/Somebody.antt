-- No related list of a world holds nobody.
use Rattle.std.proofs.Common.{◌≡◌, inl, inr, List, [], ◌∷◌, map, refl, subst}
use Rattle.std.specs.Prelude.{Option, Some, None, filter, filter_map, option_map, option_and_then}
use Rattle.std.specs.List.{cons_option}
use Rattle.std.specs.Option.{option_map_or}
use Rattle.pocket_types.specs.Kinds.{target_of}
use Rattle.pocket_types.specs.World.{shelf_named, rec_of}
use Rattle.pocket_types.specs.declared.ids.Id.{Id}
use Rattle.pocket_types.specs.declared.names.Name.{Name}
use Rattle.pocket_types.specs.declared.records.Cell.{Cell}
use Rattle.pocket_types.specs.declared.records.Collection.{Collection}
use Rattle.pocket_types.specs.declared.records.Field.{Field}
use Rattle.pocket_types.specs.declared.records.Rec.{Rec}
use Rattle.pocket_types.specs.declared.requests.Ask.{Ask}
use Rattle.pocket_types.specs.declared.requests.Caller.{Caller}
use Rattle.pocket_types.specs.declared.requests.Caller.TheVariants as caller
use Rattle.pocket_types.specs.declared.resolved.Root.{Root}
use Rattle.pocket_types.specs.declared.resolved.Root.TheVariants as root
use Rattle.pocket_types.specs.declared.resolved.Step.{Step}
use Rattle.pocket_types.specs.declared.resolved.Step.TheVariants as step
use Rattle.pocket_types.specs.declared.world.Shelf.{Shelf}
use Rattle.pocket_types.specs.declared.world.World.{World}
use Rattle.pocket_ops.specs.Cells.{items_of}
use Rattle.pocket_meaning.specs.Members.{Member}
use Rattle.pocket_meaning.specs.Members as member
use Rattle.pocket_meaning.specs.Choices.{or_nobody}
use Rattle.pocket_meaning.specs.Choosing.{IsIn}
use Rattle.pocket_ops.specs.Fields.{field_at, ids_of}
use Rattle.pocket_meaning.specs.Related.{shelf_member, held, points_to, holders, step_list, caller_list, root_list}

-- nobody isn't in the list
abbrev pub Somebody : List Member → Type 0
Somebody ms = IsIn member.Nobody ms → ⊥

-- records, items and found records
pub some_records : (c : Collection) (rs : List Rec) → Somebody (map (member.Record c) rs)
some_records c [] h = h
some_records c (r ∷ rs) h = elim h [ inl e ↦ cc | inr g ↦ some_records c rs g ]

some_items : (texts : List (List _)) → Somebody (map member.Item texts)
some_items [] h = h
some_items (t ∷ ts) h = elim h [ inl e ↦ cc | inr g ↦ some_items ts g ]

some_found : (c : Collection) (o : Option Rec) (ms : List Member) → Somebody ms → Somebody (cons_option (option_map (member.Record c) o) ms)
some_found c None ms some h = some h
some_found c (Some r) ms some h = elim h [ inl e ↦ cc | inr g ↦ some g ]

some_named : (s : Shelf) (ids : List Id) → Somebody (filter_map (shelf_member s) ids)
some_named s [] h = h
some_named s (id ∷ ids) h = some_found s.collection (rec_of id s.recs) (filter_map (shelf_member s) ids) (some_named s ids) h

-- a list that may be there
some_or_none : {X : Type 0} (f : X → List Member) (o : Option X) → ((x : X) → Somebody (f x)) → Somebody (option_map_or f o [])
some_or_none f None some h = h
some_or_none f (Some x) some h = some x h

-- the lists of steps
some_held : (w : World) (x : Field × Cell) → Somebody (held w x)
some_held w (field, cell) = some_or_none (λ s. filter_map (shelf_member s) (ids_of cell)) (option_and_then (λ target. shelf_named target w.shelves) (target_of field.kind)) (λ s. some_named s (ids_of cell))

some_holders : (w : World) (from field : Name) (c : Collection) (r : Rec) → Somebody (holders w from field c r)
some_holders w from field c r = some_or_none (λ s. map (member.Record s.collection) (filter (points_to s.collection field c.name r.id) s.recs)) (shelf_named from w.shelves) (λ s. some_records s.collection (filter (points_to s.collection field c.name r.id) s.recs))

some_field : (o : Option (Field × Cell)) → Somebody (option_map_or (λ x. map member.Item (items_of x.1)) o [])
some_field o = some_or_none (λ x. map member.Item (items_of x.1)) o (λ x. some_items (items_of x.1))

pub some_step : (w : World) (sent : Name → Option (Field × Cell)) (t : Step) (m : Member) → Somebody (step_list w sent t m)
some_step w sent (step.Forward f) (member.Record c r) = some_or_none (held w) (field_at c r f) (some_held w)
some_step w sent (step.Forward f) member.Sent = some_or_none (held w) (sent f) (some_held w)
some_step w sent (step.Forward f) member.Nobody = λ h. h
some_step w sent (step.Forward f) (member.Item text) = λ h. h
some_step w sent (step.Back from f) (member.Record c r) = some_holders w from f c r
some_step w sent (step.Back from f) member.Sent = λ h. h
some_step w sent (step.Back from f) member.Nobody = λ h. h
some_step w sent (step.Back from f) (member.Item text) = λ h. h
some_step w sent (step.Item f) (member.Record c r) = some_field (field_at c r f)
some_step w sent (step.Item f) member.Sent = some_field (sent f)
some_step w sent (step.Item f) member.Nobody = λ h. h
some_step w sent (step.Item f) (member.Item text) = λ h. h

-- the lists of roots
some_one : (c : Collection) (o : Option Rec) → Somebody (option_map_or (λ m. m ∷ []) (option_map (member.Record c) o) [])
some_one c None h = h
some_one c (Some r) h = elim h [ inl e ↦ cc | inr g ↦ g ]

some_on_shelf : (id : Id) (o : Option Shelf) → Somebody (option_map_or (λ m. m ∷ []) (option_and_then (λ s. shelf_member s id) o) [])
some_on_shelf id None h = h
some_on_shelf id (Some s) h = some_one s.collection (rec_of id s.recs) h

some_caller : (w : World) (c : Caller) → Somebody (caller_list w c)
some_caller w (caller.Member name id) = some_on_shelf id (shelf_named name w.shelves)
some_caller w caller.Guest = λ h. h
some_caller w caller.Admin = λ h. h

pub some_root : (w : World) (ask : Ask) (home : Name) (rec : Rec) (r : Root) → Somebody (root_list w ask home rec r)
some_root w ask home rec root.Home = some_or_none (λ s. member.Record s.collection rec ∷ []) (shelf_named home w.shelves) (λ s h. elim h [ inl e ↦ cc | inr g ↦ g ])
some_root w ask home rec root.Auth = some_caller w ask.caller
some_root w ask home rec root.Body = λ h. elim h [ inl e ↦ cc | inr g ↦ g ]
some_root w ask home rec (root.Look name alias) = some_or_none (λ s. map (member.Record s.collection) s.recs) (shelf_named name w.shelves) (λ s. some_records s.collection s.recs)

-- nobody is chosen of an empty list alone, where the list itself holds only somebody
pub empty_where_nobody : (l : List Member) (m : Member) → IsIn m (or_nobody l) → m ≡ member.Nobody → Somebody l → l ≡ []
empty_where_nobody [] m h is some = refl
empty_where_nobody (x ∷ l) m h is some = absurd (some (subst (λ z. IsIn z (x ∷ l)) is h))

pub nobody_of_empty : (l : List Member) (m : Member) → IsIn m (or_nobody l) → l ≡ [] → m ≡ member.Nobody
nobody_of_empty l m h none = elim (subst (λ z. IsIn m (or_nobody z)) none h) [ inl e ↦ e | inr g ↦ absurd g ]
