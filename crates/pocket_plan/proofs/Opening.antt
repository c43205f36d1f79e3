-- Lists of a world without hidden fields: those of the world, each member without its hidden fields.
use Rattle.std.proofs.Common.{◌≡◌, Bool, true, false, cond, List, [], ◌∷◌, map, refl, ap, ◌∙◌}
use Rattle.std.specs.Prelude.{Option, Some, None, find, filter, filter_map, zip, option_map}
use Rattle.std.specs.List.{cons_option}
use Rattle.std.specs.Option.{option_map_or}
use Rattle.std.specs.Str.{bytes_eq}
use Rattle.pocket_types.specs.Kinds.{target_of}
use Rattle.pocket_types.specs.World.{shelf_named, rec_of}
use Rattle.pocket_types.specs.declared.ids.Id.{Id}
use Rattle.pocket_types.specs.declared.names.Name.{Name}
use Rattle.pocket_types.specs.declared.records.Cell.{Cell}
use Rattle.pocket_types.specs.declared.records.Collection.{Collection}
use Rattle.pocket_types.specs.declared.records.Field.{Field}
use Rattle.pocket_types.specs.declared.records.Rec.{Rec}
use Rattle.pocket_types.specs.declared.requests.Caller.{Caller}
use Rattle.pocket_types.specs.declared.requests.Caller.TheVariants as caller
use Rattle.pocket_types.specs.declared.world.Shelf.{Shelf}
use Rattle.pocket_types.specs.declared.world.World.{World}
use Rattle.pocket_ops.specs.DateReading.{◌>>=◌}
use Rattle.pocket_meaning.specs.Members.{Member}
use Rattle.pocket_meaning.specs.Members as member
use Rattle.pocket_ops.specs.Fields.{field_at, ids_of}
use Rattle.pocket_meaning.specs.Related.{shelf_member, held, refers, points_to, holders, caller_list}
use Rattle.pocket_plan.specs.Cutting.{is_open, open_collection, open_rec, open_shelf, open_world}
use Rattle.pocket_plan.specs.Guarding.{open_field_at, open_points_to, open_holders}
use Rattle.pocket_plan.proofs.Filtered.{find_in_filter}

-- a member without its hidden fields
abbrev pub opened : Member → Member
opened (member.Record c r) = member.Record (open_collection c) (open_rec c r)
opened member.Nobody = member.Nobody
opened (member.Item t) = member.Item t
opened member.Sent = member.Sent

-- ---- fields

zip_nothing : (fs : List Field) (cs : List Cell) → cs ≡ [] → zip fs cs ≡ []
zip_nothing [] cs e = refl
zip_nothing (f ∷ fs) [] e = refl
zip_nothing (f ∷ fs) (c ∷ cs) e = cc

open_more : (f : Field) (c : Cell) (fs : List Field) (rest : List (Field × Cell)) → zip fs (map (λ x. x.1) rest) ≡ rest → (b : Bool)
    → zip (cond b (f ∷ fs) fs) (map (λ x. x.1) (cond b ((f, c) ∷ rest) rest)) ≡ cond b ((f, c) ∷ rest) rest
open_more f c fs rest e true = ap (λ l. (f, c) ∷ l) e
open_more f c fs rest e false = e

-- the fields that aren't hidden, each with its cell
open_fields : (fs : List Field) (cs : List Cell) → zip (filter is_open fs) (map (λ x. x.1) (filter (λ x. is_open x.0) (zip fs cs))) ≡ filter (λ x. is_open x.0) (zip fs cs)
open_fields [] cs = refl
open_fields (f ∷ fs) [] = zip_nothing (filter is_open (f ∷ fs)) [] refl
open_fields (f ∷ fs) (c ∷ cs) = open_more f c (filter is_open fs) (filter (λ x. is_open x.0) (zip fs cs)) (open_fields fs cs) (is_open f)

pub field_open : (c : Collection) (r : Rec) (name : Name) → field_at (open_collection c) (open_rec c r) name ≡ open_field_at c r name
field_open c r name =
    ap (find (λ x. bytes_eq x.0.name name)) (open_fields c.fields r.cells) ∙ find_in_filter (λ (x : Field × Cell). bytes_eq x.0.name name) (λ (x : Field × Cell). is_open x.0) (zip c.fields r.cells)

-- ---- shelves and records

pub shelf_mapped : (h : Shelf → Shelf) → ((s : Shelf) → (h s).collection.name ≡ s.collection.name) → (name : Name) (ss : List Shelf) → shelf_named name (map h ss) ≡ option_map h (shelf_named name ss)
shelf_mapped h keeps name [] = refl
shelf_mapped h keeps name (s ∷ ss) = ap (λ n. cond (bytes_eq n name) (Some (h s)) (shelf_named name (map h ss))) (keeps s) ∙ by (shelf_mapped h keeps name ss) (bytes_eq s.collection.name name)
  where
    by : shelf_named name (map h ss) ≡ option_map h (shelf_named name ss) → (b : Bool) → cond b (Some (h s)) (shelf_named name (map h ss)) ≡ option_map h (cond b (Some s) (shelf_named name ss))
    by rest true = refl
    by rest false = rest

pub shelf_open : (w : World) (name : Name) → shelf_named name (open_world w).shelves ≡ option_map open_shelf (shelf_named name w.shelves)
shelf_open w name = shelf_mapped open_shelf (λ s. refl) name w.shelves

rec_open : (c : Collection) (rs : List Rec) (id : Id) → rec_of id (map (open_rec c) rs) ≡ option_map (open_rec c) (rec_of id rs)
rec_open c [] id = refl
rec_open c (r ∷ rs) id = by (rec_open c rs id) (bytes_eq r.id id)
  where
    by : rec_of id (map (open_rec c) rs) ≡ option_map (open_rec c) (rec_of id rs) → (b : Bool)
        → cond b (Some (open_rec c r)) (rec_of id (map (open_rec c) rs)) ≡ option_map (open_rec c) (cond b (Some r) (rec_of id rs))
    by rest true = refl
    by rest false = rest

pub member_open : (s : Shelf) (id : Id) → shelf_member (open_shelf s) id ≡ option_map opened (shelf_member s id)
member_open s id = ap (option_map (member.Record (open_collection s.collection))) (rec_open s.collection s.recs id) ∙ by (rec_of id s.recs)
  where
    by : (o : Option Rec) → option_map (member.Record (open_collection s.collection)) (option_map (open_rec s.collection) o) ≡ option_map opened (option_map (member.Record s.collection) o)
    by None = refl
    by (Some r) = refl

members_open : (s : Shelf) (ids : List Id) → filter_map (shelf_member (open_shelf s)) ids ≡ map opened (filter_map (shelf_member s) ids)
members_open s [] = refl
members_open s (id ∷ ids) = ap (λ o. cons_option o (filter_map (shelf_member (open_shelf s)) ids)) (member_open s id) ∙ by (members_open s ids) (shelf_member s id)
  where
    by : filter_map (shelf_member (open_shelf s)) ids ≡ map opened (filter_map (shelf_member s) ids) → (o : Option Member)
        → cons_option (option_map opened o) (filter_map (shelf_member (open_shelf s)) ids) ≡ map opened (cons_option o (filter_map (shelf_member s) ids))
    by rest None = rest
    by rest (Some m) = ap (λ l. opened m ∷ l) rest

-- ---- the lists of steps and roots

pub held_open : (w : World) (x : Field × Cell) → held (open_world w) x ≡ map opened (held w x)
held_open w (field, cell) = by (target_of field.kind)
  where
    on : (o : Option Shelf) → option_map_or (λ s. filter_map (shelf_member s) (ids_of cell)) (option_map open_shelf o) [] ≡ map opened (option_map_or (λ s. filter_map (shelf_member s) (ids_of cell)) o [])
    on None = refl
    on (Some s) = members_open s (ids_of cell)

    by : (t : Option Name) → option_map_or (λ s. filter_map (shelf_member s) (ids_of cell)) (t >>= λ target. shelf_named target (open_world w).shelves) [] ≡ map opened (option_map_or (λ s. filter_map (shelf_member s) (ids_of cell)) (t >>= λ target. shelf_named target w.shelves) [])
    by None = refl
    by (Some t) = ap (λ o. option_map_or (λ s. filter_map (shelf_member s) (ids_of cell)) o []) (shelf_open w t) ∙ on (shelf_named t w.shelves)

pointing_more : (c : Collection) (r : Rec) (cut whole : List Rec) → map (member.Record (open_collection c)) cut ≡ map opened (map (member.Record c) whole) → (b : Bool)
    → map (member.Record (open_collection c)) (cond b (open_rec c r ∷ cut) cut) ≡ map opened (map (member.Record c) (cond b (r ∷ whole) whole))
pointing_more c r cut whole e true = ap (λ l. opened (member.Record c r) ∷ l) e
pointing_more c r cut whole e false = e

-- the records of a shelf whose field refers, each without its hidden fields
pointing_open : (c : Collection) (field name : Name) (id : Id) (rs : List Rec)
    → map (member.Record (open_collection c)) (filter (points_to (open_collection c) field name id) (map (open_rec c) rs)) ≡ map opened (map (member.Record c) (filter (open_points_to c field name id) rs))
pointing_open c field name id [] = refl
pointing_open c field name id (r ∷ rs) =
    let cut : List Rec = filter (points_to (open_collection c) field name id) (map (open_rec c) rs) in
    ap (λ o. map (member.Record (open_collection c)) (cond (option_map_or (refers name id) o false) (open_rec c r ∷ cut) cut)) (field_open c r field)
    ∙ pointing_more c r cut (filter (open_points_to c field name id) rs) (pointing_open c field name id rs) (open_points_to c field name id r)

pub holders_open : (w : World) (from field : Name) (c : Collection) (r : Rec) → holders (open_world w) from field (open_collection c) (open_rec c r) ≡ map opened (open_holders w from field c r)
holders_open w from field c r =
    ap (λ o. option_map_or (λ s. map (member.Record s.collection) (filter (points_to s.collection field c.name r.id) s.recs)) o []) (shelf_open w from) ∙ by (shelf_named from w.shelves)
  where
    by : (o : Option Shelf) → option_map_or (λ s. map (member.Record s.collection) (filter (points_to s.collection field c.name r.id) s.recs)) (option_map open_shelf o) []
        ≡ map opened (option_map_or (λ s. map (member.Record s.collection) (filter (open_points_to s.collection field c.name r.id) s.recs)) o [])
    by None = refl
    by (Some s) = pointing_open s.collection field c.name r.id s.recs

pub records_open : (c : Collection) (rs : List Rec) → map (member.Record (open_collection c)) (map (open_rec c) rs) ≡ map opened (map (member.Record c) rs)
records_open c [] = refl
records_open c (r ∷ rs) = ap (λ l. opened (member.Record c r) ∷ l) (records_open c rs)

pub caller_open : (w : World) (who : Caller) → caller_list (open_world w) who ≡ map opened (caller_list w who)
caller_open w caller.Guest = refl
caller_open w caller.Admin = refl
caller_open w (caller.Member name id) = ap (λ o. option_map_or (λ m. m ∷ []) (o >>= λ s. shelf_member s id) []) (shelf_open w name) ∙ by (shelf_named name w.shelves)
  where
    one : (o : Option Member) → option_map_or (λ m. m ∷ []) (option_map opened o) [] ≡ map opened (option_map_or (λ m. m ∷ []) o [])
    one None = refl
    one (Some m) = refl

    by : (o : Option Shelf) → option_map_or (λ m. m ∷ []) (option_map open_shelf o >>= λ s. shelf_member s id) [] ≡ map opened (option_map_or (λ m. m ∷ []) (o >>= λ s. shelf_member s id) [])
    by None = refl
    by (Some s) = ap (λ o. option_map_or (λ m. m ∷ []) o []) (member_open s id) ∙ one (shelf_member s id)
