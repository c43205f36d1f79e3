-- The delta that puts one record, and the one that takes it back.
use Rattle.std.proofs.Common.{◌≡◌, ◌∙◌, Bool, true, false, [], ◌∷◌, map, Option, Some, IfSome, cond, refl, sym, ap, subst}
use Rattle.std.proofs.lemmas.List.Elements.{All-cons, All-nil}
use Rattle.std.specs.Str.{bytes_eq}
use Rattle.pocket_types.specs.Within.{collections_of}
use Rattle.pocket_types.specs.declared.deltas.Delta.{Delta}
use Rattle.pocket_types.specs.declared.deltas.RecChange.{RecChange}
use Rattle.pocket_types.specs.declared.ids.Id.{Id}
use Rattle.pocket_types.specs.declared.names.Name.{Name}
use Rattle.pocket_types.specs.declared.records.Rec.{Rec}
use Rattle.pocket_types.specs.declared.world.World.{World}
use Rattle.pocket_tables.specs.Deltas.{FitsWorld, collections_after, inverse, rec_change, recs_after, world_after}
use Rattle.pocket_tables.specs.Keyed.{AtDistinctKeys}
use Rattle.pocket_tables.specs.Laws.{ChangesRecords, DeltasAreMadeAtOnce, RecordChangesFit, after_changes}
use Rattle.pocket_tables.specs.Worlds.{IsTabled, MayStand, collection_at, rec_at}
use Rattle.pocket_tables.proofs.KeyLemmas.{key_true}
use Rattle.pocket_tables.proofs.WorldLemmas.{collections_by, unfolding_world_after}
use Rattle.pocket_change.specs.Changes.{puts}

abbrev change_of : Name → Rec → RecChange
change_of name r = record { collection = name; id = r.id; after = Some r }

-- a put changes one record
pub changes_one : (w : World) (name : Name) (r : Rec) → MayStand (collection_at w name) r → ChangesRecords (puts name r) w
changes_one w name r stands = record {
  shelves = refl;
  ids = λ other. distinct (bytes_eq name other);
  numbered = All-cons (λ x. IfSome x.after (λ s. s.id ≡ x.id)) (change_of name r) [] refl (All-nil (λ x. IfSome x.after (λ s. s.id ≡ x.id)));
  shaped = All-cons (λ x. IfSome x.after (MayStand (collection_at w x.collection))) (change_of name r) [] stands
      (All-nil (λ x. IfSome x.after (MayStand (collection_at w x.collection))));
}
  where
    distinct : (b : Bool) → AtDistinctKeys (map rec_change (cond b (record { collection = name; id = r.id; after = Some r } ∷ []) []))
    distinct true = (refl, tt)
    distinct false = tt

pub put_fits : RecordChangesFit → (w : World) (name : Name) (r : Rec) (d : Delta) → d ≡ puts name r → MayStand (collection_at w name) r → FitsWorld d w
put_fits records_fit w name r d e stands = records_fit d w (subst (λ x. ChangesRecords x w) (sym e) (changes_one w name r stands))

-- the collections are as before
pub collections_kept : (w : World) (name : Name) (r : Rec) → collections_of (world_after (puts name r) w) ≡ collections_of w
collections_kept w name r = ap collections_of (unfolding_world_after (puts name r) w) ∙ collections_by (recs_after (puts name r) w) (collections_after (puts name r) w)

-- the record stands there
pub put_found : DeltasAreMadeAtOnce → (w : World) (name : Name) (r : Rec) → IsTabled w → FitsWorld (puts name r) w → rec_at (world_after (puts name r) w) name r.id ≡ Some r
put_found at_once w name r tabled fits =
    (at_once (puts name r) w tabled fits).recs name r.id
    ∙ ap (λ b. after_changes r.id (map rec_change (cond b (change_of name r ∷ []) [])) (rec_at w name r.id)) (key_true name name refl)
    ∙ ap (λ b. cond b (Some r) (rec_at w name r.id)) (key_true r.id r.id refl)

-- the delta of one change
abbrev change_to : Name → Id → Option Rec → Delta
change_to name id after = record { shelves = []; recs = record { collection = name; id = id; after = after } ∷ [] }

-- what takes it back is undone by the put
pub put_again : (w v : World) (name : Name) (r : Rec) → rec_at v name r.id ≡ Some r → inverse (inverse (puts name r) w) v ≡ puts name r
unfolding inverse
put_again w v name r found = ap (change_to name r.id) found

-- ---- a world in which a record was put

-- a delta that puts a record was made in a world, and what takes it back was given
pub record IsPutIn (w : World) (name : Name) (r : Rec) (d back : Delta) (v before : World) : Type 0 where
  pub put : d ≡ puts name r
  pub same : before ≡ w
  pub made : v ≡ world_after d before
  pub back_is : back ≡ inverse d before

pub world_put : (w : World) (name : Name) (r : Rec) (d back : Delta) (v before : World) → IsPutIn w name r d back v before → v ≡ world_after (puts name r) w
world_put w name r d back v before h = h.made ∙ ap (λ x. world_after x before) h.put ∙ ap (world_after (puts name r)) h.same

pub collections_put : (w : World) (name : Name) (r : Rec) (d back : Delta) (v before : World) → IsPutIn w name r d back v before → collections_of v ≡ collections_of w
collections_put w name r d back v before h = ap collections_of (world_put w name r d back v before h) ∙ collections_kept w name r

pub rec_put : RecordChangesFit → DeltasAreMadeAtOnce → (w : World) (name : Name) (r : Rec) (d back : Delta) (v before : World) → IsPutIn w name r d back v before
    → IsTabled w → MayStand (collection_at w name) r → rec_at v name r.id ≡ Some r
rec_put records_fit at_once w name r d back v before h tabled stands =
    subst (λ x. rec_at x name r.id ≡ Some r) (sym (world_put w name r d back v before h))
    (put_found at_once w name r tabled (put_fits records_fit w name r (puts name r) refl stands))

pub again_put : (w : World) (name : Name) (r : Rec) (d back : Delta) (v before : World) → IsPutIn w name r d back v before → rec_at v name r.id ≡ Some r
    → inverse back v ≡ puts name r
again_put w name r d back v before h found =
    ap (λ x. inverse x v) (h.back_is ∙ ap (λ x. inverse x before) h.put ∙ ap (inverse (puts name r)) h.same) ∙ put_again w v name r found
