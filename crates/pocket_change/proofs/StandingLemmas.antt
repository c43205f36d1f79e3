-- What is known of a collection and a record that stand in a world.
use Rattle.std.proofs.Common.{◌≡◌, ◌∙◌, List, [], Option, Some, None, Contains, find, option_map, refl, sym, ap, subst}
use Rattle.std.specs.Option.{option_map_or}
use Rattle.std.specs.Str.{bytes_eq}
use Rattle.std.proofs.lemmas.List.Elements.{All-contains}
use Rattle.std.proofs.lemmas.Option.{none-some, same_Some}
use Rattle.std.specs.Prelude.{All}
use Rattle.pocket_types.specs.Sound.{IsSoundCollection, IsSoundRec}
use Rattle.pocket_types.specs.Within.{collections_of}
use Rattle.pocket_types.specs.World.{rec_of, shelf_named}
use Rattle.pocket_types.specs.declared.ids.Id.{Id}
use Rattle.pocket_types.specs.declared.names.Name.{Name}
use Rattle.pocket_types.specs.declared.records.Collection.{Collection}
use Rattle.pocket_types.specs.declared.records.Rec.{Rec}
use Rattle.pocket_types.specs.declared.world.Shelf.{Shelf}
use Rattle.pocket_types.specs.declared.world.World.{World}
use Rattle.pocket_tables.specs.Laws.{HasSoundParts}
use Rattle.pocket_tables.specs.Worlds.{HasShape, collection_at, rec_at, shapes_of}
use Rattle.pocket_tables.proofs.KeyLemmas.{key_same}
use Rattle.pocket_tables.proofs.WorldLemmas.{collection_found}
use Rattle.pocket_check.proofs.FaultlessLemmas.{found_there}
use Rattle.pocket_change.specs.Plans.{Stands}

-- the name by which a collection is found is its own
pub name_same : (w : World) (name : Name) (c : Collection) → collection_at w name ≡ Some c → c.name ≡ name
name_same w name c e = key_same c.name name (found_there (λ x. bytes_eq x.name name) (collections_of w) c e).1

pub found_again : (w : World) (name : Name) (c : Collection) → collection_at w name ≡ Some c → collection_at w c.name ≡ Some c
found_again w name c e = subst (λ n. collection_at w n ≡ Some c) (sym (name_same w name c e)) e

-- ---- shelves

-- the shelf on which a collection stands
pub record IsOn (w : World) (c : Collection) (s : Shelf) : Type 0 where
  pub found : shelf_named c.name w.shelves ≡ Some s
  pub there : Contains w.shelves s
  pub same : s.collection ≡ c

-- a collection that is found stands on a shelf of its name
pub shelf_found : (w : World) (name : Name) (c : Collection) → collection_at w name ≡ Some c → (s : Shelf) × (shelf_named name w.shelves ≡ Some s) × (s.collection ≡ c)
shelf_found w name c e = by (shelf_named name w.shelves) (sym (collection_found w.shelves name) ∙ e)
  where
    by : (o : Option Shelf) → option_map (λ s. s.collection) o ≡ Some c → (s : Shelf) × (o ≡ Some s) × (s.collection ≡ c)
    by None q = absurd (none-some c q)
    by (Some s) q = (s, refl, same_Some s.collection c q)

pub stands_on : (w : World) (c : Collection) → collection_at w c.name ≡ Some c → (s : Shelf) × IsOn w c s
stands_on w c e =
    let x = shelf_found w c.name c e in
    (x.0, record { found = x.1; there = (found_there (λ s. bytes_eq s.collection.name c.name) w.shelves x.0 x.1).0; same = x.2 })

pub parts_of : (w : World) (c : Collection) (s : Shelf) → All HasSoundParts w.shelves → IsOn w c s → HasSoundParts s
parts_of w c s parts on = All-contains HasSoundParts w.shelves s parts on.there

-- ---- soundness

pub sound_there : (w : World) (c : Collection) → All HasSoundParts w.shelves → collection_at w c.name ≡ Some c → IsSoundCollection c
sound_there w c parts e = let x = stands_on w c e in subst IsSoundCollection x.1.same (parts_of w c x.0 parts x.1).collection

-- a record that stands there is sound, and bears the id by which it is found
pub rec_there : (w : World) (c : Collection) (id : Id) (r : Rec) → All HasSoundParts w.shelves → collection_at w c.name ≡ Some c → rec_at w c.name id ≡ Some r
    → IsSoundRec c r × (r.id ≡ id)
rec_there w c id r parts there e =
    let x = stands_on w c there in
    let found : rec_of id x.0.recs ≡ Some r = ap (λ o. rec_of id (option_map_or (λ s. s.recs) o [])) (sym x.1.found) ∙ e in
    let rec = found_there (λ s. bytes_eq s.id id) x.0.recs r found in
    (subst (λ k. IsSoundRec k r) x.1.same (All-contains (IsSoundRec x.0.collection) x.0.recs r (parts_of w c x.0 parts x.1).recs rec.0), key_same r.id id rec.1)

-- ---- what stands by name and id

-- the collection and the record that are found are those that stand there
pub record AreThose (w : World) (c : Collection) (r : Rec) : Type 0 where
  pub there : collection_at w c.name ≡ Some c
  pub sound : IsSoundCollection c
  pub shape : HasShape (shapes_of c) r

pub are_those : (w : World) (name : Name) (id : Id) (c : Collection) (r : Rec) → Stands w name id → Some c ≡ collection_at w name → Some r ≡ rec_at w name id → AreThose w c r
are_those w name id c r h e q =
    let same : h.collection ≡ c = same_Some h.collection c (sym h.there ∙ sym e) in
    let mine : h.rec ≡ r = same_Some h.rec r (sym h.found ∙ sym q) in
    record {
      there = found_again w name c (sym e);
      sound = subst IsSoundCollection same h.sound;
      shape = subst (λ k. HasShape (shapes_of k) r) same (subst (HasShape (shapes_of h.collection)) mine h.shape);
    }

-- a collection that is found among those of a world
pub found_in : (w : World) (cs : List Collection) (name : Name) (c : Collection) → cs ≡ collections_of w → Some c ≡ find (λ x. bytes_eq x.name name) cs → Some c ≡ collection_at w name
found_in w cs name c e q = q ∙ ap (λ (xs : List Collection). find (λ x. bytes_eq x.name name) xs) e

-- what holds of those that were found holds of all that are found so
pub only_those : (w : World) (name : Name) (id : Id) (c : Collection) (r : Rec) (P : Collection → Rec → Type 0) → Some c ≡ collection_at w name → Some r ≡ rec_at w name id
    → (d : Collection) (s : Rec) → collection_at w name ≡ Some d → rec_at w name id ≡ Some s → P c r → P d s
only_those w name id c r P e q d s f p h =
    let same : c ≡ d = same_Some c d (e ∙ f) in
    let mine : r ≡ s = same_Some r s (q ∙ p) in
    subst (λ k. P k s) same (subst (P c) mine h)

pub only_found : (w : World) (name : Name) (c : Collection) (P : Collection → Type 0) → Some c ≡ collection_at w name → (d : Collection) → collection_at w name ≡ Some d → P c → P d
only_found w name c P e d f h = subst P (same_Some c d (e ∙ f)) h

pub sound_found : (w : World) (name : Name) (c : Collection) → All HasSoundParts w.shelves → Some c ≡ collection_at w name → IsSoundCollection c
sound_found w name c parts e = sound_there w c parts (found_again w name c (sym e))
