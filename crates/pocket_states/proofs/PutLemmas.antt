-- A sound state in which one record is put is sound.
use Rattle.std.proofs.Common.{◌≡◌, inl, inr, Bool, true, false, cond, List, [], ◌∷◌, length, map, Some, refl, sym, ap, subst, All, arith}
use Rattle.std.specs.Str.{bytes_eq}
use Rattle.std.proofs.lemmas.List.{length-map}
use Rattle.std.proofs.lemmas.List.Elements.{All-weaker}
use Rattle.pocket_types.specs.Kinds.{target_of}
use Rattle.pocket_types.specs.Order.{Rises}
use Rattle.pocket_types.specs.Within.{AllHoldWithin, HasRec, HoldsWithin, IsShelf, LeadsWithin, collections_of}
use Rattle.pocket_types.specs.declared.ids.Id.{Id}
use Rattle.pocket_types.specs.declared.names.Name.{Name}
use Rattle.pocket_types.specs.declared.records.Cell.{Cell}
use Rattle.pocket_types.specs.declared.records.Cell.TheVariants as cell
use Rattle.pocket_types.specs.declared.records.Collection.{Collection}
use Rattle.pocket_types.specs.declared.records.Field.{Field}
use Rattle.pocket_types.specs.declared.records.Kind.{Kind}
use Rattle.pocket_types.specs.declared.records.Kind.TheVariants as kind
use Rattle.pocket_types.specs.declared.records.Rec.{Rec}
use Rattle.pocket_types.specs.declared.requests.Caller.{Caller}
use Rattle.pocket_types.specs.declared.requests.Caller.TheVariants as caller
use Rattle.pocket_types.specs.declared.world.Shelf.{Shelf}
use Rattle.pocket_types.specs.declared.world.World.{World}
use Rattle.pocket_types.proofs.OrderLemmas.{rises_map}
use Rattle.pocket_keeper.specs.declared.tokens.Token.{Token}
use Rattle.pocket_store.specs.SoundStates.{HasMember, IsSoundRecIn, IsSoundShelf, IsSoundTokenIn, IsSoundWorld}
use Rattle.pocket_store.specs.Stores.{RulesResolve}
use Rattle.pocket_store.proofs.ListLemmas.{IsIn, all_from_in, all_in, some_map}
use Rattle.pocket_tables.specs.Keyed.{put_at}
use Rattle.pocket_tables.specs.Laws.{HasSoundParts}
use Rattle.pocket_tables.specs.Worlds.{collection_at, id_of, shelf_name}
use Rattle.pocket_tables.proofs.KeyLemmas.{rises-put_at}
use Rattle.pocket_tables.proofs.WorldLemmas.{collections_then, ordered_from}
use Rattle.pocket_change.specs.Changes.{puts, world_with}
use Rattle.pocket_change.specs.Puts.{HasCollection, MayBePut}
use Rattle.pocket_states.specs.Putting.{state_with}
use Rattle.pocket_states.specs.States.{IsSoundState, IsThere, MachineState}
use Rattle.pocket_states.proofs.PutWorldLemmas.{has_rec_then, is_shelf_then, rec_before, shelf_before, shelf_there, shelves_then, sound_parts, sound_tabled, then_of}

-- ---- the collection of a sound world

pub has_collection : (w : World) (c : Collection) → IsSoundWorld w → collection_at w c.name ≡ Some c → HasCollection w c
has_collection w c sound there =
    let at = shelf_there w c there in
    record {
      tabled = sound_tabled w sound;
      parts = All-weaker (IsSoundShelf w) HasSoundParts (sound_parts w) w.shelves sound.shelves;
      there = there;
      targets = subst (λ d. All (LeadsWithin w) d.fields) (sym at.2) (all_in (IsSoundShelf w) w.shelves at.0 sound.shelves at.1).targets;
    }

-- ---- the state with a record put

module _ (s : MachineState) (c : Collection) (r : Rec) (sound : IsSoundState s) (there : collection_at s.world c.name ≡ Some c) where
  abbrev w : World
  w = s.world

  abbrev v : World
  v = world_with s.world c r

  abbrev then_at : Shelf → Shelf
  then_at z = then_of w c r sound.kept.world.rising there z

  shelf_at : (name : Name) (z : Shelf) → IsShelf w name z → IsShelf v name (then_at z)
  shelf_at name z is = is_shelf_then w c r sound.kept.world.rising there name z is

  rec_at_then : (z : Shelf) (id : Id) → HasRec z id → HasRec (then_at z) id
  rec_at_then z id has = has_rec_then w c r sound.kept.world.rising there z id has

  -- ---- what leads within the world leads there still

  leads_then : (f : Field) → LeadsWithin w f → LeadsWithin v f
  leads_then f h =
      some_map (λ target. (z : Shelf) × IsShelf w target z) (λ target. (z : Shelf) × IsShelf v target z) (target_of f.kind)
      (λ target found. (then_at found.0, shelf_at target found.0 found.1)) h

  holds_then : (k : Kind) (x : Cell) → HoldsWithin w k x → HoldsWithin v k x
  holds_then (kind.Relation target most cascade) (cell.Refs ids) h =
      All-weaker (λ id. (z : Shelf) × IsShelf w target z × HasRec z id) (λ id. (z : Shelf) × IsShelf v target z × HasRec z id)
      (λ id found. (then_at found.0, shelf_at target found.0 found.1, rec_at_then found.0 id found.2)) ids h
  holds_then _ _ h = tt

  all_hold_then : (fs : List Field) (cells : List Cell) → AllHoldWithin w fs cells → AllHoldWithin v fs cells
  all_hold_then [] cells h = tt
  all_hold_then (f ∷ fs) [] h = tt
  all_hold_then (f ∷ fs) (x ∷ cells) h = (holds_then f.kind x h.0, all_hold_then fs cells h.1)

  member_then : (t : Token) → HasMember w t → HasMember v t
  member_then t m = record {
    shelf = then_at m.shelf;
    there = shelf_at t.collection m.shelf m.there;
    auth = m.auth;
    member = rec_at_then m.shelf t.id m.member;
  }

  there_then : (who : Caller) → IsThere w who → IsThere v who
  there_then caller.Guest h = tt
  there_then caller.Admin h = tt
  there_then (caller.Member name id) h = record {
    shelf = then_at h.shelf;
    there = shelf_at name h.shelf h.there;
    auth = h.auth;
    member = rec_at_then h.shelf id h.member;
  }

  module _ (may : MayBePut s.world c r) where
    -- the collections stay as they are
    pub put_collections : collections_of (state_with s c r).world ≡ collections_of s.world
    put_collections = collections_then (puts c.name r) w (ordered_from w (sound_tabled w sound.kept.world)) may.fits

    rec_sound : (z : Shelf) → IsIn z w.shelves → (q : Rec) → IsIn q (then_at z).recs → IsSoundRecIn v z.collection q
    rec_sound z i q j =
        let before = all_in (IsSoundShelf w) w.shelves z sound.kept.world.shelves i in
        elim (rec_before w c r sound.kept.world.rising there z i q j) [
          | inl here ↦ subst (λ d. IsSoundRecIn v d q) (sym here.0) (subst (λ p. IsSoundRecIn v c p) (sym here.1)
              (record { alone = may.alone; held = may.held; short = may.short }))
          | inr old ↦
              let h = all_in (IsSoundRecIn w z.collection) z.recs q before.recs old.0 in
              record { alone = h.alone; held = all_hold_then z.collection.fields q.cells h.held; short = h.short }
        ]

    ids_then : (z : Shelf) → IsIn z w.shelves → Rises id_of (then_at z).recs
    ids_then z i = by (bytes_eq c.name z.collection.name)
      where
        before : Rises id_of z.recs
        before = (all_in (IsSoundShelf w) w.shelves z sound.kept.world.shelves i).rising

        by : (b : Bool) → Rises id_of (cond b (put_at id_of r.id (Some r) z.recs) z.recs)
        by true = rises-put_at id_of r.id (Some r) z.recs before refl
        by false = before

    shelf_sound : (z : Shelf) → IsIn z w.shelves → IsSoundShelf v (then_at z)
    shelf_sound z i =
        let before = all_in (IsSoundShelf w) w.shelves z sound.kept.world.shelves i in
        record {
          alone = before.alone;
          rules = subst (λ cs. RulesResolve cs z.collection) (sym put_collections) before.rules;
          targets = All-weaker (LeadsWithin w) (LeadsWithin v) leads_then z.collection.fields before.targets;
          few = before.few;
          recs = all_from_in (IsSoundRecIn v z.collection) (then_at z).recs (rec_sound z i);
          rising = ids_then z i;
        }

    shelves_are : v.shelves ≡ map then_at w.shelves
    shelves_are = shelves_then w c r sound.kept.world.rising there

    world_sound : IsSoundWorld v
    world_sound = record {
      shelves = all_from_in (IsSoundShelf v) v.shelves
          (λ z i. let old = shelf_before w c r sound.kept.world.rising there z i in subst (IsSoundShelf v) (sym old.2) (shelf_sound old.0 old.1));
      rising = subst (λ l. Rises shelf_name l) (sym shelves_are) (rises_map shelf_name shelf_name then_at (λ x y h. h) w.shelves sound.kept.world.rising);
      collections = let e = ap length shelves_are in omega (arith, e, length-map w.shelves then_at, sound.kept.world.collections);
      records = may.records;
      store = may.store;
    }

    -- a record that may be put into a collection of a sound state leaves it sound
    pub put_keeps_sound : IsSoundState (state_with s c r)
    put_keeps_sound = record {
      kept = record {
        world = world_sound;
        tokens = All-weaker (IsSoundTokenIn w) (IsSoundTokenIn v) (λ t h. record { alone = h.alone; member = member_then t h.member }) s.tokens sound.kept.tokens;
        rising = sound.kept.rising;
        few = sound.kept.few;
      };
      few = sound.few;
      differ = sound.differ;
      there = All-weaker (λ k. IsThere w k.caller) (λ k. IsThere v k.caller) (λ k h. there_then k.caller h) s.clients sound.there;
    }
