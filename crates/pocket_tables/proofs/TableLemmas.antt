-- Tables: the world that they hold, and what a delta leaves.
use Rattle.std.proofs.Common.{◌≡◌, ℕ, ◌+◌, ◌≤◌, List, sym, ◌∙◌, ap, subst, map, length, vec_capacity, All, Option, arith}
use Rattle.std.specs.Prelude.{OnOk, Result, Ok, Err}
use Rattle.std.specs.List.{sum_by}
use Rattle.pocket_types.specs.Order.{Rises}
use Rattle.pocket_types.specs.Within.{collections_of}
use Rattle.pocket_types.specs.World.{rec_of}
use Rattle.pocket_types.specs.declared.deltas.Delta.{Delta}
use Rattle.pocket_types.specs.declared.deltas.RecChange.{RecChange}
use Rattle.pocket_types.specs.declared.records.Collection.{Collection}
use Rattle.pocket_types.specs.declared.records.Rec.{Rec}
use Rattle.pocket_types.specs.declared.world.World.{World}
use Rattle.pocket_ops.specs.Lengths.{HasOwnNames, held, row_len}
use Rattle.pocket_tables.specs.declared.drawers.Drawer.{Drawer}
use Rattle.pocket_tables.specs.declared.tables.Tables.TheInside.{Inside}
use Rattle.pocket_tables.specs.declared.totals.Totals.{Totals}
use Rattle.pocket_tables.specs.Deltas.{FitsWorld, collections_after, inverse, rec_back, rec_changes, recs_after, shelf_back, shelf_changes, world_after}
use Rattle.pocket_tables.specs.Drawers.{AreNoSmaller, AreRising, HasRecPlaces, recs_in, room_of}
use Rattle.pocket_tables.specs.Inside.{AreKept, AreTables, view_of, world_of}
use Rattle.pocket_tables.specs.Kept.{HasPlaces, IsReady, KeepsReady, Kept, Rooms, places_at}
use Rattle.pocket_tables.specs.Keyed.{find_key, places_wanted, put_all}
use Rattle.pocket_tables.specs.Reads.{bytes_of, records_of}
use Rattle.pocket_tables.specs.Swaps.{AreSwapped, CanSwap}
use Rattle.pocket_tables.specs.Tallies.{IsExchange, TellAll, TellChanged, Weight, all_weigh, changed_weigh, one_each}
use Rattle.pocket_tables.specs.Worlds.{IsTabled, collection_at, id_of, name_of, rec_at, recs_at}
use Rattle.pocket_tables.proofs.BalanceLemmas.{sum_after, sum_before, unchanged}
use Rattle.pocket_tables.proofs.InverseLemmas.{fits_back}
use Rattle.pocket_tables.proofs.KeyLemmas.{sum_of_ones}
use Rattle.pocket_tables.proofs.TallyLemmas.{one_each_goes, row_len_goes, sum-map, sum-same}
use Rattle.pocket_tables.proofs.WorldLemmas.{IsOrdered, collections_by, gone_after, leads_back, world_by, world_by-same, names_after, ordered_after, ordered_from, places_back, recs_by, tabled_from, unfolding_world_after}

-- ---- readiness

pub has_places : (kept : Kept) (d : Delta) → IsReady kept d → HasPlaces kept.world kept.rooms d
unfolding IsReady
has_places kept d ready = ready

pub is_ready : (kept : Kept) (d : Delta) → HasPlaces kept.world kept.rooms d → IsReady kept d
unfolding IsReady
is_ready kept d has = has

-- more places keep ready what was
pub more_places : (old new : Kept) → old.rooms.collections ≤ new.rooms.collections
    → ((name : List ℕ) → places_at old.rooms.records name ≤ places_at new.rooms.records name) → KeepsReady old new
unfolding IsReady
more_places old new collections records w d ready = record {
  collections = let h = ready.collections in omega (arith, h, collections);
  records = λ name. let h = ready.records name in let k = records name in omega (arith, h, k);
}

-- ---- the world

module _ (cs : List Collection) (drawers : List Drawer) (tables : AreTables cs drawers) where
  pub collections_are : collections_of (world_of cs drawers) ≡ cs
  collections_are = collections_by (recs_in drawers) cs

  pub recs_are : (name : List ℕ) → recs_at (world_of cs drawers) name ≡ recs_in drawers name
  recs_are name = recs_by (recs_in drawers) cs tables.gone name

  pub ordered : IsOrdered (world_of cs drawers)
  ordered = ordered_from (world_of cs drawers) tables.tabled

  pub are_rising : AreRising drawers
  are_rising = record { names = tables.names; ids = λ name. subst (λ l. Rises id_of l) (recs_are name) (ordered.ids name) }

  pub all_own : All HasOwnNames cs
  all_own = subst (All HasOwnNames) collections_are ordered.own

  pub records_are : records_of (world_of cs drawers) ≡ all_weigh one_each cs (recs_in drawers)
  records_are =
      sum-map (λ s. length s.recs) (λ c. record { collection = c; recs = recs_in drawers c.name }) cs
      ∙ sum-same (λ c. length (recs_in drawers c.name)) (λ c. sum_by (one_each c) (recs_in drawers c.name)) cs (λ i c within. sym (sum_of_ones _))

  pub bytes_are : bytes_of (world_of cs drawers) ≡ all_weigh row_len cs (recs_in drawers)
  bytes_are = sum-map (λ s. sum_by (row_len s.collection) s.recs) (λ c. record { collection = c; recs = recs_in drawers c.name }) cs

-- ---- a delta applied

-- what `apply` promises of tables before and after a delta
pub record IsApplied (old new : Kept) (d back : Delta) : Type 0 where
  pub world : new.world ≡ world_after d old.world
  pub inverse_is : back ≡ inverse d old.world
  pub fits : FitsWorld back new.world
  pub ready : IsReady new back
  pub undone : world_after back new.world ≡ old.world
  pub kept : KeepsReady old new

module _ (cs new_cs : List Collection) (drawers new_drawers : List Drawer) (d back : Delta) (tables : AreTables cs drawers)
    (fits : FitsWorld d (world_of cs drawers)) (swapped : AreSwapped cs new_cs drawers new_drawers d back) where
  abbrev w : World
  w = world_of cs drawers

  same_collections : new_cs ≡ collections_after d w
  same_collections = swapped.collections ∙ ap (put_all name_of (shelf_changes d.shelves)) (sym (collections_are cs drawers tables))

  same_recs : (name : List ℕ) → recs_in new_drawers name ≡ recs_after d w name
  same_recs name = swapped.recs name ∙ ap (put_all id_of (rec_changes d.recs name)) (sym (recs_are cs drawers tables name))

  world_is : world_of new_cs new_drawers ≡ world_after d w
  world_is =
      ap (world_by (recs_in new_drawers)) same_collections
      ∙ world_by-same (recs_in new_drawers) (recs_after d w) same_recs (collections_after d w)
      ∙ sym (unfolding_world_after d w)

  pub still_tables : AreTables new_cs new_drawers
  still_tables = record {
    tabled = subst IsTabled (sym world_is) (tabled_from (world_after d w) (ordered_after d w (ordered cs drawers tables) fits));
    rises = subst (λ l. Rises name_of l) (sym same_collections) (names_after d w (ordered cs drawers tables) fits);
    names = swapped.names;
    gone = λ name e. same_recs name ∙ gone_after d w (ordered cs drawers tables) fits name (ap (find_key name_of name) (sym same_collections) ∙ e);
  }

  back_is : back ≡ inverse d w
  unfolding inverse
  back_is =
      let shelves : back.shelves ≡ map (shelf_back (collection_at w)) d.shelves =
      swapped.shelves_back ∙ (λ i. map (shelf_back (λ name. find_key name_of name ((sym (collections_are cs drawers tables)) i))) d.shelves) in
      let recs : back.recs ≡ map (rec_back (rec_at w)) d.recs =
      swapped.recs_back ∙ (λ i. map (rec_back (λ name id. rec_of id ((sym (recs_are cs drawers tables name)) i))) d.recs) in
      λ i. record { shelves = shelves i; recs = recs i }

  applied_rooms : (rooms : Rooms) → HasPlaces w rooms d
      → IsApplied (record { world = w; rooms = rooms }) (record { world = world_of new_cs new_drawers; rooms = rooms }) d back
  unfolding IsReady
  applied_rooms rooms has = record {
    world = world_is;
    inverse_is = back_is;
    fits = subst (λ b. FitsWorld b (world_of new_cs new_drawers)) (sym back_is)
        (subst (λ v. FitsWorld (inverse d w) v) (sym world_is) (fits_back d w (ordered cs drawers tables) fits));
    ready = subst (λ b. HasPlaces (world_of new_cs new_drawers) rooms b) (sym back_is)
        (subst (λ v. HasPlaces v rooms (inverse d w)) (sym world_is) (places_back d w (ordered cs drawers tables) fits rooms has));
    undone = ap (λ b. world_after b (world_of new_cs new_drawers)) back_is ∙ ap (world_after (inverse d w)) world_is ∙ leads_back d w (ordered cs drawers tables) fits;
    kept = λ v other ready. ready;
  }

  -- the totals follow
  pub exchange : (old out into : Totals) → TellAll old cs drawers → TellChanged out cs drawers d.recs → TellChanged into new_cs new_drawers back.recs
      → IsExchange old out into (all_weigh one_each new_cs (recs_in new_drawers)) (all_weigh row_len new_cs (recs_in new_drawers))
  exchange old out into told leaving coming =
      let count = before one_each (sum_before d w (ordered cs drawers tables) fits one_each one_each_goes) in
      let long = before row_len (sum_before d w (ordered cs drawers tables) fits row_len row_len_goes) in
      record {
        stay = stay one_each;
        leave = changed_weigh one_each cs (recs_in drawers) d.recs;
        come = changed_weigh one_each new_cs (recs_in new_drawers) back.recs;
        stay_bytes = stay row_len;
        leave_bytes = changed_weigh row_len cs (recs_in drawers) d.recs;
        come_bytes = changed_weigh row_len new_cs (recs_in new_drawers) back.recs;
        before = record { records = told.records ∙ ap held count; bytes = told.bytes ∙ ap held long };
        leaving = leaving;
        coming = coming;
        records = after one_each (sum_after d w (ordered cs drawers tables) fits one_each one_each_goes);
        bytes = after row_len (sum_after d w (ordered cs drawers tables) fits row_len row_len_goes);
      }
    where
      stay : Weight → ℕ
      stay weight = all_weigh weight (collections_of w) (unchanged d w (ordered cs drawers tables) fits)

      before : (weight : Weight) → stay weight + changed_weigh weight (collections_of w) (recs_at w) d.recs ≡ all_weigh weight (collections_of w) (recs_at w)
          → all_weigh weight cs (recs_in drawers) ≡ stay weight + changed_weigh weight cs (recs_in drawers) d.recs
      before weight e =
          let all : all_weigh weight (collections_of w) (recs_at w) ≡ all_weigh weight cs (recs_in drawers) =
          (λ i. all_weigh weight (collections_are cs drawers tables i) (λ name. recs_are cs drawers tables name i)) in
          let changed : changed_weigh weight (collections_of w) (recs_at w) d.recs ≡ changed_weigh weight cs (recs_in drawers) d.recs =
          (λ i. changed_weigh weight (collections_are cs drawers tables i) (λ name. recs_are cs drawers tables name i) d.recs) in
          omega (arith, e, all, changed)

      after : (weight : Weight) → stay weight + changed_weigh weight (collections_after d w) (recs_after d w) (inverse d w).recs ≡ all_weigh weight (collections_after d w) (recs_after d w)
          → all_weigh weight new_cs (recs_in new_drawers) ≡ stay weight + changed_weigh weight new_cs (recs_in new_drawers) back.recs
      after weight e =
          let all : all_weigh weight new_cs (recs_in new_drawers) ≡ all_weigh weight (collections_after d w) (recs_after d w) =
          (λ i. all_weigh weight (same_collections i) (λ name. same_recs name i)) in
          let changed : changed_weigh weight new_cs (recs_in new_drawers) back.recs ≡ changed_weigh weight (collections_after d w) (recs_after d w) (inverse d w).recs =
          (λ i. changed_weigh weight (same_collections i) (λ name. same_recs name i) (back_is i).recs) in
          omega (arith, e, all, changed)

-- ---- what the methods see

module _ (t : Inside) (are : AreKept t) (kept : Kept) (is : view_of t ≡ kept) where
  pub found_collection : (name : List ℕ) → collection_at kept.world name ≡ find_key name_of name t.collections.items
  found_collection name =
      ap (λ k. collection_at k.world name) (sym is) ∙ ap (find_key name_of name) (collections_are t.collections.items t.drawers.items are.tables)

  pub found_recs : (name : List ℕ) → recs_at kept.world name ≡ recs_in t.drawers.items name
  found_recs name = ap (λ k. recs_at k.world name) (sym is) ∙ recs_are t.collections.items t.drawers.items are.tables name

  pub same_tables : collections_of kept.world ≡ t.collections.items
  same_tables = ap (λ k. collections_of k.world) (sym is) ∙ collections_are t.collections.items t.drawers.items are.tables

  pub tabled : IsTabled kept.world
  tabled = subst (λ k. IsTabled k.world) is are.tables.tabled

  pub told_records : t.totals.records ≡ held (records_of kept.world)
  told_records = are.totals.records ∙ ap held (sym (records_are t.collections.items t.drawers.items are.tables)) ∙ ap (λ k. held (records_of k.world)) is

  pub told_bytes : t.totals.bytes ≡ held (bytes_of kept.world)
  told_bytes = are.totals.bytes ∙ ap held (sym (bytes_are t.collections.items t.drawers.items are.tables)) ∙ ap (λ k. held (bytes_of k.world)) is

  -- the records of a name, as a slice of the drawers has them
  pub recs_seen : (drawers : List Drawer) (recs : List Rec) (name : List ℕ) → drawers ≡ t.drawers.items → recs ≡ recs_in drawers name → recs ≡ recs_at kept.world name
  recs_seen drawers recs name same e = e ∙ ap (λ l. recs_in l name) same ∙ sym (found_recs name)

  pub ids_seen : (recs : List Rec) (name : List ℕ) → recs ≡ recs_at kept.world name → Rises id_of recs
  ids_seen recs name e =
      subst (λ l. Rises id_of l) (sym (e ∙ found_recs name)) ((are_rising t.collections.items t.drawers.items are.tables).ids name)

  -- the collection of a name, as a slice of the collections has it
  pub collection_seen : (cs : List Collection) (o : Option Collection) (name : List ℕ) → cs ≡ t.collections.items → o ≡ find_key name_of name cs → collection_at kept.world name ≡ o
  collection_seen cs o name same e = found_collection name ∙ ap (find_key name_of name) (sym same) ∙ sym e

  -- a delta that fits and is ready can be made in place
  pub can_swap : (d : Delta) → FitsWorld d kept.world → IsReady kept d → CanSwap t.collections.items t.drawers.items (vec_capacity t.collections) d
  can_swap d fits ready =
      let cs = t.collections.items in
      let drawers = t.drawers.items in
      let has = has_places (view_of t) d (subst (λ k. IsReady k d) (sym is) ready) in
      record {
        rises = are.tables.rises;
        rising = are_rising cs drawers are.tables;
        names = fits.names;
        ids = fits.ids;
        named = fits.named;
        numbered = fits.numbered;
        shelf_room = let h = has.collections in let l = ap length (collections_are cs drawers are.tables) in omega (arith, h, l);
        rec_room = λ name. let h = has.records name in let l = ap length (recs_are cs drawers are.tables name) in omega (arith, h, l);
      }

  pub fits_inside : (d : Delta) → FitsWorld d kept.world → FitsWorld d (world_of t.collections.items t.drawers.items)
  fits_inside d fits = subst (λ k. FitsWorld d k.world) (sym is) fits

  pub applied : (d back : Delta) (new_cs : List Collection) (new_drawers : List Drawer) (places : ℕ) → FitsWorld d kept.world → IsReady kept d
      → AreSwapped t.collections.items new_cs t.drawers.items new_drawers d back → places ≡ vec_capacity t.collections
      → IsApplied kept (record { world = world_of new_cs new_drawers; rooms = record { collections = places; records = map room_of new_drawers } }) d back
  applied d back new_cs new_drawers places fits ready swapped capacity =
      let cs = t.collections.items in
      let drawers = t.drawers.items in
      let has = has_places (view_of t) d (subst (λ k. IsReady k d) (sym is) ready) in
      let rooms : Rooms = record { collections = places; records = map room_of new_drawers } in
      let same : (view_of t).rooms ≡ rooms = λ i. record { collections = (sym capacity) i; records = (sym swapped.rooms) i } in
      subst (λ k. IsApplied k (record { world = world_of new_cs new_drawers; rooms = rooms }) d back) is
      (subst (λ r. IsApplied (view_of t) (record { world = world_of new_cs new_drawers; rooms = r }) d back) same
      (applied_rooms cs new_cs drawers new_drawers d back are.tables (fits_inside d fits) swapped (view_of t).rooms has))

-- ---- places prepared

module _ (cs new_cs : List Collection) (drawers new_drawers : List Drawer) (tables : AreTables cs drawers) (same : new_cs ≡ cs) (roomier : AreNoSmaller drawers new_drawers) where
  pub world_kept : world_of new_cs new_drawers ≡ world_of cs drawers
  world_kept = ap (world_by (recs_in new_drawers)) same ∙ world_by-same (recs_in new_drawers) (recs_in drawers) roomier.recs cs

  pub tables_kept : AreTables new_cs new_drawers
  tables_kept = record {
    tabled = subst IsTabled (sym world_kept) tables.tabled;
    rises = subst (λ l. Rises name_of l) (sym same) tables.rises;
    names = roomier.rising;
    gone = λ name none. roomier.recs name ∙ tables.gone name (ap (find_key name_of name) (sym same) ∙ none);
  }

  pub totals_kept : (totals : Totals) → TellAll totals cs drawers → TellAll totals new_cs new_drawers
  totals_kept totals told =
      let all : (weight : Weight) → all_weigh weight cs (recs_in drawers) ≡ all_weigh weight new_cs (recs_in new_drawers) =
      (λ weight i. all_weigh weight ((sym same) i) (λ name. (sym (roomier.recs name)) i)) in
      record { records = told.records ∙ ap held (all one_each); bytes = told.bytes ∙ ap held (all row_len) }

  -- what was reserved is ready
  pub ready_where_reserved : {A E : Type 0} (d : Delta) (places : ℕ) (r : Result A E)
      → OnOk r (length new_cs + places_wanted (shelf_changes d.shelves) ≤ places) → OnOk r (HasRecPlaces new_drawers d.recs)
      → OnOk r (IsReady (record { world = world_of new_cs new_drawers; rooms = record { collections = places; records = map room_of new_drawers } }) d)
  ready_where_reserved d places (Err e) shelf_room rec_room = tt
  ready_where_reserved d places (Ok a) shelf_room rec_room =
      is_ready (record { world = world_of new_cs new_drawers; rooms = record { collections = places; records = map room_of new_drawers } }) d (record {
        collections = let l = ap length (collections_are new_cs new_drawers tables_kept) in omega (arith, l, shelf_room);
        records = λ name. let l = ap length (recs_are new_cs new_drawers tables_kept name) in let h = rec_room name in omega (arith, l, h);
      })

-- ---- the same of slices

pub told_changed : (totals : Totals) (cs slice : List Collection) (drawers drawer_slice : List Drawer) (changes change_slice : List RecChange)
    → slice ≡ cs → drawer_slice ≡ drawers → change_slice ≡ changes → TellChanged totals slice drawer_slice change_slice → TellChanged totals cs drawers changes
told_changed totals cs slice drawers drawer_slice changes change_slice e f g told =
    subst (λ l. TellChanged totals l drawers changes) e (subst (λ l. TellChanged totals slice l changes) f (subst (λ l. TellChanged totals slice drawer_slice l) g told))

pub told_all_of : (totals : Totals) (cs slice : List Collection) (drawers drawer_slice : List Drawer)
    → slice ≡ cs → drawer_slice ≡ drawers → TellAll totals slice drawer_slice → TellAll totals cs drawers
told_all_of totals cs slice drawers drawer_slice e f told = subst (λ l. TellAll totals l drawers) e (subst (λ l. TellAll totals slice l) f told)

pub exchange_of : (old out into : Totals) (cs slice : List Collection) (drawers drawer_slice : List Drawer) → slice ≡ cs → drawer_slice ≡ drawers
    → IsExchange old out into (all_weigh one_each cs (recs_in drawers)) (all_weigh row_len cs (recs_in drawers))
    → IsExchange old out into (all_weigh one_each slice (recs_in drawer_slice)) (all_weigh row_len slice (recs_in drawer_slice))
exchange_of old out into cs slice drawers drawer_slice e f h =
    subst (λ l. IsExchange old out into (all_weigh one_each l (recs_in drawer_slice)) (all_weigh row_len l (recs_in drawer_slice))) (sym e)
    (subst (λ l. IsExchange old out into (all_weigh one_each cs (recs_in l)) (all_weigh row_len cs (recs_in l))) (sym f) h)
