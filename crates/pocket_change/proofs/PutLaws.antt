-- What is created and updated may be put.
use Rattle.std.proofs.Common.{◌≡◌, ◌≤◌, ℕ, Bool, true, false, nat_lt, List, [], ◌∷◌, find, is_some, slice_index, Option, Some, None, Ok, IfSome, IsTrue, option_map, refl, sym, ap, subst, ◌∙◌, arith}
use Rattle.std.specs.Str.{bytes_eq}
use Rattle.std.proofs.lemmas.List.Elements.{All-contains, All-weaker}
use Rattle.pocket_types.specs.Chains.{or_refuse, refuse, refuse_as}
use Rattle.pocket_types.specs.Kinds.{target_of}
use Rattle.pocket_types.specs.Names.{IsMoment, is_id}
use Rattle.pocket_types.specs.Profile.{IsProfiled}
use Rattle.pocket_types.specs.Sound.{IsSoundCollection, IsSoundRec}
use Rattle.pocket_types.specs.Within.{IsShelf, LeadsWithin}
use Rattle.pocket_types.specs.World.{shelf_named}
use Rattle.pocket_types.specs.declared.faults.FieldFault.{FieldFault}
use Rattle.pocket_types.specs.declared.faults.Limit.{Limit}
use Rattle.pocket_types.specs.declared.faults.Limit.TheVariants as limit
use Rattle.pocket_types.specs.declared.ids.Id.{Id}
use Rattle.pocket_types.specs.declared.json.Jv.{Jv}
use Rattle.pocket_types.specs.declared.names.Name.{Name}
use Rattle.pocket_types.specs.declared.records.Cell.{Cell}
use Rattle.pocket_types.specs.declared.records.Collection.{Collection}
use Rattle.pocket_types.specs.declared.records.Field.{Field}
use Rattle.pocket_types.specs.declared.records.Rec.{Rec}
use Rattle.pocket_types.specs.declared.requests.Action.TheVariants as action
use Rattle.pocket_types.specs.declared.requests.Ask.{Ask}
use Rattle.pocket_types.specs.declared.requests.Caller.{Caller}
use Rattle.pocket_types.specs.declared.requests.Sent.{Sent}
use Rattle.pocket_types.specs.declared.world.Shelf.{Shelf}
use Rattle.pocket_types.specs.declared.world.World.{World}
use Rattle.pocket_ops.specs.Lengths.{row_len}
use Rattle.pocket_tables.specs.Deltas.{FitsWorld}
use Rattle.pocket_tables.specs.Laws.{DeltasAreMadeAtOnce, RecordChangesFit, ShelvesAreFound}
use Rattle.pocket_tables.specs.Reads.{bytes_of, records_of}
use Rattle.pocket_tables.specs.Worlds.{IsTabled, MayStand, collection_at, rec_at, shelf_name}
use Rattle.pocket_tables.proofs.KeyLemmas.{key_same}
use Rattle.pocket_tables.proofs.WorldLemmas.{collection_found}
use Rattle.pocket_gate.specs.Rules.{verdict}
use Rattle.pocket_check.specs.Bodies.{given_id, sent, sent_over, with_sent}
use Rattle.pocket_check.specs.Cells.{zero_cells}
use Rattle.pocket_check.specs.Laws.{FaultlessCellsFit, FaultlessRelationsLeadWithin, IsSentOver, SentCellsHaveShape, ZeroCellsFit}
use Rattle.pocket_check.specs.Validity.{faults_of}
use Rattle.pocket_check.proofs.AnswerLemmas.{both_ok, not_ok, same_ok, was_there, was_told}
use Rattle.pocket_check.proofs.FaultlessLemmas.{found_there}
use Rattle.pocket_change.specs.Changes.{allowed, candidate_put, cells_under, created, faultless, new_rec, of_check, old_put, put_checked, puts, rewritten, unlocked, updated, within_limits, world_with}
use Rattle.pocket_change.specs.Limits.{passed_limit}
use Rattle.pocket_change.specs.Puts.{HasCollection, IsRewritten, MayBePut}
use Rattle.pocket_change.specs.declared.fault.ChangeFault.TheVariants as fault
use Rattle.pocket_change.proofs.IdLemmas.{new_form}
use Rattle.pocket_change.proofs.DeltaLemmas.{changes_one}
use Rattle.pocket_change.proofs.StandingLemmas.{rec_there, shelf_found, sound_there}

-- ---- where a collection stands

sound_collection : (w : World) (c : Collection) → HasCollection w c → IsSoundCollection c
sound_collection w c h = sound_there w c h.parts h.there

-- a record that stands there is sound, and bears the id by which it is found
old_sound : (w : World) (c : Collection) (id : Id) (old : Rec) → HasCollection w c → rec_at w c.name id ≡ Some old → IsSoundRec c old × (old.id ≡ id)
old_sound w c id old h e = rec_there w c id old h.parts h.there e

-- ---- refusals that didn't come

no_faults : (fs : List FieldFault) (x : Unit {0}) → faultless fs ≡ Ok x → fs ≡ []
no_faults [] x e = refl
no_faults (f ∷ fs) x e = absurd (not_ok (fault.Invalid (f ∷ fs)) x e)

no_limit : (o : Option Limit) (x : Unit {0}) → within_limits o ≡ Ok x → o ≡ None
no_limit None x e = refl
no_limit (Some l) x e = absurd (not_ok (fault.Limit l) x e)

-- a record with which nothing is wrong, and no limit is passed
record IsChecked (w : World) (c : Collection) (r : Rec) : Type 0 where
  faults : faults_of (world_with w c r) c r ≡ []
  limits : passed_limit (world_with w c r) c r ≡ None

was_checked : (w : World) (c : Collection) (r s : Rec) → put_checked w c r ≡ Ok s → IsChecked w c r × (r ≡ s)
was_checked w c r s e =
    let a = both_ok (faultless (faults_of (world_with w c r) c r)) _ _ e in
    let b = both_ok (within_limits (passed_limit (world_with w c r) c r)) _ _ a.2 in
    (record { faults = no_faults (faults_of (world_with w c r) c r) a.0 a.1; limits = no_limit (passed_limit (world_with w c r) c r) b.0 b.1 }, same_ok r s b.2)

-- a new record was judged in the world with it, and an old one before
candidate_was : (w : World) (ask : Ask) (c : Collection) (fields : List Sent) (made r : Rec) → candidate_put w ask c fields made ≡ Ok r → IsChecked w c made × (made ≡ r)
candidate_was w ask c fields made r e =
    let a = both_ok (refuse (is_some (rec_at w c.name made.id)) fault.IdTaken) _ _ e in
    let b = both_ok (allowed (verdict (world_with w c made) (record ask { body = fields }) action.Create c made)) _ _ a.2 in
    was_checked w c made r b.2

old_was : (w : World) (ask : Ask) (c : Collection) (fields : List Sent) (old r : Rec) → old_put w ask c fields old ≡ Ok r
    → IsChecked w c (rewritten old ask.moment (with_sent fields c old.cells)) × (rewritten old ask.moment (with_sent fields c old.cells) ≡ r)
old_was w ask c fields old r e =
    let a = both_ok (allowed (verdict w (record ask { body = fields }) action.Update c old)) _ _ e in
    was_checked w c (rewritten old ask.moment (with_sent fields c old.cells)) r a.2

-- ---- limits

abbrev first_limit : List (Bool × Limit) → Option Limit
first_limit cases = option_map (λ (x : Bool × Limit). x.1) (find (λ (x : Bool × Limit). x.0) cases)

no_case : (many long full : Bool) → first_limit ((many, limit.Records) ∷ (long, limit.Record) ∷ (full, limit.Store) ∷ []) ≡ None
    → (many ≡ false) × (long ≡ false) × (full ≡ false)
no_case true b c h = cc
no_case false true c h = cc
no_case false false true h = cc
no_case false false false h = (refl, refl, refl)

not_passed : (a b : ℕ) → nat_lt a b ≡ false → b ≤ a
not_passed a b h = grind arith

abbrev WithinLimits : World → Collection → Rec → Type 0
WithinLimits w c r = (records_of w ≤ 200000) × (row_len c r ≤ 65536) × (bytes_of w ≤ 268435456)

within : (w : World) (c : Collection) (r : Rec) → passed_limit w c r ≡ None → WithinLimits w c r
unfolding passed_limit
within w c r e =
    let x = no_case (nat_lt 200000 (records_of w)) (nat_lt 65536 (row_len c r)) (nat_lt 268435456 (bytes_of w)) e in
    (not_passed 200000 (records_of w) x.0, not_passed 65536 (row_len c r) x.1, not_passed 268435456 (bytes_of w) x.2)

profiled : (body : Option Jv) (tree : Jv) → IfSome body IsProfiled → body ≡ Some tree → IsProfiled tree
profiled body tree h e = subst (λ o. IfSome o IsProfiled) e h

-- ---- puts

module _ (records_fit : RecordChangesFit) (at_once : DeltasAreMadeAtOnce) (shelves_found : ShelvesAreFound) (have_shape : SentCellsHaveShape) (cells_fit : FaultlessCellsFit) (lead_within : FaultlessRelationsLeadWithin) where
  -- a relation leads to a collection also in the world with the record
  still_leads : (w : World) (c : Collection) (r : Rec) → IsTabled w → FitsWorld (puts c.name r) w → (f : Field) → LeadsWithin w f → LeadsWithin (world_with w c r) f
  still_leads w c r tabled fits f h = by (target_of f.kind) h
    where
      by : (o : Option Name) → IfSome o (λ target. (s : Shelf) × IsShelf w target s) → IfSome o (λ target. (s : Shelf) × IsShelf (world_with w c r) target s)
      by None h = tt
      by (Some target) h =
          let named : shelf_named target w.shelves ≡ Some h.0 =
          ap (λ n. shelf_named n w.shelves) (sym h.1.named) ∙ All-contains (λ s. shelf_named (shelf_name s) w.shelves ≡ Some s) w.shelves h.0 (shelves_found w tabled) h.1.there in
          let before : collection_at w target ≡ Some h.0.collection = collection_found w.shelves target ∙ ap (option_map (λ s. s.collection)) named in
          let after = shelf_found (world_with w c r) target h.0.collection ((at_once (puts c.name r) w tabled fits).collections target ∙ before) in
          let x = found_there (λ s. bytes_eq s.collection.name target) (world_with w c r).shelves after.0 after.1 in
          (after.0, record { there = x.0; named = key_same after.0.collection.name target x.1 })

  -- a record that a body makes, with which nothing is wrong
  may_be_put : (w : World) (who : Caller) (c : Collection) (old : List Cell) (body : Jv) (fields : List Sent) (r : Rec) → HasCollection w c → IsSentOver who c old body fields r
      → IsTrue (is_id r.id) → IsMoment r.created → IsMoment r.updated → IsChecked w c r → MayBePut w c r
  may_be_put w who c old body fields r h is id created updated checked =
      let fits = records_fit (puts c.name r) w (changes_one w c.name r (subst (λ o. MayStand o r) (sym h.there) (have_shape who c old body fields r is))) in
      let tabled = (at_once (puts c.name r) w h.tabled fits).tabled in
      let limits = within (world_with w c r) c r checked.limits in
      record {
        fits = fits;
        alone = record { id = id; created = created; updated = updated; cells = cells_fit (world_with w c r) who c old body fields r is checked.faults };
        held = lead_within (world_with w c r) c r tabled (All-weaker (LeadsWithin w) (LeadsWithin (world_with w c r)) (still_leads w c r h.tabled fits) c.fields h.targets) checked.faults;
        short = limits.1;
        records = limits.0;
        store = limits.2;
      }

  made_may : ZeroCellsFit → (w : World) (ask : Ask) (c : Collection) (tree : Jv) (given : Option Id) (words : List ℕ) (fields : List Sent) → HasCollection w c → IsMoment ask.moment
      → IsProfiled tree → given_id tree ≡ Ok given → sent ask.caller c None tree ≡ Ok fields
      → IsChecked w c (new_rec given words ask.moment (with_sent fields c (zero_cells c))) → MayBePut w c (new_rec given words ask.moment (with_sent fields c (zero_cells c)))
  unfolding sent
  made_may zero_fit w ask c tree given words fields h moment profile id_is fields_are checked =
      let made = new_rec given words ask.moment (with_sent fields c (zero_cells c)) in
      let read = both_ok (given_id tree) _ _ fields_are in
      let sound = sound_collection w c h in
      let is : IsSentOver ask.caller c (zero_cells c) tree fields made = record { sound = sound; old_fit = zero_fit c sound; profile = profile; read = read.2; cells = refl } in
      let id = new_form tree given (slice_index words 0) (slice_index words 1) id_is in
      may_be_put w ask.caller c (zero_cells c) tree fields made h is id moment moment checked

  pub created_may : ZeroCellsFit → (w : World) (ask : Ask) (c : Collection) (body : Option Jv) (words : List ℕ) (r : Rec)
      → HasCollection w c → IsMoment ask.moment → IfSome body IsProfiled → created w ask c body words ≡ Ok r → MayBePut w c r
  unfolding created
  created_may zero_fit w ask c body words r h moment profile e =
      let a = both_ok (unlocked ask action.Create c) _ _ e in
      let b = both_ok (or_refuse body fault.BadBody) _ _ a.2 in
      let tree = b.0 in
      let d = both_ok (refuse_as of_check (given_id tree)) _ _ b.2 in
      let f = both_ok (refuse_as of_check (sent ask.caller c None tree)) _ _ d.2 in
      let put = candidate_was w ask c f.0 (new_rec d.0 words ask.moment (with_sent f.0 c (zero_cells c))) r f.2 in
      subst (MayBePut w c) put.1
      (made_may zero_fit w ask c tree d.0 words f.0 h moment (profiled body tree profile (was_there body fault.BadBody tree b.1)) (was_told of_check (given_id tree) d.0 d.1)
      (was_told of_check (sent ask.caller c None tree) f.0 f.1) put.0)

  rewritten_may : (w : World) (ask : Ask) (c : Collection) (id : Id) (tree : Jv) (fields : List Sent) (old : Rec) → HasCollection w c → IsMoment ask.moment
      → IsProfiled tree → rec_at w c.name id ≡ Some old → sent_over ask.caller c old.cells tree ≡ Ok fields
      → IsChecked w c (rewritten old ask.moment (with_sent fields c old.cells)) → IsRewritten w c id (rewritten old ask.moment (with_sent fields c old.cells))
  rewritten_may w ask c id tree fields old h moment profile there read checked =
      let made = rewritten old ask.moment (with_sent fields c old.cells) in
      let was = old_sound w c id old h there in
      let is : IsSentOver ask.caller c old.cells tree fields made = record { sound = sound_collection w c h; old_fit = was.0.cells; profile = profile; read = read; cells = refl } in
      record { may = may_be_put w ask.caller c old.cells tree fields made h is was.0.id was.0.created moment checked; id_is = was.1 }

  pub updated_may : (w : World) (ask : Ask) (c : Collection) (id : Id) (body : Option Jv) (r : Rec)
      → HasCollection w c → IsMoment ask.moment → IfSome body IsProfiled → updated w ask c id body ≡ Ok r → IsRewritten w c id r
  unfolding updated
  updated_may w ask c id body r h moment profile e =
      let a = both_ok (unlocked ask action.Update c) _ _ e in
      let b = both_ok (or_refuse body fault.BadBody) _ _ a.2 in
      let tree = b.0 in
      let d = both_ok (refuse_as of_check (sent_over ask.caller c (cells_under c (rec_at w c.name id)) tree)) _ _ b.2 in
      let f = both_ok (or_refuse (rec_at w c.name id) fault.NoRecord) _ _ d.2 in
      let there = was_there (rec_at w c.name id) fault.NoRecord f.0 f.1 in
      let over = was_told of_check (sent_over ask.caller c (cells_under c (rec_at w c.name id)) tree) d.0 d.1 in
      let put = old_was w ask c d.0 f.0 r f.2 in
      subst (IsRewritten w c id) put.1
      (rewritten_may w ask c id tree d.0 f.0 h moment (profiled body tree profile (was_there body fault.BadBody tree b.1)) there
      (ap (λ o. sent_over ask.caller c (cells_under c o) tree) (sym there) ∙ over) put.0)
