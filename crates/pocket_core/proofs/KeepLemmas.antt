-- A record that is put, and its row that is kept.
use Rattle.std.proofs.Common.{◌≡◌, ◌∙◌, ◌⊎◌, inl, inr, ℕ, ◌+◌, ◌≤◌, Bool, true, false, cond, List, [], ◌∷◌, ◌++◌, Option, Some, None, Result, Ok, Err, IfOk, ap, arith, length, refl, subst, sym, true≢false}
use Rattle.std.specs.Prelude.{IsSome}
use Rattle.std.specs.Str.{bytes_eq}
use Rattle.std.proofs.lemmas.Bool.{false≢true}
use Rattle.pocket_types.specs.Causes.{Rose, StaysUntold}
use Rattle.pocket_types.specs.Within.{collections_of}
use Rattle.pocket_types.specs.declared.deltas.Delta.{Delta}
use Rattle.pocket_types.specs.declared.records.Rec.{Rec}
use Rattle.pocket_types.specs.declared.requests.Ask.{Ask}
use Rattle.pocket_types.specs.declared.world.World.{World}
use Rattle.pocket_keeper.specs.Keeping.{AreAsBefore, IfBothTold, committed, counted}
use Rattle.pocket_keeper.specs.declared.rows.KeepFault.{KeepFault}
use Rattle.pocket_keeper.specs.declared.rows.KeepFault.TheVariants.{Failed, Memory}
use Rattle.pocket_keeper.specs.declared.rows.KeptRow.{KeptRow}
use Rattle.pocket_tables.specs.Deltas.{FitsWorld, inverse, world_after}
use Rattle.pocket_tables.specs.Kept.{Kept}
use Rattle.pocket_tables.specs.Laws.{DeltasAreMadeAtOnce, IsMadeAtOnce, after_changes}
use Rattle.pocket_tables.specs.Worlds.{IsTabled, rec_at}
use Rattle.pocket_tables.proofs.DrawerLemmas.{rec_changes-one}
use Rattle.pocket_tables.proofs.KeyLemmas.{key_true}
use Rattle.pocket_tables.proofs.WorldLemmas.{collections_then, ordered_from}
use Rattle.pocket_change.specs.Changes.{puts, world_with}
use Rattle.pocket_states.specs.Putting.{row_stands}
use Rattle.pocket_api.specs.Refusals.{IsNoMemory}
use Rattle.pocket_api.specs.declared.reply.Reply.{Reply}
use Rattle.pocket_api.specs.declared.work.Work.{Work}
use Rattle.pocket_core.specs.Answers.{IsAnswer, accepted_answer, answer_of, has_no_room, no_room}
use Rattle.pocket_core.specs.Callers.{whole_of}
use Rattle.pocket_core.specs.Changing.{Put}
use Rattle.pocket_core.specs.Courses.{IsPlaced, IsPlanned}
use Rattle.pocket_core.specs.Entering.{Entered, Entry, Full, IsAsBefore, IsUnchanged, Standing, Unkept, Wanting, rows_with_put, unkept_answer}
use Rattle.pocket_core.specs.Outcomes.{Tally, Tree}
use Rattle.pocket_core.specs.Showing.{displayed}
use Rattle.pocket_core.specs.declared.callers.Rest.{Rest}
use Rattle.pocket_core.specs.Preparing.{HasNoPlace, IsKeptAs, IsNotKept, IsNotPut, IsPrepared, IsPutAs, LeadsBack, SaysUnkept, WantsRow, back_from, with_row}
use Rattle.pocket_core.specs.declared.entering.Prepared.{Prepared}
use Rattle.pocket_core.specs.declared.showing.Display.{Display}

-- ---- rows

told_more : (P Q : List KeptRow → List KeptRow → Type 0) → ((a b : List KeptRow) → P a b → Q a b) → (old new : Option (List KeptRow))
    → IfBothTold old new P → IfBothTold old new Q
told_more P Q step None new h = tt
told_more P Q step (Some a) None h = tt
told_more P Q step (Some a) (Some b) h = step a b h

-- without a row to commit rows stay
pub rows_alone : (rows : Option (List KeptRow)) (row : Option KeptRow) → row ≡ None → IfBothTold rows rows (λ before now. now ≡ with_row row before)
rows_alone None row none = tt
rows_alone (Some rows) row none = sym (ap (λ x. with_row x rows) none)

-- a row that is committed is among them
pub rows_committed : (old new : Option (List KeptRow)) (wanted : Option KeptRow) (row : KeptRow) → wanted ≡ Some row
    → IfBothTold old new (λ before now. now ≡ committed before (row ∷ []) []) → IfBothTold old new (λ before now. now ≡ with_row wanted before)
rows_committed old new wanted row is =
    told_more (λ before now. now ≡ committed before (row ∷ []) []) (λ before now. now ≡ with_row wanted before)
    (λ before now e. e ∙ sym (ap (λ x. with_row x before) is)) old new

-- a row isn't kept: the keeper failed, or memory was wanting
pub not_kept : {E : Type 0} (prepared : Result Prepared E) (old new : Option (List KeptRow)) (before now at : ℕ) (fault : KeepFault) (reply : Reply)
    → (fault ≡ Failed → Rose before now) → now ≡ counted {T = Unit {0}} before (Err fault) → WantsRow prepared → AreAsBefore old new → SaysUnkept fault at reply
    → IsNotKept prepared old new before now at reply
not_kept prepared old new before now at Failed reply rose counts wants same said = record { said = inr (said, rose refl, wants); rows = same }
not_kept prepared old new before now at Memory reply rose counts wants same said = record { said = inl (said, counts); rows = same }

module _ (w : World) (put : Put) where
  abbrev pub then : World
  then = world_with w put.collection put.rec

  abbrev pub was : Option Rec
  was = rec_at w put.collection.name put.rec.id

  -- the inverse of a put record's delta
  back_is : inverse (puts put.collection.name put.rec) w ≡ back_from put was
  unfolding inverse
  back_is = refl

  -- the collections stay
  pub same_collections : IsTabled w → IsPlaced w put → collections_of then ≡ collections_of w
  same_collections tabled placed = collections_then (puts put.collection.name put.rec) w (ordered_from w tabled) placed.may.fits

  -- the record stands there then
  found_put : (here : Bool) → here ≡ true → (r : Rec) → after_changes r.id (cond here ((r.id, Some r) ∷ []) []) was ≡ Some r
  found_put true e r = ap (λ b. cond b (Some r) was) (key_true r.id r.id refl)
  found_put false e r = absurd (false≢true e)

  -- the world with the record leads back
  pub leads_back : IsMadeAtOnce (puts put.collection.name put.rec) w → IsPlaced w put → LeadsBack then (inverse (puts put.collection.name put.rec) w) put was
  leads_back made placed = record {
    back_is = back_is;
    there = made.collections put.collection.name ∙ placed.there;
    stands =
        made.recs put.collection.name put.rec.id
        ∙ ap (λ changes. after_changes put.rec.id changes was)
        (rec_changes-one (record { collection = put.collection.name; id = put.rec.id; after = Some put.rec }) put.collection.name)
        ∙ found_put (bytes_eq put.collection.name put.collection.name) (key_true put.collection.name put.collection.name refl) put.rec;
  }

  -- ---- rows

  -- rows with the one that has to be committed
  row_kept : (b : Bool) (row : KeptRow) (told : List KeptRow) → with_row (cond b None (Some row)) told ≡ cond b told (committed told (row ∷ []) [])
  row_kept true row told = refl
  row_kept false row told = refl

  -- a row has to be committed only where it doesn't stand
  row_absent : (b : Bool) (row : KeptRow) → IsSome (cond b None (Some row)) → b ≡ false
  row_absent true row some = absurd (false≢true some)
  row_absent false row some = refl

  module _ {E : Type 0} (ask : Ask) (display : Display) (at : ℕ) (prepared : Result Prepared E) (now : World) (now_is : now ≡ then)
      (is : IfOk prepared (IsPrepared now ask display put was at)) where
    of_made : (made : Prepared) → prepared ≡ Ok made → IsPrepared then ask display put was at made
    of_made made e = subst (λ v. IsPrepared v ask display put was at made) now_is (subst (λ p. IfOk p (IsPrepared now ask display put was at)) e is)

    -- what was prepared is said, and the row is kept
    pub put_as : (old new : Option (List KeptRow)) (reply : Reply) → IsKeptAs prepared old new reply → IsPutAs ask display put w now old new at reply
    put_as old new reply kept =
        let p = of_made kept.made kept.prepared_is in
        record {
          world = now_is;
          said = subst (λ r. IsAnswer _ r) (sym kept.said) p.said;
          rows =
              told_more (λ before after. after ≡ with_row kept.made.row before) (λ before after. after ≡ rows_with_put w put before)
              (λ before after e. e ∙ ap (λ row. with_row row before) p.row_is ∙ row_kept (row_stands w put.collection put.rec) _ before)
              old new kept.rows;
        }

    -- a row that had to be committed doesn't stand
    wanted_absent : WantsRow prepared → row_stands w put.collection put.rec ≡ false
    wanted_absent wants =
        row_absent (row_stands w put.collection put.rec) _ (subst (λ row. IsSome row) (of_made wants.0 wants.1).row_is wants.2)

    -- where the row stands none had to be committed
    pub quiet_put : (Quiet : Type 0) → WantsRow prepared ⊎ Quiet → row_stands w put.collection put.rec ≡ true → Quiet
    quiet_put Quiet (inl wants) stands = absurd (true≢false (sym stands ∙ wanted_absent wants))
    quiet_put Quiet (inr quiet) stands = quiet

    -- the record is gone again
    pub not_put : (left : World) (old new : Option (List KeptRow)) (before after : ℕ) (reply : Reply) → left ≡ w
        → IsNotKept prepared old new before after at reply → IsNotPut put w left old new before after at reply
    not_put left old new before after reply same kept = record {
      world = same;
      said = elim kept.said [
        | inl wanting ↦ inl wanting
        | inr failed ↦ inr (failed.0, failed.1, wanted_absent failed.2)
      ];
      rows = kept.rows;
    }

-- ---- what was planned

module _ (tables : Kept) (put : Put) (delta : Delta) (planned : IsPlanned tables put delta) where
  pub plan_fits : FitsWorld delta tables.world
  plan_fits = subst (λ d. FitsWorld d tables.world) (sym planned.delta_is) planned.placed.may.fits

  module _ (now : World) (made : now ≡ world_after delta tables.world) where
    pub plan_world : now ≡ world_with tables.world put.collection put.rec
    plan_world = made ∙ ap (λ d. world_after d tables.world) planned.delta_is

    pub plan_collections : IsTabled tables.world → collections_of now ≡ collections_of tables.world
    plan_collections tabled = ap collections_of plan_world ∙ same_collections tables.world put tabled planned.placed

    pub plan_leads_back : IsTabled tables.world → DeltasAreMadeAtOnce → (back : Delta) → back ≡ inverse delta tables.world
        → LeadsBack now back put (was tables.world put)
    plan_leads_back tabled law back is =
        let d = puts put.collection.name put.rec in
        let there = leads_back tables.world put (law d tables.world tabled planned.placed.may.fits) planned.placed in
        let back_here : back ≡ inverse d tables.world = is ∙ ap (λ e. inverse e tables.world) planned.delta_is in
        subst (λ v. LeadsBack v back put (was tables.world put)) (sym plan_world)
        (subst (λ b. LeadsBack (then tables.world put) b put (was tables.world put)) (sym back_here) there)

-- ---- entries

-- rows that nobody touched are as before
pub rows_same : (rows : Option (List KeptRow)) → AreAsBefore rows rows
rows_same None = tt
rows_same (Some rows) = refl

module _ (ask : Ask) (rest : Rest) (display : Display) (put : Put) (w : World) (history : List Work) (bytes : ℕ) (rows : Option (List KeptRow)) (faults : ℕ)
    (at : ℕ) (at_is : at ≡ length history) (reply : Reply) where
  abbrev before : Standing
  before = record { world = w; history = history; bytes = bytes; rows = rows; faults = faults }

  abbrev entry_to : Standing → Type 0
  entry_to after = Entry ask (whole_of ask rest) display put before after reply

  abbrev tally_at : ℕ → Tally
  tally_at n = record { entries = n; bytes = bytes }

  -- all stays where the history is the same
  stays_so : (works : List Work) → works ≡ history → IsAsBefore before (record { world = w; history = works; bytes = bytes; rows = rows; faults = faults })
  stays_so works same = record {
    rest = record { world = refl; history = same; bytes = refl; rows = rows_same rows; untold = λ none. none };
    faults = refl;
  }

  -- a work for which there is no place
  pub no_place_entry : HasNoPlace (tally_at at) rest.cost reply → (works : List Work) → works ≡ history
      → entry_to (record { world = w; history = works; bytes = bytes; rows = rows; faults = faults })
  no_place_entry (inl full) works same =
      Full (ap (λ n. has_no_room (tally_at n) rest.cost) (sym at_is) ∙ full.0)
      (subst (λ n. IsAnswer (answer_of n (Err (no_room (tally_at n) rest.cost))) reply) at_is full.1) (stays_so works same)
  no_place_entry (inr wanting) works same = Wanting (subst (λ n. IsNoMemory n reply) at_is wanting) (stays_so works same)

  module _ (free : has_no_room (tally_at at) rest.cost ≡ false) (now : World) (told : Option (List KeptRow)) (after : ℕ) (untold : StaysUntold rows told) (later : faults ≤ after) where
    free_here : has_no_room (tally_at (length history)) rest.cost ≡ false
    free_here = ap (λ n. has_no_room (tally_at n) rest.cost) (sym at_is) ∙ free

    pub put_entry : IsPutAs ask display put w now rows told at reply → after ≡ faults → (works : List Work) → works ≡ history ++ whole_of ask rest ∷ [] → (sum : ℕ) → sum ≡ bytes + rest.cost
        → entry_to (record { world = now; history = works; bytes = sum; rows = told; faults = after })
    put_entry is spared works grown sum summed =
        Entered free_here
        (subst (λ n. IsAnswer (accepted_answer (Tree (displayed (then w put) ask put.collection display put.rec)) n true) reply) at_is is.said)
        (record { world = is.world; history = grown; bytes = summed; rows = is.rows; untold = untold; faults = spared })

    pub not_put_entry : IsNotPut put w now rows told faults after at reply → (works : List Work) → works ≡ history
        → entry_to (record { world = now; history = works; bytes = bytes; rows = told; faults = after })
    not_put_entry is works same =
        let stays : IsUnchanged before (record { world = now; history = works; bytes = bytes; rows = told; faults = after }) =
        record { world = is.world; history = same; bytes = refl; rows = is.rows; untold = untold } in
        elim is.said [
          | inl wanting ↦ Wanting (subst (λ n. IsNoMemory n reply) at_is wanting.0) (record { rest = stays; faults = wanting.1 })
          | inr failed ↦ Unkept free_here failed.2 (subst (λ n. IsAnswer (unkept_answer n) reply) at_is failed.0)
              (record { rest = stays; later = later; rose = failed.1 })
        ]

    -- where the history has room only a row that stands keeps the keeper quiet
    pub quiet_entry : (Quiet : Type 0) → (row_stands w put.collection put.rec ≡ true → Quiet)
        → (has_no_room (tally_at (length history)) rest.cost ≡ true) ⊎ (row_stands w put.collection put.rec ≡ true) → Quiet
    quiet_entry Quiet quiet (inl full) = absurd (true≢false (sym full ∙ free_here))
    quiet_entry Quiet quiet (inr stands) = quiet stands
