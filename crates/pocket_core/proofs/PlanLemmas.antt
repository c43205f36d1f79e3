-- From what is planned of a record to what is put.
use Rattle.std.proofs.Common.{◌≡◌, ◌≢◌, ◌∙◌, inl, inr, ℕ, Bor, List, Option, Some, None, Result, Ok, Err, ap, refl, subst, sym}
use Rattle.std.specs.Prelude.{IfSome, IsSome, is_some}
use Rattle.std.specs.Option.{option_copied}
use Rattle.pocket_types.specs.Chains.{◌>>=◌, or_refuse, refuse_as}
use Rattle.pocket_types.specs.Names.{IsMoment}
use Rattle.pocket_types.specs.Profile.{IsProfiled}
use Rattle.pocket_types.specs.Within.{collections_of}
use Rattle.pocket_types.specs.declared.deltas.Delta.{Delta}
use Rattle.pocket_types.specs.declared.ids.Id.{Id}
use Rattle.pocket_types.specs.declared.json.Jv.{Jv}
use Rattle.pocket_types.specs.declared.records.Collection.{Collection}
use Rattle.pocket_types.specs.declared.records.Rec.{Rec}
use Rattle.pocket_types.specs.declared.requests.Ask.{Ask}
use Rattle.pocket_types.specs.declared.world.World.{World}
use Rattle.pocket_resolve.specs.Fields.{collection_named}
use Rattle.pocket_store.specs.SoundStates.{IsSoundWorld}
use Rattle.pocket_tables.specs.Kept.{IsReady, Kept}
use Rattle.pocket_tables.specs.Worlds.{collection_at, rec_at}
use Rattle.pocket_change.specs.Answers.{Gives}
use Rattle.pocket_change.specs.Changes.{created, creation, puts, update, updated}
use Rattle.pocket_change.specs.Puts.{CreatedMayBePut, MayBePut, UpdatedMayBePut}
use Rattle.pocket_change.specs.declared.fault.ChangeFault.{ChangeFault}
use Rattle.pocket_change.specs.declared.fault.ChangeFault.TheVariants as change
use Rattle.pocket_states.proofs.PutLemmas.{has_collection}
use Rattle.pocket_api.specs.Refusals.{Refusal, because}
use Rattle.pocket_api.specs.declared.call.Target.{Target}
use Rattle.pocket_api.specs.declared.why.Why.{Why}
use Rattle.pocket_api.specs.declared.why.Why.TheVariants as why
use Rattle.pocket_core.specs.Changing.{Put, change_refusal, change_why, created_in, put_in, updated_in}
use Rattle.pocket_core.specs.Courses.{IsPlaced, IsPlanned, NamesCollection}
use Rattle.pocket_core.proofs.ViewLemmas.{found_by_name}

module _ (w : World) (name : List ℕ) (make : Collection → Result Rec ChangeFault) where
  -- in a collection that isn't there nothing is put
  pub put_nowhere : collection_named (collections_of w) name ≡ None → put_in w name make ≡ Err (because why.NoCollection)
  put_nowhere none =
      ap (λ o. or_refuse o (because why.NoCollection) >>= λ d. refuse_as change_refusal (make d) >>= λ r. Ok (record { collection = d; rec = r })) none

  module _ (c : Collection) (found : collection_named (collections_of w) name ≡ Some c) where
    -- the delta that puts what was made
    abbrev pub delta_of : Result Rec ChangeFault → Result Delta ChangeFault
    delta_of made = made >>= λ r. Ok (puts c.name r)

    -- what was made is put
    abbrev put_of : Result Rec ChangeFault → Result Put Refusal
    put_of made = refuse_as change_refusal made >>= λ r. Ok (record { collection = c; rec = r })

    put_is : put_in w name make ≡ put_of (make c)
    put_is =
        ap (λ o. or_refuse o (because why.NoCollection) >>= λ d. refuse_as change_refusal (make d) >>= λ r. Ok (record { collection = d; rec = r })) found

    -- what is planned may be put, where what is made may
    pub put_planned : (tables : Kept) (delta : Delta) → tables.world ≡ w → ((r : Rec) → make c ≡ Ok r → MayBePut w c r) → delta_of (make c) ≡ Ok delta
        → IsReady tables delta → (put : Put) × (put_in w name make ≡ Ok put) × IsPlanned tables put delta
    put_planned tables delta same may planned ready = by (make c) refl
      where
        by : (made : Result Rec ChangeFault) → make c ≡ made → (put : Put) × (put_in w name make ≡ Ok put) × IsPlanned tables put delta
        by (Ok r) e =
            let is : delta ≡ puts c.name r = cc in (
              record { collection = c; rec = r },
              put_is ∙ ap put_of e,
              record {
                placed = subst (λ v. IsPlaced v (record { collection = c; rec = r })) (sym same) (record {
                  there = found_by_name (collections_of w) name c found;
                  may = may r e;
                });
                delta_is = is;
                ready = ready;
              },
            )
        by (Err f) e = absurd (cc)

    -- a fault of planning is the cause
    pub put_refused : (fault : ChangeFault) → (fault ≢ change.Memory → delta_of (make c) ≡ Err fault) → change_why fault ≢ why.Memory
        → put_in w name make ≡ Err (because (change_why fault))
    put_refused fault gives known = put_is ∙ by (make c) (gives (λ e. known (ap change_why e)))
      where
        by : (made : Result Rec ChangeFault) → delta_of made ≡ Err fault → put_of made ≡ Err (because (change_why fault))
        by (Ok r) e = absurd (cc)
        by (Err f) e = let same : f ≡ fault = cc in ap (λ g. Err (because (change_why g))) same
        -- ---- by the name that was found

  -- a collection that isn't found is the cause
  pub nowhere_refused : (cause : Why) → NamesCollection w name (Err cause) → cause ≢ why.Memory → put_in w name make ≡ Err (because cause)
  nowhere_refused cause names known = elim names [
    | inl same ↦ absurd (known same)
    | inr none ↦ put_nowhere none.1 ∙ ap (λ k. Err (because k)) (sym none.0)
  ]

module _ (w : World) (name found : List ℕ) (names : NamesCollection w name (Ok found)) where
  abbrev pub named : Collection
  named = names.0

  pub named_there : collection_at w named.name ≡ Some named
  named_there = found_by_name (collections_of w) name named names.1

  here : collection_at w found ≡ Some named
  here = ap (collection_at w) names.2 ∙ named_there

  pub is_there : IsSome (collection_at w found)
  is_there = ap is_some here

  module _ (make : Collection → Result Rec ChangeFault) where
    -- what planning gives of the collection that was found
    abbrev pub GivesDelta : Result Delta ChangeFault → Type 0
    GivesDelta result = IfSome (collection_at w found) (λ c. Gives result (make c >>= λ r. Ok (puts c.name r)))

    given : (result : Result Delta ChangeFault) → GivesDelta result → Gives result (make named >>= λ r. Ok (puts named.name r))
    given result gives = subst (λ o. IfSome o (λ c. Gives result (make c >>= λ r. Ok (puts c.name r)))) here gives

    pub found_planned : (tables : Kept) (delta : Delta) → tables.world ≡ w → ((r : Rec) → make named ≡ Ok r → MayBePut w named r) → GivesDelta (Ok delta)
        → IsReady tables delta → (put : Put) × (put_in w name make ≡ Ok put) × IsPlanned tables put delta
    found_planned tables delta same may gives ready = put_planned w name make named names.1 tables delta same may (given (Ok delta) gives) ready

    pub found_refused : (fault : ChangeFault) → GivesDelta (Err fault) → change_why fault ≢ why.Memory → put_in w name make ≡ Err (because (change_why fault))
    found_refused fault gives known = put_refused w name make named names.1 fault (given (Err fault) gives) known

-- ---- creations

module _ (w : World) (ask : Ask) (name : List ℕ) (body : Option Jv) (words : List ℕ) where
  abbrev creates : Collection → Result Rec ChangeFault
  creates c = created w ask c body words

  created_is : created_in w ask name body words ≡ put_in w name creates
  unfolding created_in
  created_is = refl

  pub creation_nowhere : (cause : Why) → NamesCollection w name (Err cause) → cause ≢ why.Memory → created_in w ask name body words ≡ Err (because cause)
  creation_nowhere cause names known = created_is ∙ nowhere_refused w name creates cause names known

  module _ (found : List ℕ) (names : NamesCollection w name (Ok found)) where
    pub creation_planned : CreatedMayBePut → IsSoundWorld w → IsMoment ask.moment → IfSome body IsProfiled → (tables : Kept) (delta : Delta) → tables.world ≡ w
        → IfSome (collection_at w found) (λ c. Gives (Ok delta) (creation w ask c body words)) → IsReady tables delta
        → (put : Put) × (created_in w ask name body words ≡ Ok put) × IsPlanned tables put delta
    creation_planned law sound moment profile tables delta same gives ready =
        let c = names.0 in
        let may = λ (r : Rec) (e : creates c ≡ Ok r). law w ask c body words r (has_collection w c sound (named_there w name found names)) moment profile e in
        let planned = found_planned w name found names creates tables delta same may gives ready in
        (planned.0, created_is ∙ planned.1, planned.2)

    pub creation_refused : (fault : ChangeFault) → IfSome (collection_at w found) (λ c. Gives (Err fault) (creation w ask c body words))
        → change_why fault ≢ why.Memory → created_in w ask name body words ≡ Err (because (change_why fault))
    creation_refused fault gives known = created_is ∙ found_refused w name found names creates fault gives known

-- ---- updates

module _ (w : World) (ask : Ask) (target : Target) (body : Option Jv) where
  abbrev updates : Collection → Result Rec ChangeFault
  updates c = updated w ask c target.id body

  updated_is : updated_in w ask target body ≡ put_in w target.collection updates
  unfolding updated_in
  updated_is = refl

  pub update_nowhere : (cause : Why) → NamesCollection w target.collection (Err cause) → cause ≢ why.Memory → updated_in w ask target body ≡ Err (because cause)
  update_nowhere cause names known = updated_is ∙ nowhere_refused w target.collection updates cause names known

  module _ (found : List ℕ) (names : NamesCollection w target.collection (Ok found)) where
    pub update_planned : UpdatedMayBePut → IsSoundWorld w → IsMoment ask.moment → IfSome body IsProfiled → (tables : Kept) (delta : Delta) → tables.world ≡ w
        → IfSome (collection_at w found) (λ c. Gives (Ok delta) (update w ask c target.id body)) → IsReady tables delta
        → (put : Put) × (updated_in w ask target body ≡ Ok put) × IsPlanned tables put delta
    update_planned law sound moment profile tables delta same gives ready =
        let c = names.0 in
        let may = λ (r : Rec) (e : updates c ≡ Ok r).
        (law w ask c target.id body r (has_collection w c sound (named_there w target.collection found names)) moment profile e).may in
        let planned = found_planned w target.collection found names updates tables delta same may gives ready in
        (planned.0, updated_is ∙ planned.1, planned.2)

    pub update_faulted : (fault : ChangeFault) → IfSome (collection_at w found) (λ c. Gives (Err fault) (update w ask c target.id body))
        → change_why fault ≢ why.Memory → updated_in w ask target body ≡ Err (because (change_why fault))
    update_faulted fault gives known = updated_is ∙ found_refused w target.collection found names updates fault gives known

-- what is known of a borrowed tree is known of its value
pub profile_of : (found : Option (Bor Jv)) → IfSome found (λ tree. IsProfiled tree.now) → IfSome (option_copied found) IsProfiled
profile_of None h = tt
profile_of (Some tree) h = h

-- ---- updates of records that aren't there

-- what an update is refused for where no record stands is what planning it gives
pub update_refused : (w : World) (ask : Ask) (id : Id) (body : Option Jv) (fault : ChangeFault) (found : Option Collection) → ((c : Collection) → rec_at w c.name id ≡ None)
    → IfSome found (λ c. (i : Id) → rec_at w c.name i ≡ None → fault ≢ change.Memory → updated w ask c i body ≡ Err fault)
    → IfSome found (λ c. Gives (Err fault) (update w ask c id body))
update_refused w ask id body fault None none gives = tt
update_refused w ask id body fault (Some c) none gives = λ known. ap (λ u. u >>= λ r. Ok (puts c.name r)) (gives id (none c) known)
