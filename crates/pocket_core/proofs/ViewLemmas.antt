-- What stands where in a sound world.
use Rattle.std.proofs.Common.{◌≡◌, ℕ, Bool, true, false, cond, List, [], ◌∷◌, Option, Some, None, Err, refl, ap, ◌∙◌, subst}
use Rattle.std.specs.Prelude.{find}
use Rattle.std.specs.List.{AllByRecursion}
use Rattle.std.specs.Option.{option_map_or}
use Rattle.std.specs.Str.{bytes_eq}
use Rattle.std.proofs.lemmas.List.Elements.{recursion_from_All}
use Rattle.pocket_types.specs.Chains.{◌>>=◌, or_refuse, refuse}
use Rattle.pocket_types.specs.Names.{is_id}
use Rattle.pocket_types.specs.Within.{collections_of}
use Rattle.pocket_types.specs.World.{rec_of, shelf_named}
use Rattle.pocket_types.specs.declared.records.Collection.{Collection}
use Rattle.pocket_types.specs.declared.records.Rec.{Rec}
use Rattle.pocket_types.specs.declared.requests.Action.TheVariants as action
use Rattle.pocket_types.specs.declared.requests.Ask.{Ask}
use Rattle.pocket_types.specs.declared.world.Shelf.{Shelf}
use Rattle.pocket_types.specs.declared.world.World.{World}
use Rattle.pocket_resolve.specs.Fields.{collection_named}
use Rattle.pocket_store.specs.SoundStates.{IsSoundRecIn, IsSoundShelf, IsSoundWorld}
use Rattle.pocket_tables.specs.Worlds.{rec_at}
use Rattle.pocket_tables.proofs.KeyLemmas.{key_false}
use Rattle.pocket_gate.proofs.Tests.{found_bears_name}
use Rattle.pocket_api.specs.Refusals.{because}
use Rattle.pocket_core.specs.Outcomes.{Outcome}
use Rattle.pocket_gate.specs.Rules.{keeps_out}
use Rattle.pocket_core.specs.Views.{rec_named_outcome, view_outcome}
use Rattle.pocket_api.specs.declared.why.Why.TheVariants as why
use Rattle.pocket_api.specs.declared.call.Shown.{Shown}
use Rattle.pocket_api.specs.declared.call.Target.{Target}

-- what is found is one of the items
found_has : {X : Type 0} (P : X → Type 0) (p : X → Bool) (xs : List X) (x : X) → AllByRecursion P xs → find p xs ≡ Some x → P x
found_has P p [] x h e = cc
found_has P p (y ∷ ys) x h e = by (found_has P p ys x h.1) (p y) e
  where
    by : (find p ys ≡ Some x → P x) → (b : Bool) → cond b (Some y) (find p ys) ≡ Some x → P x
    by rest true f = let same : y ≡ x = cc in subst P same h.0
    by rest false f = rest f

-- no record of a shelf has an id that isn't of an id's form
none_of_form : (id : List ℕ) → is_id id ≡ false → (w : World) (c : Collection) (recs : List Rec) → AllByRecursion (IsSoundRecIn w c) recs → rec_of id recs ≡ None
none_of_form id form w c [] h = refl
none_of_form id form w c (r ∷ recs) h =
    let other : bytes_eq r.id id ≡ false = key_false r.id id (λ same. let e : is_id r.id ≡ false = ap is_id same ∙ form in let t = h.0.alone.id in cc) in
    let rest = none_of_form id form w c recs h.1 in
    ap (λ b. cond b (Some r) (rec_of id recs)) other ∙ rest

-- a text that isn't an id's form is no record's in a sound world
pub no_rec : (w : World) (name id : List ℕ) → IsSoundWorld w → is_id id ≡ false → rec_at w name id ≡ None
no_rec w name id sound form = by (shelf_named name w.shelves) refl
  where
    by : (o : Option Shelf) → shelf_named name w.shelves ≡ o → rec_of id (option_map_or (λ s. s.recs) o []) ≡ None
    by None there = refl
    by (Some s) there =
        let h : IsSoundShelf w s = found_has (IsSoundShelf w) (λ t. bytes_eq t.collection.name name) w.shelves s
        (recursion_from_All (IsSoundShelf w) w.shelves sound.shelves) there in
        none_of_form id form w s.collection s.recs (recursion_from_All (IsSoundRecIn w s.collection) s.recs h.recs)

-- a collection that is found by a text is found by its name
pub found_by_name : (cs : List Collection) (name : List ℕ) (c : Collection) → collection_named cs name ≡ Some c → collection_named cs c.name ≡ Some c
found_by_name cs name c e = ap (collection_named cs) (found_bears_name cs name c e) ∙ e

-- ---- a view, refusal by refusal

module _ (w : World) (ask : Ask) (target : Target) (shown : Shown) where
  abbrev pub found : Option Collection
  found = collection_named (collections_of w) target.collection

  abbrev pub unlocked : Collection → Outcome
  unlocked c = refuse (keeps_out ask.caller c.view_rule) (because (why.Locked c.name action.View)) >>= λ _. rec_named_outcome w ask c target.id shown

  pub view_without : found ≡ None → view_outcome w ask target shown ≡ Err (because why.NoCollection)
  unfolding view_outcome
  view_without e = ap (λ o. or_refuse o (because why.NoCollection) >>= unlocked) e

  pub view_found : (c : Collection) → found ≡ Some c → view_outcome w ask target shown ≡ unlocked c
  unfolding view_outcome
  view_found c e = ap (λ o. or_refuse o (because why.NoCollection) >>= unlocked) e

  pub view_locked : (c : Collection) → found ≡ Some c → keeps_out ask.caller c.view_rule ≡ true → view_outcome w ask target shown ≡ Err (because (why.Locked c.name action.View))
  view_locked c e locked = view_found c e ∙ ap (λ b. refuse b (because (why.Locked c.name action.View)) >>= λ _. rec_named_outcome w ask c target.id shown) locked

  pub view_open : (c : Collection) → found ≡ Some c → keeps_out ask.caller c.view_rule ≡ false → view_outcome w ask target shown ≡ rec_named_outcome w ask c target.id shown
  view_open c e free = view_found c e ∙ ap (λ b. refuse b (because (why.Locked c.name action.View)) >>= λ _. rec_named_outcome w ask c target.id shown) free
