-- What prefixes have chosen stands at the places where they stand.
use Rattle.std.proofs.Common.{◌≡◌, true, inl, inr, List, [], ◌∷◌, ◌++◌, Option, Some, None, refl, sym, ap, subst, ◌∙◌, append_assoc, append-nil}
use Rattle.std.specs.Prelude.{IfSome}
use Rattle.std.specs.Option.{option_map_or}
use Rattle.pocket_types.specs.Kinds.{target_of}
use Rattle.pocket_types.specs.Sound.{AllFit}
use Rattle.pocket_types.specs.Within.{collections_of}
use Rattle.pocket_types.specs.World.{shelf_named}
use Rattle.pocket_types.specs.declared.ids.Id.{Id}
use Rattle.pocket_types.specs.declared.names.Name.{Name}
use Rattle.pocket_types.specs.declared.records.Collection.{Collection}
use Rattle.pocket_types.specs.declared.records.Field.{Field}
use Rattle.pocket_types.specs.declared.records.Rec.{Rec}
use Rattle.pocket_types.specs.declared.requests.Ask.{Ask}
use Rattle.pocket_types.specs.declared.requests.Caller.TheVariants as caller
use Rattle.pocket_types.specs.declared.requests.Caller.{Caller as Asker}
use Rattle.pocket_types.specs.declared.resolved.Prefix.{Prefix}
use Rattle.pocket_types.specs.declared.resolved.Root.{Root}
use Rattle.pocket_types.specs.declared.resolved.Root.TheVariants as root
use Rattle.pocket_types.specs.declared.resolved.Step.{Step}
use Rattle.pocket_types.specs.declared.resolved.Step.TheVariants as step
use Rattle.pocket_types.specs.declared.world.Shelf.{Shelf}
use Rattle.pocket_types.specs.declared.world.World.{World}
use Rattle.pocket_resolve.specs.Fields.{field_named}
use Rattle.pocket_resolve.specs.Paths.{Place, Of, Caller, Nowhere}
use Rattle.pocket_resolve.specs.Typing.{IsRecordOf, Leads, Along, BeginsAt, StandsAt}
use Rattle.pocket_meaning.specs.Choices.{or_nobody}
use Rattle.pocket_meaning.specs.Choosing.{IsIn, IsChoice, bare, then_step}
use Rattle.pocket_meaning.specs.Members.{Member}
use Rattle.pocket_meaning.specs.Members as member
use Rattle.pocket_ops.specs.Fields.{field_at}
use Rattle.pocket_meaning.specs.Related.{held, step_list, caller_list, sent_field}
use Rattle.pocket_meaning.specs.Sights.{sight}
use Rattle.pocket_meaning.specs.Standing.{StandsOn}
use Rattle.pocket_meaning.proofs.Standing.{in_find, home_stands, auth_stands, look_stands, forward_stands, back_stands}
use Rattle.pocket_standing.specs.Finding.{IsRecordAt, IsChosenAt}
use Rattle.pocket_standing.specs.Scenes.{RecordsFit, IsOfAuth, IsSoundScene}
use Rattle.pocket_standing.proofs.Fields.{all_in, map_in, shelf_of, cell_of, no_cell, caller_like, target_too}

-- a list without members gives nobody
nobody_else : (m : Member) → IsIn m (member.Nobody ∷ []) → m ≡ member.Nobody
nobody_else m (inl e) = e
nobody_else m (inr h) = absurd h

module _ (w : World) (ask : Ask) (home : Name) (rec : Rec) (c : Prefix → Member) (scene : IsSoundScene w ask home rec) (is : IsChoice (sight w ask home rec) c) where
  -- ---- shelves

  shelf_in : (name : Name) (s : Shelf) → shelf_named name w.shelves ≡ Some s → IsIn s w.shelves
  shelf_in name s there = in_find _ w.shelves s there

  fit_on : (name : Name) (s : Shelf) (r : Rec) → shelf_named name w.shelves ≡ Some s → IsIn r s.recs → AllFit s.collection.fields r.cells
  fit_on name s r there in_it = all_in (λ k. AllFit s.collection.fields k.cells) s.recs r (all_in RecordsFit w.shelves s scene.records (shelf_in name s there)) in_it

  -- a record of the shelf to which a name leads stands at the place that the name gives
  at_named : (name : Name) (place : Place) (m : Member) → IsRecordOf (collections_of w) name place → StandsOn w name m → IsChosenAt w place m
  at_named name place m there (inl e) = inl e
  at_named name place m there (inr on) =
      let s : Shelf = on.0 in
      let r : Rec = on.1 in
      let at : IsRecordAt w (Of there.0) s.collection r = (shelf_of w name there.0 s there.1 on.2, fit_on name s r on.2 on.3) in
      inr (s.collection, r, on.4, subst (λ k. IsRecordAt w k s.collection r) (sym there.2) at)

  -- ---- steps

  -- from nobody a step leads to nobody
  nobody_next : (p : Prefix) (t : Step) → c p ≡ member.Nobody → c (then_step p t) ≡ member.Nobody
  nobody_next p (step.Forward f) e = nobody_else _ (subst (λ m. IsIn (c (then_step p (step.Forward f))) (or_nobody (step_list w (sent_field w home ask.body) (step.Forward f) m))) e (is.step p (step.Forward f)))
  nobody_next p (step.Back from f) e = nobody_else _ (subst (λ m. IsIn (c (then_step p (step.Back from f))) (or_nobody (step_list w (sent_field w home ask.body) (step.Back from f) m))) e (is.step p (step.Back from f)))
  nobody_next p (step.Item f) e = nobody_else _ (subst (λ m. IsIn (c (then_step p (step.Item f))) (or_nobody (step_list w (sent_field w home ask.body) (step.Item f) m))) e (is.step p (step.Item f)))

  -- and so does one over a field that the record lacks
  lacking_next : (p : Prefix) (name : Name) (col : Collection) (r : Rec) → c p ≡ member.Record col r → field_at col r name ≡ None → c (then_step p (step.Forward name)) ≡ member.Nobody
  lacking_next p name col r e lacks =
      let m : Member = c (then_step p (step.Forward name)) in
      let at : IsIn m (or_nobody (option_map_or (held w) (field_at col r name) [])) = subst (λ k. IsIn m (or_nobody (step_list w (sent_field w home ask.body) (step.Forward name) k))) e (is.step p (step.Forward name)) in
      nobody_else m (subst (λ o. IsIn m (or_nobody (option_map_or (held w) o []))) lacks at)

  over_field : (p : Prefix) (name : Name) (col : Collection) (r : Rec) (f : Field) (target : Name) (next : Place) → c p ≡ member.Record col r → AllFit col.fields r.cells → field_named col name ≡ Some f
      → target_of f.kind ≡ Some target → IsRecordOf (collections_of w) target next → IsChosenAt w next (c (then_step p (step.Forward name)))
  over_field p name col r f target next e fit has leads there =
      let x = cell_of col r name f fit has in
      at_named target next (c (then_step p (step.Forward name))) there (forward_stands w ask home rec c is p col r name f x.0 target e x.1 leads)

  over_caller : (p : Prefix) (name : Name) (col : Collection) (r : Rec) (next : Place) → c p ≡ member.Record col r → IsRecordAt w Caller col r → Leads (collections_of w) Caller (step.Forward name) next
      → (o : Option Field) → field_named col name ≡ o → IsChosenAt w next (c (then_step p (step.Forward name)))
  over_caller p name col r next e at leads None has = inl (lacking_next p name col r e (no_cell col r name has))
  over_caller p name col r next e at leads (Some g) has =
      let f : Field = leads.0 in
      let like = caller_like (collections_of w) name f g col leads.2 at.0 at.1 has in
      over_field p name col r g leads.1 next e at.2 has (target_too f.kind g.kind like ∙ leads.3) leads.4

  over_relation : (p : Prefix) (name : Name) (place next : Place) (col : Collection) (r : Rec) → c p ≡ member.Record col r → IsRecordAt w place col r → Leads (collections_of w) place (step.Forward name) next
      → IsChosenAt w next (c (then_step p (step.Forward name)))
  over_relation p name (Of d) next col r e at leads =
      over_field p name col r leads.0 leads.1 next e at.1 (ap (λ (k : Collection). field_named k name) at.0 ∙ leads.2) leads.3 leads.4
  over_relation p name Caller next col r e at leads = over_caller p name col r next e at leads (field_named col name) refl
  over_relation p name Nowhere next col r e at leads = absurd at

  next_stands : (p : Prefix) (t : Step) (place next : Place) → IsChosenAt w place (c p) → Leads (collections_of w) place t next → IsChosenAt w next (c (then_step p t))
  next_stands p (step.Forward name) place next (inl e) leads = inl (nobody_next p (step.Forward name) e)
  next_stands p (step.Forward name) place next (inr on) leads = over_relation p name place next on.0 on.1 on.2 on.3 leads
  next_stands p (step.Back from name) place next on leads =
      at_named from next (c (then_step p (step.Back from name))) leads.0 (back_stands w ask home rec c is p from name)
  next_stands p (step.Item name) place next on leads = absurd leads

  steps_stand : (p : Prefix) (steps : List Step) (place last : Place) → IsChosenAt w place (c p) → Along (Leads (collections_of w)) place steps last → IsChosenAt w last (c (record { root = p.root; steps = p.steps ++ steps }))
  steps_stand p [] place last on along =
      subst (λ l. IsChosenAt w last (c (record { root = p.root; steps = l }))) (sym (append-nil p.steps)) (subst (λ k. IsChosenAt w k (c p)) along on)
  steps_stand p (t ∷ steps) place last on along =
      subst (λ l. IsChosenAt w last (c (record { root = p.root; steps = l }))) (append_assoc p.steps (t ∷ []) steps)
      (steps_stand (then_step p t) steps along.0 last (next_stands p t place along.0 on along.1) along.2)

  -- ---- roots

  home_begins : (place : Place) → IsRecordOf (collections_of w) home place → IsChosenAt w place (c (bare root.Home))
  home_begins place there = elim (home_stands w ask home rec c is) [
    | inl e ↦ inl e
    | inr on ↦ let s : Shelf = on.0 in
        let fit : AllFit s.collection.fields rec.cells = subst (λ o. IfSome o (λ k. AllFit k.collection.fields rec.cells)) on.1 scene.judged in
        let at : IsRecordAt w (Of there.0) s.collection rec = (shelf_of w home there.0 s there.1 on.1, fit) in
        inr (s.collection, rec, on.2, subst (λ k. IsRecordAt w k s.collection rec) (sym there.2) at)
  ]

  member_begins : (name : Name) (id : Id) → ask.caller ≡ caller.Member name id → IsChosenAt w Caller (c (bare root.Auth))
  member_begins name id who = elim (auth_stands w ask home rec c is name id who) [
    | inl e ↦ inl e
    | inr on ↦ let s : Shelf = on.0 in
        let auth : IsOfAuth w (caller.Member name id) = subst (IsOfAuth w) who scene.asker in
        inr (s.collection, on.1, on.4, (map_in (λ k. k.collection) w.shelves s (shelf_in name s on.2), subst (λ o. IfSome o (λ k. k.collection.is_auth ≡ true)) on.2 auth, fit_on name s on.1 on.2 on.3))
  ]

  caller_begins : (who : Asker) → ask.caller ≡ who → IsChosenAt w Caller (c (bare root.Auth))
  caller_begins caller.Guest e = inl (nobody_else _ (subst (λ k. IsIn (c (bare root.Auth)) (or_nobody (caller_list w k))) e (is.root root.Auth)))
  caller_begins (caller.Member name id) e = member_begins name id e
  caller_begins caller.Admin e = inl (nobody_else _ (subst (λ k. IsIn (c (bare root.Auth)) (or_nobody (caller_list w k))) e (is.root root.Auth)))

  root_stands : (r : Root) (place : Place) → BeginsAt (collections_of w) home r place → IsChosenAt w place (c (bare r))
  root_stands root.Home place there = home_begins place there
  root_stands root.Auth place there = subst (λ k. IsChosenAt w k (c (bare root.Auth))) (sym there) (caller_begins ask.caller refl)
  root_stands root.Body place there = absurd there
  root_stands (root.Look name alias) place there = at_named name place (c (bare (root.Look name alias))) there (look_stands w ask home rec c is name alias)

  pub prefix_stands : (p : Prefix) (place : Place) → StandsAt (collections_of w) home p place → IsChosenAt w place (c p)
  prefix_stands p place stands = steps_stand (bare p.root) p.steps stands.0 place (root_stands p.root stands.0 stands.1) stands.2
