-- What each side of a typed filter finds.
use Rattle.std.proofs.Common.{◌≡◌, inl, inr, true, Option, Some, None, find, refl, sym, ap, subst, ◌∙◌}
use Rattle.std.specs.Prelude.{Bool, All, IfSome, option_and_then}
use Rattle.std.specs.Str.{bytes_eq}
use Rattle.pocket_types.specs.Kinds.{is_multiple}
use Rattle.pocket_types.specs.Within.{collections_of}
use Rattle.pocket_types.specs.World.{shelf_named}
use Rattle.pocket_types.specs.declared.names.Name.{Name}
use Rattle.pocket_types.specs.declared.records.Cell.{Cell}
use Rattle.pocket_types.specs.declared.records.Collection.{Collection}
use Rattle.pocket_types.specs.declared.records.Field.{Field}
use Rattle.pocket_types.specs.declared.records.Kind.{Kind}
use Rattle.pocket_types.specs.declared.records.Rec.{Rec}
use Rattle.pocket_types.specs.declared.requests.Ask.{Ask}
use Rattle.pocket_types.specs.declared.requests.Sent.{Sent}
use Rattle.pocket_types.specs.declared.resolved.Leaf.{Leaf}
use Rattle.pocket_types.specs.declared.resolved.Leaf.TheVariants as leaf
use Rattle.pocket_types.specs.declared.resolved.Modifier.{Modifier}
use Rattle.pocket_types.specs.declared.resolved.Prefix.{Prefix}
use Rattle.pocket_types.specs.declared.resolved.Resolved.{Resolved}
use Rattle.pocket_types.specs.declared.world.Shelf.{Shelf}
use Rattle.pocket_types.specs.declared.world.World.{World}
use Rattle.pocket_resolve.specs.Fields.{field_named}
use Rattle.pocket_resolve.specs.Paths.{Place}
use Rattle.pocket_resolve.specs.Paths.{field_at as field_of_place}
use Rattle.pocket_resolve.specs.Typing.{HasField, HasFieldAt, MayBeSent, HasBuiltIn, HasItems, IsSideTyped, IsTyped, fits, fits_sent, sides}
use Rattle.pocket_resolve.proofs.Walks.{some_of, nothing}
use Rattle.pocket_meaning.specs.Choosing.{IsChoice}
use Rattle.pocket_meaning.specs.Members.{Member}
use Rattle.pocket_meaning.specs.Related.{sent_for, sent_field}
use Rattle.pocket_meaning.specs.Sights.{sight}
use Rattle.pocket_standing.specs.Finding.{IsChosenAt, IsChosenWith, FindsField, FindsSent, FindsBuiltIn, FindsItems, Finds}
use Rattle.pocket_standing.specs.Scenes.{IsSoundScene}
use Rattle.pocket_standing.proofs.Fields.{IsOfLike, shelf_of, found_at, fits_too, multiple_too}
use Rattle.pocket_standing.proofs.Places.{prefix_stands}

-- ---- sent fields

sent_or_not : (o : Option Sent) (f : Field) (x : Field × Cell) → option_and_then (λ (y : Sent). Some (f, y.cell)) o ≡ Some x → f ≡ x.0
sent_or_not None f x h = absurd (nothing h)
sent_or_not (Some y) f x h = ap (λ (z : Field × Cell). z.0) (some_of h)

field_or_not : (o : Option Field) (sent : Option Sent) (f : Field) (x : Field × Cell) → o ≡ Some f → option_and_then (λ (g : Field). option_and_then (λ (y : Sent). Some (g, y.cell)) sent) o ≡ Some x → f ≡ x.0
field_or_not None sent f x is h = absurd (nothing is)
field_or_not (Some g) sent f x is h = sym (some_of is) ∙ sent_or_not sent g x h

shelf_or_not : (w : World) (home name : Name) (sent : Option Sent) (d : Collection) (f : Field) (x : Field × Cell) (o : Option Shelf) → shelf_named home w.shelves ≡ o → ((s : Shelf) → o ≡ Some s → s.collection ≡ d) → field_named d name ≡ Some f
    → option_and_then (λ (s : Shelf). option_and_then (λ (g : Field). option_and_then (λ (y : Sent). Some (g, y.cell)) sent) (find (λ g. bytes_eq g.name name) s.collection.fields)) o ≡ Some x → f ≡ x.0
shelf_or_not w home name sent d f x None there same has h = absurd (nothing h)
shelf_or_not w home name sent d f x (Some s) there same has h =
    field_or_not (find (λ g. bytes_eq g.name name) s.collection.fields) sent f x (ap (λ (k : Collection). field_named k name) (same s refl) ∙ has) h

-- a sent field is the field of the home collection of that name
sent_is : (w : World) (ask : Ask) (home name : Name) (d : Collection) (f : Field) (x : Field × Cell) → ((s : Shelf) → shelf_named home w.shelves ≡ Some s → s.collection ≡ d) → field_named d name ≡ Some f → sent_field w home ask.body name ≡ Some x → f ≡ x.0
sent_is w ask home name d f x same has h = shelf_or_not w home name (sent_for ask.body name) d f x (shelf_named home w.shelves) refl same has h

sent_passes : (test : Kind → Bool) (o : Option (Field × Cell)) (f : Field) → ((x : Field × Cell) → o ≡ Some x → f ≡ x.0) → test f.kind ≡ true → IfSome o (λ x. test x.0.kind ≡ true)
sent_passes test None f is h = tt
sent_passes test (Some x) f is h = subst (λ (k : Field). test k.kind ≡ true) (is x refl) h

-- ---- sides

with_field : (w : World) (place : Place) (name : Name) (test : Kind → Bool) (m : Member) → IsOfLike test → IsChosenAt w place m → HasField (collections_of w) place name test → IsChosenWith w place name test m
with_field w place name test m like (inl e) has = inl e
with_field w place name test m like (inr on) has = inr (on.0, on.1, on.2, on.3, found_at w place on.0 on.1 name test like on.3 has)

module _ (w : World) (ask : Ask) (home : Name) (rec : Rec) (c : Prefix → Member) (scene : IsSoundScene w ask home rec) (is : IsChoice (sight w ask home rec) c) where
  finds_field : (p : Prefix) (name : Name) (test : Kind → Bool) → IsOfLike test → HasFieldAt (collections_of w) home p name test → FindsField w home c p name test
  finds_field p name test like has =
      (has.0, has.1, with_field w has.0 name test (c p) like (prefix_stands w ask home rec c scene is p has.0 has.1) has.2)

  finds_sent : (name : Name) (test : Kind → Bool) → MayBeSent (collections_of w) home name test → FindsSent w ask home name test
  finds_sent name test may =
      let d : Collection = may.1.0 in
      let f : Field = may.2.0 in
      let has : field_named d name ≡ Some f = ap (λ (k : Place). field_of_place (collections_of w) k name) (sym may.1.2) ∙ may.2.1 in
      sent_passes test (sent_field w home ask.body name) f
      (λ x h. sent_is w ask home name d f x (λ s there. shelf_of w home d s may.1.1 there) has h) may.2.2

  finds_built_in : (p : Prefix) (name : Name) (m : Modifier) → HasBuiltIn (collections_of w) home p name m → FindsBuiltIn w home c p name m
  finds_built_in p name m has = (has.0, has.1, prefix_stands w ask home rec c scene is p has.0 has.1, has.2, has.3)

  finds_items : (p : Prefix) → HasItems (collections_of w) home p → FindsItems w ask home c p
  finds_items p has = (
    has.0,
    has.1,
    has.2,
    elim has.3 [
      | inl field ↦ inl (finds_field (record { root = p.root; steps = has.0 }) has.1 is_multiple multiple_too field)
      | inr sent ↦ inr (sent.0, sent.1, finds_sent has.1 is_multiple sent.2)
    ],
  )

  side_finds : (any : Bool) (l : Leaf) → IsSideTyped (collections_of w) home any l → Finds w ask home c any l
  side_finds any (leaf.Of p name m) (inl built_in) = inl (finds_built_in p name m built_in)
  side_finds any (leaf.Of p name m) (inr field) = inr (finds_field p name (fits any m) (fits_too any m) field)
  side_finds any (leaf.ItemOf p) has = finds_items p has
  side_finds any (leaf.Body name m) may = finds_sent name (fits_sent any m) may
  side_finds any (leaf.Header name m) h = tt
  side_finds any (leaf.Query name m) h = tt
  side_finds any (leaf.Fixed value) h = tt
  side_finds any (leaf.Macro which) h = tt
  side_finds any leaf.Context h = tt
  side_finds any leaf.Method h = tt

  pub sides_find : (f : Resolved) → IsTyped (collections_of w) home f → All (λ s. Finds w ask home c s.0 s.1) (sides f)
  unfolding IsTyped
  sides_find f typed = λ k d within. side_finds _ _ (typed k d within)
