-- What paths choose in a world stands where they lead.
use Rattle.std.proofs.Common.{◌≡◌, ◌⊎◌, inl, inr, ℕ, List, [], ◌∷◌, map, refl, ap, subst, ◌∙◌, Bool, true, false, cond}
use Rattle.std.specs.Prelude.{Option, Some, None, find, filter, filter_map, option_map, option_and_then}
use Rattle.std.specs.List.{cons_option}
use Rattle.std.specs.Option.{option_map_or}
use Rattle.std.specs.Str.{bytes_eq}
use Rattle.pocket_types.specs.Kinds.{target_of}
use Rattle.pocket_types.specs.World.{shelf_named, rec_of}
use Rattle.pocket_types.specs.declared.ids.Id.{Id}
use Rattle.pocket_types.specs.declared.names.Name.{Name}
use Rattle.pocket_types.specs.declared.records.Cell.{Cell}
use Rattle.pocket_types.specs.declared.records.Collection.{Collection}
use Rattle.pocket_types.specs.declared.records.Field.{Field}
use Rattle.pocket_types.specs.declared.records.Rec.{Rec}
use Rattle.pocket_types.specs.declared.requests.Ask.{Ask}
use Rattle.pocket_types.specs.declared.requests.Caller.TheVariants as caller
use Rattle.pocket_types.specs.declared.resolved.Prefix.{Prefix}
use Rattle.pocket_types.specs.declared.resolved.Root.TheVariants as root
use Rattle.pocket_types.specs.declared.resolved.Step.TheVariants as step
use Rattle.pocket_types.specs.declared.world.Shelf.{Shelf}
use Rattle.pocket_types.specs.declared.world.World.{World}
use Rattle.pocket_meaning.specs.Members.{Member}
use Rattle.pocket_meaning.specs.Members as member
use Rattle.pocket_ops.specs.Fields.{field_at, ids_of}
use Rattle.pocket_meaning.specs.Related.{shelf_member, held, points_to, step_list, caller_list, sent_field}
use Rattle.pocket_meaning.specs.Sights.{Sight, sight}
use Rattle.pocket_meaning.specs.Choices.{or_nobody}
use Rattle.pocket_meaning.specs.Choosing.{IsIn, IsChoice, bare, then_step}
use Rattle.pocket_meaning.specs.Standing.{IsRecordOn, StandsOn}

-- what stands in lists that are made of others
in_map : {X Y : Type 0} (f : X → Y) (xs : List X) (y : Y) → IsIn y (map f xs) → (x : X) × IsIn x xs × (y ≡ f x)
in_map f [] y h = absurd h
in_map f (x ∷ xs) y h = elim h [ inl e ↦ (x, inl refl, e) | inr k ↦ (let r = in_map f xs y k in (r.0, inr r.1, r.2)) ]

in_filter : {X : Type 0} (p : X → Bool) (xs : List X) (x : X) → IsIn x (filter p xs) → IsIn x xs
in_filter p [] x h = h
in_filter p (y ∷ xs) x h = by (in_filter p xs x) (p y) h
  where
    by : (IsIn x (filter p xs) → IsIn x xs) → (b : Bool) → IsIn x (cond b (y ∷ filter p xs) (filter p xs)) → IsIn x (y ∷ xs)
    by rest true k = elim k [ inl e ↦ inl e | inr g ↦ inr (rest g) ]
    by rest false k = inr (rest k)

pub in_find : {X : Type 0} (p : X → Bool) (xs : List X) (x : X) → find p xs ≡ Some x → IsIn x xs
in_find p [] x h = cc
in_find p (y ∷ xs) x h = by (in_find p xs x) (p y) h
  where
    by : (find p xs ≡ Some x → IsIn x xs) → (b : Bool) → cond b (Some y) (find p xs) ≡ Some x → IsIn x (y ∷ xs)
    by rest true k = inl cc
    by rest false k = inr (rest k)

-- a list that may be chosen from, where the list itself has only what stands on a shelf
chosen_of : (w : World) (name : Name) (l : List Member) (m : Member) → ((x : Member) → IsIn x l → IsRecordOn w name x) → IsIn m (or_nobody l) → StandsOn w name m
chosen_of w name [] m on h = elim h [ inl e ↦ inl e | inr g ↦ absurd g ]
chosen_of w name (x ∷ l) m on h = inr (on m h)

-- what is found on a shelf, or on none
module _ (w : World) (name : Name) (of : Shelf → List Member) (each : (s : Shelf) (x : Member) → IsIn x (of s) → (r : Rec) × IsIn r s.recs × (x ≡ member.Record s.collection r)) where
  on_shelf : (o : Option Shelf) → shelf_named name w.shelves ≡ o → (x : Member) → IsIn x (option_map_or of o []) → IsRecordOn w name x
  on_shelf None is x h = absurd h
  on_shelf (Some s) is x h = (let r = each s x h in (s, r.0, is, r.1, r.2))

  pub from_shelf : (m : Member) → IsIn m (or_nobody (option_map_or of (shelf_named name w.shelves) [])) → StandsOn w name m
  from_shelf m h = chosen_of w name (option_map_or of (shelf_named name w.shelves) []) m (on_shelf (shelf_named name w.shelves) refl) h

all_of : (s : Shelf) (x : Member) → IsIn x (map (member.Record s.collection) s.recs) → (r : Rec) × IsIn r s.recs × (x ≡ member.Record s.collection r)
all_of s x h = in_map (member.Record s.collection) s.recs x h

some_of : (test : Shelf → Rec → Bool) (s : Shelf) (x : Member) → IsIn x (map (member.Record s.collection) (filter (test s) s.recs)) → (r : Rec) × IsIn r s.recs × (x ≡ member.Record s.collection r)
some_of test s x h =
    let r = in_map (member.Record s.collection) (filter (test s) s.recs) x h in
    (r.0, in_filter (test s) s.recs r.0 r.1, r.2)

found_of : (s : Shelf) (o : Option Rec) (x : Member) (rest : List Member) → ((r : Rec) → o ≡ Some r → IsIn r s.recs) → (IsIn x rest → (r : Rec) × IsIn r s.recs × (x ≡ member.Record s.collection r))
    → IsIn x (cons_option (option_map (member.Record s.collection) o) rest) → (r : Rec) × IsIn r s.recs × (x ≡ member.Record s.collection r)
found_of s None x rest there next h = next h
found_of s (Some r) x rest there next h = elim h [ inl e ↦ (r, there r refl, e) | inr k ↦ next k ]

named_of : (ids : List Id) (s : Shelf) (x : Member) → IsIn x (filter_map (shelf_member s) ids) → (r : Rec) × IsIn r s.recs × (x ≡ member.Record s.collection r)
named_of [] s x h = absurd h
named_of (id ∷ ids) s x h =
    found_of s (rec_of id s.recs) x (filter_map (shelf_member s) ids) (λ r is. in_find (λ r. bytes_eq r.id id) s.recs r is) (named_of ids s x) h

one_of : (id : Id) (s : Shelf) (x : Member) → IsIn x (option_map_or (λ m. m ∷ []) (shelf_member s id) []) → (r : Rec) × IsIn r s.recs × (x ≡ member.Record s.collection r)
one_of id s x h = by (rec_of id s.recs) refl h
  where
    by : (o : Option Rec) → rec_of id s.recs ≡ o → IsIn x (option_map_or (λ m. m ∷ []) (option_map (member.Record s.collection) o) []) → (r : Rec) × IsIn r s.recs × (x ≡ member.Record s.collection r)
    by None is k = absurd k
    by (Some r) is k = elim k [ inl e ↦ (r, in_find (λ r. bytes_eq r.id id) s.recs r is, e) | inr g ↦ absurd g ]

-- the list of a caller, told by the shelf
caller_on : (w : World) (name : Name) (id : Id) → caller_list w (caller.Member name id) ≡ option_map_or (λ s. option_map_or (λ m. m ∷ []) (shelf_member s id) []) (shelf_named name w.shelves) []
caller_on w name id = by (shelf_named name w.shelves)
  where
    by : (o : Option Shelf) → option_map_or (λ m. m ∷ []) (option_and_then (λ s. shelf_member s id) o) [] ≡ option_map_or (λ s. option_map_or (λ m. m ∷ []) (shelf_member s id) []) o []
    by None = refl
    by (Some s) = refl

held_on : (w : World) (f : Field) (cell : Cell) (target : Name) → target_of f.kind ≡ Some target → held w (f, cell) ≡ option_map_or (λ s. filter_map (shelf_member s) (ids_of cell)) (shelf_named target w.shelves) []
held_on w f cell target is = ap (λ o. option_map_or (λ s. filter_map (shelf_member s) (ids_of cell)) (option_and_then (λ t. shelf_named t w.shelves) o) []) is

-- ---- roots and steps

module _ (w : World) (ask : Ask) (home : Name) (rec : Rec) (c : Prefix → Member) (is : IsChoice (sight w ask home rec) c) where
  sees : Sight
  sees = sight w ask home rec

  pub home_stands : (c (bare root.Home) ≡ member.Nobody) ⊎ ((s : Shelf) × (shelf_named home w.shelves ≡ Some s) × (c (bare root.Home) ≡ member.Record s.collection rec))
  home_stands = by (shelf_named home w.shelves) refl (is.root root.Home)
    where
      by : (o : Option Shelf) → shelf_named home w.shelves ≡ o → IsIn (c (bare root.Home)) (or_nobody (option_map_or (λ s. member.Record s.collection rec ∷ []) o []))
          → (c (bare root.Home) ≡ member.Nobody) ⊎ ((s : Shelf) × (shelf_named home w.shelves ≡ Some s) × (c (bare root.Home) ≡ member.Record s.collection rec))
      by None e h = elim h [ inl k ↦ inl k | inr g ↦ absurd g ]
      by (Some s) e h = elim h [ inl k ↦ inr (s, e, k) | inr g ↦ absurd g ]

  pub auth_stands : (name : Name) (id : Id) → ask.caller ≡ caller.Member name id → StandsOn w name (c (bare root.Auth))
  auth_stands name id who =
      from_shelf w name (λ s. option_map_or (λ m. m ∷ []) (shelf_member s id) []) (one_of id) (c (bare root.Auth)) (subst (λ l. IsIn (c (bare root.Auth)) (or_nobody l)) (ap (caller_list w) who ∙ caller_on w name id) (is.root root.Auth))

  pub look_stands : (name : Name) (alias : List ℕ) → StandsOn w name (c (bare (root.Look name alias)))
  look_stands name alias = from_shelf w name (λ s. map (member.Record s.collection) s.recs) all_of (c (bare (root.Look name alias))) (is.root (root.Look name alias))

  pub forward_stands :
      (p : Prefix) (col : Collection) (r : Rec) (name : Name) (f : Field) (cell : Cell) (target : Name)
      → c p ≡ member.Record col r → field_at col r name ≡ Some (f, cell) → target_of f.kind ≡ Some target → StandsOn w target (c (then_step p (step.Forward name)))
  forward_stands p col r name f cell target at has leads =
      let m : Member = c (then_step p (step.Forward name)) in
      let list : step_list w (sent_field w home ask.body) (step.Forward name) (c p) ≡ option_map_or (λ s. filter_map (shelf_member s) (ids_of cell)) (shelf_named target w.shelves) [] = ap (step_list w (sent_field w home ask.body) (step.Forward name)) at ∙ ap (λ o. option_map_or (held w) o []) has ∙ held_on w f cell target leads in
      from_shelf w target (λ s. filter_map (shelf_member s) (ids_of cell)) (named_of (ids_of cell)) m (subst (λ l. IsIn m (or_nobody l)) list (is.step p (step.Forward name)))

  pub back_stands : (p : Prefix) (from name : Name) → StandsOn w from (c (then_step p (step.Back from name)))
  back_stands p from name = by (c p) (is.step p (step.Back from name))
    where
      m : Member
      m = c (then_step p (step.Back from name))

      by : (x : Member) → IsIn m (or_nobody (step_list w (sent_field w home ask.body) (step.Back from name) x)) → StandsOn w from m
      by (member.Record col r) h = from_shelf w from (λ s. map (member.Record s.collection) (filter (points_to s.collection name col.name r.id) s.recs)) (some_of (λ s. points_to s.collection name col.name r.id)) m h
      by member.Nobody h = elim h [ inl k ↦ inl k | inr g ↦ absurd g ]
      by member.Sent h = elim h [ inl k ↦ inl k | inr g ↦ absurd g ]
      by (member.Item text) h = elim h [ inl k ↦ inl k | inr g ↦ absurd g ]
