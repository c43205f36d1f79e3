-- A record as its caller sees it, and where a relation leads from there.
use Rattle.std.proofs.Common.{◌≡◌, Bool, true, false, cond, [], ◌∷◌, refl, sym, ap, ◌∙◌, Option, Some, None}
use Rattle.std.specs.Prelude.{option_map}
use Rattle.std.specs.Option.{option_map_or}
use Rattle.pocket_types.specs.Callers.{is_admin}
use Rattle.pocket_types.specs.Within.{collections_of}
use Rattle.pocket_types.specs.World.{shelf_named}
use Rattle.pocket_types.specs.declared.names.Name.{Name}
use Rattle.pocket_types.specs.declared.records.Collection.{Collection}
use Rattle.pocket_types.specs.declared.records.Rec.{Rec}
use Rattle.pocket_types.specs.declared.requests.Ask.{Ask}
use Rattle.pocket_types.specs.declared.resolved.Modifier.TheVariants.{Plain}
use Rattle.pocket_types.specs.declared.resolved.Root.TheVariants as root
use Rattle.pocket_types.specs.declared.resolved.Step.TheVariants as step
use Rattle.pocket_types.specs.declared.world.Shelf.{Shelf}
use Rattle.pocket_types.specs.declared.world.World.{World}
use Rattle.pocket_resolve.specs.Fields.{collection_named}
use Rattle.pocket_meaning.specs.Members as member
use Rattle.pocket_meaning.specs.Related.{held, root_list}
use Rattle.pocket_meaning.specs.Values.{member_value, value_among}
use Rattle.pocket_plan.specs.Cutting.{open_collection, open_rec, open_shelf}
use Rattle.pocket_plan.specs.Truth.{open_home}
use Rattle.pocket_plan.proofs.Opening.{field_open}
use Rattle.pocket_gate.specs.Seen.{seen_home, seen_world, viewable_shelf}
use Rattle.pocket_gate.specs.Shown.{field_shown, shown}
use Rattle.pocket_gate.proofs.ShownLemmas.{collection_on, seen_open, seen_whole, shelf_seen}
use Rattle.pocket_read.specs.Sorting.{first_or_nobody, next_on, start_of}

-- a relation of a record as it is seen
pub next_shown : (w : World) (whole : Bool) (name : Name) (c : Collection) (r : Rec)
    → next_on w (step.Forward name) (shown whole (member.Record c r)) ≡ first_or_nobody (option_map_or (held w) (field_shown whole c r name) [])
next_shown w true name c r = refl
next_shown w false name c r = ap (λ o. first_or_nobody (option_map_or (held w) o [])) (field_open c r name)

-- a field of a record as it is seen
pub value_shown : (whole : Bool) (name : Name) (c : Collection) (r : Rec)
    → member_value (shown whole (member.Record c r)) name Plain ≡ value_among c r name (field_shown whole c r name) Plain
value_shown true name c r = refl
value_shown false name c r = ap (λ o. value_among c r name o Plain) (field_open c r name)

-- ---- the record itself

pub start_is : (w : World) (ask : Ask) (c : Collection) (r : Rec) → collection_named (collections_of w) c.name ≡ Some c
    → start_of w ask c.name r ≡ shown (is_admin ask.caller) (member.Record c r)
unfolding seen_home
start_is w ask c r there = by (is_admin ask.caller) refl
  where
    on : (o : Option Shelf) → option_map (λ s. s.collection) o ≡ Some c → first_or_nobody (option_map_or (λ s. member.Record s.collection r ∷ []) o []) ≡ member.Record c r
    on None e = cc
    on (Some s) e = let same : s.collection ≡ c = cc in ap (λ k. member.Record k r) same

    on_open : (o : Option Shelf) → option_map (λ s. s.collection) o ≡ Some c
        → first_or_nobody (option_map_or (λ s. member.Record s.collection (option_map_or (λ s. open_rec s.collection r) o r) ∷ []) (option_map open_shelf (option_map (viewable_shelf w ask) o)) [])
        ≡ member.Record (open_collection c) (open_rec c r)
    on_open None e = cc
    on_open (Some s) e = let same : s.collection ≡ c = cc in ap (λ k. member.Record (open_collection k) (open_rec k r)) same

    by : (b : Bool) → is_admin ask.caller ≡ b
        → first_or_nobody (root_list (seen_world w ask) ask c.name (cond b r (open_home w c.name r)) root.Home) ≡ shown b (member.Record c r)
    by true e = ap (λ v. first_or_nobody (root_list v ask c.name r root.Home)) (seen_whole w ask e) ∙ on (shelf_named c.name w.shelves) (sym (collection_on w c.name) ∙ there)
    by false e =
        ap (λ v. first_or_nobody (root_list v ask c.name (open_home w c.name r) root.Home)) (seen_open w ask e)
        ∙ ap (λ o. first_or_nobody (option_map_or (λ s. member.Record s.collection (open_home w c.name r) ∷ []) o [])) (shelf_seen w ask c.name)
        ∙ on_open (shelf_named c.name w.shelves) (sym (collection_on w c.name) ∙ there)
