-- What a caller sees, found by look-ups in the whole world.
use Rattle.std.proofs.Common.{◌≡◌, Bool, true, false, cond, ◌&&◌, List, [], ◌∷◌, refl, sym, ap, ◌∙◌, subst, true≢false, Option, Some, None, All}
use Rattle.std.specs.Prelude.{filter_map, find, option_and_then, option_map}
use Rattle.std.proofs.lemmas.List.Elements.{All-head, All-tail}
use Rattle.std.proofs.lemmas.Slice.Eq.{bytes_eq-Decides}
use Rattle.std.specs.Option.{option_map_or}
use Rattle.std.specs.Str.{bytes_eq}
use Rattle.pocket_types.specs.Callers.{is_admin}
use Rattle.pocket_types.specs.Kinds.{target_of}
use Rattle.pocket_types.specs.Order.{Rises, IsBefore}
use Rattle.pocket_types.specs.Within.{collections_of}
use Rattle.pocket_types.specs.World.{rec_of, shelf_named}
use Rattle.pocket_types.specs.declared.ids.Id.{Id}
use Rattle.pocket_types.specs.declared.names.Name.{Name}
use Rattle.pocket_types.specs.declared.records.Cell.{Cell}
use Rattle.pocket_types.specs.declared.records.Collection.{Collection}
use Rattle.pocket_types.specs.declared.records.Field.{Field}
use Rattle.pocket_types.specs.declared.records.Rec.{Rec}
use Rattle.pocket_types.specs.declared.requests.Action.TheVariants as action
use Rattle.pocket_types.specs.declared.requests.Ask.{Ask}
use Rattle.pocket_types.specs.declared.world.Shelf.{Shelf}
use Rattle.pocket_types.specs.declared.world.World.{World}
use Rattle.pocket_types.proofs.OrderLemmas.{rises_first, rises_rest}
use Rattle.pocket_resolve.specs.Fields.{collection_named}
use Rattle.pocket_ops.specs.DateReading.{◌>>=◌}
use Rattle.pocket_tables.specs.Worlds.{IsTabled, id_of, rec_at, recs_at}
use Rattle.pocket_tables.proofs.KeyLemmas.{differs_above}
use Rattle.pocket_tables.proofs.WorldLemmas.{ordered_from}
use Rattle.pocket_meaning.specs.Members.{Member}
use Rattle.pocket_meaning.specs.Members as member
use Rattle.pocket_ops.specs.Fields.{ids_of}
use Rattle.pocket_meaning.specs.Related.{held, shelf_member}
use Rattle.pocket_meaning.specs.Seen.{seen}
use Rattle.pocket_meaning.specs.declared.members.Member as lent
use Rattle.pocket_plan.specs.Cutting.{open_shelf, open_world}
use Rattle.pocket_plan.proofs.Opening.{member_open, opened, shelf_mapped, shelf_open}
use Rattle.pocket_plan.proofs.Filtered.{find_in_filter}
use Rattle.pocket_gate.specs.Rules.{may, rule_for, rule_verdict, is_allowed, verdict}
use Rattle.pocket_gate.specs.Seen.{seen_world, viewable_shelf, viewable_world}
use Rattle.pocket_gate.specs.Shown.{member_at, shown}
use Rattle.pocket_gate.specs.declared.verdict.Verdict.TheVariants as verdict_is
use Rattle.pocket_gate.proofs.Tests.{find-map, found_bears_name}

-- ---- the two worlds

pub seen_whole : (w : World) (ask : Ask) → is_admin ask.caller ≡ true → seen_world w ask ≡ w
unfolding seen_world
seen_whole w ask e = ap (λ b. cond b w (open_world (viewable_world w ask))) e

pub seen_open : (w : World) (ask : Ask) → is_admin ask.caller ≡ false → seen_world w ask ≡ open_world (viewable_world w ask)
unfolding seen_world
seen_open w ask e = ap (λ b. cond b w (open_world (viewable_world w ask))) e

pub admin_may : (w : World) (ask : Ask) (c : Collection) (r : Rec) → is_admin ask.caller ≡ true → may w ask action.View c r ≡ true
unfolding verdict
admin_may w ask c r e = ap (λ b. is_allowed (cond b verdict_is.Allowed (rule_verdict w ask action.View c.name r (rule_for action.View c)))) e

-- ---- records

abbrev pub if_so : {X : Type 0} → Bool → X → Option X
if_so b x = cond b (Some x) None

none_named : (id : Id) (p : Rec → Bool) (recs : List Rec) → All (λ r. IsBefore id r.id) recs → find (λ r. p r && bytes_eq r.id id) recs ≡ None
none_named id p [] h = refl
none_named id p (r ∷ recs) h =
    by (none_named id p recs (All-tail (λ r. IsBefore id r.id) r recs h)) (p r) (bytes_eq r.id id) (differs_above r.id id (All-head (λ r. IsBefore id r.id) r recs h))
  where
    by : find (λ r. p r && bytes_eq r.id id) recs ≡ None → (a b : Bool) → b ≡ false → cond (a && b) (Some r) (find (λ r. p r && bytes_eq r.id id) recs) ≡ None
    by rest a true e = absurd (true≢false e)
    by rest true false e = rest
    by rest false false e = rest

-- of records that rise by id at most one has an id
find_one : (id : Id) (p : Rec → Bool) (recs : List Rec) → Rises id_of recs
    → find (λ r. p r && bytes_eq r.id id) recs ≡ option_and_then (λ r. if_so (p r) r) (rec_of id recs)
find_one id p [] h = refl
find_one id p (r ∷ recs) h = by (find_one id p recs (rises_rest id_of r recs h)) (p r) (bytes_eq r.id id) refl refl
  where
    none : bytes_eq r.id id ≡ true → find (λ r. p r && bytes_eq r.id id) recs ≡ None
    none e = none_named id p recs (subst (λ i. All (λ s. IsBefore i s.id) recs) ((bytes_eq-Decides r.id id).0 e) (rises_first id_of r recs h))

    by : find (λ r. p r && bytes_eq r.id id) recs ≡ option_and_then (λ r. if_so (p r) r) (rec_of id recs) → (a b : Bool) → p r ≡ a → bytes_eq r.id id ≡ b
        → cond (a && b) (Some r) (find (λ r. p r && bytes_eq r.id id) recs) ≡ option_and_then (λ r. if_so (p r) r) (cond b (Some r) (rec_of id recs))
    by rest true true e f = sym (ap (λ t. if_so t r) e)
    by rest false true e f = none f ∙ sym (ap (λ t. if_so t r) e)
    by rest true false e f = rest
    by rest false false e f = rest

-- the collection of a name is that of the shelf of this name
pub collection_on : (w : World) (name : Name) → collection_named (collections_of w) name ≡ option_map (λ s. s.collection) (shelf_named name w.shelves)
collection_on w name = find-map (λ s. s.collection) (λ c. bytes_eq c.name name) w.shelves

pub named_again : (cs : List Collection) (name : Name) (c : Collection) → Some c ≡ collection_named cs name → collection_named cs c.name ≡ Some c
named_again cs name c there = ap (collection_named cs) (found_bears_name cs name c (sym there)) ∙ sym there

-- the shelves of what others than the administrator see
pub shelf_seen : (w : World) (ask : Ask) (name : Name)
    → shelf_named name (open_world (viewable_world w ask)).shelves ≡ option_map open_shelf (option_map (viewable_shelf w ask) (shelf_named name w.shelves))
shelf_seen w ask name = shelf_open (viewable_world w ask) name ∙ ap (option_map open_shelf) (shelf_mapped (viewable_shelf w ask) (λ s. refl) name w.shelves)

-- the record of an id, where it is seen
abbrev viewable_in : World → Ask → Bool → Id → Option Collection → List Rec → Option Member
viewable_in w ask whole id o recs =
    option_and_then (λ c. option_and_then (λ r. if_so (may w ask action.View c r) (shown whole (member.Record c r))) (rec_of id recs)) o

on_shelf : (w : World) (ask : Ask) (id : Id) → is_admin ask.caller ≡ true → (o : Option Shelf)
    → option_and_then (λ s. shelf_member s id) o ≡ viewable_in w ask true id (option_map (λ s. s.collection) o) (option_map_or (λ s. s.recs) o [])
on_shelf w ask id e None = refl
on_shelf w ask id e (Some s) = by (rec_of id s.recs)
  where
    by : (q : Option Rec) → option_map (member.Record s.collection) q ≡ option_and_then (λ r. if_so (may w ask action.View s.collection r) (member.Record s.collection r)) q
    by None = refl
    by (Some r) = sym (ap (λ b. if_so b (member.Record s.collection r)) (admin_may w ask s.collection r e))

on_open_shelf : (w : World) (ask : Ask) (id : Id) (o : Option Shelf) → Rises id_of (option_map_or (λ s. s.recs) o [])
    → option_and_then (λ s. shelf_member s id) (option_map open_shelf (option_map (viewable_shelf w ask) o))
    ≡ viewable_in w ask false id (option_map (λ s. s.collection) o) (option_map_or (λ s. s.recs) o [])
on_open_shelf w ask id None h = refl
on_open_shelf w ask id (Some s) h =
    member_open (viewable_shelf w ask s) id
    ∙ ap (λ q. option_map opened (option_map (member.Record s.collection) q))
    (find_in_filter (λ r. bytes_eq r.id id) (may w ask action.View s.collection) s.recs ∙ find_one id (may w ask action.View s.collection) s.recs h)
    ∙ by (rec_of id s.recs)
  where
    one : (r : Rec) (b : Bool) → option_map opened (option_map (member.Record s.collection) (if_so b r)) ≡ if_so b (shown false (member.Record s.collection r))
    one r true = refl
    one r false = refl

    by : (q : Option Rec) → option_map opened (option_map (member.Record s.collection) (option_and_then (λ r. if_so (may w ask action.View s.collection r) r) q))
        ≡ option_and_then (λ r. if_so (may w ask action.View s.collection r) (shown false (member.Record s.collection r))) q
    by None = refl
    by (Some r) = one r (may w ask action.View s.collection r)

-- what is seen of a record is found in the whole world
pub member_at_seen : (w : World) (ask : Ask) (name : Name) (id : Id) → IsTabled w
    → member_at (seen_world w ask) name id ≡ viewable_in w ask (is_admin ask.caller) id (collection_named (collections_of w) name) (recs_at w name)
member_at_seen w ask name id t = by (is_admin ask.caller) refl ∙ ap (λ o. viewable_in w ask (is_admin ask.caller) id o (recs_at w name)) (sym (collection_on w name))
  where
    by : (b : Bool) → is_admin ask.caller ≡ b → member_at (seen_world w ask) name id ≡ viewable_in w ask b id (option_map (λ s. s.collection) (shelf_named name w.shelves)) (recs_at w name)
    by true e = ap (λ v. member_at v name id) (seen_whole w ask e) ∙ on_shelf w ask id e (shelf_named name w.shelves)
    by false e =
        ap (λ v. member_at v name id) (seen_open w ask e)
        ∙ ap (option_and_then (λ s. shelf_member s id)) (shelf_seen w ask name)
        ∙ on_open_shelf w ask id (shelf_named name w.shelves) ((ordered_from w t).ids name)

-- what is found of a record that is there
pub member_found : (w : World) (ask : Ask) (name : Name) (id : Id) (c : Collection) (r : Rec) (found : Option lent.Member) → IsTabled w
    → Some c ≡ collection_named (collections_of w) name → Some r ≡ rec_at w name id → option_map seen found ≡ if_so (may w ask action.View c r) (member.Record c r)
    → option_map (λ m. shown (is_admin ask.caller) (seen m)) found ≡ member_at (seen_world w ask) name id
member_found w ask name id c r found t there here is =
    twice found ∙ ap (option_map (shown whole)) is ∙ by (may w ask action.View c r)
    ∙ (λ i. option_and_then (λ c. option_and_then (λ r. if_so (may w ask action.View c r) (shown whole (member.Record c r))) (here i)) (there i))
    ∙ sym (member_at_seen w ask name id t)
  where
    whole : Bool
    whole = is_admin ask.caller

    twice : (o : Option lent.Member) → option_map (λ m. shown (is_admin ask.caller) (seen m)) o ≡ option_map (shown (is_admin ask.caller)) (option_map seen o)
    twice None = refl
    twice (Some m) = refl

    by : (b : Bool) → option_map (shown (is_admin ask.caller)) (if_so b (member.Record c r)) ≡ if_so b (shown (is_admin ask.caller) (member.Record c r))
    by true = refl
    by false = refl

pub no_collection_found : (w : World) (ask : Ask) (name : Name) (id : Id) → IsTabled w → None ≡ collection_named (collections_of w) name → None ≡ member_at (seen_world w ask) name id
no_collection_found w ask name id t none = ap (λ o. viewable_in w ask (is_admin ask.caller) id o (recs_at w name)) none ∙ sym (member_at_seen w ask name id t)

pub no_rec_found : (w : World) (ask : Ask) (name : Name) (id : Id) → IsTabled w → None ≡ rec_at w name id → None ≡ member_at (seen_world w ask) name id
no_rec_found w ask name id t none = by (collection_named (collections_of w) name) ∙ sym (member_at_seen w ask name id t)
  where
    by : (o : Option Collection) → None ≡ viewable_in w ask (is_admin ask.caller) id o (recs_at w name)
    by None = refl
    by (Some c) = ap (option_and_then (λ r. if_so (may w ask action.View c r) (shown (is_admin ask.caller) (member.Record c r)))) none

-- ---- relations

-- the records of a relation's ids
pub held_named : (w : World) (field : Field) (cell : Cell) (target : Name) → target_of field.kind ≡ Some target
    → held w (field, cell) ≡ filter_map (member_at w target) (ids_of cell)
held_named w field cell target e =
    ap (λ t. option_map_or (λ s. filter_map (shelf_member s) (ids_of cell)) (t >>= λ name. shelf_named name w.shelves) []) e ∙ by (shelf_named target w.shelves)
  where
    none : (ids : List Id) → [] ≡ filter_map (λ id. option_and_then (λ s. shelf_member s id) None) ids
    none [] = refl
    none (id ∷ ids) = none ids

    by : (o : Option Shelf) → option_map_or (λ s. filter_map (shelf_member s) (ids_of cell)) o [] ≡ filter_map (λ id. option_and_then (λ s. shelf_member s id) o) (ids_of cell)
    by None = none (ids_of cell)
    by (Some s) = refl
