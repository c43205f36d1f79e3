-- Back relations, found by look-ups in the whole world.
use Rattle.std.proofs.Common.{◌≡◌, ◌&&◌, Bool, true, false, cond, List, [], ◌∷◌, filter, map, refl, sym, ap, ◌∙◌, subst, take, true≢false, Option, Some, None}
use Rattle.std.specs.Prelude.{IfSome, option_map}
use Rattle.std.specs.Option.{option_map_or}
use Rattle.std.proofs.lemmas.List.{take-map}
use Rattle.std.proofs.lemmas.Simd.{map-map}
use Rattle.pocket_types.specs.Callers.{is_admin}
use Rattle.pocket_types.specs.Within.{collections_of}
use Rattle.pocket_types.specs.World.{shelf_named}
use Rattle.pocket_types.specs.declared.ids.Id.{Id}
use Rattle.pocket_types.specs.declared.names.Name.{Name}
use Rattle.pocket_types.specs.declared.records.Collection.{Collection}
use Rattle.pocket_types.specs.declared.records.Rec.{Rec}
use Rattle.pocket_types.specs.declared.requests.Action.TheVariants as action
use Rattle.pocket_types.specs.declared.requests.Ask.{Ask}
use Rattle.pocket_types.specs.declared.world.Shelf.{Shelf}
use Rattle.pocket_types.specs.declared.world.World.{World}
use Rattle.pocket_ops.specs.Lengths.{HasOwnNames}
use Rattle.pocket_resolve.specs.Fields.{collection_named}
use Rattle.pocket_tables.specs.Reads.{holds_id, referrers}
use Rattle.pocket_tables.specs.Worlds.{IsTabled, name_of, recs_at}
use Rattle.pocket_tables.proofs.KeyLemmas.{found_holds}
use Rattle.pocket_tables.proofs.WorldLemmas.{ordered_from}
use Rattle.pocket_meaning.specs.Members.{Member}
use Rattle.pocket_meaning.specs.Members as member
use Rattle.pocket_meaning.specs.Related.{holders, points_to}
use Rattle.pocket_meaning.specs.Seen.{seen}
use Rattle.pocket_meaning.specs.declared.members.Member as lent
use Rattle.pocket_plan.specs.Cutting.{open_collection, open_rec}
use Rattle.pocket_plan.specs.Guarding.{open_points_to}
use Rattle.pocket_plan.proofs.Filtered.{filter_in_filter}
use Rattle.pocket_plan.proofs.Opening.{holders_open, opened, shelf_mapped}
use Rattle.pocket_gate.specs.Rules.{may}
use Rattle.pocket_gate.specs.Seen.{seen_world, viewable_shelf, viewable_world}
use Rattle.pocket_gate.specs.Shown.{shown}
use Rattle.pocket_gate.proofs.ShownLemmas.{admin_may, collection_on, seen_open, seen_whole}
use Rattle.pocket_expand.specs.Expansion.{shown_collection, shown_rec}
use Rattle.pocket_expand.specs.Met.{is_holder, member_seen, points_shown}
use Rattle.pocket_expand.proofs.FieldLemmas.{points_holds}

-- where one test follows from another, the other leaves the same
filter_within : {X : Type 0} (p q : X → Bool) (xs : List X) → ((x : X) → p x ≡ true → q x ≡ true) → filter p (filter q xs) ≡ filter p xs
filter_within p q [] f = refl
filter_within p q (x ∷ xs) f = by (filter_within p q xs f) (p x) (q x) refl refl
  where
    by : filter p (filter q xs) ≡ filter p xs → (a b : Bool) → p x ≡ a → q x ≡ b → filter p (cond b (x ∷ filter q xs) (filter q xs)) ≡ cond a (x ∷ filter p xs) (filter p xs)
    by rest true true e g = ap (λ t. cond t (x ∷ filter p (filter q xs)) (filter p (filter q xs))) e ∙ ap (λ l. x ∷ l) rest
    by rest true false e g = absurd (true≢false (sym (f x e) ∙ g))
    by rest false true e g = ap (λ t. cond t (x ∷ filter p (filter q xs)) (filter p (filter q xs))) e ∙ rest
    by rest false false e g = rest

filter_always : {X : Type 0} (p q : X → Bool) (xs : List X) → ((x : X) → q x ≡ true) → filter p xs ≡ filter (λ x. p x && q x) xs
filter_always p q [] f = refl
filter_always p q (x ∷ xs) f = by (p x) (q x) (f x) (filter_always p q xs f)
  where
    by : (a b : Bool) → b ≡ true → filter p xs ≡ filter (λ x. p x && q x) xs → cond a (x ∷ filter p xs) (filter p xs) ≡ cond (a && b) (x ∷ filter (λ x. p x && q x) xs) (filter (λ x. p x && q x) xs)
    by true true e rest = ap (λ l. x ∷ l) rest
    by true false e rest = absurd (true≢false (sym e))
    by false b e rest = rest

first_of_both : (a b : Bool) → (a && b) ≡ true → a ≡ true
first_of_both true b e = refl
first_of_both false b e = absurd (true≢false (sym e))

-- the records of which the caller sees that they refer to one are among those that hold its id
holders_among : (w : World) (ask : Ask) (k : Collection) (field name : Name) (id : Id) → IsTabled w → collection_named (collections_of w) k.name ≡ Some k
    → filter (is_holder w ask k field name id) (referrers w k.name field id) ≡ filter (is_holder w ask k field name id) (recs_at w k.name)
holders_among w ask k field name id t there =
    ap (λ o. filter p (option_map_or (λ c. filter (holds_id c field id) (recs_at w k.name)) o [])) there
    ∙ filter_within p (holds_id k field id) (recs_at w k.name)
    (λ r e. points_holds (is_admin ask.caller) k field name id r own (first_of_both (points_shown (is_admin ask.caller) k field name id r) (may w ask action.View k r) e))
  where
    p : Rec → Bool
    p = is_holder w ask k field name id

    own : HasOwnNames k
    own = subst (λ o. IfSome o HasOwnNames) there (found_holds name_of HasOwnNames k.name (collections_of w) (ordered_from w t).own)

-- the records of a collection that a caller sees to refer to a record
abbrev named_holders : World → Ask → Name → Name → Name → Id → Option Shelf → List Member
named_holders w ask from field name id o =
    option_map_or (λ s. map (shown (is_admin ask.caller)) (map (member.Record s.collection) (filter (is_holder w ask s.collection field name id) s.recs))) o []

whole_holders : (w : World) (ask : Ask) (from field : Name) (c : Collection) (r : Rec) → is_admin ask.caller ≡ true → (o : Option Shelf)
    → option_map_or (λ s. map (member.Record s.collection) (filter (points_to s.collection field c.name r.id) s.recs)) o []
    ≡ option_map_or (λ s. map (shown true) (map (member.Record s.collection) (filter (λ h. points_shown true s.collection field c.name r.id h && may w ask action.View s.collection h) s.recs))) o []
whole_holders w ask from field c r e None = refl
whole_holders w ask from field c r e (Some s) =
    ap (map (member.Record s.collection)) (filter_always (points_to s.collection field c.name r.id) (may w ask action.View s.collection) s.recs (λ h. admin_may w ask s.collection h e))
    ∙ whole (map (member.Record s.collection) (filter (λ h. points_shown true s.collection field c.name r.id h && may w ask action.View s.collection h) s.recs))
  where
    whole : (ms : List Member) → ms ≡ map (shown true) ms
    whole [] = refl
    whole (m ∷ ms) = ap (λ l. m ∷ l) (whole ms)

opened_is : (m : Member) → opened m ≡ shown false m
opened_is (member.Record c r) = refl
opened_is member.Nobody = refl
opened_is (member.Item t) = refl
opened_is member.Sent = refl

all_opened : (ms : List Member) → map opened ms ≡ map (shown false) ms
all_opened [] = refl
all_opened (m ∷ ms) = ap (λ x. x ∷ map opened ms) (opened_is m) ∙ ap (λ l. shown false m ∷ l) (all_opened ms)

cut_holders : (w : World) (ask : Ask) (field : Name) (c : Collection) (r : Rec) (o : Option Shelf)
    → map opened (option_map_or (λ s. map (member.Record s.collection) (filter (open_points_to s.collection field c.name r.id) s.recs)) (option_map (viewable_shelf w ask) o) [])
    ≡ option_map_or (λ s. map (shown false) (map (member.Record s.collection) (filter (λ h. points_shown false s.collection field c.name r.id h && may w ask action.View s.collection h) s.recs))) o []
cut_holders w ask field c r None = refl
cut_holders w ask field c r (Some s) =
    all_opened (map (member.Record s.collection) (filter (open_points_to s.collection field c.name r.id) (filter (may w ask action.View s.collection) s.recs)))
    ∙ ap (λ rs. map (shown false) (map (member.Record s.collection) rs)) (filter_in_filter (open_points_to s.collection field c.name r.id) (may w ask action.View s.collection) s.recs)

-- a back relation in what the caller sees, told in the whole world
holders_on : (w : World) (ask : Ask) (from field : Name) (c : Collection) (r : Rec)
    → holders (seen_world w ask) from field (shown_collection ask.caller c) (shown_rec ask.caller c r) ≡ named_holders w ask from field c.name r.id (shelf_named from w.shelves)
holders_on w ask from field c r = by (is_admin ask.caller) refl
  where
    by : (b : Bool) → is_admin ask.caller ≡ b
        → holders (seen_world w ask) from field (cond b c (open_collection c)) (cond b r (open_rec c r))
        ≡ option_map_or (λ s. map (shown b) (map (member.Record s.collection) (filter (λ h. points_shown b s.collection field c.name r.id h && may w ask action.View s.collection h) s.recs))) (shelf_named from w.shelves) []
    by true e = ap (λ v. holders v from field c r) (seen_whole w ask e) ∙ whole_holders w ask from field c r e (shelf_named from w.shelves)
    by false e =
        ap (λ v. holders v from field (open_collection c) (open_rec c r)) (seen_open w ask e)
        ∙ holders_open (viewable_world w ask) from field c r
        ∙ ap (λ o. map opened (option_map_or (λ s. map (member.Record s.collection) (filter (open_points_to s.collection field c.name r.id) s.recs)) o []))
        (shelf_mapped (viewable_shelf w ask) (λ s. refl) from w.shelves)
        ∙ cut_holders w ask field c r (shelf_named from w.shelves)

-- where there is no such collection there is no such record
pub no_holders : (w : World) (ask : Ask) (from field : Name) (c : Collection) (r : Rec) → None ≡ collection_named (collections_of w) from
    → holders (seen_world w ask) from field (shown_collection ask.caller c) (shown_rec ask.caller c r) ≡ []
no_holders w ask from field c r none = holders_on w ask from field c r ∙ by (shelf_named from w.shelves) (none ∙ collection_on w from)
  where
    by : (o : Option Shelf) → None ≡ option_map (λ s. s.collection) o → named_holders w ask from field c.name r.id o ≡ []
    by None e = refl
    by (Some s) e = cc

pub holders_found : (w : World) (ask : Ask) (from field : Name) (k c : Collection) (r : Rec) → IsTabled w → k.name ≡ from → collection_named (collections_of w) k.name ≡ Some k
    → holders (seen_world w ask) from field (shown_collection ask.caller c) (shown_rec ask.caller c r)
    ≡ map (shown (is_admin ask.caller)) (map (member.Record k) (filter (is_holder w ask k field c.name r.id) (referrers w k.name field r.id)))
holders_found w ask from field k c r t named there =
    holders_on w ask from field c r ∙ ap (λ n. named_holders w ask from field c.name r.id (shelf_named n w.shelves)) (sym named)
    ∙ by (shelf_named k.name w.shelves) (sym there ∙ collection_on w k.name)
    ∙ sym (ap (λ rs. map (shown (is_admin ask.caller)) (map (member.Record k) rs)) (holders_among w ask k field c.name r.id t there))
  where
    p : Collection → Rec → Bool
    p s = is_holder w ask s field c.name r.id

    by : (o : Option Shelf) → Some k ≡ option_map (λ s. s.collection) o
        → named_holders w ask from field c.name r.id o ≡ map (shown (is_admin ask.caller)) (map (member.Record k) (filter (p k) (option_map_or (λ s. s.recs) o [])))
    by None e = cc
    by (Some s) e =
        let same : s.collection ≡ k = cc in
        ap (λ (x : Collection). map (shown (is_admin ask.caller)) (map (member.Record x) (filter (p x) s.recs))) same

-- what was found of a back relation
pub back_found : (w : World) (ask : Ask) (from field : Name) (k c : Collection) (r : Rec) (found : List lent.Member) → IsTabled w → k.name ≡ from → collection_named (collections_of w) k.name ≡ Some k
    → map seen found ≡ take 1000 (map (member.Record k) (filter (is_holder w ask k field c.name r.id) (referrers w k.name field r.id)))
    → map (member_seen (is_admin ask.caller)) found ≡ take 1000 (holders (seen_world w ask) from field (shown_collection ask.caller c) (shown_rec ask.caller c r))
back_found w ask from field k c r found t named there is =
    sym (map-map (shown (is_admin ask.caller)) seen found) ∙ ap (map (shown (is_admin ask.caller))) is
    ∙ sym (take-map (shown (is_admin ask.caller)) 1000 (map (member.Record k) (filter (is_holder w ask k field c.name r.id) (referrers w k.name field r.id))))
    ∙ ap (take 1000) (sym (holders_found w ask from field k c r t named there))
