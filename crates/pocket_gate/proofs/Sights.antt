-- What the guard leaves of a world is what a caller sees.
use Rattle.std.proofs.Common.{◌≡◌, Bool, true, false, cond, List, [], ◌∷◌, map, Some, None, refl, sym, ap, ◌∙◌}
use Rattle.std.specs.Prelude.{MatchOption, filter, option_map}
use Rattle.std.specs.List.{AllByRecursion}
use Rattle.std.specs.Option.{option_map_or}
use Rattle.std.specs.Str.{bytes_eq}
use Rattle.std.proofs.lemmas.List.Elements.{recursion_from_All}
use Rattle.pocket_types.specs.Callers.{is_admin}
use Rattle.pocket_types.specs.Within.{collections_of}
use Rattle.pocket_types.specs.World.{shelf_named}
use Rattle.pocket_types.specs.declared.names.Name.{Name}
use Rattle.pocket_types.specs.declared.records.Collection.{Collection}
use Rattle.pocket_types.specs.declared.records.Rec.{Rec}
use Rattle.pocket_types.specs.declared.requests.Action.TheVariants as action
use Rattle.pocket_types.specs.declared.requests.Ask.{Ask}
use Rattle.pocket_types.specs.declared.resolved.Resolved.{Resolved}
use Rattle.pocket_types.specs.declared.world.Shelf.{Shelf}
use Rattle.pocket_types.specs.declared.world.World.{World}
use Rattle.pocket_meaning.specs.Meaning.{holds}
use Rattle.pocket_tables.specs.Laws.{ShelvesAreFound}
use Rattle.pocket_tables.specs.Worlds.{IsTabled, shelf_name}
use Rattle.pocket_plan.specs.Cutting.{admits, admitted_shelf, guarded_world, open_world, passes, view_named}
use Rattle.pocket_plan.specs.Truth.{open_home, plan_truth}
use Rattle.pocket_gate.specs.Built.{guard_for, guard_of, rules_of, test_of, view_for, views_for}
use Rattle.pocket_gate.specs.Rules.{is_allowed, may}
use Rattle.pocket_gate.specs.Seen.{seen_home, seen_world, viewable_shelf, viewable_world}
use Rattle.pocket_gate.specs.declared.rules.Rules.{Rules}
use Rattle.pocket_gate.proofs.Tests.{find-map, passes-allowed, test_verdict-test_of, verdict-rule_verdict, view_named-views_for}

-- ---- lists

map-same : {A B : Type 0} (f g : A → B) (xs : List A) → AllByRecursion (λ x. f x ≡ g x) xs → map f xs ≡ map g xs
map-same f g [] h = refl
map-same f g (x ∷ xs) h = let rest = map-same f g xs h.1 in let first : f x ≡ g x = h.0 in cc

all_by : {A : Type 0} (P Q : A → Type 0) (xs : List A) → ((x : A) → P x → Q x) → AllByRecursion P xs → AllByRecursion Q xs
all_by P Q [] f h = tt
all_by P Q (x ∷ xs) f h = (f x h.0, all_by P Q xs f h.1)

-- ---- views

-- the view of a shelf's collection
view_of_shelf : (w : World) (s : Shelf) → shelf_named (shelf_name s) w.shelves ≡ Some s
    → view_named s.collection.name (views_for (collections_of w) action.View) ≡ Some (view_for (collections_of w) action.View s.collection)
view_of_shelf w s found =
    view_named-views_for (collections_of w) action.View s.collection.name
    ∙ ap (option_map (view_for (collections_of w) action.View)) (find-map (λ x. x.collection) (λ c. bytes_eq c.name s.collection.name) w.shelves ∙ ap (option_map (λ x. x.collection)) found)

-- the guard admits a record of a shelf where its view rule does
admits-may : (w : World) (ask : Ask) (s : Shelf) (r : Rec) → is_admin ask.caller ≡ false → shelf_named (shelf_name s) w.shelves ≡ Some s
    → admits w (guard_of (collections_of w)) ask s.collection.name r ≡ may w ask action.View s.collection r
unfolding admits guard_of
admits-may w ask s r other found =
    ap (λ o. option_map_or (λ v. passes w ask s.collection.name r v.test) o false) (view_of_shelf w s found)
    ∙ passes-allowed w ask action.View s.collection.name r (test_of (collections_of w) s.collection.name s.collection.view_rule)
    ∙ ap is_allowed (test_verdict-test_of w ask action.View s.collection.name r s.collection.view_rule)
    ∙ ap is_allowed (sym (verdict-rule_verdict w ask action.View s.collection r other))

admitted-viewable : (w : World) (ask : Ask) (s : Shelf) → is_admin ask.caller ≡ false → shelf_named (shelf_name s) w.shelves ≡ Some s
    → admitted_shelf w (guard_of (collections_of w)) ask s ≡ viewable_shelf w ask s
admitted-viewable w ask s other found = ap shelf_with same
  where
    shelf_with : (Rec → Bool) → Shelf
    shelf_with p = record { collection = s.collection; recs = filter p s.recs }

    same : admits w (guard_of (collections_of w)) ask s.collection.name ≡ may w ask action.View s.collection
    same = λ i r. admits-may w ask s r other found i

-- ---- worlds

-- what the guard leaves of a world is what a caller who isn't the administrator sees
pub guarded-seen : (w : World) (ask : Ask) → ShelvesAreFound → IsTabled w → is_admin ask.caller ≡ false
    → guarded_world w (guard_of (collections_of w)) ask ≡ seen_world w ask
unfolding guarded_world seen_world
guarded-seen w ask found tabled other =
    ap open_world (ap world_with shelves) ∙ sym (ap (λ b. cond b w (open_world (viewable_world w ask))) other)
  where
    world_with : List Shelf → World
    world_with ss = record { shelves = ss }

    shelves : map (admitted_shelf w (guard_of (collections_of w)) ask) w.shelves ≡ map (viewable_shelf w ask) w.shelves
    shelves = map-same (admitted_shelf w (guard_of (collections_of w)) ask) (viewable_shelf w ask) w.shelves
        (all_by (λ s. shelf_named (shelf_name s) w.shelves ≡ Some s) (λ s. admitted_shelf w (guard_of (collections_of w)) ask s ≡ viewable_shelf w ask s) w.shelves
        (λ s f. admitted-viewable w ask s other f) (recursion_from_All (λ s. shelf_named (shelf_name s) w.shelves ≡ Some s) w.shelves (found w tabled)))

-- the same where the guard for a caller is told
pub guard_shows_seen : (w : World) (ask : Ask) → ShelvesAreFound → IsTabled w
    → MatchOption (guard_for (collections_of w) ask.caller) (seen_world w ask ≡ w) (λ g. guarded_world w g ask ≡ seen_world w ask)
unfolding seen_world
guard_shows_seen w ask found tabled = by (is_admin ask.caller) refl
  where
    by : (b : Bool) → is_admin ask.caller ≡ b
        → MatchOption (cond b None (Some (guard_of (collections_of w)))) (seen_world w ask ≡ w) (λ g. guarded_world w g ask ≡ seen_world w ask)
    by true e = ap (λ b. cond b w (open_world (viewable_world w ask))) e
    by false e = guarded-seen w ask found tabled e

-- what a plan answers under the guard for a caller
pub plan_truth-seen : (w : World) (ask : Ask) (home : Name) (r : Rec) (f : Resolved)
    → MatchOption (guard_for (collections_of w) ask.caller) (seen_world w ask ≡ w) (λ g. guarded_world w g ask ≡ seen_world w ask)
    → plan_truth w (guard_for (collections_of w) ask.caller) ask home r f ≡ holds (seen_world w ask) ask home (seen_home w ask home r) f
unfolding seen_home
plan_truth-seen w ask home r f = by (is_admin ask.caller)
  where
    by : (b : Bool) → MatchOption (cond b None (Some (guard_of (collections_of w)))) (seen_world w ask ≡ w) (λ g. guarded_world w g ask ≡ seen_world w ask)
        → plan_truth w (cond b None (Some (guard_of (collections_of w)))) ask home r f ≡ holds (seen_world w ask) ask home (cond b r (open_home w home r)) f
    by true whole = ap (λ v. holds v ask home r f) (sym whole)
    by false cut = ap (λ v. holds v ask home (open_home w home r) f) cut

-- the guard that rules of these collections have
pub guard_in_rules : (cs : List Collection) (rules : Rules) → rules ≡ rules_of cs → rules.guard ≡ guard_of cs
unfolding rules_of
guard_in_rules cs rules e = ap (λ x. x.guard) e
