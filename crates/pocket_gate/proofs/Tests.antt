-- Rules as tests, and how they are found.
use Rattle.std.proofs.Common.{◌≡◌, ℕ, Bool, true, false, cond, List, [], ◌∷◌, map, Option, Some, None, Result, Ok, Err, refl, sym, ap, ◌∙◌, IfOk, IsSome}
use Rattle.std.specs.Prelude.{IfSome, find, option_map}
use Rattle.std.specs.Str.{bytes_eq}
use Rattle.std.proofs.lemmas.Slice.Eq.{bytes_eq-Decides}
use Rattle.pocket_types.specs.Callers.{is_admin}
use Rattle.pocket_types.specs.Within.{collections_of}
use Rattle.pocket_types.specs.declared.names.Name.{Name}
use Rattle.pocket_types.specs.declared.records.Collection.{Collection}
use Rattle.pocket_types.specs.declared.records.Rec.{Rec}
use Rattle.pocket_types.specs.declared.records.Rule.{Rule}
use Rattle.pocket_types.specs.declared.records.Rule.TheVariants as rule
use Rattle.pocket_types.specs.declared.requests.Action.{Action}
use Rattle.pocket_types.specs.declared.requests.Action.TheVariants as action
use Rattle.pocket_types.specs.declared.requests.Ask.{Ask}
use Rattle.pocket_types.specs.declared.resolved.Resolved.{Resolved}
use Rattle.pocket_types.specs.declared.world.World.{World}
use Rattle.pocket_resolve.specs.Fields.{collection_named}
use Rattle.pocket_meaning.specs.Meaning.{holds}
use Rattle.pocket_plan.specs.Cutting.{passes, view_named}
use Rattle.pocket_plan.specs.declared.guard.ViewTest.{ViewTest}
use Rattle.pocket_plan.specs.declared.guard.ViewTest.TheVariants as test
use Rattle.pocket_gate.specs.Built.{filter_test, guard_of, rules_of, test_of, test_verdict, view_for, views_for, views_in}
use Rattle.pocket_gate.specs.Rules.{filter_verdict, is_allowed, rule_filter, rule_for, rule_verdict, verdict}
use Rattle.pocket_gate.specs.declared.verdict.Verdict.{Verdict}
use Rattle.pocket_gate.specs.declared.verdict.Verdict.TheVariants as verdict_is

-- ---- look-ups

pub find-map : {A B : Type 0} (f : A → B) (p : B → Bool) (xs : List A) → find p (map f xs) ≡ option_map f (find (λ x. p (f x)) xs)
find-map f p [] = refl
find-map f p (x ∷ xs) = by (find-map f p xs) (p (f x))
  where
    by : find p (map f xs) ≡ option_map f (find (λ y. p (f y)) xs) → (b : Bool)
        → cond b (Some (f x)) (find p (map f xs)) ≡ option_map f (cond b (Some x) (find (λ y. p (f y)) xs))
    by rest true = refl
    by rest false = rest

-- the view of a name is that of the collection of this name
pub view_named-views_for : (cs : List Collection) (act : Action) (name : Name)
    → view_named name (views_for cs act) ≡ option_map (view_for cs act) (collection_named cs name)
view_named-views_for cs act name = find-map (view_for cs act) (λ v. bytes_eq v.collection name) cs

-- what is found by a name bears it
pub found_bears_name : (cs : List Collection) (name : List ℕ) (c : Collection) → collection_named cs name ≡ Some c → c.name ≡ name
found_bears_name [] name c e = cc
found_bears_name (d ∷ ds) name c e = by (found_bears_name ds name c) (bytes_eq d.name name) refl e
  where
    by : (collection_named ds name ≡ Some c → c.name ≡ name) → (b : Bool) → bytes_eq d.name name ≡ b
        → cond b (Some d) (collection_named ds name) ≡ Some c → c.name ≡ name
    by rest true f e = let same : d.name ≡ name = (bytes_eq-Decides d.name name).0 f in cc
    by rest false f e = rest e

-- ---- tests

-- a rule's test says what the rule says
pub test_verdict-test_of : (w : World) (ask : Ask) (act : Action) (name : Name) (r : Rec) (x : Rule)
    → test_verdict w ask act name r (test_of (collections_of w) name x) ≡ rule_verdict w ask act name r x
test_verdict-test_of w ask act name r rule.Locked = refl
test_verdict-test_of w ask act name r rule.Free = refl
test_verdict-test_of w ask act name r (rule.Filter text) = by (rule_filter (collections_of w) name text)
  where
    by : (o : Option Resolved) → test_verdict w ask act name r (filter_test o) ≡ filter_verdict w ask act name r o
    by None = refl
    by (Some f) = refl

-- a view admits a record where its test says so
pub passes-allowed : (w : World) (ask : Ask) (act : Action) (name : Name) (r : Rec) (t : ViewTest)
    → passes w ask name r t ≡ is_allowed (test_verdict w ask act name r t)
passes-allowed w ask act name r test.All = refl
passes-allowed w ask act name r test.Nobody = refl
passes-allowed w ask act name r (test.ByPlan f) = by (holds w ask name r f)
  where
    by : (b : Bool) → b ≡ is_allowed (cond b verdict_is.Allowed (verdict_is.RuleFalse name act))
    by true = refl
    by false = refl

-- the verdict for others than the administrator
pub verdict-rule_verdict : (w : World) (ask : Ask) (act : Action) (c : Collection) (r : Rec) → is_admin ask.caller ≡ false
    → verdict w ask act c r ≡ rule_verdict w ask act c.name r (rule_for act c)
unfolding verdict
verdict-rule_verdict w ask act c r e = ap (λ b. cond b verdict_is.Allowed (rule_verdict w ask act c.name r (rule_for act c))) e

-- ---- rules

pub views_in-rules_of : (cs : List Collection) (act : Action) → views_in (rules_of cs) act ≡ views_for cs act
unfolding rules_of guard_of
views_in-rules_of cs action.List = refl
views_in-rules_of cs action.View = refl
views_in-rules_of cs action.Create = refl
views_in-rules_of cs action.Update = refl
views_in-rules_of cs action.Delete = refl

-- the test that is found for a collection of this name
abbrev test_for : List Collection → Action → Collection → ViewTest
test_for cs act c = test_of cs c.name (rule_for act c)

pub test_found : (cs : List Collection) (act : Action) (name : Name)
    → option_map (λ v. v.test) (view_named name (views_for cs act)) ≡ option_map (test_for cs act) (collection_named cs name)
test_found cs act name = ap (option_map (λ v. v.test)) (view_named-views_for cs act name) ∙ by (collection_named cs name)
  where
    by : (o : Option Collection) → option_map (λ v. v.test) (option_map (view_for cs act) o) ≡ option_map (test_for cs act) o
    by None = refl
    by (Some c) = refl

-- what the test that is found says is the verdict
pub verdict_found : {E : Type 0} (w : World) (ask : Ask) (act : Action) (name : Name) (r : Rec) (t : ViewTest) (result : Result Verdict E) → is_admin ask.caller ≡ false
    → Some t ≡ option_map (λ v. v.test) (view_named name (views_for (collections_of w) act)) → IfOk result (λ v. v ≡ test_verdict w ask act name r t)
    → IfSome (collection_named (collections_of w) name) (λ c. IfOk result (λ v. v ≡ verdict w ask act c r))
verdict_found {E} w ask act name r t result other found said = by (collection_named (collections_of w) name) refl (found ∙ test_found (collections_of w) act name) result said
  where
    at_name : (c : Collection) → c.name ≡ name → t ≡ test_for (collections_of w) act c → test_verdict w ask act name r t ≡ verdict w ask act c r
    at_name c named is =
        ap (λ n. test_verdict w ask act n r t) (sym named) ∙ ap (test_verdict w ask act c.name r) is
        ∙ test_verdict-test_of w ask act c.name r (rule_for act c) ∙ sym (verdict-rule_verdict w ask act c r other)

    by : (o : Option Collection) → collection_named (collections_of w) name ≡ o → Some t ≡ option_map (test_for (collections_of w) act) o
        → (a : Result Verdict E) → IfOk a (λ v. v ≡ test_verdict w ask act name r t) → IfSome o (λ c. IfOk a (λ v. v ≡ verdict w ask act c r))
    by None there is a h = tt
    by (Some c) there is (Ok v) h = h ∙ at_name c (found_bears_name (collections_of w) name c there) cc
    by (Some c) there is (Err e) h = tt

-- a collection that is there has its test
pub test_there : (cs : List Collection) (act : Action) (name : Name) → IsSome (collection_named cs name)
    → None ≡ option_map (λ v. v.test) (view_named name (views_for cs act)) → ⊥
test_there cs act name there none = by (collection_named cs name) there (none ∙ test_found cs act name)
  where
    by : (o : Option Collection) → IsSome o → None ≡ option_map (test_for cs act) o → ⊥
    by None h e = cc
    by (Some c) h e = cc

-- the administrator is admitted
pub admin_verdict : (w : World) (ask : Ask) (act : Action) (r : Rec) → is_admin ask.caller ≡ true → (o : Option Collection)
    → IfSome o (λ c. verdict_is.Allowed ≡ verdict w ask act c r)
unfolding verdict
admin_verdict w ask act r e None = tt
admin_verdict w ask act r e (Some c) = sym (ap (λ b. cond b verdict_is.Allowed (rule_verdict w ask act c.name r (rule_for act c))) e)
