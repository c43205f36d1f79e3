-- The laws of choices and truth.
use Rattle.std.specs.Prelude.{◌≡◌, ◌↔◌, Bool, true, false, List, [], ◌∷◌, ◌++◌, IsTrue, IsFalse}
use Rattle.std.specs.List.{list_any, list_all}
use Rattle.pocket_types.specs.Paths.{same_prefix, prefixes_of, with_parents}
use Rattle.pocket_types.specs.declared.expr.Op.{Op}
use Rattle.pocket_types.specs.declared.names.Name.{Name}
use Rattle.pocket_types.specs.declared.records.Rec.{Rec}
use Rattle.pocket_types.specs.declared.requests.Ask.{Ask}
use Rattle.pocket_types.specs.declared.resolved.Leaf.{Leaf}
use Rattle.pocket_types.specs.declared.resolved.Modifier.{Modifier}
use Rattle.pocket_types.specs.declared.resolved.Prefix.{Prefix}
use Rattle.pocket_types.specs.declared.resolved.Resolved.{Resolved}
use Rattle.pocket_types.specs.declared.resolved.Resolved.TheVariants as filter
use Rattle.pocket_types.specs.declared.resolved.Root.{Root}
use Rattle.pocket_types.specs.declared.resolved.Step.{Step}
use Rattle.pocket_types.specs.declared.world.World.{World}
use Rattle.pocket_meaning.specs.Members.{Member}
use Rattle.pocket_meaning.specs.Members as member
use Rattle.pocket_meaning.specs.Prefixes.{any_prefixes}
use Rattle.pocket_meaning.specs.Sights.{Sight, sight}
use Rattle.pocket_meaning.specs.Choices.{Choice, chosen, related, or_nobody, choices, choices_from}
use Rattle.pocket_meaning.specs.Choosing.{IsIn, IsChoice, Holds, bare, then_step, chosen_prefixes, among, HasAll, AreParentsFirst, rest_of, Agrees, IsStart, IsShared}
use Rattle.pocket_meaning.specs.Carrying.{Carries}
use Rattle.pocket_meaning.specs.Meaning.{test_under, test_always, true_under, true_in, holds}

-- two any-match comparisons hold together exactly where one choice makes both true
abbrev pub ConditionsShare : Type 0
ConditionsShare =
    (s : Sight) (l m : Leaf) (o p : Op) (r q : Leaf)
    → IsTrue (true_in s (filter.And (filter.Test l true o r) (filter.Test m true p q))) ↔ ((c : Prefix → Member) × IsChoice s c × IsTrue (test_under s c l o r) × IsTrue (test_under s c m p q))

-- a prefix has chosen nobody where its list is empty
pub record EmptyListIsNobody : Type 0 where
  pub root : (s : Sight) (c : Prefix → Member) → IsChoice s c → (r : Root) → s.roots r ≡ [] → c (bare r) ≡ member.Nobody
  pub step : (s : Sight) (c : Prefix → Member) → IsChoice s c → (p : Prefix) (t : Step) → s.steps t (c p) ≡ [] → c (then_step p t) ≡ member.Nobody
  pub no_other_root : (w : World) (ask : Ask) (home : Name) (rec : Rec) (c : Prefix → Member) → IsChoice (sight w ask home rec) c → (r : Root) → c (bare r) ≡ member.Nobody → (sight w ask home rec).roots r ≡ []
  pub no_other_step : (w : World) (ask : Ask) (home : Name) (rec : Rec) (c : Prefix → Member) → IsChoice (sight w ask home rec) c → (p : Prefix) (t : Step) → c (then_step p t) ≡ member.Nobody → (sight w ask home rec).steps t (c p) ≡ []

-- a filter without any-match prefixes has one choice, the empty one
pub record HasOneChoice : Type 0 where
  pub one : (s : Sight) (f : Resolved) → any_prefixes f ≡ [] → choices s (any_prefixes f) ≡ [] ∷ []
  pub truth : (s : Sight) (f : Resolved) → any_prefixes f ≡ [] → true_in s f ≡ true_under s (chosen []) f

-- a filter is true in a sight, and holds of a record, exactly where some choice of all prefixes makes it true
pub record ListIsRelation : Type 0 where
  pub in_sight : (s : Sight) (f : Resolved) → IsTrue (true_in s f) ↔ Holds s f
  pub of_record : (w : World) (ask : Ask) (home : Name) (rec : Rec) (f : Resolved) → IsTrue (holds w ask home rec f) ↔ Holds (sight w ask home rec) f

-- a plain comparison is true exactly where every choice of all prefixes makes it true
abbrev pub PlainIsEach : Type 0
PlainIsEach = (s : Sight) (l : Leaf) (o : Op) (r : Leaf) → IsTrue (test_always s l o r) ↔ ((c : Prefix → Member) → IsChoice s c → IsTrue (test_under s c l o r))

-- filters are as true in one sight as in another with the same request, sent fields, lists and values
abbrev pub SameSightSameTruth : Type 0
SameSightSameTruth =
    (s t : Sight) → s.ask ≡ t.ask → ((n : Name) → s.sent n ≡ t.sent n) → ((r : Root) → s.roots r ≡ t.roots r)
    → ((p : Step) (m : Member) → s.steps p m ≡ t.steps p m) → ((m : Member) (n : Name) (o : Modifier) → s.values m n o ≡ t.values m n o)
    → (f : Resolved) → true_in s f ≡ true_in t f

-- a filter is as true in a sight as in one whose members are carried over
abbrev pub TruthIsCarried : Type 0
TruthIsCarried = (s t : Sight) (carry : Member → Member) (fits : Prefix → Member → Bool) (f : Resolved) → Carries s t carry fits f → true_in t f ≡ true_in s f

-- Lists of prefixes in any order with parents first, and choices that go on from a start that some choice of all prefixes agrees
-- with: one of them makes a filter true exactly where one of all prefixes does that agrees with the start, and so for 'all'.
pub record AnyOrderServes : Type 0 where
  pub some :
      (s : Sight) (d : Choice) (ps : List Prefix) (f : Resolved)
      → AreParentsFirst [] (chosen_prefixes d ++ ps) → IsStart s d → HasAll (chosen_prefixes d ++ ps) (any_prefixes f)
      → IsTrue (list_any (λ e. true_under s (chosen e) f) (choices_from s ps d)) ↔ ((c : Prefix → Member) × IsChoice s c × Agrees c d × IsTrue (true_under s c f))
  pub each :
      (s : Sight) (d : Choice) (ps : List Prefix) (l : Leaf) (o : Op) (r : Leaf)
      → AreParentsFirst [] (chosen_prefixes d ++ ps) → IsStart s d → HasAll (chosen_prefixes d ++ ps) (prefixes_of l ++ prefixes_of r)
      → IsTrue (list_all (λ e. test_under s (chosen e) l o r) (choices_from s ps d)) ↔ ((c : Prefix → Member) → IsChoice s c → Agrees c d → IsTrue (test_under s c l o r))

-- Starts that every choice of all prefixes agrees with: what is judged from there is the truth itself.
pub record SharedStartServes : Type 0 where
  pub some :
      (s : Sight) (d : Choice) (ps : List Prefix) (f : Resolved)
      → AreParentsFirst [] (chosen_prefixes d ++ ps) → IsShared s d → HasAll (chosen_prefixes d ++ ps) (any_prefixes f)
      → list_any (λ e. true_under s (chosen e) f) (choices_from s ps d) ≡ true_in s f
  pub each :
      (s : Sight) (d : Choice) (ps : List Prefix) (l : Leaf) (o : Op) (r : Leaf)
      → AreParentsFirst [] (chosen_prefixes d ++ ps) → IsShared s d → HasAll (chosen_prefixes d ++ ps) (prefixes_of l ++ prefixes_of r)
      → list_all (λ e. test_under s (chosen e) l o r) (choices_from s ps d) ≡ test_always s l o r

-- What is a start: nothing, a start with one more member of the next list, and what every choice agrees with. A root with one member is shared.
pub record StartsAreMade : Type 0 where
  pub nothing : (s : Sight) → IsStart s []
  pub one_more :
      (s : Sight) (d : Choice) (p : Prefix) (m : Member)
      → AreParentsFirst [] (chosen_prefixes d ++ p ∷ []) → IsStart s d → IsFalse (among (chosen_prefixes d) p) → IsIn m (or_nobody (related s d p))
      → IsStart s (d ++ (p, m) ∷ [])
  pub shared : (s : Sight) (d : Choice) → IsShared s d → IsStart s d
  pub one_member : (s : Sight) (c : Prefix → Member) (r : Root) (m : Member) → IsChoice s c → s.roots r ≡ m ∷ [] → c (bare r) ≡ m

-- What has parents first: prefixes with all that they begin with, and a start with what it lacks of such a list.
pub record OrdersAreMade : Type 0 where
  pub parents : (ps : List Prefix) → AreParentsFirst [] (with_parents ps) × HasAll (with_parents ps) ps
  pub rest :
      (start ps : List Prefix) → AreParentsFirst [] start → AreParentsFirst [] ps
      → AreParentsFirst [] (start ++ rest_of start ps) × ((q : Prefix) → IsTrue (among ps q) → IsTrue (among (start ++ rest_of start ps) q))

-- a part of a filter, all of whose any-match prefixes a choice has
abbrev pub IsChosenIn : Choice → Resolved → Type 0
IsChosenIn d part = (p : Prefix) → IsIn p (any_prefixes part) → IsTrue (list_any (λ x. same_prefix x.0 p) d)

-- a chosen part has the same truth in each choice that goes on; where it is false and has to be true, none of them makes the whole true
pub record ChosenPartIsSettled : Type 0 where
  pub settled : (s : Sight) (ps : List Prefix) (d e : Choice) (part : Resolved) → IsChosenIn d part → IsIn e (choices_from s ps d) → true_under s (chosen e) part ≡ true_under s (chosen d) part
  pub early_end :
      (s : Sight) (ps : List Prefix) (d : Choice) (part whole : Resolved) → ((c : Prefix → Member) → IsTrue (true_under s c whole) → IsTrue (true_under s c part)) → IsChosenIn d part
      → true_under s (chosen d) part ≡ false → list_any (λ e. true_under s (chosen e) whole) (choices_from s ps d) ≡ false
