-- What holds of each side that resolves holds of all sides of a resolved filter.
use Rattle.std.proofs.Common.{◌≡◌, ℕ, ◌+◌, Bool, List, [], ◌∷◌, ◌++◌, All, Result, Ok, Err, refl, sym, ap, ◌∙◌, subst}
use Rattle.std.specs.Result.{result_and}
use Rattle.std.proofs.lemmas.List.Elements.{All-nil, All-cons, All-append}
use Rattle.pocket_types.specs.Inductions.{expr_induction, resolved_test, resolved_and, resolved_or}
use Rattle.pocket_types.specs.declared.expr.Expr.{Expr}
use Rattle.pocket_types.specs.declared.expr.Op.{Op}
use Rattle.pocket_types.specs.declared.expr.Operand.{Operand}
use Rattle.pocket_types.specs.declared.faults.ResolveFault.{ResolveFault}
use Rattle.pocket_types.specs.declared.records.Collection.{Collection}
use Rattle.pocket_types.specs.declared.resolved.Leaf.{Leaf}
use Rattle.pocket_types.specs.declared.resolved.Resolved.{Resolved}
use Rattle.pocket_types.specs.declared.resolved.Resolved.TheOpen as resolved
use Rattle.pocket_types.specs.declared.resolved.Resolved.TheViews.{roll-Resolved}
use Rattle.pocket_resolve.specs.declared.purpose.Purpose.{Purpose}
use Rattle.pocket_types.specs.declared.faults.ResolveFault.TheVariants as fault
use Rattle.pocket_types.specs.Chains.{refuse}
use Rattle.pocket_resolve.specs.Answers.{Gives}
use Rattle.pocket_resolve.specs.Filters.{Numbered, setting, test_from, filter_from, has_too_many, resolution}
use Rattle.pocket_resolve.specs.Roots.{side}
use Rattle.pocket_resolve.specs.Typing.{Side, sides_step, sides}
use Rattle.pocket_resolve.proofs.FilterLemmas.{from_test, from_and, from_or, same_test, same_and, same_or}
use Rattle.pocket_resolve.proofs.Walks.{value_of, both_ok, was_let}

sides_of_test : (l : Leaf) (any : Bool) (o : Op) (r : Leaf) → (any, l) ∷ (any, r) ∷ [] ≡ sides (roll-Resolved (resolved.Test l any o r))
sides_of_test l any o r = sym (resolved_test (List Side) sides_step l any o r) ∙ ap sides (same_test l any o r)

sides_of_and : (a b : Resolved) → sides a ++ sides b ≡ sides (roll-Resolved (resolved.And a b))
sides_of_and a b = sym (resolved_and (List Side) sides_step a b) ∙ ap sides (same_and a b)

sides_of_or : (a b : Resolved) → sides a ++ sides b ≡ sides (roll-Resolved (resolved.Or a b))
sides_of_or a b = sym (resolved_or (List Side) sides_step a b) ∙ ap sides (same_or a b)

-- each side that resolves has a property
abbrev EachSide : List Collection → Purpose → (Side → Type 0) → Type 0
EachSide collections p P = (n : ℕ) (any : Bool) (o : Operand) (l : Leaf) → side (setting collections p n any) o ≡ Ok l → P (any, l)

test_sides : (collections : List Collection) (p : Purpose) (P : Side → Type 0) → EachSide collections p P → (l : Operand) (any : Bool) (o : Op) (r : Operand) (n : ℕ) (found : Numbered) → test_from collections p l any o r n ≡ Ok found → All P (sides found.0)
unfolding test_from
test_sides collections p P each l any o r n found h =
    let a = both_ok (side (setting collections p n any) l) _ _ h in
    let b = both_ok (side (setting collections p (n + 1) any) r) _ _ a.2 in
    subst (λ (f : Numbered). All P (sides f.0)) (value_of b.2)
    (subst (All P) (sides_of_test a.0 any o b.0)
    (All-cons P (any, a.0) ((any, b.0) ∷ []) (each n any l a.0 a.1)
    (All-cons P (any, b.0) [] (each (n + 1) any r b.0 b.1) (All-nil P))))

joined_sides : (P : Side → Type 0) (a b : Resolved) (whole : Resolved) (n : ℕ) (found : Numbered) → (let r : Result Numbered ResolveFault = Ok (whole, n) in r) ≡ Ok found → sides a ++ sides b ≡ sides whole → All P (sides a) → All P (sides b) → All P (sides found.0)
joined_sides P a b whole n found is joined first second =
    subst (λ (f : Numbered). All P (sides f.0)) (value_of is) (subst (All P) joined (All-append P (sides a) (sides b) first second))

found_sides : (collections : List Collection) (p : Purpose) (P : Side → Type 0) → EachSide collections p P → (e : Expr) (n : ℕ) (found : Numbered) → filter_from collections p e n ≡ Ok found → All P (sides found.0)
found_sides collections p P each =
    expr_induction (λ e. (n : ℕ) (found : Numbered) → filter_from collections p e n ≡ Ok found → All P (sides found.0))
    (λ l any o r n found h. test_sides collections p P each l any o r n found (sym (from_test collections p l any o r n) ∙ h))
    (λ a b first second n found h.
    let x = both_ok (filter_from collections p a n) _ _ (sym (from_and collections p a b n) ∙ h) in
    let y = both_ok (filter_from collections p b x.0.1) _ _ x.2 in
    joined_sides P x.0.0 y.0.0 (roll-Resolved (resolved.And x.0.0 y.0.0)) y.0.1 found y.2 (sides_of_and x.0.0 y.0.0) (first n x.0 x.1) (second x.0.1 y.0 y.1))
    (λ a b first second n found h.
    let x = both_ok (filter_from collections p a n) _ _ (sym (from_or collections p a b n) ∙ h) in
    let y = both_ok (filter_from collections p b x.0.1) _ _ x.2 in
    joined_sides P x.0.0 y.0.0 (roll-Resolved (resolved.Or x.0.0 y.0.0)) y.0.1 found y.2 (sides_of_or x.0.0 y.0.0) (first n x.0 x.1) (second x.0.1 y.0 y.1))

-- a filter is the whole resolution, where it has few enough prefixes
pub whole : (collections : List Collection) (p : Purpose) (e : Expr) (filter : Resolved) (n : ℕ) (few : Result (Unit {0}) ResolveFault) → filter_from collections p e 0 ≡ Ok (filter, n) → Gives few (refuse (has_too_many filter) fault.TooManyPrefixes) → Gives (result_and few (Ok filter)) (resolution collections p e)
unfolding resolution
whole collections p e filter n (Ok u) found is = rw (found, is) refl
whole collections p e filter n (Err d) found is = λ h. rw (found, is h) refl

-- all sides of what an expression resolves to have the property
pub resolved_sides : (collections : List Collection) (p : Purpose) (P : Side → Type 0) → EachSide collections p P → (e : Expr) (filter : Resolved) → resolution collections p e ≡ Ok filter → All P (sides filter)
unfolding resolution
resolved_sides collections p P each e filter h =
    let a = both_ok (filter_from collections p e 0) _ _ h in
    let b = was_let (has_too_many a.0.0) _ _ _ a.2 in
    subst (λ f. All P (sides f)) (value_of b.1) (found_sides collections p P each e 0 a.0 a.1)
