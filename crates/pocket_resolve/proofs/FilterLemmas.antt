-- One layer of a filter at a time.
use Rattle.std.proofs.Common.{◌≡◌, ◌≢◌, ℕ, Bool, List, Result, Ok, Err, ap, refl, sym, subst, rules}
use Rattle.pocket_types.specs.Inductions.{expr_test, expr_and, expr_or}
use Rattle.pocket_types.specs.declared.expr.Expr.{Expr}
use Rattle.pocket_types.specs.declared.expr.Expr.TheVariants as written
use Rattle.pocket_types.specs.declared.expr.Op.{Op}
use Rattle.pocket_types.specs.declared.expr.Operand.{Operand}
use Rattle.pocket_types.specs.declared.faults.ResolveFault.{ResolveFault}
use Rattle.pocket_types.specs.declared.records.Collection.{Collection}
use Rattle.pocket_types.specs.declared.faults.ResolveFault.TheVariants as fault
use Rattle.pocket_types.specs.declared.resolved.Leaf.{Leaf}
use Rattle.pocket_types.specs.declared.resolved.Resolved.{Resolved, the_lemmas}
use Rattle.pocket_types.specs.declared.resolved.Resolved.TheVariants as made
use Rattle.pocket_types.specs.declared.resolved.Resolved.TheOpen as resolved
use Rattle.pocket_types.specs.declared.resolved.Resolved.TheViews.{roll-Resolved}
use Rattle.pocket_resolve.specs.declared.purpose.Purpose.{Purpose}
use Rattle.pocket_types.specs.Chains.{◌>>=◌}
use Rattle.pocket_resolve.specs.Answers.{made_of, Gives, GivesAs}
use Rattle.pocket_resolve.specs.Filters.{Numbered, filter_step, filter_from, test_from}

ok_of : {A E : Type 0} {x y : A} → (let r : Result A E = Ok x in r) ≡ Ok y → x ≡ y
ok_of e = cc e

err_of : {A E : Type 0} {x y : E} → (let r : Result A E = Err x in r) ≡ Err y → x ≡ y
err_of e = cc e

no_error : {A E : Type 0} {x : A} {e : E} → (let r : Result A E = Ok x in r) ≡ Err e → ⊥
no_error h = absurd (cc h)

no_value : {A E : Type 0} {x : A} {e : E} → (let r : Result A E = Err e in r) ≡ Ok x → ⊥
no_value h = absurd (cc h)

abbrev Answer : Type 0
Answer = ℕ → Result Numbered ResolveFault

pub from_test : (collections : List Collection) (p : Purpose) (l : Operand) (a : Bool) (o : Op) (r : Operand) (n : ℕ) → filter_from collections p (written.Test l a o r) n ≡ test_from collections p l a o r n
unfolding filter_from
from_test collections p l a o r n = ap (λ (f : Answer). f n) (expr_test Answer (filter_step collections p) l a o r)

pub from_and : (collections : List Collection) (p : Purpose) (a b : Expr) (n : ℕ) → filter_from collections p (written.And a b) n ≡ (filter_from collections p a n >>= (λ x. filter_from collections p b x.1 >>= (λ y. Ok (roll-Resolved (resolved.And x.0 y.0), y.1))))
unfolding filter_from
from_and collections p a b n = ap (λ (f : Answer). f n) (expr_and Answer (filter_step collections p) a b)

pub from_or : (collections : List Collection) (p : Purpose) (a b : Expr) (n : ℕ) → filter_from collections p (written.Or a b) n ≡ (filter_from collections p a n >>= (λ x. filter_from collections p b x.1 >>= (λ y. Ok (roll-Resolved (resolved.Or x.0 y.0), y.1))))
unfolding filter_from
from_or collections p a b n = ap (λ (f : Answer). f n) (expr_or Answer (filter_step collections p) a b)

pub same_test : (l : Leaf) (any : Bool) (o : Op) (r : Leaf) → made.Test l any o r ≡ roll-Resolved (resolved.Test l any o r)
same_test l any o r = search (rules, the_lemmas)

pub same_and : (a b : Resolved) → made.And a b ≡ roll-Resolved (resolved.And a b)
same_and a b = search (rules, the_lemmas)

pub same_or : (a b : Resolved) → made.Or a b ≡ roll-Resolved (resolved.Or a b)
same_or a b = search (rules, the_lemmas)

-- what both sides of a join give, the join gives
pub and_whole : (collections : List Collection) (p : Purpose) (a b : Expr) (n n1 n2 : ℕ) (x : Resolved) (rb r : Result Resolved ResolveFault) → filter_from collections p a n ≡ Ok (x, n1) → GivesAs (λ y. (y, n2)) rb (filter_from collections p b n1) → Gives r (made_of (made.And x) rb) → GivesAs (λ y. (y, n2)) r (filter_from collections p (written.And a b) n)
and_whole collections p a b n n1 n2 x (Ok y) (Ok z) first second is =
    let whole : Ok (made.And x y) ≡ Ok z = is in
    rw (from_and collections p a b n, first, second, ← same_and x y, ok_of whole) refl
and_whole collections p a b n n1 n2 x (Ok y) (Err e) first second is = λ h. absurd (no_error (is h))
and_whole collections p a b n n1 n2 x (Err e) (Ok z) first second is = absurd (no_value is)
and_whole collections p a b n n1 n2 x (Err d) (Err e) first second is =
    λ h.
    let same : d ≡ e = err_of (is h) in
    rw (from_and collections p a b n, first, second (subst (λ f. f ≢ fault.Memory) (sym same) h), same) refl

pub or_whole : (collections : List Collection) (p : Purpose) (a b : Expr) (n n1 n2 : ℕ) (x : Resolved) (rb r : Result Resolved ResolveFault) → filter_from collections p a n ≡ Ok (x, n1) → GivesAs (λ y. (y, n2)) rb (filter_from collections p b n1) → Gives r (made_of (made.Or x) rb) → GivesAs (λ y. (y, n2)) r (filter_from collections p (written.Or a b) n)
or_whole collections p a b n n1 n2 x (Ok y) (Ok z) first second is =
    let whole : Ok (made.Or x y) ≡ Ok z = is in
    rw (from_or collections p a b n, first, second, ← same_or x y, ok_of whole) refl
or_whole collections p a b n n1 n2 x (Ok y) (Err e) first second is = λ h. absurd (no_error (is h))
or_whole collections p a b n n1 n2 x (Err e) (Ok z) first second is = absurd (no_value is)
or_whole collections p a b n n1 n2 x (Err d) (Err e) first second is =
    λ h.
    let same : d ≡ e = err_of (is h) in
    rw (from_or collections p a b n, first, second (subst (λ f. f ≢ fault.Memory) (sym same) h), same) refl
