-- Every filter that is resolved for a client is safe.
use Rattle.std.proofs.Common.{◌≡◌, inl, inr, Bool, true, false, ◌&&◌, ◌||◌, cond, List, [], ◌∷◌, Some, Ok, codes, bytes_eq, refl, subst}
use Rattle.pocket_types.specs.declared.expr.Expr.{Expr}
use Rattle.pocket_types.specs.declared.expr.Operand.{Operand}
use Rattle.pocket_types.specs.declared.expr.Operand.TheVariants as operand
use Rattle.pocket_types.specs.declared.expr.Part.{Part}
use Rattle.pocket_types.specs.declared.records.Collection.{Collection}
use Rattle.pocket_types.specs.declared.records.Field.{Field}
use Rattle.pocket_types.specs.declared.resolved.Leaf.{Leaf}
use Rattle.pocket_types.specs.declared.resolved.Prefix.{Prefix}
use Rattle.pocket_types.specs.declared.resolved.Resolved.{Resolved}
use Rattle.pocket_types.specs.declared.resolved.Root.TheVariants as root
use Rattle.pocket_resolve.specs.declared.ends.Reading.{Reading}
use Rattle.pocket_resolve.specs.declared.ends.Reading.TheVariants.{As, Items}
use Rattle.pocket_resolve.specs.declared.purpose.Purpose.{Purpose}
use Rattle.pocket_resolve.specs.Filters.{home_of, is_guarded, setting, resolution}
use Rattle.pocket_resolve.specs.Names.{macro_named}
use Rattle.pocket_resolve.specs.Paths.{Setting, Place, field_at, place_named, leaf_read, End, no_suffix, along}
use Rattle.pocket_resolve.specs.Roots.{no_part, is_privileged, of_request, of_collection, of_macro, of_first, of_sign, of_path, side, bare}
use Rattle.pocket_resolve.specs.Safety.{LeadsShown, IsOwnPath, IsSideSafe, IsSafe}
use Rattle.pocket_resolve.proofs.Sides.{resolved_sides}
use Rattle.pocket_resolve.proofs.Walks.{value_of, no_value, both_ok, was_there, was_let, second_fails, EndsWith, Ends, IsKept, go_on, home_ends}

-- an own path goes on by a field that isn't hidden
own_on : (s : Setting) → s.guarded ≡ true → IsKept s (IsOwnPath s.collections s.home)
own_on s g prefix place taken here goes =
    (here.0, here.1, here.2, go_on (LeadsShown s.collections) here.1 prefix.steps place taken.1 taken.0 here.3 (goes.1 g))

read_safe : (s : Setting) (prefix : Prefix) (place : Place) (f : Field) (r : Reading) → IsOwnPath s.collections s.home prefix place → field_at s.collections place f.name ≡ Some f → f.hidden ≡ false → IsSideSafe s.collections s.home (leaf_read prefix f.name r)
read_safe s prefix place f (As m) own found shown = (place, own, inr (f, found, shown))
read_safe s prefix place f Items own found shown = (prefix.steps, f.name, place, refl, own, (f, found, shown))

end_safe : (s : Setting) → s.guarded ≡ true → (prefix : Prefix) (place : Place) (end : End) → IsOwnPath s.collections s.home prefix place → EndsWith s place end → IsSideSafe s.collections s.home (leaf_read prefix end.0 end.1)
end_safe s g prefix place end own (inl e) =
    subst (λ x. IsSideSafe s.collections s.home (leaf_read prefix x.0 x.1)) e.2 (place, own, inl e.1)
end_safe s g prefix place end own (inr e) =
    subst (λ x. IsSideSafe s.collections s.home (leaf_read prefix x.0 x.1)) e.5 (read_safe s prefix place e.0 e.1 own e.2 (e.4 g))

home_safe : (s : Setting) → s.guarded ≡ true → (parts : List Part) (l : Leaf) → along s [] (place_named s.collections s.home) (bare root.Home) parts ≡ Ok l → IsSideSafe s.collections s.home l
home_safe s g parts l h =
    let e : Ends s (IsOwnPath s.collections s.home) l = home_ends s (IsOwnPath s.collections s.home) (own_on s g) (λ place there. (refl, place, there, refl)) parts l h in
    subst (IsSideSafe s.collections s.home) e.5 (end_safe s g e.0 e.1 e.2 e.3 e.4)

macro_safe : (s : Setting) (part : Part) (parts : List Part) (l : Leaf) → of_macro s part parts ≡ Ok l → IsSideSafe s.collections s.home l
unfolding of_macro
macro_safe s part parts l h =
    let a = was_there (macro_named part.name) _ _ _ h in
    let b = both_ok (no_suffix s part) _ _ a.2 in
    subst (IsSideSafe s.collections s.home) (value_of (both_ok (no_part parts) _ _ b.2).2) tt

-- behind `@` a client has macros alone
by_first_safe : (s : Setting) (part : Part) (parts : List Part) (l : Leaf) (a b : Bool) → (a || b) ≡ false → cond a (of_request s part parts) (cond b (of_collection s part parts) (of_macro s part parts)) ≡ Ok l → IsSideSafe s.collections s.home l
by_first_safe s part parts l true b none h = absurd (cc none)
by_first_safe s part parts l false true none h = absurd (cc none)
by_first_safe s part parts l false false none h = macro_safe s part parts l h

sign_safe : (s : Setting) (parts : List Part) (l : Leaf) → is_privileged parts ≡ false → of_sign s parts ≡ Ok l → IsSideSafe s.collections s.home l
unfolding of_sign of_first
sign_safe s [] l none h = absurd (no_value h)
sign_safe s (part ∷ parts) l none h = by_first_safe s part parts l (bytes_eq part.name (codes "request")) (bytes_eq part.name (codes "collection")) none h

path_safe : (s : Setting) → s.guarded ≡ true → (sign : Bool) (parts : List Part) (l : Leaf) → of_path s sign parts ≡ Ok l → IsSideSafe s.collections s.home l
unfolding of_path
path_safe s g false parts l h = home_safe s g parts l h
path_safe s g true parts l h =
    let a = was_let (s.guarded && is_privileged parts) _ _ _ h in
    sign_safe s parts l (second_fails s.guarded (is_privileged parts) a.0 g) a.1

side_safe : (s : Setting) → s.guarded ≡ true → (o : Operand) (l : Leaf) → side s o ≡ Ok l → IsSideSafe s.collections s.home l
unfolding side
side_safe s g (operand.Ident sign parts) l h = path_safe s g sign parts l h
side_safe s g (operand.Text text) l h = subst (IsSideSafe s.collections s.home) (value_of h) tt
side_safe s g (operand.Num n) l h = subst (IsSideSafe s.collections s.home) (value_of h) tt
side_safe s g (operand.Flag b) l h = subst (IsSideSafe s.collections s.home) (value_of h) tt
side_safe s g operand.Null l h = subst (IsSideSafe s.collections s.home) (value_of h) tt

-- every filter that an expression resolves to for a client is safe
pub resolved_is_safe : (collections : List Collection) (p : Purpose) (e : Expr) (filter : Resolved) → is_guarded p ≡ true → resolution collections p e ≡ Ok filter → IsSafe collections (home_of p) filter
unfolding IsSafe
resolved_is_safe collections p e filter g h =
    resolved_sides collections p (λ s. IsSideSafe collections (home_of p) s.1) (λ n any o l is. side_safe (setting collections p n any) g o l is) e filter h
