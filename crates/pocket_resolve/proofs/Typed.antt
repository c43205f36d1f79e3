-- Every filter that is resolved is typed.
use Rattle.std.proofs.Common.{◌≡◌, inl, inr, ℕ, Bool, true, false, ◌&&◌, cond, List, [], ◌∷◌, Option, Some, None, Ok, codes, bytes_eq, refl, subst}
use Rattle.std.specs.Prelude.{option_and_then, unwrap_or}
use Rattle.pocket_types.specs.Kinds.{is_multiple, target_of}
use Rattle.pocket_types.specs.declared.expr.Expr.{Expr}
use Rattle.pocket_types.specs.declared.expr.Operand.{Operand}
use Rattle.pocket_types.specs.declared.expr.Operand.TheVariants as operand
use Rattle.pocket_types.specs.declared.expr.Part.{Part}
use Rattle.pocket_types.specs.declared.records.Collection.{Collection}
use Rattle.pocket_types.specs.declared.records.Field.{Field}
use Rattle.pocket_types.specs.declared.records.Kind.{Kind}
use Rattle.pocket_types.specs.declared.resolved.Leaf.{Leaf}
use Rattle.pocket_types.specs.declared.resolved.Modifier.{Modifier}
use Rattle.pocket_types.specs.declared.resolved.Modifier.TheVariants as modifier
use Rattle.pocket_types.specs.declared.resolved.Prefix.{Prefix}
use Rattle.pocket_types.specs.declared.resolved.Resolved.{Resolved}
use Rattle.pocket_types.specs.declared.resolved.Root.TheVariants as root
use Rattle.pocket_resolve.specs.declared.ends.Reading.{Reading}
use Rattle.pocket_resolve.specs.declared.ends.Reading.TheVariants.{As, Items}
use Rattle.pocket_resolve.specs.declared.names.Requested.{Requested}
use Rattle.pocket_resolve.specs.declared.names.Requested.TheVariants as requested
use Rattle.pocket_resolve.specs.declared.purpose.Purpose.{Purpose}
use Rattle.pocket_resolve.specs.Fields.{collection_named, field_named}
use Rattle.pocket_resolve.specs.Filters.{home_of, setting, resolution}
use Rattle.pocket_resolve.specs.Names.{is_built_in, requested_part, macro_named}
use Rattle.pocket_resolve.specs.Paths.{Setting, Place, Of, Caller, place_named, field_at, no_suffix, reading_of, leaf_read, End, along}
use Rattle.pocket_resolve.specs.Roots.{first_part, no_part, is_privileged, value_modifier, value_name, header, query, body_field, body_reading, body_leaf, sent_end, sent_on, sent_field, request_path, of_request, of_collection, of_macro, of_first, of_sign, of_path, side, bare}
use Rattle.pocket_resolve.specs.Typing.{IsRecordOf, Leads, StandsAt, fits, fits_sent, fits_text, IsSideTyped, IsTyped}
use Rattle.pocket_resolve.proofs.Sides.{resolved_sides}
use Rattle.pocket_resolve.proofs.Walks.{value_of, some_of, no_value, nothing, both_ok, was_there, was_let, collection_again, field_again, Reads, reads, EndsWith, Ends, IsKept, go_on, along_ends, home_ends}

-- ---- paths

-- a prefix with a step more stands where the step leads
stands_on : (s : Setting) → IsKept s (StandsAt s.collections s.home)
stands_on s prefix place taken here goes =
    (here.0, here.1, go_on (Leads s.collections) here.0 prefix.steps place taken.1 taken.0 here.2 goes.0)

read_typed : (s : Setting) (prefix : Prefix) (place : Place) (f : Field) (r : Reading) → StandsAt s.collections s.home prefix place → field_at s.collections place f.name ≡ Some f → Reads s.any f.kind r → IsSideTyped s.collections s.home s.any (leaf_read prefix f.name r)
read_typed s prefix place f (As m) stands found fitting = inr (place, stands, (f, found, fitting))
read_typed s prefix place f Items stands found fitting = (prefix.steps, f.name, refl, inl (place, stands, (f, found, fitting)))

end_typed : (s : Setting) (prefix : Prefix) (place : Place) (end : End) → StandsAt s.collections s.home prefix place → EndsWith s place end → IsSideTyped s.collections s.home s.any (leaf_read prefix end.0 end.1)
end_typed s prefix place end stands (inl e) =
    subst (λ x. IsSideTyped s.collections s.home s.any (leaf_read prefix x.0 x.1)) e.2 (inl (place, stands, e.1, refl))
end_typed s prefix place end stands (inr e) =
    subst (λ x. IsSideTyped s.collections s.home s.any (leaf_read prefix x.0 x.1)) e.5 (read_typed s prefix place e.0 e.1 stands e.2 e.3)

ends_typed : (s : Setting) (l : Leaf) → Ends s (StandsAt s.collections s.home) l → IsSideTyped s.collections s.home s.any l
ends_typed s l e = subst (IsSideTyped s.collections s.home s.any) e.5 (end_typed s e.0 e.1 e.2 e.3 e.4)

along_typed : (s : Setting) (behind : List ℕ) (place : Place) (prefix : Prefix) (parts : List Part) (l : Leaf) → StandsAt s.collections s.home prefix place → along s behind place prefix parts ≡ Ok l → IsSideTyped s.collections s.home s.any l
along_typed s behind place prefix parts l stands h =
    ends_typed s l (along_ends s (StandsAt s.collections s.home) (stands_on s) behind place prefix parts l stands h)

-- ---- the request

suffix_fits : (m : Modifier) (a b : Bool) → cond a (Some modifier.Lower) (cond b (Some modifier.Isset) None) ≡ Some m → fits_text m ≡ true
suffix_fits m true b h = subst (λ k. fits_text k ≡ true) (some_of h) refl
suffix_fits m false true h = subst (λ k. fits_text k ≡ true) (some_of h) refl
suffix_fits m false false h = absurd (nothing h)

text_fits : (suffix : Option (List ℕ)) (m : Modifier) → value_modifier suffix ≡ Some m → fits_text m ≡ true
unfolding value_modifier
text_fits None m h = subst (λ k. fits_text k ≡ true) (some_of h) refl
text_fits (Some suffix) m h = suffix_fits m (bytes_eq suffix (codes "lower")) (bytes_eq suffix (codes "isset")) h

name_fits : (s : Setting) (behind : List ℕ) (parts : List Part) (found : List ℕ × Modifier) → value_name s behind parts ≡ Ok found → fits_text found.1 ≡ true
unfolding value_name
name_fits s behind [] found h = absurd (no_value h)
name_fits s behind (part ∷ []) found h =
    let a = was_there (value_modifier part.suffix) _ _ _ h in
    subst (λ x. fits_text x.1 ≡ true) (value_of a.2) (text_fits part.suffix a.0 a.1)
name_fits s behind (part ∷ next ∷ parts) found h = absurd (no_value (both_ok (no_suffix s part) _ _ h).2)

header_typed : (s : Setting) (behind : List ℕ) (parts : List Part) (l : Leaf) → header s behind parts ≡ Ok l → IsSideTyped s.collections s.home s.any l
unfolding header
header_typed s behind parts l h =
    let a = both_ok (value_name s behind parts) _ _ h in
    subst (IsSideTyped s.collections s.home s.any) (value_of a.2) (name_fits s behind parts a.0 a.1)

query_typed : (s : Setting) (behind : List ℕ) (parts : List Part) (l : Leaf) → query s behind parts ≡ Ok l → IsSideTyped s.collections s.home s.any l
unfolding query
query_typed s behind parts l h =
    let a = both_ok (value_name s behind parts) _ _ h in
    subst (IsSideTyped s.collections s.home s.any) (value_of a.2) (name_fits s behind parts a.0 a.1)

-- what a reading takes of a sent field fits its kind
abbrev ReadsSent : Bool → Kind → Reading → Type 0
ReadsSent any kind (As m) = fits_sent any m kind ≡ true
ReadsSent any kind Items = is_multiple kind ≡ true

fits_sent_too : (any : Bool) (m : Modifier) (kind : Kind) → fits any m kind ≡ true → fits_sent any m kind ≡ true
fits_sent_too any modifier.Isset kind h = refl
fits_sent_too any modifier.Plain kind h = h
fits_sent_too any modifier.Length kind h = h
fits_sent_too any modifier.Lower kind h = h

reads_sent_too : (any : Bool) (kind : Kind) (r : Reading) → Reads any kind r → ReadsSent any kind r
reads_sent_too any kind (As m) h = fits_sent_too any m kind h
reads_sent_too any kind Items h = h

isset_or_reads : (any : Bool) (kind : Kind) (suffix : List ℕ) (r : Reading) (b : Bool) → cond b (Some (As modifier.Isset)) (reading_of any kind (Some suffix)) ≡ Some r → ReadsSent any kind r
isset_or_reads any kind suffix r true h = subst (ReadsSent any kind) (some_of h) refl
isset_or_reads any kind suffix r false h = reads_sent_too any kind r (reads any kind (Some suffix) r h)

reads_sent : (any : Bool) (kind : Kind) (suffix : Option (List ℕ)) (r : Reading) → body_reading any kind suffix ≡ Some r → ReadsSent any kind r
unfolding body_reading
reads_sent any kind None r h = reads_sent_too any kind r (reads any kind None r h)
reads_sent any kind (Some suffix) r h = isset_or_reads any kind suffix r (bytes_eq suffix (codes "isset")) h

-- a field of the home collection, found by its own name
abbrev IsOfHome : Setting → Field → Type 0
IsOfHome s f = (place : Place) × IsRecordOf s.collections s.home place × (field_at s.collections place f.name ≡ Some f)

home_field : (s : Setting) (name : List ℕ) (f : Field) (o : Option Collection) → collection_named s.collections s.home ≡ o → option_and_then (λ c. field_named c name) o ≡ Some f → IsOfHome s f
home_field s name f (Some c) e h = (Of c, (c, e, refl), field_again s.collections (Of c) name f h)
home_field s name f None e h = absurd (nothing h)

sent_of_home : (s : Setting) (name : List ℕ) (f : Field) (b : Bool) → cond b None (option_and_then (λ c. field_named c name) (collection_named s.collections s.home)) ≡ Some f → IsOfHome s f
sent_of_home s name f true h = absurd (nothing h)
sent_of_home s name f false h = home_field s name f (collection_named s.collections s.home) refl h

sent_read_typed : (s : Setting) (f : Field) (r : Reading) → IsOfHome s f → ReadsSent s.any f.kind r → IsSideTyped s.collections s.home s.any (body_leaf f.name r)
sent_read_typed s f (As m) of_home fitting = (of_home.0, of_home.1, (f, of_home.2, fitting))
sent_read_typed s f Items of_home fitting = ([], f.name, refl, inr (refl, refl, (of_home.0, of_home.1, (f, of_home.2, fitting))))

sent_end_typed : (s : Setting) (part : Part) (l : Leaf) → sent_end s part ≡ Ok l → IsSideTyped s.collections s.home s.any l
unfolding sent_end
sent_end_typed s part l h =
    let a = was_there (body_field s part.name) _ _ _ h in
    let f : Field = a.0 in
    let b = was_there (body_reading s.any f.kind part.suffix) _ _ _ a.2 in
    subst (IsSideTyped s.collections s.home s.any) (value_of b.2)
    (sent_read_typed s f b.0 (sent_of_home s part.name f (is_built_in part.name) a.1) (reads_sent s.any f.kind part.suffix b.0 b.1))

sent_on_fails : (s : Setting) (part next : Part) (l : Leaf) → sent_on s part next ≡ Ok l → ⊥
unfolding sent_on
sent_on_fails s part next l h =
    let a = was_there (body_field s part.name) _ _ _ h in
    let b = was_there (target_of a.0.kind) _ _ _ a.2 in
    no_value (both_ok (no_suffix s part) _ _ b.2).2

sent_typed : (s : Setting) (behind : List ℕ) (parts : List Part) (l : Leaf) → sent_field s behind parts ≡ Ok l → IsSideTyped s.collections s.home s.any l
unfolding sent_field
sent_typed s behind [] l h = absurd (no_value h)
sent_typed s behind (part ∷ []) l h = sent_end_typed s part l h
sent_typed s behind (part ∷ next ∷ parts) l h = absurd (sent_on_fails s part next l h)

-- ---- beginnings

request_typed : (which : Requested) (s : Setting) (behind : List ℕ) (parts : List Part) (l : Leaf) → request_path which s behind parts ≡ Ok l → IsSideTyped s.collections s.home s.any l
request_typed requested.Context s behind parts l h = subst (IsSideTyped s.collections s.home s.any) (value_of (both_ok (no_part parts) _ _ h).2) tt
request_typed requested.Method s behind parts l h = subst (IsSideTyped s.collections s.home s.any) (value_of (both_ok (no_part parts) _ _ h).2) tt
request_typed requested.Headers s behind parts l h = header_typed s behind parts l h
request_typed requested.Query s behind parts l h = query_typed s behind parts l h
request_typed requested.Body s behind parts l h = sent_typed s behind parts l h
request_typed requested.Auth s behind parts l h = along_typed s behind Caller (bare root.Auth) parts l (Caller, refl, refl) h

of_request_typed : (s : Setting) (part : Part) (parts : List Part) (l : Leaf) → of_request s part parts ≡ Ok l → IsSideTyped s.collections s.home s.any l
unfolding of_request
of_request_typed s part parts l h =
    let a = both_ok (no_suffix s part) _ _ h in
    let b = was_there (first_part parts) _ _ _ a.2 in
    let c = was_there (requested_part b.0.0.name) _ _ _ b.2 in
    let d = both_ok (no_suffix s b.0.0) _ _ c.2 in
    request_typed c.0 s b.0.0.name b.0.1 l d.2

of_collection_typed : (s : Setting) (part : Part) (parts : List Part) (l : Leaf) → of_collection s part parts ≡ Ok l → IsSideTyped s.collections s.home s.any l
unfolding of_collection
of_collection_typed s part parts l h =
    let a = both_ok (no_suffix s part) _ _ h in
    let b = was_there (first_part parts) _ _ _ a.2 in
    let c = was_there (collection_named s.collections b.0.0.name) _ _ _ b.2 in
    along_typed s b.0.0.name (Of c.0) (bare (root.Look c.0.name (unwrap_or b.0.0.suffix []))) b.0.1 l
    (Of c.0, (c.0, collection_again s.collections b.0.0.name c.0 c.1, refl), refl) c.2

of_macro_typed : (s : Setting) (part : Part) (parts : List Part) (l : Leaf) → of_macro s part parts ≡ Ok l → IsSideTyped s.collections s.home s.any l
unfolding of_macro
of_macro_typed s part parts l h =
    let a = was_there (macro_named part.name) _ _ _ h in
    let b = both_ok (no_suffix s part) _ _ a.2 in
    subst (IsSideTyped s.collections s.home s.any) (value_of (both_ok (no_part parts) _ _ b.2).2) tt

by_first_typed : (s : Setting) (part : Part) (parts : List Part) (l : Leaf) (a b : Bool) → cond a (of_request s part parts) (cond b (of_collection s part parts) (of_macro s part parts)) ≡ Ok l → IsSideTyped s.collections s.home s.any l
by_first_typed s part parts l true b h = of_request_typed s part parts l h
by_first_typed s part parts l false true h = of_collection_typed s part parts l h
by_first_typed s part parts l false false h = of_macro_typed s part parts l h

sign_typed : (s : Setting) (parts : List Part) (l : Leaf) → of_sign s parts ≡ Ok l → IsSideTyped s.collections s.home s.any l
unfolding of_sign of_first
sign_typed s [] l h = absurd (no_value h)
sign_typed s (part ∷ parts) l h = by_first_typed s part parts l (bytes_eq part.name (codes "request")) (bytes_eq part.name (codes "collection")) h

home_typed : (s : Setting) (parts : List Part) (l : Leaf) → along s [] (place_named s.collections s.home) (bare root.Home) parts ≡ Ok l → IsSideTyped s.collections s.home s.any l
home_typed s parts l h =
    ends_typed s l (home_ends s (StandsAt s.collections s.home) (stands_on s) (λ place there. (place, there, refl)) parts l h)

path_typed : (s : Setting) (sign : Bool) (parts : List Part) (l : Leaf) → of_path s sign parts ≡ Ok l → IsSideTyped s.collections s.home s.any l
unfolding of_path
path_typed s false parts l h = home_typed s parts l h
path_typed s true parts l h = sign_typed s parts l (was_let (s.guarded && is_privileged parts) _ _ _ h).1

side_typed : (s : Setting) (o : Operand) (l : Leaf) → side s o ≡ Ok l → IsSideTyped s.collections s.home s.any l
unfolding side
side_typed s (operand.Ident sign parts) l h = path_typed s sign parts l h
side_typed s (operand.Text text) l h = subst (IsSideTyped s.collections s.home s.any) (value_of h) tt
side_typed s (operand.Num n) l h = subst (IsSideTyped s.collections s.home s.any) (value_of h) tt
side_typed s (operand.Flag b) l h = subst (IsSideTyped s.collections s.home s.any) (value_of h) tt
side_typed s operand.Null l h = subst (IsSideTyped s.collections s.home s.any) (value_of h) tt

-- every filter that an expression resolves to is typed
pub resolved_is_typed : (collections : List Collection) (p : Purpose) (e : Expr) (filter : Resolved) → resolution collections p e ≡ Ok filter → IsTyped collections (home_of p) filter
unfolding IsTyped
resolved_is_typed collections p e filter h =
    resolved_sides collections p (λ s. IsSideTyped collections (home_of p) s.0 s.1) (λ n any o l is. side_typed (setting collections p n any) o l is) e filter h
