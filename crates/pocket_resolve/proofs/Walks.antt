-- Where a path that resolves leads, and what stands at its end.
use Rattle.std.proofs.Common.{◌≡◌, ◌⊎◌, inl, inr, ℕ, Bool, true, false, not, ◌&&◌, cond, List, [], ◌∷◌, ◌++◌, length, find, filter_map, Option, Some, None, Result, Ok, Err, codes, bytes_eq, refl, sym, ap, ◌∙◌, subst}
use Rattle.std.specs.List.{cons_option, list_all}
use Rattle.std.specs.Option.{option_map_or}
use Rattle.std.specs.Prelude.{nat_le, option_and_then}
use Rattle.std.proofs.lemmas.Slice.Eq.{bytes_eq-Decides}
use Rattle.pocket_types.specs.Kinds.{is_multiple, target_of}
use Rattle.pocket_types.specs.declared.expr.Part.{Part}
use Rattle.pocket_types.specs.declared.faults.ResolveFault.{ResolveFault}
use Rattle.pocket_types.specs.declared.faults.ResolveFault.TheVariants as fault
use Rattle.pocket_types.specs.declared.names.Name.{Name}
use Rattle.pocket_types.specs.declared.records.Collection.{Collection}
use Rattle.pocket_types.specs.declared.records.Field.{Field}
use Rattle.pocket_types.specs.declared.records.Kind.{Kind}
use Rattle.pocket_types.specs.declared.resolved.Leaf.{Leaf}
use Rattle.pocket_types.specs.declared.resolved.Modifier.TheVariants as modifier
use Rattle.pocket_types.specs.declared.resolved.Prefix.{Prefix}
use Rattle.pocket_types.specs.declared.resolved.Root.TheVariants as root
use Rattle.pocket_types.specs.declared.resolved.Step.{Step}
use Rattle.pocket_types.specs.declared.resolved.Step.TheVariants as step
use Rattle.pocket_resolve.specs.declared.ends.Reading.{Reading}
use Rattle.pocket_resolve.specs.declared.ends.Reading.TheVariants.{As, Items}
use Rattle.pocket_types.specs.Chains.{◌>>=◌, or_refuse, refuse}
use Rattle.pocket_resolve.specs.Fields.{collection_named, field_named, auth_field, first, caller_field, has_letters, is_like}
use Rattle.pocket_resolve.specs.Names.{is_built_in, cut_at_via}
use Rattle.pocket_resolve.specs.Paths.{Setting, Place, Of, Caller, Nowhere, place_named, field_at, leads_to, max_steps, may_step, may_see, no_suffix, has_built_in, forward, back_relation, backward, one_step, only_if, reading_of, with_step, leaf_read, End, built_in_end, field_end, back_end, path_end, along}
use Rattle.pocket_resolve.specs.Roots.{bare}
use Rattle.pocket_resolve.specs.Safety.{LeadsShown}
use Rattle.pocket_resolve.specs.Typing.{IsRecordOf, Leads, Along, fits}

-- ---- answers

pub value_of : {A E : Type 0} {x y : A} → (let r : Result A E = Ok x in r) ≡ Ok y → x ≡ y
value_of e = cc e

pub some_of : {A : Type 0} {x y : A} → (let o : Option A = Some x in o) ≡ Some y → x ≡ y
some_of e = cc e

pub no_value : {A E : Type 0} {x : A} {e : E} → (let r : Result A E = Err e in r) ≡ Ok x → ⊥
no_value h = absurd (cc h)

pub nothing : {A : Type 0} {x : A} → (let o : Option A = None in o) ≡ Some x → ⊥
nothing h = absurd (cc h)

-- what two answers after another give, both gave
pub both_ok : {A B : Type 0} (r : Result A ResolveFault) (next : A → Result B ResolveFault) (y : B) → (r >>= next) ≡ Ok y → (x : A) × (r ≡ Ok x) × (next x ≡ Ok y)
both_ok (Ok x) next y h = (x, refl, h)
both_ok (Err e) next y h = absurd (no_value h)

-- what goes on with what is there gives an answer only where it is there
pub was_there : {A B : Type 0} (o : Option A) (e : ResolveFault) (next : A → Result B ResolveFault) (y : B) → (or_refuse o e >>= next) ≡ Ok y → (x : A) × (o ≡ Some x) × (next x ≡ Ok y)
was_there (Some x) e next y h = (x, refl, h)
was_there None e next y h = absurd (no_value h)

-- and behind a test only where the test doesn't hold
pub was_let : {B : Type 0} (b : Bool) (e : ResolveFault) (next : Unit {0} → Result B ResolveFault) (y : B) → (refuse b e >>= next) ≡ Ok y → (b ≡ false) × (next tt ≡ Ok y)
was_let true e next y h = absurd (no_value h)
was_let false e next y h = (refl, h)

-- a test that let through didn't hold
let_through : (b : Bool) (e : ResolveFault) (u : Unit {0}) → refuse b e ≡ Ok u → b ≡ false
let_through true e u h = absurd (no_value h)
let_through false e u h = refl

pub second_fails : (a b : Bool) → (a && b) ≡ false → a ≡ true → b ≡ false
second_fails true b h g = h
second_fails false b h g = absurd (cc g)

negated : (b : Bool) → not b ≡ false → b ≡ true
negated true h = refl
negated false h = absurd (cc h)

-- ---- names

-- what is found has what was sought
here_or_later : {X : Type 0} (p : X → Bool) (x y : X) (rest : Option X) (b : Bool) → p x ≡ b → cond b (Some x) rest ≡ Some y → (rest ≡ Some y → p y ≡ true) → p y ≡ true
here_or_later p x y rest true e h later = subst (λ z. p z ≡ true) (some_of h) e
here_or_later p x y rest false e h later = later h

found_passes : {X : Type 0} (p : X → Bool) (xs : List X) (y : X) → find p xs ≡ Some y → p y ≡ true
found_passes p [] y h = absurd (nothing h)
found_passes p (x ∷ xs) y h = here_or_later p x y (find p xs) (p x) refl h (found_passes p xs y)

same_bytes : (xs ys : List ℕ) → bytes_eq xs ys ≡ true → xs ≡ ys
same_bytes xs ys e = (bytes_eq-Decides xs ys).0 e

collection_name : (collections : List Collection) (name : List ℕ) (c : Collection) → collection_named collections name ≡ Some c → c.name ≡ name
collection_name collections name c h = same_bytes c.name name (found_passes (λ d. bytes_eq d.name name) collections c h)

field_name : (c : Collection) (name : List ℕ) (f : Field) → field_named c name ≡ Some f → f.name ≡ name
field_name c name f h = same_bytes f.name name (found_passes (λ g. bytes_eq g.name name) c.fields f h)

-- a collection that is found is found by its own name
pub collection_again : (collections : List Collection) (name : List ℕ) (c : Collection) → collection_named collections name ≡ Some c → collection_named collections c.name ≡ Some c
collection_again collections name c h =
    subst (λ n. collection_named collections n ≡ Some c) (sym (collection_name collections name c h)) h

if_auth : (b : Bool) (c : Collection) (name : List ℕ) (f : Field) → cond b (field_named c name) None ≡ Some f → f.name ≡ name
if_auth true c name f h = field_name c name f h
if_auth false c name f h = absurd (nothing h)

first_or_later : (c : Collection) (rest : List Field) (f : Field) (name : List ℕ) (o : Option Field) → auth_field name c ≡ o → first (cons_option o rest) ≡ Some f → (first rest ≡ Some f → f.name ≡ name) → f.name ≡ name
first_or_later c rest f name (Some g) e h later = if_auth c.is_auth c name f (e ∙ h)
first_or_later c rest f name None e h later = later h

first_name : (name : List ℕ) (collections : List Collection) (f : Field) → first (filter_map (auth_field name) collections) ≡ Some f → f.name ≡ name
first_name name [] f h = absurd (nothing h)
first_name name (c ∷ cs) f h = first_or_later c (filter_map (auth_field name) cs) f name (auth_field name c) refl h (first_name name cs f)

if_kept : (b : Bool) (f g : Field) → cond b (Some f) None ≡ Some g → f ≡ g
if_kept true f g h = some_of h
if_kept false f g h = absurd (nothing h)

if_first : (keep : Field → Bool) (o : Option Field) (f : Field) → option_and_then (λ g. cond (keep g) (Some g) None) o ≡ Some f → o ≡ Some f
if_first keep (Some g) f h = ap Some (if_kept (keep g) g f h)
if_first keep None f h = absurd (nothing h)

caller_name : (collections : List Collection) (name : List ℕ) (f : Field) → caller_field collections name ≡ Some f → f.name ≡ name
unfolding caller_field
caller_name collections name f h =
    let fields = filter_map (auth_field name) collections in
    first_name name collections f (if_first (λ g. list_all (λ k. is_like g.kind k.kind) fields) (first fields) f h)

place_name : (collections : List Collection) (place : Place) (name : List ℕ) (f : Field) → field_at collections place name ≡ Some f → f.name ≡ name
place_name collections (Of c) name f h = field_name c name f h
place_name collections Caller name f h = caller_name collections name f h
place_name collections Nowhere name f h = absurd (nothing h)

-- a field that is found is found by its own name
pub field_again : (collections : List Collection) (place : Place) (name : List ℕ) (f : Field) → field_at collections place name ≡ Some f → field_at collections place f.name ≡ Some f
field_again collections place name f h =
    subst (λ n. field_at collections place n ≡ Some f) (sym (place_name collections place name f h)) h

-- ---- steps

-- a place by a collection's name is one of its records, where the collection is there
record_there : (collections : List Collection) (name : Name) (o : Option Collection) → collection_named collections name ≡ o → (option_map_or Of o Nowhere ≡ Nowhere) ⊎ IsRecordOf collections name (option_map_or Of o Nowhere)
record_there collections name (Some c) e = inr (c, e, refl)
record_there collections name None e = inl refl

-- a client sees that a field is there
abbrev pub IsSeen : Setting → Field → Type 0
IsSeen s f = s.guarded ≡ true → f.hidden ≡ false

seen : (s : Setting) (f : Field) (u : Unit {0}) → may_see s f ≡ Ok u → IsSeen s f
seen s f u h = second_fails s.guarded f.hidden (let_through (s.guarded && f.hidden) _ u h)

stepped_seen : (s : Setting) (n : ℕ) (part : Part) (f : Field) (u : Unit {0}) → may_step s n part f ≡ Ok u → IsSeen s f
unfolding may_step
stepped_seen s n part f u h =
    let a = both_ok (no_suffix s part) _ _ h in
    seen s f u (was_let (nat_le max_steps n) fault.TooManySteps (λ _. may_see s f) u a.2).1

-- a step leads on, for a client by a field that isn't hidden
abbrev pub Goes : Setting → Place → Step × Place → Type 0
Goes s place taken =
    Leads s.collections place taken.0 taken.1 × (s.guarded ≡ true → LeadsShown s.collections place taken.0 taken.1)

-- where a step that was found leads, if to anywhere
abbrev Moves : Setting → Place → Step × Place → Type 0
Moves s place taken = (taken.1 ≡ Nowhere) ⊎ Goes s place taken

forward_moves : (s : Setting) (place : Place) (n : ℕ) (part : Part) (taken : Step × Place) → forward s place n part ≡ Ok taken → Moves s place taken
unfolding forward
forward_moves s place n part taken h =
    let a = was_let (has_built_in place part.name) _ _ _ h in
    let b = was_there (field_at s.collections place part.name) _ _ _ a.1 in
    let f : Field = b.0 in
    let c = was_there (target_of f.kind) _ _ _ b.2 in
    let target : Name = c.0 in
    let d = both_ok (may_step s n part f) _ _ c.2 in
    let found : field_at s.collections place f.name ≡ Some f = field_again s.collections place part.name f b.1 in
    subst (Moves s place) (value_of d.2)
    (elim (record_there s.collections target (collection_named s.collections target) refl) as (λ _. Moves s place (step.Forward f.name, place_named s.collections target)) [
      | inl gone ↦ inl gone
      | inr there ↦ inr ((f, target, found, c.1, there), λ g. ((f, target, found, c.1, there), (f, found, stepped_seen s n part f d.0 d.1 g)))
    ])

-- what is known of the relation that a back relation goes against
abbrev IsAgainst : List Collection → Place → Collection × Field → Type 0
IsAgainst collections place found =
    (collection_named collections found.0.name ≡ Some found.0) × (field_named found.0 found.1.name ≡ Some found.1) × (leads_to collections place found.1.kind ≡ true)

back_found : (s : Setting) (place : Place) (from name : List ℕ) (found : Collection × Field) → back_relation s place from name ≡ Ok found → IsAgainst s.collections place found
unfolding back_relation
back_found s place from name found h =
    let a = was_there (collection_named s.collections from) _ _ _ h in
    let b = was_let (is_built_in name) _ _ _ a.2 in
    let c = was_there (field_named a.0 name) _ _ _ b.1 in
    let d = was_let (not (leads_to s.collections place c.0.kind)) _ _ _ c.2 in
    subst (IsAgainst s.collections place) (value_of d.1)
    (collection_again s.collections from a.0 a.1, field_again s.collections (Of a.0) name c.0 c.1, negated (leads_to s.collections place c.0.kind) d.0)

backward_moves : (s : Setting) (place : Place) (n : ℕ) (part : Part) (from name : List ℕ) (taken : Step × Place) → backward s place n part from name ≡ Ok taken → Moves s place taken
unfolding backward
backward_moves s place n part from name taken h =
    let a = both_ok (back_relation s place from name) _ _ h in
    let b = both_ok (may_step s n part a.0.1) _ _ a.2 in
    let is = back_found s place from name a.0 a.1 in
    let leads : Leads s.collections place (step.Back a.0.0.name a.0.1.name) (Of a.0.0) = ((a.0.0, is.0, refl), (a.0.1, is.1, is.2)) in
    subst (Moves s place) (value_of b.2) (inr (leads, λ g. (leads, (a.0.1, is.1, stepped_seen s n part a.0.1 b.0 b.1 g))))

either_moves : (s : Setting) (place : Place) (n : ℕ) (part : Part) (taken : Step × Place) (via : Option (List ℕ × List ℕ)) → option_map_or (λ v. backward s place n part v.0 v.1) via (forward s place n part) ≡ Ok taken → Moves s place taken
either_moves s place n part taken (Some v) h = backward_moves s place n part v.0 v.1 taken h
either_moves s place n part taken None h = forward_moves s place n part taken h

step_moves : (s : Setting) (place : Place) (n : ℕ) (part : Part) (taken : Step × Place) → one_step s place n part ≡ Ok taken → Moves s place taken
unfolding one_step
step_moves s (Of c) n part taken h = either_moves s (Of c) n part taken (cut_at_via part.name) h
step_moves s Caller n part taken h = either_moves s Caller n part taken (cut_at_via part.name) h
step_moves s Nowhere n part taken h = absurd (no_value h)

-- ---- the last part

-- what a reading takes of a field fits its kind
abbrev pub Reads : Bool → Kind → Reading → Type 0
Reads any kind (As m) = fits any m kind ≡ true
Reads any kind Items = is_multiple kind ≡ true

right_holds : (a b : Bool) → (a && b) ≡ true → b ≡ true
right_holds true b h = h
right_holds false b h = absurd (cc h)

bare_reads : (any : Bool) (kind : Kind) (b : Bool) → (any && is_multiple kind) ≡ b → Reads any kind (cond b Items (As modifier.Plain))
bare_reads any kind true e = right_holds any (is_multiple kind) e
bare_reads any kind false e = ap not e

if_only : (b : Bool) (x y : Reading) → only_if b x ≡ Some y → (b ≡ true) × (x ≡ y)
if_only true x y h = (refl, some_of h)
if_only false x y h = absurd (nothing h)

suffix_reads : (any : Bool) (kind : Kind) (r : Reading) (a b c : Bool) → cond a (only_if (is_multiple kind) (As modifier.Length)) (cond b (only_if (is_multiple kind) Items) (cond c (only_if (has_letters kind) (As modifier.Lower)) None)) ≡ Some r → Reads any kind r
suffix_reads any kind r true b c h =
    let o = if_only (is_multiple kind) (As modifier.Length) r h in subst (Reads any kind) o.1 o.0
suffix_reads any kind r false true c h =
    let o = if_only (is_multiple kind) Items r h in subst (Reads any kind) o.1 o.0
suffix_reads any kind r false false true h =
    let o = if_only (has_letters kind) (As modifier.Lower) r h in subst (Reads any kind) o.1 o.0
suffix_reads any kind r false false false h = absurd (nothing h)

pub reads : (any : Bool) (kind : Kind) (suffix : Option (List ℕ)) (r : Reading) → reading_of any kind suffix ≡ Some r → Reads any kind r
unfolding reading_of
reads any kind None r h = subst (Reads any kind) (some_of h) (bare_reads any kind (any && is_multiple kind) refl)
reads any kind (Some suffix) r h = suffix_reads any kind r (bytes_eq suffix (codes "length")) (bytes_eq suffix (codes "each")) (bytes_eq suffix (codes "lower")) h

-- what is known of the end of a path: it is what every record has, plain, or a field, as it is read
abbrev pub EndsWith : Setting → Place → End → Type 0
EndsWith s place end =
    ((name : List ℕ) × (is_built_in name ≡ true) × ((name, As modifier.Plain) ≡ end))
    ⊎ ((f : Field) × (r : Reading) × (field_at s.collections place f.name ≡ Some f) × Reads s.any f.kind r × IsSeen s f × ((f.name, r) ≡ end))

field_ends : (s : Setting) (place : Place) (part : Part) (end : End) → field_end s place part ≡ Ok end → EndsWith s place end
unfolding field_end
field_ends s place part end h =
    let a = was_there (field_at s.collections place part.name) _ _ _ h in
    let f : Field = a.0 in
    let b = was_there (reading_of s.any f.kind part.suffix) _ _ _ a.2 in
    let c = both_ok (may_see s f) _ _ b.2 in
    inr (f, b.0, field_again s.collections place part.name f a.1, reads s.any f.kind part.suffix b.0 b.1, seen s f c.0 c.1, value_of c.2)

built_in_ends : (s : Setting) (place : Place) (part : Part) (end : End) → is_built_in part.name ≡ true → built_in_end s part ≡ Ok end → EndsWith s place end
unfolding built_in_end
built_in_ends s place part end is h =
    let a = both_ok (no_suffix s part) _ _ h in
    inl (part.name, is, value_of a.2)

back_fails : (s : Setting) (place : Place) (part : Part) (from name : List ℕ) (end : End) → back_end s place part from name ≡ Ok end → ⊥
unfolding back_end
back_fails s place part from name end h = no_value (both_ok (back_relation s place from name) _ _ h).2

either_ends : (s : Setting) (place : Place) (part : Part) (end : End) (via : Option (List ℕ × List ℕ)) (b : Bool) → is_built_in part.name ≡ b → option_map_or (λ v. back_end s place part v.0 v.1) via (cond b (built_in_end s part) (field_end s place part)) ≡ Ok end → EndsWith s place end
either_ends s place part end (Some v) b is h = absurd (back_fails s place part v.0 v.1 end h)
either_ends s place part end None true is h = built_in_ends s place part end is h
either_ends s place part end None false is h = field_ends s place part end h

last_ends : (s : Setting) (place : Place) (part : Part) (end : End) → path_end s place part ≡ Ok end → EndsWith s place end
unfolding path_end
last_ends s (Of c) part end h = either_ends s (Of c) part end (cut_at_via part.name) (is_built_in part.name) refl h
last_ends s Caller part end h = either_ends s Caller part end (cut_at_via part.name) (is_built_in part.name) refl h
last_ends s Nowhere part end h = absurd (no_value h)

-- ---- paths

-- steps that go on by one more
pub go_on : (goes : Place → Step → Place → Type 0) (start : Place) (steps : List Step) (place next : Place) (last : Step) → Along goes start steps place → goes place last next → Along goes start (steps ++ last ∷ []) next
go_on goes start [] place next last h on = (next, subst (λ p. goes p last next) (sym h) on, refl)
go_on goes start (s ∷ steps) place next last h on = (h.0, h.1, go_on goes h.0 steps place next last h.2 on)

-- no path goes on from a collection that isn't there
nowhere_fails : (s : Setting) (behind : List ℕ) (prefix : Prefix) (parts : List Part) (l : Leaf) → along s behind Nowhere prefix parts ≡ Ok l → ⊥
unfolding along path_end one_step
nowhere_fails s behind prefix [] l h = no_value h
nowhere_fails s behind prefix (part ∷ []) l h = no_value h
nowhere_fails s behind prefix (part ∷ next ∷ parts) l h = no_value h

-- what each step keeps of a prefix and its place
abbrev pub IsKept : Setting → (Prefix → Place → Type 0) → Type 0
IsKept s P = (prefix : Prefix) (place : Place) (taken : Step × Place) → P prefix place → Goes s place taken → P (with_step prefix taken.0) taken.1

-- a path that resolves ends at a prefix and a place of which that still holds
abbrev pub Ends : Setting → (Prefix → Place → Type 0) → Leaf → Type 0
Ends s P l =
    (prefix : Prefix) × (place : Place) × (end : End) × P prefix place × EndsWith s place end × (leaf_read prefix end.0 end.1 ≡ l)

pub along_ends : (s : Setting) (P : Prefix → Place → Type 0) → IsKept s P → (behind : List ℕ) (place : Place) (prefix : Prefix) (parts : List Part) (l : Leaf) → P prefix place → along s behind place prefix parts ≡ Ok l → Ends s P l
unfolding along
along_ends s P keeps behind place prefix [] l here h = absurd (no_value h)
along_ends s P keeps behind place prefix (part ∷ []) l here h =
    let a = both_ok (path_end s place part) _ _ h in
    (prefix, place, a.0, here, last_ends s place part a.0 a.1, value_of a.2)
along_ends s P keeps behind place prefix (part ∷ next ∷ parts) l here h =
    let a = both_ok (one_step s place (length prefix.steps) part) _ _ h in
    let on = with_step prefix a.0.0 in
    elim (step_moves s place (length prefix.steps) part a.0 a.1) [
      | inl gone ↦ absurd (nowhere_fails s part.name on (next ∷ parts) l (subst (λ p. along s part.name p on (next ∷ parts) ≡ Ok l) gone a.2))
      | inr goes ↦ along_ends s P keeps part.name a.0.1 on (next ∷ parts) l (keeps prefix place a.0 here goes) a.2
    ]

-- a path of the record itself begins at a record of the home collection
pub home_ends : (s : Setting) (P : Prefix → Place → Type 0) → IsKept s P → ((place : Place) → IsRecordOf s.collections s.home place → P (bare root.Home) place) → (parts : List Part) (l : Leaf) → along s [] (place_named s.collections s.home) (bare root.Home) parts ≡ Ok l → Ends s P l
home_ends s P keeps begins parts l h =
    let place = place_named s.collections s.home in
    elim (record_there s.collections s.home (collection_named s.collections s.home) refl) as (λ _. Ends s P l) [
      | inl gone ↦ absurd (nowhere_fails s [] (bare root.Home) parts l (subst (λ p. along s [] p (bare root.Home) parts ≡ Ok l) gone h))
      | inr there ↦ along_ends s P keeps [] place (bare root.Home) parts l (begins place there) h
    ]
