-- Fields of records: a field that a collection has stands in its records with a cell that fits.
use Rattle.std.proofs.Common.{◌≡◌, inl, inr, ℕ, Bool, true, false, not, ◌&&◌, cond, List, [], ◌∷◌, Option, Some, None, find, filter_map, map, refl, sym, ap, subst, ◌∙◌, bytes_eq, arith}
use Rattle.std.specs.Prelude.{All, nat_le, nat_lt, option_and_then, option_map, zip}
use Rattle.std.specs.List.{list_all}
use Rattle.std.specs.Option.{option_map_or}
use Rattle.std.proofs.lemmas.Bool.{and_parts}
use Rattle.std.proofs.lemmas.Bool.Decides.{nat_tests}
use Rattle.std.proofs.lemmas.List.Elements.{All-head, All-tail}
use Rattle.std.proofs.lemmas.Slice.Eq.{bytes_eq-Decides}
use Rattle.pocket_types.specs.Kinds.{is_multiple, target_of}
use Rattle.pocket_types.specs.Sound.{AllFit, Fits}
use Rattle.pocket_types.specs.Within.{collections_of}
use Rattle.pocket_types.specs.World.{shelf_named}
use Rattle.pocket_types.specs.declared.names.Name.{Name}
use Rattle.pocket_types.specs.declared.records.Cell.{Cell}
use Rattle.pocket_types.specs.declared.records.Collection.{Collection}
use Rattle.pocket_types.specs.declared.records.Field.{Field}
use Rattle.pocket_types.specs.declared.records.Kind.{Kind}
use Rattle.pocket_types.specs.declared.records.Kind.TheVariants as kind
use Rattle.pocket_types.specs.declared.records.Rec.{Rec}
use Rattle.pocket_types.specs.declared.resolved.Modifier.{Modifier}
use Rattle.pocket_types.specs.declared.resolved.Modifier.TheVariants as modifier
use Rattle.pocket_types.specs.declared.world.Shelf.{Shelf}
use Rattle.pocket_types.specs.declared.world.World.{World}
use Rattle.pocket_resolve.specs.Fields.{collection_named, field_named, auth_field, first, caller_field, has_letters, same_type, same_answer, same_target, is_like}
use Rattle.pocket_resolve.specs.Paths.{Place, Of, Caller, Nowhere}
use Rattle.pocket_resolve.specs.Typing.{HasField, fits}
use Rattle.pocket_resolve.proofs.FieldLemmas.{all_given}
use Rattle.pocket_resolve.proofs.Walks.{some_of, nothing}
use Rattle.pocket_meaning.specs.Choosing.{IsIn}
use Rattle.pocket_ops.specs.Fields.{field_at}
use Rattle.pocket_standing.specs.Finding.{IsRecordAt, HasCellAt}

-- ---- lists

pub all_in : {X : Type 0} (P : X → Type 0) (xs : List X) (x : X) → All P xs → IsIn x xs → P x
all_in P [] x all h = absurd h
all_in P (y ∷ ys) x all (inl e) = subst P (sym e) (All-head P y ys all)
all_in P (y ∷ ys) x all (inr h) = all_in P ys x (All-tail P y ys all) h

pub map_in : {X Y : Type 0} (f : X → Y) (xs : List X) (x : X) → IsIn x xs → IsIn (f x) (map f xs)
map_in f [] x h = absurd h
map_in f (y ∷ ys) x (inl e) = inl (ap f e)
map_in f (y ∷ ys) x (inr h) = inr (map_in f ys x h)

passes_in : {X : Type 0} (p : X → Bool) (xs : List X) (x : X) → list_all p xs ≡ true → IsIn x xs → p x ≡ true
passes_in p [] x all h = absurd h
passes_in p (y ∷ ys) x all (inl e) = subst (λ z. p z ≡ true) (sym e) (and_parts (p y) (list_all p ys) all).0
passes_in p (y ∷ ys) x all (inr h) = passes_in p ys x (and_parts (p y) (list_all p ys) all).1 h

-- ---- shelves

named_or_later : (name : Name) (s : Shelf) (shelves : List Shelf) (b : Bool) → collection_named (map (λ s. s.collection) shelves) name ≡ option_map (λ s. s.collection) (shelf_named name shelves)
    → cond b (Some s.collection) (collection_named (map (λ s. s.collection) shelves) name) ≡ option_map (λ s. s.collection) (cond b (Some s) (shelf_named name shelves))
named_or_later name s shelves true later = refl
named_or_later name s shelves false later = later

-- a collection of a world is found where its shelf is
named_on : (name : Name) (shelves : List Shelf) → collection_named (map (λ s. s.collection) shelves) name ≡ option_map (λ s. s.collection) (shelf_named name shelves)
named_on name [] = refl
named_on name (s ∷ shelves) = named_or_later name s shelves (bytes_eq s.collection.name name) (named_on name shelves)

pub shelf_of : (w : World) (name : Name) (c : Collection) (s : Shelf) → collection_named (collections_of w) name ≡ Some c → shelf_named name w.shelves ≡ Some s → s.collection ≡ c
shelf_of w name c s named there =
    some_of (ap (option_map (λ (s : Shelf). s.collection)) (sym there) ∙ sym (named_on name w.shelves) ∙ named)

-- ---- cells

-- a field's cell, found beside it
abbrev CellOf : List Field → List Cell → List ℕ → Field → Type 0
CellOf fs cells name f = (cell : Cell) × (find (λ x. bytes_eq x.0.name name) (zip fs cells) ≡ Some (f, cell)) × Fits f.kind cell

cell_or_later : (g : Field) (fs : List Field) (first : Cell) (cells : List Cell) (name : List ℕ) (f : Field) (b : Bool) → Fits g.kind first
    → (find (λ g. bytes_eq g.name name) fs ≡ Some f → CellOf fs cells name f) → cond b (Some g) (find (λ g. bytes_eq g.name name) fs) ≡ Some f
    → (cell : Cell) × (cond b (Some (g, first)) (find (λ x. bytes_eq x.0.name name) (zip fs cells)) ≡ Some (f, cell)) × Fits f.kind cell
cell_or_later g fs first cells name f true fit later h = (first, ap (λ k. Some (k, first)) (some_of h), subst (λ (k : Field). Fits k.kind first) (some_of h) fit)
cell_or_later g fs first cells name f false fit later h = later h

cell_there : (fs : List Field) (cells : List Cell) (name : List ℕ) (f : Field) → AllFit fs cells → find (λ g. bytes_eq g.name name) fs ≡ Some f → CellOf fs cells name f
cell_there [] cells name f fit h = absurd (nothing h)
cell_there (g ∷ fs) [] name f fit h = absurd fit
cell_there (g ∷ fs) (cell ∷ cells) name f fit h = cell_or_later g fs cell cells name f (bytes_eq g.name name) fit.0 (cell_there fs cells name f fit.1) h

gone_or_later : (g : Field) (fs : List Field) (cell : Cell) (cells : List Cell) (name : List ℕ) (b : Bool)
    → (find (λ g. bytes_eq g.name name) fs ≡ None → find (λ x. bytes_eq x.0.name name) (zip fs cells) ≡ None) → cond b (Some g) (find (λ g. bytes_eq g.name name) fs) ≡ None
    → cond b (Some (g, cell)) (find (λ x. bytes_eq x.0.name name) (zip fs cells)) ≡ None
gone_or_later g fs cell cells name true later h = absurd (nothing (sym h))
gone_or_later g fs cell cells name false later h = later h

cell_gone : (fs : List Field) (cells : List Cell) (name : List ℕ) → find (λ g. bytes_eq g.name name) fs ≡ None → find (λ x. bytes_eq x.0.name name) (zip fs cells) ≡ None
cell_gone [] cells name h = refl
cell_gone (g ∷ fs) [] name h = refl
cell_gone (g ∷ fs) (cell ∷ cells) name h = gone_or_later g fs cell cells name (bytes_eq g.name name) (cell_gone fs cells name) h

pub cell_of : (c : Collection) (r : Rec) (name : Name) (f : Field) → AllFit c.fields r.cells → field_named c name ≡ Some f → (cell : Cell) × (field_at c r name ≡ Some (f, cell)) × Fits f.kind cell
cell_of c r name f fit h = cell_there c.fields r.cells name f fit h

pub no_cell : (c : Collection) (r : Rec) (name : Name) → field_named c name ≡ None → field_at c r name ≡ None
no_cell c r name h = cell_gone c.fields r.cells name h

-- ---- fields that are alike

three : (a b c : Bool) → (a && b && c) ≡ true → (a ≡ true) × (b ≡ true) × (c ≡ true)
three true true true h = (refl, refl, refl)
three true true false h = absurd (cc h)
three true false c h = absurd (cc h)
three false b c h = absurd (cc h)

same_from_answer : (a b : Bool) → same_answer a b ≡ true → a ≡ b
same_from_answer true b h = sym h
same_from_answer false true h = absurd (cc h)
same_from_answer false false h = refl

same_from_target : (a b : Option Name) → same_target a b ≡ true → a ≡ b
same_from_target None None h = refl
same_from_target None (Some b) h = absurd (cc h)
same_from_target (Some a) None h = absurd (cc h)
same_from_target (Some a) (Some b) h = ap Some ((bytes_eq-Decides a b).0 h)

like_parts : (a b : Kind) → is_like a b ≡ true → (same_type a b ≡ true) × (is_multiple a ≡ is_multiple b) × (target_of a ≡ target_of b)
like_parts a b h =
    let t = three (same_type a b) (same_answer (is_multiple a) (is_multiple b)) (same_target (target_of a) (target_of b)) h in
    (t.0, same_from_answer (is_multiple a) (is_multiple b) t.1, same_from_target (target_of a) (target_of b) t.2)

few_too : (m n : ℕ) → nat_lt 1 m ≡ nat_lt 1 n → nat_le m 1 ≡ true → nat_le n 1 ≡ true
few_too m n same few = grind (arith, nat_tests)

letters_too : (a b : Kind) → same_type a b ≡ true → is_multiple a ≡ is_multiple b → has_letters a ≡ true → has_letters b ≡ true
letters_too (kind.Text i j) (kind.Text k l) type same h = refl
letters_too (kind.Select v m) (kind.Select u n) type same h = few_too m n same h
letters_too _ _ type same h = cc

pub fits_too : (any : Bool) (m : Modifier) (a b : Kind) → is_like a b ≡ true → fits any m a ≡ true → fits any m b ≡ true
fits_too any modifier.Plain a b like h = subst (λ several. not (any && several) ≡ true) (like_parts a b like).1 h
fits_too any modifier.Length a b like h = sym (like_parts a b like).1 ∙ h
fits_too any modifier.Lower a b like h = letters_too a b (like_parts a b like).0 (like_parts a b like).1 h
fits_too any modifier.Isset a b like h = h

pub multiple_too : (a b : Kind) → is_like a b ≡ true → is_multiple a ≡ true → is_multiple b ≡ true
multiple_too a b like h = sym (like_parts a b like).1 ∙ h

pub target_too : (a b : Kind) → is_like a b ≡ true → target_of b ≡ target_of a
target_too a b like = sym (like_parts a b like).2

-- ---- the caller's fields

kept_like : (fields : List Field) (k f : Field) (b : Bool) → list_all (λ g. is_like k.kind g.kind) fields ≡ b → cond b (Some k) None ≡ Some f → list_all (λ g. is_like f.kind g.kind) fields ≡ true
kept_like fields k f true all h = subst (λ (z : Field). list_all (λ g. is_like z.kind g.kind) fields ≡ true) (some_of h) all
kept_like fields k f false all h = absurd (nothing h)

first_like : (fields : List Field) (o : Option Field) (f : Field) → option_and_then (λ k. cond (list_all (λ g. is_like k.kind g.kind) fields) (Some k) None) o ≡ Some f → list_all (λ g. is_like f.kind g.kind) fields ≡ true
first_like fields None f h = absurd (nothing h)
first_like fields (Some k) f h = kept_like fields k f (list_all (λ g. is_like k.kind g.kind) fields) refl h

all_like : (collections : List Collection) (name : List ℕ) (f : Field) → caller_field collections name ≡ Some f → list_all (λ g. is_like f.kind g.kind) (filter_map (auth_field name) collections) ≡ true
unfolding caller_field
all_like collections name f h = first_like (filter_map (auth_field name) collections) (first (filter_map (auth_field name) collections)) f h

-- a field that an auth collection has is like the caller's
pub caller_like : (collections : List Collection) (name : List ℕ) (f g : Field) (c : Collection) → caller_field collections name ≡ Some f → IsIn c collections → c.is_auth ≡ true → field_named c name ≡ Some g → is_like f.kind g.kind ≡ true
caller_like collections name f g c h there auth has =
    let p : Field → Bool = λ g. is_like f.kind g.kind in
    let given : auth_field name c ≡ Some g = ap (λ b. cond b (field_named c name) None) auth ∙ has in
    let each : list_all (λ d. option_map_or p (auth_field name d) true) collections ≡ true = sym (all_given p (auth_field name) collections) ∙ all_like collections name f h in
    sym (ap (λ o. option_map_or p o true) given) ∙ passes_in (λ d. option_map_or p (auth_field name d) true) collections c each there

-- ---- the fields of a place

-- a test that passes of a kind passes of those like it
abbrev pub IsOfLike : (Kind → Bool) → Type 0
IsOfLike test = (a b : Kind) → is_like a b ≡ true → test a ≡ true → test b ≡ true

caller_found : (w : World) (c : Collection) (r : Rec) (name : Name) (test : Kind → Bool) → IsOfLike test → IsRecordAt w Caller c r → HasField (collections_of w) Caller name test
    → (o : Option Field) → field_named c name ≡ o → HasCellAt Caller c r name test
caller_found w c r name test like at has None e = inr (no_cell c r name e)
caller_found w c r name test like at has (Some g) e =
    let f : Field = has.0 in
    let x = cell_of c r name g at.2 e in
    inl (g, x.0, x.1, x.2, like f.kind g.kind (caller_like (collections_of w) name f g c has.1 at.0 at.1 e) has.2)

pub found_at : (w : World) (place : Place) (c : Collection) (r : Rec) (name : Name) (test : Kind → Bool) → IsOfLike test → IsRecordAt w place c r → HasField (collections_of w) place name test → HasCellAt place c r name test
found_at w (Of d) c r name test like at has =
    let x = cell_of c r name has.0 at.1 (ap (λ (k : Collection). field_named k name) at.0 ∙ has.1) in
    (has.0, x.0, x.1, x.2, has.2)
found_at w Caller c r name test like at has = caller_found w c r name test like at has (field_named c name) refl
found_at w Nowhere c r name test like at has = absurd at
