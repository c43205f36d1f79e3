-- What is known of a record with nothing wrong.
use Rattle.std.proofs.Common.{◌≡◌, ◌<◌, ◌^◌, ℕ, suc, Bool, true, false, not, ◌&&◌, ◌||◌, nat_le, List, [], ◌∷◌, find, zip, filter_map, is_none, Option, Some, None, All, Contains, option_map, cond, refl, sym, ap, ◌∙◌, arith}
use Rattle.std.specs.List.{cons_option, list_any}
use Rattle.std.specs.Option.{option_map_or}
use Rattle.std.specs.Str.{bytes_eq}
use Rattle.std.proofs.lemmas.Bool.{or_parts, true≢false}
use Rattle.std.proofs.lemmas.List.Elements.{All-cons, All-nil}
use Rattle.std.proofs.lemmas.Option.{none-some, same_Some}
use Rattle.pocket_types.specs.Profile.{size_of}
use Rattle.pocket_types.specs.Sound.{AllFit, Fits}
use Rattle.pocket_types.specs.Within.{AllHoldWithin, HasRec, HoldsWithin, IsShelf}
use Rattle.pocket_types.specs.World.{rec_of, shelf_named}
use Rattle.pocket_types.specs.declared.faults.Code.TheVariants as code
use Rattle.pocket_types.specs.declared.ids.Id.{Id}
use Rattle.pocket_types.specs.declared.names.Name.{Name}
use Rattle.pocket_types.specs.declared.records.Cell.{Cell}
use Rattle.pocket_types.specs.declared.records.Cell.TheVariants as cell
use Rattle.pocket_types.specs.declared.records.Collection.{Collection}
use Rattle.pocket_types.specs.declared.records.Field.{Field}
use Rattle.pocket_types.specs.declared.records.Kind.{Kind}
use Rattle.pocket_types.specs.declared.records.Kind.TheVariants as kind
use Rattle.pocket_types.specs.declared.records.Rec.{Rec}
use Rattle.pocket_types.specs.declared.world.Shelf.{Shelf}
use Rattle.pocket_types.specs.declared.world.World.{World}
use Rattle.pocket_tables.specs.Worlds.{rec_at}
use Rattle.pocket_tables.proofs.KeyLemmas.{key_same}
use Rattle.pocket_check.specs.Validity.{code_of, field_fault, first_code, is_above, is_below, is_missing, is_over, is_taken, is_too_big, is_unknown, is_zero_cell}
use Rattle.pocket_check.proofs.GivenLemmas.{AlmostFits}
use Rattle.pocket_check.proofs.SentLemmas.{AllAlmostFit}

-- ---- no code

-- where no code is met, no number is over and no relation's record is missing
no_case : (over required below above unknown missing taken : Bool)
    → first_code ((over, code.Range) ∷ (required, code.Required) ∷ (below, code.Min) ∷ (above, code.Max) ∷ (unknown, code.Value) ∷ (missing, code.Missing) ∷ (taken, code.Taken) ∷ []) ≡ None
    → (over ≡ false) × (missing ≡ false)
no_case true b c d e f g h = cc
no_case false true c d e f g h = cc
no_case false false true d e f g h = cc
no_case false false false true e f g h = cc
no_case false false false false true f g h = cc
no_case false false false false false true g h = cc
no_case false false false false false false g h = (refl, refl)

-- nothing comes of a value that isn't there
not_there : {A B : Type 0} (f : A → B) (o : Option A) → option_map f o ≡ None → o ≡ None
not_there f None e = refl
not_there f (Some x) e = absurd (none-some (f x) (sym e))

-- a cell whose number isn't over, and whose ids are those of records
record IsMet (w : World) (f : Field) (mine : Cell) : Type 0 where
  small : is_over mine ≡ false
  led : is_missing w f.kind mine ≡ false

no_fault : (w : World) (c : Collection) (r : Rec) (f : Field) (mine : Cell) → field_fault w c r (f, mine) ≡ None → IsMet w f mine
no_fault w c r f mine e =
    let none = not_there (λ x. record { field = f.name; code = x }) (code_of w c r f mine (is_zero_cell mine)) e in
    let cases = no_case (is_over mine) (f.required && is_zero_cell mine) (not (is_zero_cell mine) && is_below f.kind mine)
    ((not (is_zero_cell mine) && is_above f.kind mine) || is_too_big f.kind mine) (is_unknown f.kind mine) (is_missing w f.kind mine)
    (f.unique && not (is_zero_cell mine) && is_taken w c r f mine) none in
    record { small = cases.0; led = cases.1 }

-- ---- no faults

none_first : {A : Type 0} (o : Option A) (xs : List A) → cons_option o xs ≡ [] → (o ≡ None) × (xs ≡ [])
none_first None xs e = (refl, e)
none_first (Some x) xs e = cc

abbrev Faultless : World → Collection → Rec → List Field → List Cell → Type 0
Faultless w c r fields cells = filter_map (field_fault w c r) (zip fields cells) ≡ []

-- ---- sizes

not_over : (a b : ℕ) → nat_le a b ≡ false → b < a
not_over a b h = grind arith

fits_from : (k : Kind) (mine : Cell) → AlmostFits k mine → is_over mine ≡ false → Fits k mine
fits_from (kind.Number min max) (cell.Num n) h e = not_over (2 ^ 53) (size_of n) e
fits_from k mine h e = h

pub fit_from : (w : World) (c : Collection) (r : Rec) (fields : List Field) (cells : List Cell) → AllAlmostFit fields cells → Faultless w c r fields cells → AllFit fields cells
fit_from w c r [] [] h e = tt
fit_from w c r [] (mine ∷ cells) h e = absurd h
fit_from w c r (f ∷ fields) [] h e = absurd h
fit_from w c r (f ∷ fields) (mine ∷ cells) h e =
    let parts = none_first (field_fault w c r (f, mine)) (filter_map (field_fault w c r) (zip fields cells)) e in
    (fits_from f.kind mine h.0 (no_fault w c r f mine parts.0).small, fit_from w c r fields cells h.1 parts.1)

-- ---- relations

-- what was found stands in the list, and passes the test
pub found_there : {T : Type 0} (p : T → Bool) (xs : List T) (x : T) → find p xs ≡ Some x → Contains xs x × (p x ≡ true)
found_there p [] x e = absurd (none-some x e)
found_there p (y ∷ xs) x e = by (p y) refl (found_there p xs x) e
  where
    by : (b : Bool) → p y ≡ b → (find p xs ≡ Some x → Contains xs x × (p x ≡ true)) → cond b (Some y) (find p xs) ≡ Some x → Contains (y ∷ xs) x × (p x ≡ true)
    by true is later q = let same = same_Some y x q in ((0, omega arith, same), sym (ap p same) ∙ is)
    by false is later q = let rest = later q in ((suc rest.0.0, omega (arith, rest.0.1), rest.0.2), rest.1)

-- a record of the id stands on a shelf of the name
abbrev StandsAt : World → Name → Id → Type 0
StandsAt w target id = (s : Shelf) × IsShelf w target s × HasRec s id

stands_at : (w : World) (target : Name) (id : Id) → is_none (rec_at w target id) ≡ false → StandsAt w target id
stands_at w target id h = on (shelf_named target w.shelves) refl h
  where
    rec_on : (s : Shelf) → shelf_named target w.shelves ≡ Some s → (o : Option Rec) → rec_of id s.recs ≡ o → is_none o ≡ false → StandsAt w target id
    rec_on s is None q e = absurd (true≢false e)
    rec_on s is (Some r) q e =
        let shelf = found_there (λ s. bytes_eq s.collection.name target) w.shelves s is in
        let rec = found_there (λ r. bytes_eq r.id id) s.recs r q in
        (s, record { there = shelf.0; named = key_same s.collection.name target shelf.1 }, (r, rec.0, key_same r.id id rec.1))

    on : (o : Option Shelf) → shelf_named target w.shelves ≡ o → is_none (rec_of id (option_map_or (λ s. s.recs) o [])) ≡ false → StandsAt w target id
    on None is e = absurd (true≢false e)
    on (Some s) is e = rec_on s is (rec_of id s.recs) refl e

all_stand : (w : World) (target : Name) (ids : List Id) → list_any (λ id. is_none (rec_at w target id)) ids ≡ false → All (StandsAt w target) ids
all_stand w target [] e = All-nil (StandsAt w target)
all_stand w target (id ∷ ids) e =
    let parts = or_parts (is_none (rec_at w target id)) (list_any (λ id. is_none (rec_at w target id)) ids) e in
    All-cons (StandsAt w target) id ids (stands_at w target id parts.0) (all_stand w target ids parts.1)

holds_within : (w : World) (k : Kind) (mine : Cell) → is_missing w k mine ≡ false → HoldsWithin w k mine
holds_within w (kind.Relation target most cascade) (cell.Refs ids) e = all_stand w target ids e
holds_within w k mine e = tt

pub hold_within : (w : World) (c : Collection) (r : Rec) (fields : List Field) (cells : List Cell) → Faultless w c r fields cells → AllHoldWithin w fields cells
hold_within w c r [] cells e = tt
hold_within w c r (f ∷ fields) [] e = tt
hold_within w c r (f ∷ fields) (mine ∷ cells) e =
    let parts = none_first (field_fault w c r (f, mine)) (filter_map (field_fault w c r) (zip fields cells)) e in
    (holds_within w f.kind mine (no_fault w c r f mine parts.0).led, hold_within w c r fields cells parts.1)
