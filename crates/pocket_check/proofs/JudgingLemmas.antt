-- What look-ups tell of a value, and what the fields of a sound collection tell of look-ups.
use Rattle.std.proofs.Common.{◌≡◌, ◌<◌, ℕ, Bor, Bool, true, false, not, ◌||◌, ◌+◌, ◌++◌, min, nat_lt, List, [], ◌∷◌, length, get_or, filter, filter_map, take, zip, Option, Some, None, refl, sym, ap, ◌∙◌, subst, arith}
use Rattle.std.specs.Prelude.{IsTrue, is_some}
use Rattle.std.specs.List.{cons_option, list_any}
use Rattle.std.specs.Option.{option_copied, option_map_or}
use Rattle.std.specs.Str.{bytes_eq}
use Rattle.std.proofs.lemmas.Bool.{true≢false}
use Rattle.std.proofs.lemmas.List.{get_or_default, take_all}
use Rattle.std.proofs.lemmas.List.Kept.{AllPairs-filter}
use Rattle.std.proofs.lemmas.Slice.Zip.{get_or-zip, length-zip}
use Rattle.pocket_types.specs.Kinds.{is_multiple}
use Rattle.pocket_types.specs.Order.{IsBefore, Rises}
use Rattle.pocket_types.specs.Sound.{IsSoundCollection, IsSoundField, may_be_unique}
use Rattle.pocket_types.specs.declared.faults.FieldFault.{FieldFault}
use Rattle.pocket_types.specs.declared.ids.Id.{Id}
use Rattle.pocket_types.specs.declared.names.Name.{Name}
use Rattle.pocket_types.specs.declared.records.Cell.{Cell}
use Rattle.pocket_types.specs.declared.records.Collection.{Collection}
use Rattle.pocket_types.specs.declared.records.Field.{Field}
use Rattle.pocket_types.specs.declared.records.Kind.{Kind}
use Rattle.pocket_types.specs.declared.records.Kind.TheVariants as kind
use Rattle.pocket_types.specs.declared.records.Rec.{Rec}
use Rattle.pocket_types.specs.declared.values.Value.{Value}
use Rattle.pocket_types.specs.declared.world.World.{World}
use Rattle.pocket_types.proofs.OrderLemmas.{before_from}
use Rattle.pocket_meaning.proofs.ListLemmas.{filter_map_more}
use Rattle.pocket_tables.specs.Reads.{IsSingle, first_above, has_value, is_above, matching}
use Rattle.pocket_tables.specs.Worlds.{IsTabled, collection_at, id_of, recs_at}
use Rattle.pocket_tables.proofs.KeyLemmas.{differs_above, key_same}
use Rattle.pocket_tables.proofs.NextLemmas.{all_above, read_all, read_next}
use Rattle.pocket_tables.proofs.WorldLemmas.{ordered_from}
use Rattle.pocket_check.proofs.FaultlessLemmas.{found_there}

-- ---- another record

-- the records with a value rise by id
pub matching_rise : (w : World) (name field : Name) (v : Value) → IsTabled w → Rises id_of (matching w name field v)
matching_rise w name field v t = by (collection_at w name)
  where
    by : (o : Option Collection) → Rises id_of (option_map_or (λ c. filter (has_value c field v) (recs_at w name)) o [])
    by None = λ i j d before within. absurd (omega (arith, within))
    by (Some c) = AllPairs-filter (λ x y. IsBefore (id_of x) (id_of y)) (has_value c field v) (recs_at w name) ((ordered_from w t).ids name)

-- what is lent is there where it is itself
pub lent_there : {T : Type 0} (o : Option (Bor T)) → is_some (option_copied o) ≡ is_some o
lent_there None = refl
lent_there (Some x) = refl

abbrev is_other : Id → Rec → Bool
is_other id r = not (bytes_eq r.id id)

first_of : (recs : List Rec) (r : Rec) → Rises id_of recs → Some r ≡ first_above None recs → recs ≡ r ∷ filter (is_above (Some r.id)) recs
first_of recs r h e = sym (all_above recs) ∙ read_next None r recs h e

-- nothing was found
pub no_match : (recs : List Rec) (id : Id) → None ≡ first_above None recs → list_any (is_other id) recs ≡ false
no_match recs id e = ap (list_any (is_other id)) (sym (all_above recs) ∙ read_all None recs e)

-- another was found
pub other_first : (recs : List Rec) (id : Id) (r : Rec) → Rises id_of recs → Some r ≡ first_above None recs → is_other id r ≡ true → list_any (is_other id) recs ≡ true
other_first recs id r h e other =
    ap (list_any (is_other id)) (first_of recs r h e) ∙ ap (λ b. b || list_any (is_other id) (filter (is_above (Some r.id)) recs)) other

-- a record above an id is another
other_above : (id : Id) (s : Rec) → is_above (Some id) s ≡ true → is_other id s ≡ true
other_above id s e = ap not (differs_above s.id id (before_from id s.id e))

denied : (b : Bool) → not b ≡ false → b ≡ true
denied true e = refl
denied false e = absurd (true≢false e)

-- the one of the id itself was found, and behind it another or none
pub itself_first : (recs : List Rec) (id : Id) (r : Rec) → Rises id_of recs → Some r ≡ first_above None recs → is_other id r ≡ false
    → list_any (is_other id) recs ≡ is_some (first_above (Some id) recs)
itself_first recs id r h e itself = ap (list_any (is_other id)) (first_of recs r h e)
    ∙ ap (λ b. b || list_any (is_other id) (filter (is_above (Some r.id)) recs)) itself
    ∙ ap (λ i. list_any (is_other id) (filter (is_above (Some i)) recs)) (key_same r.id id (denied (bytes_eq r.id id) itself))
    ∙ by (first_above (Some id) recs) refl
  where
    by : (o : Option Rec) → first_above (Some id) recs ≡ o → list_any (is_other id) (filter (is_above (Some id)) recs) ≡ is_some o
    by None is = ap (list_any (is_other id)) (read_all (Some id) recs (sym is))
    by (Some s) is = ap (list_any (is_other id)) (read_next (Some id) s recs h (sym is))
        ∙ ap (λ b. b || list_any (is_other id) (filter (is_above (Some s.id)) recs)) (other_above id s (found_there (is_above (Some id)) recs s is).1)

-- ---- unique fields

not_multiple : (b : Bool) → not b ≡ true → b ≡ false
not_multiple true e = absurd (true≢false (sym e))
not_multiple false e = refl

-- where `unique` may stand, one item may
unique_is_single : (k : Kind) → may_be_unique k ≡ true → is_multiple k ≡ false
unique_is_single (kind.Text min max) e = refl
unique_is_single (kind.Number min max) e = refl
unique_is_single kind.Flag e = refl
unique_is_single (kind.Date min max) e = refl
unique_is_single (kind.Select values most) e = not_multiple (is_multiple (kind.Select values most)) e
unique_is_single (kind.Json max) e = refl
unique_is_single (kind.Relation target most cascade) e = not_multiple (is_multiple (kind.Relation target most cascade)) e

is_below : (i n : ℕ) → nat_lt i n ≡ true → i < n
is_below i n e = grind arith

neither : (i n : ℕ) → nat_lt i n ≡ false → nat_lt n i ≡ false → i ≡ n
neither i n e g = grind arith

-- a unique field of a sound collection holds one item at most
pub single_at : (c : Collection) (n : ℕ) (f : Field) → IsSoundCollection c → n < length c.fields → f ≡ get_or c.fields n f → IsTrue f.unique → IsSingle c f.name
single_at c n f sound within is unique i d below named = by (nat_lt i n) refl (nat_lt n i) refl
  where
    there : get_or c.fields n d ≡ f
    there = get_or_default c.fields n d f within ∙ sym is

    fine : IsSoundField f
    fine = subst IsSoundField (sym is) (sound.fields n f within)

    by : (a : Bool) → nat_lt i n ≡ a → (b : Bool) → nat_lt n i ≡ b → is_multiple (get_or c.fields i d).kind ≡ false
    by true e b g = absurd (sound.differ i n d (is_below i n e) within (named ∙ ap (λ g. g.name) (sym there)))
    by false e true g = absurd (sound.differ n i d (is_below n i g) below (ap (λ g. g.name) there ∙ sym named))
    by false e false g = ap (λ k. is_multiple (get_or c.fields k d).kind) (neither i n e g) ∙ ap (λ g. is_multiple g.kind) there ∙ unique_is_single f.kind (fine.unique unique)

-- ---- field by field

pair_at : (fs : List Field) (cs : List Cell) (n : ℕ) (f : Field) (mine : Cell) → n < length fs → n < length cs → f ≡ get_or fs n f → mine ≡ get_or cs n mine
    → (f, mine) ≡ get_or (zip fs cs) n (f, mine)
pair_at fs cs n f mine h k is at = ap (λ x. (x, mine)) is ∙ ap (λ y. (get_or fs n f, y)) at ∙ sym (get_or-zip fs cs n (f, mine) h k)

-- one field more
pub fault_more : (judge : Field × Cell → Option FieldFault) (fs : List Field) (cs : List Cell) (n m : ℕ) (f : Field) (mine : Cell) (o : Option FieldFault) (found : List FieldFault)
    → m ≡ n + 1 → n < length fs → n < length cs → f ≡ get_or fs n f → mine ≡ get_or cs n mine → o ≡ judge (f, mine) → found ≡ filter_map judge (take n (zip fs cs))
    → found ++ cons_option o [] ≡ filter_map judge (take m (zip fs cs))
fault_more judge fs cs n m f mine o found em h k is at e so_far =
    let within : n < length (zip fs cs) = omega (arith, h, k, length-zip fs cs) in
    ap (λ l. l ++ cons_option o []) so_far
    ∙ ap (λ x. filter_map judge (take n (zip fs cs)) ++ cons_option x []) e
    ∙ sym (filter_map_more judge (zip fs cs) n (f, mine) within (pair_at fs cs n f mine h k is at))
    ∙ ap (λ i. filter_map judge (take i (zip fs cs))) (sym em)

-- no field is left
pub faults_end : (judge : Field × Cell → Option FieldFault) (fs : List Field) (cs : List Cell) (n : ℕ) → n ≡ min (length fs) (length cs)
    → filter_map judge (take n (zip fs cs)) ≡ filter_map judge (zip fs cs)
faults_end judge fs cs n e = ap (filter_map judge) (take_all n (zip fs cs) (omega (arith, e, length-zip fs cs)))
