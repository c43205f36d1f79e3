-- The trees of fields are no deeper than fits into a collection.
use Rattle.std.proofs.Common.{◌≡◌, ◌<◌, ◌^◌, ℕ, suc, ℤ, pos, Bool, true, false, nat_lt, nat_le, List, [], ◌∷◌, ◌++◌, codes, map, Option, Some, None, IfSome, if◌then◌else◌, All, refl, ◌∙◌, arith}
use Rattle.pocket_types.specs.declared.json.Jv.TheOpen as jv
use Rattle.pocket_types.specs.declared.json.Jv.TheFolds.{fold-roll-Jv}
use Rattle.pocket_types.specs.declared.records.Field.{Field}
use Rattle.pocket_types.specs.declared.records.Kind.{Kind}
use Rattle.pocket_types.specs.declared.records.Kind.TheVariants as kind
use Rattle.pocket_types.specs.Profile.{rise, size_of, rising_step, rising_member, small_step, small_member, levels_step, levels_member}
use Rattle.pocket_json.proofs.Layers.{keys}
use Rattle.pocket_json.proofs.Profiles.{Fine, AllFine, EntriesFine, fine_more, fine_list, fine_map}
use Rattle.pocket_ops.specs.Cells.{texts_jv}
use Rattle.pocket_ops.specs.Dates.{date_text}
use Rattle.pocket_ops.specs.Trees.{null_jv, text_jv, num_jv, flag_jv, list_jv, date_jv, bound_jv, field_members, field_jv}
use Rattle.pocket_rows.proofs.MemberLemmas.{Entries}
use Rattle.pocket_types.specs.Sound.{IsSmall, IsSoundKind, IsSoundField}

-- ---- trees of few levels

null_fine : Fine 1 null_jv
null_fine =
    (fold-roll-Jv Bool (List ℕ × Bool) rising_step rising_member jv.Null, fold-roll-Jv Bool Bool small_step small_member jv.Null, omega (arith, fold-roll-Jv ℕ ℕ levels_step levels_member jv.Null))

bare_text : (t : List ℕ) → Fine 0 (text_jv t)
bare_text t =
    (fold-roll-Jv Bool (List ℕ × Bool) rising_step rising_member (jv.Text t), fold-roll-Jv Bool Bool small_step small_member (jv.Text t), omega (arith, fold-roll-Jv ℕ ℕ levels_step levels_member (jv.Text t)))

text_fine : (t : List ℕ) → Fine 1 (text_jv t)
text_fine t = fine_more 0 1 (text_jv t) (omega arith) (bare_text t)

flag_fine : (b : Bool) → Fine 1 (flag_jv b)
flag_fine b =
    (fold-roll-Jv Bool (List ℕ × Bool) rising_step rising_member (jv.Flag b), fold-roll-Jv Bool Bool small_step small_member (jv.Flag b), omega (arith, fold-roll-Jv ℕ ℕ levels_step levels_member (jv.Flag b)))

below_true : (a b : ℕ) → a < b → nat_lt a b ≡ true
below_true a b h = grind arith

num_fine : (n : ℤ) → IsSmall n → Fine 1 (num_jv n)
num_fine n h =
    (fold-roll-Jv Bool (List ℕ × Bool) rising_step rising_member (jv.Num n), fold-roll-Jv Bool Bool small_step small_member (jv.Num n) ∙ below_true (size_of n) (2 ^ 53) h, omega (arith, fold-roll-Jv ℕ ℕ levels_step levels_member (jv.Num n)))

count_fine : (n : ℕ) → n < 2 ^ 32 → Fine 1 (num_jv (pos n))
count_fine n h = num_fine (pos n) (omega (arith, h))

bound_fine : (n : Option ℤ) → IfSome n IsSmall → Fine 1 (bound_jv n)
bound_fine None h = null_fine
bound_fine (Some n) h = num_fine n h

date_fine : (d : Option ℤ) → Fine 1 (date_jv d)
date_fine None = text_fine []
date_fine (Some m) = text_fine (date_text m)

all_bare : (ts : List (List ℕ)) → AllFine 0 (map text_jv ts)
all_bare [] = tt
all_bare (t ∷ ts) = (bare_text t, all_bare ts)

texts_fine : (ts : List (List ℕ)) → Fine 1 (texts_jv ts)
texts_fine ts = fine_list 0 (map text_jv ts) (all_bare ts)

-- ---- a field's tree

-- entries of a map of two levels
abbrev AreFine : Entries → Type 0
AreFine es = EntriesFine 1 es × (rise (keys es) ≡ true)

select_fine : (name t : List ℕ) (values : List (List ℕ)) (most : ℕ) (required hidden unique one : Bool) → most < 2 ^ 32
    → AreFine ((codes "hidden", flag_jv hidden) ∷ (codes "maxSelect", num_jv (pos most)) ∷ (codes "name", text_jv name) ∷ (codes "required", flag_jv required)
    ∷ (codes "type", text_jv t) ∷ (if one then (codes "unique", flag_jv unique) ∷ [] else []) ++ (codes "values", texts_jv values) ∷ [])
select_fine name t values most required hidden unique true h =
    ((flag_fine hidden, (count_fine most h, (text_fine name, (flag_fine required, (text_fine t, (flag_fine unique, (texts_fine values, tt))))))), refl)
select_fine name t values most required hidden unique false h =
    ((flag_fine hidden, (count_fine most h, (text_fine name, (flag_fine required, (text_fine t, (texts_fine values, tt)))))), refl)

relation_fine : (name t target : List ℕ) (most : ℕ) (required hidden unique cascade one : Bool) → most < 2 ^ 32
    → AreFine ((codes "cascadeDelete", flag_jv cascade) ∷ (codes "collection", text_jv target) ∷ (codes "hidden", flag_jv hidden) ∷ (codes "maxSelect", num_jv (pos most))
    ∷ (codes "name", text_jv name) ∷ (codes "required", flag_jv required) ∷ (codes "type", text_jv t) ∷ (if one then (codes "unique", flag_jv unique) ∷ [] else []))
relation_fine name t target most required hidden unique cascade true h =
    ((flag_fine cascade, (text_fine target, (flag_fine hidden, (count_fine most h, (text_fine name, (flag_fine required, (text_fine t, (flag_fine unique, tt)))))))), refl)
relation_fine name t target most required hidden unique cascade false h =
    ((flag_fine cascade, (text_fine target, (flag_fine hidden, (count_fine most h, (text_fine name, (flag_fine required, (text_fine t, tt))))))), refl)

kind_fine : (k : Kind) (f : Field) → IsSoundKind k → AreFine (field_members k f)
kind_fine (kind.Text min max) f h =
    ((flag_fine f.hidden, (count_fine max h.1, (count_fine min h.0, (text_fine f.name, (flag_fine f.required, (text_fine (codes "text"), (flag_fine f.unique, tt))))))), refl)
kind_fine (kind.Number min max) f h =
    ((flag_fine f.hidden, (bound_fine max h.1, (bound_fine min h.0, (text_fine f.name, (flag_fine f.required, (text_fine (codes "number"), (flag_fine f.unique, tt))))))), refl)
kind_fine kind.Flag f h = ((flag_fine f.hidden, (text_fine f.name, (flag_fine f.required, (text_fine (codes "bool"), tt)))), refl)
kind_fine (kind.Date min max) f h =
    ((flag_fine f.hidden, (date_fine max, (date_fine min, (text_fine f.name, (flag_fine f.required, (text_fine (codes "date"), (flag_fine f.unique, tt))))))), refl)
kind_fine (kind.Select values most) f h = select_fine f.name (codes "select") values most f.required f.hidden f.unique (nat_le most 1) h.1
kind_fine (kind.Json max) f h = ((flag_fine f.hidden, (count_fine max h, (text_fine f.name, (flag_fine f.required, (text_fine (codes "json"), tt))))), refl)
kind_fine (kind.Relation target most cascade) f h = relation_fine f.name (codes "relation") target most f.required f.hidden f.unique cascade (nat_le most 1) h.1

field_fine : (f : Field) → IsSoundField f → Fine 2 (field_jv f)
field_fine f h = let all = kind_fine f.kind f h.kind in fine_map 1 (field_members f.kind f) all.0 all.1

all_fine : (fs : List Field) → All IsSoundField fs → AllFine 2 (map field_jv fs)
all_fine [] h = tt
all_fine (f ∷ fs) h = (field_fine f (h 0 f (omega arith)), all_fine fs (λ k d l. h (suc k) d (omega arith)))

pub fields_fine : (fs : List Field) → All IsSoundField fs → Fine 31 (list_jv (map field_jv fs))
fields_fine fs h = fine_more 3 31 (list_jv (map field_jv fs)) (omega arith) (fine_list 2 (map field_jv fs) (all_fine fs h))
