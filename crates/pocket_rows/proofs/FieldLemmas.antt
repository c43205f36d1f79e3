-- The fields of a collection, read from their tree.
use Rattle.std.proofs.Common.{◌≡◌, ◌≢◌, ◌<◌, ◌^◌, ◌++◌, ◌↔◌, ℕ, suc, ℤ, pos, Bool, true, false, not, nat_le, nat_lt, ◌==◌, List, [], ◌∷◌, codes, map, length, get_or, Option, Some, None, option_map, option_and_then, IfSome, IsTrue, IsUtf8, All, AllPairs, if◌then◌else◌, refl, sym, ap, subst, ◌∙◌, arith}
use Rattle.std.proofs.lemmas.Bool.Decides.{nat_tests}
use Rattle.std.proofs.lemmas.Grind.{common_steps}
use Rattle.std.proofs.lemmas.Option.{same_Some}
use Rattle.std.proofs.lemmas.List.{get_or-map, length-map}
use Rattle.std.proofs.lemmas.Str.{is_utf8-from_IsUtf8}
use Rattle.pocket_types.specs.Names.{is_name, IsMoment}
use Rattle.pocket_types.specs.Maps.{member_of}
use Rattle.pocket_types.specs.declared.json.Jv.{Jv}
use Rattle.pocket_types.specs.declared.json.Jv.TheOpen as jv
use Rattle.pocket_types.specs.declared.json.Jv.TheOpen.{Jv-F}
use Rattle.pocket_types.specs.declared.json.Jv.TheViews.{roll-Jv, out-Jv, out-roll-Jv, roll-out-Jv}
use Rattle.pocket_types.specs.declared.json.Member.{Member}
use Rattle.pocket_types.specs.declared.records.Field.{Field}
use Rattle.pocket_types.specs.declared.records.Kind.{Kind}
use Rattle.pocket_types.specs.declared.records.Kind.TheVariants as kind
use Rattle.pocket_ops.specs.Dates.{date_text}
use Rattle.pocket_ops.specs.Cells.{texts_jv}
use Rattle.pocket_ops.specs.Trees.{text_jv, num_jv, flag_jv, list_jv, date_jv, bound_jv, field_members, field_jv}
use Rattle.pocket_types.specs.Sound.{IsFieldName, IsSoundKind, IsSoundField, may_be_unique, Differ}
use Rattle.pocket_rows.proofs.EntryLemmas.{entry_among, among_is}
use Rattle.pocket_rows.proofs.MemberLemmas.{Entries}
use Rattle.pocket_rows.proofs.MomentLemmas.{date_text-read, date_text-filled}
use Rattle.pocket_rows.proofs.TreeForms.{list_once}
use Rattle.pocket_rows.specs.CollectionReading.{AreFields}
use Rattle.pocket_rows.specs.FieldReading.{text_in, flag_in, count_in, bound_in, list_in, members_in, may_be_date, utf8_of, text_read, read_all, text_at, flag_at, count_at, bound_at, date_at, texts_at, name_of, name_at, field_name_of, field_name_at, text_kind, number_kind, date_kind, json_kind, select_kind, relation_kind, kind_named, kind_at, unique_at, field_at, field_read}

-- ---- texts

pub text_is : (tree : Jv) (t : List ℕ) → IsUtf8 t × (tree ≡ text_jv t) → text_read tree ≡ Some t
text_is tree t h =
    ap text_read h.1 ∙ ap (λ x. option_and_then utf8_of (text_in x)) (out-roll-Jv (jv.Text t)) ∙ ap (λ b. if b then Some t else None) (is_utf8-from_IsUtf8 t h.0)

pub text_none : (tree : Jv) → ((t : List ℕ) → tree ≢ text_jv t) → text_read tree ≡ None
text_none tree none = by (out-Jv tree) refl
  where
    by : (x : Jv-F Jv Member) → out-Jv tree ≡ x → option_and_then utf8_of (text_in x) ≡ None
    by jv.Null e = refl
    by (jv.Flag b) e = refl
    by (jv.Num n) e = refl
    by (jv.Text t) e = absurd (none t (sym (roll-out-Jv tree) ∙ ap roll-Jv e))
    by (jv.List items) e = refl
    by (jv.Map members) e = refl

texts_are : (ts : List (List ℕ)) → All IsUtf8 ts → read_all text_read (map text_jv ts) ≡ Some ts
texts_are [] h = refl
texts_are (t ∷ ts) h =
    ap (option_and_then (λ x. option_map (λ xs. x ∷ xs) (read_all text_read (map text_jv ts)))) (text_is (text_jv t) t (h 0 [] (omega arith), refl))
    ∙ ap (option_map (λ xs. t ∷ xs)) (texts_are ts (λ k d l. h (suc k) d (omega arith)))

-- ---- names

name_is : (t : List ℕ) → IsTrue (is_name t) → name_of t ≡ Some t
name_is t h = ap (λ b. if b then Some t else None) h

field_name_is : (t : List ℕ) → IsFieldName t → field_name_of t ≡ Some t
field_name_is t h = ap (λ b. if b then None else name_of t) h.1 ∙ name_is t h.0

-- ---- the names of fields

abbrev pub names_of : List Field → List (List ℕ)
names_of fs = map (λ f. f.name) fs

pub name_here : (fs : List Field) (i : ℕ) (f : Field) → i < length fs → f ≡ get_or fs i f → (i < length (names_of fs)) × (f.name ≡ get_or (names_of fs) i f.name)
name_here fs i f l here =
    (subst (λ n. i < n) (sym (length-map fs (λ f. f.name))) l, ap (λ g. g.name) here ∙ sym (get_or-map (λ f. f.name) fs i f f.name l))

differ_apart : (fs : List Field) → Differ (names_of fs) → AllPairs (λ f g. f.name ≢ g.name) fs
differ_apart fs h i j d l m e =
    h i j d.name l (subst (λ n. j < n) (sym (length-map fs (λ f. f.name))) m)
    (get_or-map (λ f. f.name) fs i d d.name (omega (arith, l, m)) ∙ e ∙ sym (get_or-map (λ f. f.name) fs j d d.name m))

apart_differ : (fs : List Field) → AllPairs (λ f g. f.name ≢ g.name) fs → Differ (names_of fs)
apart_differ [] h = λ i j d l m. absurd (omega (arith, m))
apart_differ (f ∷ fs) h = λ i j d l m e.
    let n : j < length (f ∷ fs) = subst (λ n. j < n) (length-map (f ∷ fs) (λ f. f.name)) m in
    h i j f l n (sym (get_or-map (λ f. f.name) (f ∷ fs) i f d (omega (arith, l, n))) ∙ e ∙ get_or-map (λ f. f.name) (f ∷ fs) j f d n)

pub names_apart : (fs : List Field) (r : Bool) → IsTrue r ↔ Differ (names_of fs) → IsTrue r ↔ AllPairs (λ f g. f.name ≢ g.name) fs
names_apart fs r h = ((λ t. differ_apart fs (h.0 t)), (λ d. h.1 (apart_differ fs d)))

-- ---- the values of a map that was put together

text_there : (key : List ℕ) (es : Entries) (t : List ℕ) → entry_among key es ≡ Some (text_jv t) → text_at key (map member_of es) ≡ Some t
unfolding text_at
text_there key es t e = ap (option_and_then (λ tree. text_in (out-Jv tree))) (among_is key es ∙ e) ∙ ap text_in (out-roll-Jv (jv.Text t))

flag_there : (key : List ℕ) (es : Entries) (b : Bool) → entry_among key es ≡ Some (flag_jv b) → flag_at key (map member_of es) ≡ Some b
unfolding flag_at
flag_there key es b e = ap (option_and_then (λ tree. flag_in (out-Jv tree))) (among_is key es ∙ e) ∙ ap flag_in (out-roll-Jv (jv.Flag b))

below_true : (a b : ℕ) → a < b → nat_lt a b ≡ true
below_true a b h = grind arith

count_there : (key : List ℕ) (es : Entries) (n : ℕ) → n < 2 ^ 32 → entry_among key es ≡ Some (num_jv (pos n)) → count_at key (map member_of es) ≡ Some n
unfolding count_at
count_there key es n l e =
    ap (option_and_then (λ tree. count_in (out-Jv tree))) (among_is key es ∙ e) ∙ ap count_in (out-roll-Jv (jv.Num (pos n))) ∙ ap (λ b. if b then Some n else None) (below_true n (2 ^ 32) l)

bound_there : (key : List ℕ) (es : Entries) (b : Option ℤ) → entry_among key es ≡ Some (bound_jv b) → bound_at key (map member_of es) ≡ Some b
unfolding bound_at
bound_there key es None e = ap (option_and_then (λ tree. bound_in (out-Jv tree))) (among_is key es ∙ e) ∙ ap bound_in (out-roll-Jv jv.Null)
bound_there key es (Some n) e = ap (option_and_then (λ tree. bound_in (out-Jv tree))) (among_is key es ∙ e) ∙ ap bound_in (out-roll-Jv (jv.Num n))

filled_length : (t : List ℕ) → t ≢ [] → (length t == 0) ≡ false
filled_length [] h = absurd (h refl)
filled_length (c ∷ t) h = grind (arith, common_steps, nat_tests)

date_is : (m : ℤ) → IsMoment m → may_be_date (date_text m) ≡ Some (Some m)
date_is m h = λ i. if filled_length (date_text m) (date_text-filled m) i then Some None else option_map (λ m. Some m) (date_text-read m h i)

date_there : (key : List ℕ) (es : Entries) (d : Option ℤ) → IfSome d IsMoment → entry_among key es ≡ Some (date_jv d) → date_at key (map member_of es) ≡ Some d
unfolding date_at
date_there key es None h e = ap (option_and_then may_be_date) (text_there key es [] e)
date_there key es (Some m) h e = ap (option_and_then may_be_date) (text_there key es (date_text m) e) ∙ date_is m h

texts_there : (key : List ℕ) (es : Entries) (ts : List (List ℕ)) → All IsUtf8 ts → entry_among key es ≡ Some (texts_jv ts) → texts_at key (map member_of es) ≡ Some ts
unfolding texts_at
texts_there key es ts h e =
    ap (λ o. option_and_then (read_all text_read) (option_and_then (λ tree. list_in (out-Jv tree)) o)) (among_is key es ∙ e)
    ∙ ap (λ x. option_and_then (read_all text_read) (list_in x)) (out-roll-Jv (jv.List (map text_jv ts))) ∙ texts_are ts h

name_there : (key : List ℕ) (es : Entries) (t : List ℕ) → IsTrue (is_name t) → entry_among key es ≡ Some (text_jv t) → name_at key (map member_of es) ≡ Some t
unfolding name_at
name_there key es t h e = ap (option_and_then name_of) (text_there key es t e) ∙ name_is t h

field_name_there : (key : List ℕ) (es : Entries) (t : List ℕ) → IsFieldName t → entry_among key es ≡ Some (text_jv t) → field_name_at key (map member_of es) ≡ Some t
unfolding field_name_at
field_name_there key es t h e = ap (option_and_then field_name_of) (text_there key es t e) ∙ field_name_is t h

-- ---- the type of a field

text_kind_is : (ms : List Member) (min max : ℕ) → text_at (codes "type") ms ≡ Some (codes "text") → count_at (codes "min") ms ≡ Some min → count_at (codes "max") ms ≡ Some max → kind_at ms ≡ Some (kind.Text min max)
unfolding kind_at kind_named text_kind
text_kind_is ms min max t low high =
    ap (option_and_then (λ x. kind_named x ms)) t ∙ ap (option_and_then (λ x. option_map (λ y. kind.Text x y) (count_at (codes "max") ms))) low ∙ ap (option_map (λ y. kind.Text min y)) high

number_kind_is : (ms : List Member) (min max : Option ℤ) → text_at (codes "type") ms ≡ Some (codes "number") → bound_at (codes "min") ms ≡ Some min → bound_at (codes "max") ms ≡ Some max → kind_at ms ≡ Some (kind.Number min max)
unfolding kind_at kind_named number_kind
number_kind_is ms min max t low high =
    ap (option_and_then (λ x. kind_named x ms)) t ∙ ap (option_and_then (λ x. option_map (λ y. kind.Number x y) (bound_at (codes "max") ms))) low ∙ ap (option_map (λ y. kind.Number min y)) high

flag_kind_is : (ms : List Member) → text_at (codes "type") ms ≡ Some (codes "bool") → kind_at ms ≡ Some kind.Flag
unfolding kind_at kind_named
flag_kind_is ms t = ap (option_and_then (λ x. kind_named x ms)) t

date_kind_is : (ms : List Member) (min max : Option ℤ) → text_at (codes "type") ms ≡ Some (codes "date") → date_at (codes "min") ms ≡ Some min → date_at (codes "max") ms ≡ Some max → kind_at ms ≡ Some (kind.Date min max)
unfolding kind_at kind_named date_kind
date_kind_is ms min max t low high =
    ap (option_and_then (λ x. kind_named x ms)) t ∙ ap (option_and_then (λ x. option_map (λ y. kind.Date x y) (date_at (codes "max") ms))) low ∙ ap (option_map (λ y. kind.Date min y)) high

select_kind_is : (ms : List Member) (values : List (List ℕ)) (most : ℕ) → text_at (codes "type") ms ≡ Some (codes "select") → count_at (codes "maxSelect") ms ≡ Some most → texts_at (codes "values") ms ≡ Some values → kind_at ms ≡ Some (kind.Select values most)
unfolding kind_at kind_named select_kind
select_kind_is ms values most t m v =
    ap (option_and_then (λ x. kind_named x ms)) t ∙ ap (option_and_then (λ x. option_map (λ y. kind.Select y x) (texts_at (codes "values") ms))) m ∙ ap (option_map (λ y. kind.Select y most)) v

json_kind_is : (ms : List Member) (max : ℕ) → text_at (codes "type") ms ≡ Some (codes "json") → count_at (codes "maxSize") ms ≡ Some max → kind_at ms ≡ Some (kind.Json max)
unfolding kind_at kind_named json_kind
json_kind_is ms max t high = ap (option_and_then (λ x. kind_named x ms)) t ∙ ap (option_map (λ y. kind.Json y)) high

relation_kind_is : (ms : List Member) (target : List ℕ) (most : ℕ) (cascade : Bool) → text_at (codes "type") ms ≡ Some (codes "relation") → count_at (codes "maxSelect") ms ≡ Some most → flag_at (codes "cascadeDelete") ms ≡ Some cascade
    → name_at (codes "collection") ms ≡ Some target → kind_at ms ≡ Some (kind.Relation target most cascade)
unfolding kind_at kind_named relation_kind
relation_kind_is ms target most cascade t m c n =
    ap (option_and_then (λ x. kind_named x ms)) t
    ∙ ap (option_and_then (λ x. option_and_then (λ y. option_map (λ z. kind.Relation z x y) (name_at (codes "collection") ms)) (flag_at (codes "cascadeDelete") ms))) m
    ∙ ap (option_and_then (λ y. option_map (λ z. kind.Relation z most y) (name_at (codes "collection") ms))) c ∙ ap (option_map (λ z. kind.Relation z most cascade)) n

-- `unique`, where it may stand, and what stands behind it
past_unique : (b u : Bool) (v : Jv) → entry_among (codes "values") ((if b then (codes "unique", flag_jv u) ∷ [] else []) ++ (codes "values", v) ∷ []) ≡ Some v
past_unique true u v = refl
past_unique false u v = refl

kind_back : (k : Kind) (f : Field) → IsSoundKind k → kind_at (map member_of (field_members k f)) ≡ Some k
kind_back (kind.Text min max) f h =
    let es = field_members (kind.Text min max) f in
    text_kind_is (map member_of es) min max (text_there (codes "type") es (codes "text") refl) (count_there (codes "min") es min h.0 refl) (count_there (codes "max") es max h.1 refl)
kind_back (kind.Number min max) f h =
    let es = field_members (kind.Number min max) f in
    number_kind_is (map member_of es) min max (text_there (codes "type") es (codes "number") refl) (bound_there (codes "min") es min refl) (bound_there (codes "max") es max refl)
kind_back kind.Flag f h = let es = field_members kind.Flag f in flag_kind_is (map member_of es) (text_there (codes "type") es (codes "bool") refl)
kind_back (kind.Date min max) f h =
    let es = field_members (kind.Date min max) f in
    date_kind_is (map member_of es) min max (text_there (codes "type") es (codes "date") refl) (date_there (codes "min") es min h.0 refl) (date_there (codes "max") es max h.1 refl)
kind_back (kind.Select values most) f h =
    let es = field_members (kind.Select values most) f in
    select_kind_is (map member_of es) values most (text_there (codes "type") es (codes "select") refl) (count_there (codes "maxSelect") es most h.1 refl)
    (texts_there (codes "values") es values h.0 (past_unique (nat_le most 1) f.unique (texts_jv values)))
kind_back (kind.Json max) f h =
    let es = field_members (kind.Json max) f in
    json_kind_is (map member_of es) max (text_there (codes "type") es (codes "json") refl) (count_there (codes "maxSize") es max h refl)
kind_back (kind.Relation target most cascade) f h =
    let es = field_members (kind.Relation target most cascade) f in
    relation_kind_is (map member_of es) target most cascade (text_there (codes "type") es (codes "relation") refl) (count_there (codes "maxSelect") es most h.1 refl)
    (flag_there (codes "cascadeDelete") es cascade refl) (name_there (codes "collection") es target h.0 refl)

-- ---- flags

not_unique : (u : Bool) → (IsTrue u → IsTrue false) → false ≡ u
not_unique true h = h refl
not_unique false h = refl

le_one : (most : ℕ) → nat_lt 1 most ≡ false → nat_le most 1 ≡ true
le_one most h = grind arith

here_unique : (b u : Bool) (rest : Entries) → b ≡ true → entry_among (codes "unique") ((if b then (codes "unique", flag_jv u) ∷ [] else []) ++ rest) ≡ Some (flag_jv u)
here_unique true u rest h = refl
here_unique false u rest h = cc

last_unique : (b u : Bool) → b ≡ true → entry_among (codes "unique") (if b then (codes "unique", flag_jv u) ∷ [] else []) ≡ Some (flag_jv u)
last_unique true u h = refl
last_unique false u h = cc

unique_by : (most : ℕ) (u : Bool) (found : Option Bool) → (IsTrue u → IsTrue (not (nat_lt 1 most))) → (nat_lt 1 most ≡ false → found ≡ Some u) → (if not (nat_lt 1 most) then found else Some false) ≡ Some u
unique_by most u found = by (nat_lt 1 most)
  where
    by : (b : Bool) → (IsTrue u → IsTrue (not b)) → (b ≡ false → found ≡ Some u) → (if not b then found else Some false) ≡ Some u
    by true h one = ap Some (not_unique u h)
    by false h one = one refl

unique_back : (k : Kind) (f : Field) → (IsTrue f.unique → IsTrue (may_be_unique k)) → unique_at k (map member_of (field_members k f)) ≡ Some f.unique
unfolding unique_at
unique_back (kind.Text min max) f h = flag_there (codes "unique") (field_members (kind.Text min max) f) f.unique refl
unique_back (kind.Number min max) f h = flag_there (codes "unique") (field_members (kind.Number min max) f) f.unique refl
unique_back kind.Flag f h = ap Some (not_unique f.unique h)
unique_back (kind.Date min max) f h = flag_there (codes "unique") (field_members (kind.Date min max) f) f.unique refl
unique_back (kind.Select values most) f h =
    let es = field_members (kind.Select values most) f in
    unique_by most f.unique (flag_at (codes "unique") (map member_of es)) h (λ one. flag_there (codes "unique") es f.unique (here_unique (nat_le most 1) f.unique ((codes "values", texts_jv values) ∷ []) (le_one most one)))
unique_back (kind.Json max) f h = ap Some (not_unique f.unique h)
unique_back (kind.Relation target most cascade) f h =
    let es = field_members (kind.Relation target most cascade) f in
    unique_by most f.unique (flag_at (codes "unique") (map member_of es)) h (λ one. flag_there (codes "unique") es f.unique (last_unique (nat_le most 1) f.unique (le_one most one)))

-- ---- fields

-- the members that each field has
common : (k : Kind) (f : Field) → let es = field_members k f in
    (entry_among (codes "name") es ≡ Some (text_jv f.name)) × (entry_among (codes "required") es ≡ Some (flag_jv f.required)) × (entry_among (codes "hidden") es ≡ Some (flag_jv f.hidden))
common (kind.Text min max) f = (refl, refl, refl)
common (kind.Number min max) f = (refl, refl, refl)
common kind.Flag f = (refl, refl, refl)
common (kind.Date min max) f = (refl, refl, refl)
common (kind.Select values most) f = (refl, refl, refl)
common (kind.Json max) f = (refl, refl, refl)
common (kind.Relation target most cascade) f = (refl, refl, refl)

field_is : (ms : List Member) (f : Field) → field_name_at (codes "name") ms ≡ Some f.name → kind_at ms ≡ Some f.kind → flag_at (codes "required") ms ≡ Some f.required → flag_at (codes "hidden") ms ≡ Some f.hidden
    → unique_at f.kind ms ≡ Some f.unique → field_at ms ≡ Some f
unfolding field_at
field_is ms f n k r h u = rw (n, k, r, h, u) refl

field_back : (f : Field) → IsSoundField f → field_read (field_jv f) ≡ Some f
unfolding field_read
field_back f h =
    let es = field_members f.kind f in
    let ms = map member_of es in
    let c = common f.kind f in
    ap (λ x. option_and_then field_at (members_in x)) (out-roll-Jv (jv.Map ms))
    ∙ field_is ms f (field_name_there (codes "name") es f.name h.name c.0) (kind_back f.kind f h.kind) (flag_there (codes "required") es f.required c.1) (flag_there (codes "hidden") es f.hidden c.2)
    (unique_back f.kind f h.unique)

pub fields_back : (fs : List Field) → All IsSoundField fs → read_all field_read (map field_jv fs) ≡ Some fs
fields_back [] h = refl
fields_back (f ∷ fs) h =
    ap (option_and_then (λ x. option_map (λ xs. x ∷ xs) (read_all field_read (map field_jv fs)))) (field_back f (h 0 f (omega arith)))
    ∙ ap (option_map (λ xs. f ∷ xs)) (fields_back fs (λ k d l. h (suc k) d (omega arith)))

pub fields_once : (fs gs : List Field) → AreFields fs → AreFields gs → list_jv (map field_jv fs) ≡ list_jv (map field_jv gs) → fs ≡ gs
fields_once fs gs f g e =
    same_Some fs gs (sym (fields_back fs f.sound) ∙ ap (read_all field_read) (list_once (map field_jv fs) (map field_jv gs) e) ∙ fields_back gs g.sound)
