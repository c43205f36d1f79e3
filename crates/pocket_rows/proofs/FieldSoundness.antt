-- What is read as a field is sound.
use Rattle.std.proofs.Common.{◌≡◌, ◌≢◌, ◌<◌, ◌≤◌, ◌^◌, ◌==◌, ℕ, suc, ℤ, pos, negsuc, Bool, true, false, nat_lt, List, [], ◌∷◌, codes, map, length, Option, Some, None, option_map, option_and_then, IfSome, IsTrue, IsUtf8, All, AllPairs, MatchOption, if◌then◌else◌, refl, sym, ap, subst, ◌∙◌, arith}
use Rattle.std.specs.List.{list_all}
use Rattle.std.specs.Str.{bytes_eq, is_utf8}
use Rattle.std.proofs.lemmas.List.Elements.{All-cons, All-nil}
use Rattle.std.proofs.lemmas.Option.{same_Some}
use Rattle.std.proofs.lemmas.Str.{IsUtf8-from_is_utf8}
use Rattle.pocket_types.specs.Names.{is_name, IsMoment}
use Rattle.pocket_types.specs.declared.json.Jv.{Jv}
use Rattle.pocket_types.specs.declared.json.Jv.TheOpen as jv
use Rattle.pocket_types.specs.declared.json.Jv.TheOpen.{Jv-F}
use Rattle.pocket_types.specs.declared.json.Jv.TheViews.{roll-Jv, out-Jv, roll-out-Jv}
use Rattle.pocket_types.specs.declared.json.Member.{Member}
use Rattle.pocket_types.specs.declared.records.Field.{Field}
use Rattle.pocket_types.specs.declared.records.Kind.{Kind}
use Rattle.pocket_types.specs.declared.records.Kind.TheVariants as kind
use Rattle.pocket_types.specs.Profile.{keys_rise, numbers_small, texts_utf8, levels, greatest, IsProfiled}
use Rattle.pocket_json.proofs.Layers.{rising_list, small_list, utf8_list, levels_list}
use Rattle.pocket_json.proofs.Profiles.{and_parts}
use Rattle.pocket_ops.specs.DateReading.{date_of}
use Rattle.pocket_ops.specs.Dates.{IsDateOf}
use Rattle.pocket_ops.proofs.ReadDates.{forms}
use Rattle.pocket_ops.specs.Trees.{list_jv, field_jv}
use Rattle.pocket_types.specs.Sound.{IsFieldName, is_reserved, IsSmall, IsCellTree, IsSoundKind, IsSoundField, may_be_unique}
use Rattle.pocket_rows.proofs.CellLemmas.{small_number}
use Rattle.pocket_rows.proofs.FieldLemmas.{fields_back}
use Rattle.pocket_rows.proofs.RecLemmas.{map_shallow}
use Rattle.pocket_rows.proofs.TreeForms.{list_once}
use Rattle.pocket_rows.specs.Cells.{AreShallow, value_under}
use Rattle.pocket_rows.specs.CollectionReading.{ReadsFields}
use Rattle.pocket_rows.specs.FieldReading.{text_in, count_in, bound_in, list_in, members_in, may_be_date, utf8_of, text_read, read_all, text_at, flag_at, count_at, bound_at, date_at, texts_at, name_of, name_at, field_name_of, field_name_at, text_kind, number_kind, date_kind, json_kind, select_kind, relation_kind, kind_named, kind_at, unique_at, field_at, field_read}

-- ---- options

then_some : {A B : Type 0} (f : A → Option B) (o : Option A) (P : A → Type 0) (Q : B → Type 0) → IfSome o P → ((a : A) → P a → IfSome (f a) Q) → IfSome (option_and_then f o) Q
then_some f None P Q h more = tt
then_some f (Some a) P Q h more = more a h

map_some : {A B : Type 0} (f : A → B) (o : Option A) (P : A → Type 0) (Q : B → Type 0) → IfSome o P → ((a : A) → P a → Q (f a)) → IfSome (option_map f o) Q
map_some f None P Q h more = tt
map_some f (Some a) P Q h more = more a h

if_some : {A : Type 0} (b : Bool) (x y : Option A) (P : A → Type 0) → IfSome x P → IfSome y P → IfSome (if b then x else y) P
if_some true x y P h k = h
if_some false x y P h k = k

abbrev Any : {A : Type 0} → A → Type 0
Any a = Unit {0}

any : {A : Type 0} (o : Option A) → IfSome o Any
any None = tt
any (Some a) = tt

-- ---- lists

all_sound : {A : Type 0} (read : Jv → Option A) (P : Jv → Type 0) (Q : A → Type 0) → ((t : Jv) → P t → IfSome (read t) Q) → (ts : List Jv) → All P ts → IfSome (read_all read ts) (All Q)
all_sound read P Q one [] h = All-nil Q
all_sound read P Q one (t ∷ ts) h =
    then_some (λ x. option_map (λ xs. x ∷ xs) (read_all read ts)) (read t) Q (All Q) (one t (h 0 t (omega arith)))
    (λ x p. map_some (λ xs. x ∷ xs) (read_all read ts) (All Q) (All Q) (all_sound read P Q one ts (λ k d l. h (suc k) d (omega arith))) (λ xs q. All-cons Q x xs p q))

-- ---- what stands under a key

pub value_shallow : (key : List ℕ) (ms : List Member) → AreShallow ms → IfSome (value_under key ms) IsCellTree
value_shallow key [] h = tt
value_shallow key (m ∷ ms) h =
    if_some (bytes_eq m.key key) (Some m.value) (value_under key ms) IsCellTree (h 0 m (omega arith)) (value_shallow key ms (λ k d l. h (suc k) d (omega arith)))

below : (a b : ℕ) → nat_lt a b ≡ true → a < b
below a b h = grind arith

count_sound : (key : List ℕ) (ms : List Member) → IfSome (count_at key ms) (λ n. n < 2 ^ 32)
unfolding count_at
count_sound key ms = then_some (λ tree. count_in (out-Jv tree)) (value_under key ms) Any (λ n. n < 2 ^ 32) (any (value_under key ms)) (λ tree u. layer (out-Jv tree))
  where
    small : (n : ℕ) (b : Bool) → nat_lt n (2 ^ 32) ≡ b → IfSome (if b then Some n else None) (λ n. n < 2 ^ 32)
    small n true is = below n (2 ^ 32) is
    small n false is = tt

    layer : (x : Jv-F Jv Member) → IfSome (count_in x) (λ n. n < 2 ^ 32)
    layer (jv.Num (pos n)) = small n (nat_lt n (2 ^ 32)) refl
    layer (jv.Num (negsuc n)) = tt
    layer jv.Null = tt
    layer (jv.Flag b) = tt
    layer (jv.Text t) = tt
    layer (jv.List items) = tt
    layer (jv.Map members) = tt

bound_sound : (key : List ℕ) (ms : List Member) → AreShallow ms → IfSome (bound_at key ms) (λ b. IfSome b IsSmall)
unfolding bound_at
bound_sound key ms h = then_some (λ tree. bound_in (out-Jv tree)) (value_under key ms) IsCellTree (λ b. IfSome b IsSmall) (value_shallow key ms h) (λ tree t. layer tree (out-Jv tree) refl t)
  where
    layer : (tree : Jv) (x : Jv-F Jv Member) → out-Jv tree ≡ x → IsCellTree tree → IfSome (bound_in x) (λ b. IfSome b IsSmall)
    layer tree jv.Null e t = tt
    layer tree (jv.Num n) e t = small_number n (subst IsCellTree (sym (roll-out-Jv tree) ∙ ap roll-Jv e) t)
    layer tree (jv.Flag b) e t = tt
    layer tree (jv.Text s) e t = tt
    layer tree (jv.List items) e t = tt
    layer tree (jv.Map members) e t = tt

date_sound : (key : List ℕ) (ms : List Member) → IfSome (date_at key ms) (λ d. IfSome d IsMoment)
unfolding date_at
date_sound key ms = then_some may_be_date (text_at key ms) Any (λ d. IfSome d IsMoment) (any (text_at key ms)) (λ t u. either t)
  where
    moment : (t : List ℕ) (r : Option ℤ) → MatchOption r ((m : ℤ) → ¬ IsDateOf t m) (λ m. IsDateOf t m) → IfSome (option_map (λ m. Some m) r) (λ d. IfSome d IsMoment)
    moment t None h = tt
    moment t (Some m) h = h.4

    either : (t : List ℕ) → IfSome (may_be_date t) (λ d. IfSome d IsMoment)
    either t = if_some (length t == 0) (Some None) (option_map (λ m. Some m) (date_of t)) (λ d. IfSome d IsMoment) tt (moment t (date_of t) (forms t (date_of t) refl))

text_sound : (tree : Jv) → Any tree → IfSome (text_read tree) IsUtf8
text_sound tree u = then_some utf8_of (text_in (out-Jv tree)) Any IsUtf8 (any (text_in (out-Jv tree))) (λ t v. by t (is_utf8 t) refl)
  where
    by : (t : List ℕ) (b : Bool) → is_utf8 t ≡ b → IfSome (if b then Some t else None) IsUtf8
    by t true is = IsUtf8-from_is_utf8 t is
    by t false is = tt

texts_sound : (key : List ℕ) (ms : List Member) → IfSome (texts_at key ms) (All IsUtf8)
unfolding texts_at
texts_sound key ms =
    let trees = option_and_then (λ tree. list_in (out-Jv tree)) (value_under key ms) in
    then_some (read_all text_read) trees Any (All IsUtf8) (any trees) (λ ts u. all_sound text_read Any IsUtf8 text_sound ts (λ k d l. tt))

spelt : (t : List ℕ) → IfSome (name_of t) (λ n. IsTrue (is_name n))
spelt t = by (is_name t) refl
  where
    by : (b : Bool) → is_name t ≡ b → IfSome (if b then Some t else None) (λ n. IsTrue (is_name n))
    by true is = is
    by false is = tt

name_sound : (key : List ℕ) (ms : List Member) → IfSome (name_at key ms) (λ n. IsTrue (is_name n))
unfolding name_at
name_sound key ms = then_some name_of (text_at key ms) Any (λ n. IsTrue (is_name n)) (any (text_at key ms)) (λ t u. spelt t)

field_name_sound : (key : List ℕ) (ms : List Member) → IfSome (field_name_at key ms) IsFieldName
unfolding field_name_at
field_name_sound key ms = then_some field_name_of (text_at key ms) Any IsFieldName (any (text_at key ms)) (λ t u. by t (is_reserved t) (is_name t) refl refl)
  where
    by : (t : List ℕ) (a b : Bool) → is_reserved t ≡ a → is_name t ≡ b → IfSome (if a then None else (if b then Some t else None)) IsFieldName
    by t true b e f = tt
    by t false true e f = (f, e)
    by t false false e f = tt

-- ---- types

text_kind_sound : (ms : List Member) → IfSome (text_kind ms) IsSoundKind
unfolding text_kind
text_kind_sound ms =
    then_some (λ x. option_map (λ y. kind.Text x y) (count_at (codes "max") ms)) (count_at (codes "min") ms) (λ n. n < 2 ^ 32) IsSoundKind (count_sound (codes "min") ms)
    (λ x p. map_some (λ y. kind.Text x y) (count_at (codes "max") ms) (λ n. n < 2 ^ 32) IsSoundKind (count_sound (codes "max") ms) (λ y q. (p, q)))

number_kind_sound : (ms : List Member) → AreShallow ms → IfSome (number_kind ms) IsSoundKind
unfolding number_kind
number_kind_sound ms h =
    then_some (λ x. option_map (λ y. kind.Number x y) (bound_at (codes "max") ms)) (bound_at (codes "min") ms) (λ b. IfSome b IsSmall) IsSoundKind (bound_sound (codes "min") ms h)
    (λ x p. map_some (λ y. kind.Number x y) (bound_at (codes "max") ms) (λ b. IfSome b IsSmall) IsSoundKind (bound_sound (codes "max") ms h) (λ y q. (p, q)))

date_kind_sound : (ms : List Member) → IfSome (date_kind ms) IsSoundKind
unfolding date_kind
date_kind_sound ms =
    then_some (λ x. option_map (λ y. kind.Date x y) (date_at (codes "max") ms)) (date_at (codes "min") ms) (λ d. IfSome d IsMoment) IsSoundKind (date_sound (codes "min") ms)
    (λ x p. map_some (λ y. kind.Date x y) (date_at (codes "max") ms) (λ d. IfSome d IsMoment) IsSoundKind (date_sound (codes "max") ms) (λ y q. (p, q)))

json_kind_sound : (ms : List Member) → IfSome (json_kind ms) IsSoundKind
unfolding json_kind
json_kind_sound ms = map_some (λ y. kind.Json y) (count_at (codes "maxSize") ms) (λ n. n < 2 ^ 32) IsSoundKind (count_sound (codes "maxSize") ms) (λ y q. q)

select_kind_sound : (ms : List Member) → IfSome (select_kind ms) IsSoundKind
unfolding select_kind
select_kind_sound ms =
    then_some (λ x. option_map (λ y. kind.Select y x) (texts_at (codes "values") ms)) (count_at (codes "maxSelect") ms) (λ n. n < 2 ^ 32) IsSoundKind (count_sound (codes "maxSelect") ms)
    (λ x p. map_some (λ y. kind.Select y x) (texts_at (codes "values") ms) (All IsUtf8) IsSoundKind (texts_sound (codes "values") ms) (λ y q. (q, p)))

relation_kind_sound : (ms : List Member) → IfSome (relation_kind ms) IsSoundKind
unfolding relation_kind
relation_kind_sound ms =
    then_some (λ x. option_and_then (λ y. option_map (λ z. kind.Relation z x y) (name_at (codes "collection") ms)) (flag_at (codes "cascadeDelete") ms)) (count_at (codes "maxSelect") ms) (λ n. n < 2 ^ 32) IsSoundKind (count_sound (codes "maxSelect") ms)
    (λ x p. then_some (λ y. option_map (λ z. kind.Relation z x y) (name_at (codes "collection") ms)) (flag_at (codes "cascadeDelete") ms) Any IsSoundKind (any (flag_at (codes "cascadeDelete") ms))
    (λ y u. map_some (λ z. kind.Relation z x y) (name_at (codes "collection") ms) (λ n. IsTrue (is_name n)) IsSoundKind (name_sound (codes "collection") ms) (λ z q. (q, p))))

kind_named_sound : (t : List ℕ) (ms : List Member) → AreShallow ms → IfSome (kind_named t ms) IsSoundKind
unfolding kind_named
kind_named_sound t ms h =
    if_some (bytes_eq t (codes "text")) (text_kind ms) _ IsSoundKind (text_kind_sound ms)
    (if_some (bytes_eq t (codes "number")) (number_kind ms) _ IsSoundKind (number_kind_sound ms h)
    (if_some (bytes_eq t (codes "bool")) (Some kind.Flag) _ IsSoundKind tt
    (if_some (bytes_eq t (codes "date")) (date_kind ms) _ IsSoundKind (date_kind_sound ms)
    (if_some (bytes_eq t (codes "select")) (select_kind ms) _ IsSoundKind (select_kind_sound ms)
    (if_some (bytes_eq t (codes "json")) (json_kind ms) _ IsSoundKind (json_kind_sound ms)
    (if_some (bytes_eq t (codes "relation")) (relation_kind ms) None IsSoundKind (relation_kind_sound ms) tt))))))

kind_sound : (ms : List Member) → AreShallow ms → IfSome (kind_at ms) IsSoundKind
unfolding kind_at
kind_sound ms h = then_some (λ t. kind_named t ms) (text_at (codes "type") ms) Any IsSoundKind (any (text_at (codes "type") ms)) (λ t u. kind_named_sound t ms h)

-- ---- fields

unique_sound : (k : Kind) (ms : List Member) → IfSome (unique_at k ms) (λ u. IsTrue u → IsTrue (may_be_unique k))
unfolding unique_at
unique_sound k ms = by (may_be_unique k) (flag_at (codes "unique") ms)
  where
    by : (b : Bool) (found : Option Bool) → IfSome (if b then found else Some false) (λ u. IsTrue u → IsTrue b)
    by true None = tt
    by true (Some u) = λ _. refl
    by false found = λ h. h

members_sound : (ms : List Member) → AreShallow ms → IfSome (field_at ms) IsSoundField
unfolding field_at
members_sound ms h =
    then_some _ (field_name_at (codes "name") ms) IsFieldName IsSoundField (field_name_sound (codes "name") ms)
    (λ n p. then_some _ (kind_at ms) IsSoundKind IsSoundField (kind_sound ms h)
    (λ k q. then_some _ (flag_at (codes "required") ms) Any IsSoundField (any (flag_at (codes "required") ms))
    (λ r v. then_some _ (flag_at (codes "hidden") ms) Any IsSoundField (any (flag_at (codes "hidden") ms))
    (λ i w. map_some _ (unique_at k ms) (λ u. IsTrue u → IsTrue (may_be_unique k)) IsSoundField (unique_sound k ms) (λ u x. record { name = p; kind = q; unique = x })))))

pub members_shallow : (tree : Jv) (ms : List Member) → tree ≡ roll-Jv (jv.Map ms) → IsCellTree tree → AreShallow ms
members_shallow tree ms e h = map_shallow ms (subst IsProfiled e (record { keys = h.keys; numbers = h.numbers; texts = h.texts; depth = omega (arith, h.depth) }))

field_sound : (tree : Jv) → IsCellTree tree → IfSome (field_read tree) IsSoundField
unfolding field_read
field_sound tree h = by (out-Jv tree) refl
  where
    by : (x : Jv-F Jv Member) → out-Jv tree ≡ x → IfSome (option_and_then field_at (members_in x)) IsSoundField
    by jv.Null e = tt
    by (jv.Flag b) e = tt
    by (jv.Num n) e = tt
    by (jv.Text t) e = tt
    by (jv.List items) e = tt
    by (jv.Map ms) e = members_sound ms (members_shallow tree ms (sym (roll-out-Jv tree) ∙ ap roll-Jv e) h)

trees_shallow : (ts : List Jv) → list_all keys_rise ts ≡ true → list_all numbers_small ts ≡ true → list_all texts_utf8 ts ≡ true → greatest (map levels ts) ≤ 31 → All IsCellTree ts
trees_shallow [] k s u l = All-nil IsCellTree
trees_shallow (t ∷ ts) k s u l =
    let ks = and_parts (keys_rise t) (list_all keys_rise ts) k in
    let ss = and_parts (numbers_small t) (list_all numbers_small ts) s in
    let us = and_parts (texts_utf8 t) (list_all texts_utf8 ts) u in
    All-cons IsCellTree t ts (record { keys = ks.0; numbers = ss.0; texts = us.0; depth = omega (arith, l) }) (trees_shallow ts ks.1 ss.1 us.1 (omega (arith, l)))

pub items_shallow : (tree : Jv) (ts : List Jv) → tree ≡ list_jv ts → IsCellTree tree → All IsCellTree ts
items_shallow tree ts e h =
    let q = subst IsCellTree e h in
    trees_shallow ts (sym (rising_list ts) ∙ q.keys) (sym (small_list ts) ∙ q.numbers) (sym (utf8_list ts) ∙ q.texts) (omega (arith, levels_list ts, q.depth))

-- ---- the fields of a list

pub fields_found : (tree : Jv) (ts : List Jv) (fs : List Field) → tree ≡ list_jv ts → IsCellTree tree → Some fs ≡ read_all field_read ts → AllPairs (λ f g. f.name ≢ g.name) fs → ReadsFields tree (Some fs)
fields_found tree ts fs e h is differ = record {
  are = record { sound = subst (λ o. IfSome o (All IsSoundField)) (sym is) (all_sound field_read IsCellTree IsSoundField field_sound ts (items_shallow tree ts e h)); differ = differ };
  back = λ gs g q. is ∙ ap (read_all field_read) (list_once ts (map field_jv gs) (sym e ∙ q)) ∙ fields_back gs g.sound;
}

pub fields_unread : (tree : Jv) (ts : List Jv) → tree ≡ list_jv ts → None ≡ read_all field_read ts → ReadsFields tree None
fields_unread tree ts e is = record { are = tt; back = λ gs g q. is ∙ ap (read_all field_read) (list_once ts (map field_jv gs) (sym e ∙ q)) ∙ fields_back gs g.sound }

pub fields_alike : (tree : Jv) (ts : List Jv) (fs : List Field) → tree ≡ list_jv ts → Some fs ≡ read_all field_read ts → ¬ AllPairs (λ f g. f.name ≢ g.name) fs → ReadsFields tree None
fields_alike tree ts fs e is alike = record {
  are = tt;
  back = λ gs g q.
      let same : Some fs ≡ Some gs = is ∙ ap (read_all field_read) (list_once ts (map field_jv gs) (sym e ∙ q)) ∙ fields_back gs g.sound in
      absurd (alike (subst (AllPairs (λ f g. f.name ≢ g.name)) (sym (same_Some fs gs same)) g.differ));
}
