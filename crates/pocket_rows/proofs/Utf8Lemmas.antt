-- The texts in the trees of records, tokens and collections are UTF-8.
use Rattle.std.proofs.Common.{◌≡◌, ◌<◌, ℕ, zero, suc, ℤ, pos, Bool, true, false, ◌&&◌, not, nat_le, List, [], ◌∷◌, ◌++◌, codes, map, Option, Some, None, IfSome, if◌then◌else◌, IsTrue, IsUtf8, All, refl, ◌∙◌, arith}
use Rattle.std.specs.List.{list_all}
use Rattle.std.specs.Str.{IsAscii, is_utf8}
use Rattle.std.proofs.lemmas.Bool.{and_from}
use Rattle.std.proofs.lemmas.Bool.Decides.{nat_tests}
use Rattle.std.proofs.lemmas.Grind.{common_steps}
use Rattle.std.proofs.lemmas.List.Elements.{All-head, All-tail}
use Rattle.std.proofs.lemmas.Str.{IsUtf8-from_ascii, IsUtf8-nil, is_utf8-from_IsUtf8}
use Rattle.pocket_types.specs.Maps.{map_jv, put}
use Rattle.pocket_types.specs.Names.{is_id, is_name, is_word, IsMoment}
use Rattle.pocket_types.specs.Profile.{entry_utf8, texts_utf8, utf8_member, utf8_step}
use Rattle.pocket_types.specs.Sound.{AllFit, Fits, IsSoundCollection, IsSoundField, IsSoundKind, IsSoundRec, IsWritten}
use Rattle.pocket_types.proofs.Bytes.{id_is_ascii}
use Rattle.pocket_types.specs.declared.json.Jv.{Jv}
use Rattle.pocket_types.specs.declared.json.Jv.TheOpen as jv
use Rattle.pocket_types.specs.declared.json.Jv.TheFolds.{fold-roll-Jv}
use Rattle.pocket_types.specs.declared.records.Cell.{Cell}
use Rattle.pocket_types.specs.declared.records.Cell.TheVariants as cell
use Rattle.pocket_types.specs.declared.records.Collection.{Collection}
use Rattle.pocket_types.specs.declared.records.Field.{Field}
use Rattle.pocket_types.specs.declared.records.Kind.{Kind}
use Rattle.pocket_types.specs.declared.records.Kind.TheVariants as kind
use Rattle.pocket_types.specs.declared.records.Rec.{Rec}
use Rattle.pocket_types.specs.declared.records.Rule.{Rule}
use Rattle.pocket_types.specs.declared.records.Rule.TheVariants as rule
use Rattle.pocket_json.proofs.Layers.{utf8_list, utf8_map}
use Rattle.pocket_json.proofs.Profiles.{put_utf8}
use Rattle.pocket_ops.specs.Calendar.{civil_of}
use Rattle.pocket_ops.specs.Dates.{date_text}
use Rattle.pocket_ops.specs.Trees.{bound_jv, cell_jv, collection_jv, collection_members, date_jv, date_members, field_jv, field_members, flag_jv, items_jv, kept_jv, list_jv, null_jv, num_jv, one_jv, put_cells, rec_members, rule_jv, text_jv, type_text}
use Rattle.pocket_ops.proofs.DigitLemmas.{IsUtf8-civil_text}
use Rattle.pocket_keeper.specs.Texts.{token_members}
use Rattle.pocket_keeper.specs.declared.tokens.Token.{Token}
use Rattle.pocket_keeper.proofs.KeyLemmas.{name_words}
use Rattle.pocket_rows.specs.SoundTokens.{IsSoundToken}
use Rattle.pocket_rows.proofs.MemberLemmas.{Entries}
use Rattle.pocket_rows.proofs.MomentLemmas.{civil_of-form}

-- ---- names, ids and dates

word_low : (b : ℕ) → is_word b ≡ true → b < 128
word_low b h = grind (arith, nat_tests)

pub first_word : (b : ℕ) (bs : List ℕ) → list_all is_word (b ∷ bs) ≡ true → is_word b ≡ true
first_word b bs h = grind (arith, nat_tests)

pub later_words : (b : ℕ) (bs : List ℕ) → list_all is_word (b ∷ bs) ≡ true → list_all is_word bs ≡ true
later_words b bs h = grind (arith, nat_tests)

words_low : (bs : List ℕ) → list_all is_word bs ≡ true → IsAscii bs
words_low [] h k = grind (arith, common_steps)
words_low (b ∷ bs) h zero = word_low b (first_word b bs h)
words_low (b ∷ bs) h (suc k) = words_low bs (later_words b bs h) k

words : (t : List ℕ) → list_all is_word t ≡ true → IsUtf8 t
words t h = IsUtf8-from_ascii t (words_low t h)

name_is : (bs : List ℕ) → IsTrue (is_name bs) → IsUtf8 bs
name_is bs h = words bs (name_words bs h)

id_is : (bs : List ℕ) → IsTrue (is_id bs) → IsUtf8 bs
id_is bs h = IsUtf8-from_ascii bs (id_is_ascii bs h)

date_is : (m : ℤ) → IsMoment m → IsUtf8 (date_text m)
date_is m h = IsUtf8-civil_text (civil_of m) (civil_of-form m h).0

-- ---- trees of one layer

null_utf8 : texts_utf8 null_jv ≡ true
null_utf8 = fold-roll-Jv Bool Bool utf8_step utf8_member jv.Null

flag_utf8 : (b : Bool) → texts_utf8 (flag_jv b) ≡ true
flag_utf8 b = fold-roll-Jv Bool Bool utf8_step utf8_member (jv.Flag b)

num_utf8 : (n : ℤ) → texts_utf8 (num_jv n) ≡ true
num_utf8 n = fold-roll-Jv Bool Bool utf8_step utf8_member (jv.Num n)

text_utf8 : (t : List ℕ) → IsUtf8 t → texts_utf8 (text_jv t) ≡ true
text_utf8 t h = fold-roll-Jv Bool Bool utf8_step utf8_member (jv.Text t) ∙ is_utf8-from_IsUtf8 t h

empty_utf8 : texts_utf8 (text_jv []) ≡ true
empty_utf8 = text_utf8 [] IsUtf8-nil

-- ---- cells

all_texts : (ts : List (List ℕ)) → All IsUtf8 ts → list_all texts_utf8 (map text_jv ts) ≡ true
all_texts [] h = refl
all_texts (t ∷ ts) h = and_from _ _ (text_utf8 t (All-head IsUtf8 t ts h)) (all_texts ts (All-tail IsUtf8 t ts h))

list_utf8 : (ts : List (List ℕ)) → All IsUtf8 ts → texts_utf8 (list_jv (map text_jv ts)) ≡ true
list_utf8 ts h = utf8_list (map text_jv ts) ∙ all_texts ts h

one_utf8 : (ts : List (List ℕ)) → All IsUtf8 ts → texts_utf8 (one_jv ts) ≡ true
one_utf8 [] h = empty_utf8
one_utf8 (t ∷ ts) h = text_utf8 t (All-head IsUtf8 t ts h)

items_utf8 : (most : ℕ) (ts : List (List ℕ)) → All IsUtf8 ts → texts_utf8 (items_jv most ts) ≡ true
items_utf8 most ts h = by (nat_le most 1)
  where
    by : (b : Bool) → texts_utf8 (if b then one_jv ts else list_jv (map text_jv ts)) ≡ true
    by true = one_utf8 ts h
    by false = list_utf8 ts h

date_utf8 : (d : Option ℤ) → IfSome d IsMoment → texts_utf8 (date_jv d) ≡ true
date_utf8 None h = empty_utf8
date_utf8 (Some m) h = text_utf8 (date_text m) (date_is m h)

cell_utf8 : (k : Kind) (c : Cell) → Fits k c → texts_utf8 (cell_jv k c) ≡ true
cell_utf8 (kind.Text min max) (cell.Text t) h = text_utf8 t h
cell_utf8 k (cell.Text t) h = absurd h
cell_utf8 k (cell.Num n) h = num_utf8 n
cell_utf8 k (cell.Flag b) h = flag_utf8 b
cell_utf8 (kind.Date min max) (cell.Date d) h = date_utf8 d h
cell_utf8 k (cell.Date d) h = absurd h
cell_utf8 (kind.Select values most) (cell.Picks items) h = items_utf8 most items (λ k d l. (h.0 k d l).0)
cell_utf8 k (cell.Picks items) h = absurd h
cell_utf8 (kind.Json max) (cell.Json tree) h = h.texts
cell_utf8 k (cell.Json tree) h = absurd h
cell_utf8 (kind.Relation target most cascade) (cell.Refs ids) h = items_utf8 most ids (λ k d l. id_is _ (h.0 k d l))
cell_utf8 k (cell.Refs ids) h = absurd h

-- ---- records

-- members whose keys and texts are UTF-8
record AreUtf8 (es : Entries) : Type 0 where
  all : list_all entry_utf8 es ≡ true

none : AreUtf8 []
none = record { all = refl }

-- a member more, under a key of letters
more : (key : List ℕ) (v : Jv) {es : Entries} → list_all is_word key ≡ true → texts_utf8 v ≡ true → AreUtf8 es → AreUtf8 ((key, v) ∷ es)
more key v k t h = record { all = and_from _ _ (and_from _ _ (is_utf8-from_IsUtf8 key (words key k)) t) h.all }

put_all_utf8 : (hidden : Bool) (key : List ℕ) (v : Jv) (es : Entries) → is_utf8 key ≡ true → texts_utf8 v ≡ true → list_all entry_utf8 es ≡ true
    → list_all entry_utf8 (if hidden && not true then es else put key v es) ≡ true
put_all_utf8 true key v es k t h = put_utf8 key v es k t h
put_all_utf8 false key v es k t h = put_utf8 key v es k t h

cells_utf8 : (fs : List Field) (cs : List Cell) (es : Entries) → All IsSoundField fs → AllFit fs cs → list_all entry_utf8 es ≡ true → list_all entry_utf8 (put_cells true fs cs es) ≡ true
cells_utf8 [] cs es s h f = f
cells_utf8 (x ∷ fs) [] es s h f = f
cells_utf8 (x ∷ fs) (c ∷ cs) es s h f =
    let key : is_utf8 x.name ≡ true = is_utf8-from_IsUtf8 x.name (name_is x.name (All-head IsSoundField x fs s).name.0) in
    cells_utf8 fs cs (if x.hidden && not true then es else put x.name (cell_jv x.kind c) es) (All-tail IsSoundField x fs s) h.1
    (put_all_utf8 x.hidden x.name (cell_jv x.kind c) es key (cell_utf8 x.kind c h.0) f)

dates_utf8 : (r : Rec) → IsMoment r.created → IsMoment r.updated → AreUtf8 (date_members r)
dates_utf8 r h k =
    more (codes "created") (text_jv (date_text r.created)) refl (text_utf8 (date_text r.created) (date_is r.created h))
    (more (codes "updated") (text_jv (date_text r.updated)) refl (text_utf8 (date_text r.updated) (date_is r.updated k)) none)

pub kept_utf8 : (c : Collection) (r : Rec) → IsSoundCollection c → IsSoundRec c r → texts_utf8 (kept_jv c r) ≡ true
kept_utf8 c r whole sound =
    utf8_map (rec_members true c r) ∙ cells_utf8 c.fields r.cells (date_members r) whole.fields sound.cells (dates_utf8 r sound.created sound.updated).all

-- ---- tokens

pub token_utf8 : (t : Token) → IsSoundToken t → texts_utf8 (map_jv (token_members t.collection t.id t.until)) ≡ true
token_utf8 t sound =
    utf8_map (token_members t.collection t.id t.until)
    ∙ (more (codes "collection") (text_jv t.collection) refl (text_utf8 t.collection (name_is t.collection sound.collection))
    (more (codes "id") (text_jv t.id) refl (text_utf8 t.id (id_is t.id sound.id))
    (more (codes "until") (text_jv (date_text t.until)) refl (text_utf8 (date_text t.until) (date_is t.until sound.until)) none))).all

-- ---- fields

bound_utf8 : (n : Option ℤ) → texts_utf8 (bound_jv n) ≡ true
bound_utf8 None = null_utf8
bound_utf8 (Some n) = num_utf8 n

-- the members that fields of all kinds have
named : (key : List ℕ) (t : List ℕ) {es : Entries} → list_all is_word key ≡ true → IsUtf8 t → AreUtf8 es → AreUtf8 ((key, text_jv t) ∷ es)
named key t k u h = more key (text_jv t) k (text_utf8 t u) h

flagged : (key : List ℕ) (b : Bool) {es : Entries} → list_all is_word key ≡ true → AreUtf8 es → AreUtf8 ((key, flag_jv b) ∷ es)
flagged key b k h = more key (flag_jv b) k (flag_utf8 b) h

counted : (key : List ℕ) (n : ℕ) {es : Entries} → list_all is_word key ≡ true → AreUtf8 es → AreUtf8 ((key, num_jv (pos n)) ∷ es)
counted key n k h = more key (num_jv (pos n)) k (num_utf8 (pos n)) h

-- a field's flag `unique`, where it has one, and what follows
unique_utf8 : (one unique : Bool) {es : Entries} → AreUtf8 es → AreUtf8 ((if one then (codes "unique", flag_jv unique) ∷ [] else []) ++ es)
unique_utf8 true unique h = flagged (codes "unique") unique refl h
unique_utf8 false unique h = h

last_unique : (one unique : Bool) → AreUtf8 (if one then (codes "unique", flag_jv unique) ∷ [] else [])
last_unique true unique = flagged (codes "unique") unique refl none
last_unique false unique = none

members_utf8 : (k : Kind) (f : Field) → IsUtf8 f.name → IsSoundKind k → AreUtf8 (field_members k f)
members_utf8 (kind.Text min max) f n h =
    flagged (codes "hidden") f.hidden refl (counted (codes "max") max refl (counted (codes "min") min refl (named (codes "name") f.name refl n
    (flagged (codes "required") f.required refl (named (codes "type") (codes "text") refl (words (codes "text") refl) (flagged (codes "unique") f.unique refl none))))))
members_utf8 (kind.Number min max) f n h =
    flagged (codes "hidden") f.hidden refl (more (codes "max") (bound_jv max) refl (bound_utf8 max) (more (codes "min") (bound_jv min) refl (bound_utf8 min) (named (codes "name") f.name refl n
    (flagged (codes "required") f.required refl (named (codes "type") (codes "number") refl (words (codes "number") refl) (flagged (codes "unique") f.unique refl none))))))
members_utf8 kind.Flag f n h =
    flagged (codes "hidden") f.hidden refl (named (codes "name") f.name refl n
    (flagged (codes "required") f.required refl (named (codes "type") (codes "bool") refl (words (codes "bool") refl) none)))
members_utf8 (kind.Date min max) f n h =
    flagged (codes "hidden") f.hidden refl (more (codes "max") (date_jv max) refl (date_utf8 max h.1) (more (codes "min") (date_jv min) refl (date_utf8 min h.0) (named (codes "name") f.name refl n
    (flagged (codes "required") f.required refl (named (codes "type") (codes "date") refl (words (codes "date") refl) (flagged (codes "unique") f.unique refl none))))))
members_utf8 (kind.Select values most) f n h =
    flagged (codes "hidden") f.hidden refl (counted (codes "maxSelect") most refl (named (codes "name") f.name refl n
    (flagged (codes "required") f.required refl (named (codes "type") (codes "select") refl (words (codes "select") refl)
    (unique_utf8 (nat_le most 1) f.unique (more (codes "values") (list_jv (map text_jv values)) refl (list_utf8 values h.0) none))))))
members_utf8 (kind.Json max) f n h =
    flagged (codes "hidden") f.hidden refl (counted (codes "maxSize") max refl (named (codes "name") f.name refl n
    (flagged (codes "required") f.required refl (named (codes "type") (codes "json") refl (words (codes "json") refl) none))))
members_utf8 (kind.Relation target most cascade) f n h =
    flagged (codes "cascadeDelete") cascade refl (named (codes "collection") target refl (name_is target h.0) (flagged (codes "hidden") f.hidden refl (counted (codes "maxSelect") most refl
    (named (codes "name") f.name refl n (flagged (codes "required") f.required refl (named (codes "type") (codes "relation") refl (words (codes "relation") refl)
    (last_unique (nat_le most 1) f.unique)))))))

field_utf8 : (f : Field) → IsSoundField f → texts_utf8 (field_jv f) ≡ true
field_utf8 f h = utf8_map (field_members f.kind f) ∙ (members_utf8 f.kind f (name_is f.name h.name.0) h.kind).all

fields_utf8 : (fs : List Field) → All IsSoundField fs → list_all texts_utf8 (map field_jv fs) ≡ true
fields_utf8 [] h = refl
fields_utf8 (f ∷ fs) h = and_from _ _ (field_utf8 f (All-head IsSoundField f fs h)) (fields_utf8 fs (All-tail IsSoundField f fs h))

-- ---- collections

rule_utf8 : (r : Rule) → IsWritten r → texts_utf8 (rule_jv r) ≡ true
rule_utf8 rule.Locked h = null_utf8
rule_utf8 rule.Free h = empty_utf8
rule_utf8 (rule.Filter t) h = text_utf8 t h.0

type_utf8 : (is_auth : Bool) → IsUtf8 (type_text is_auth)
type_utf8 true = words (codes "auth") refl
type_utf8 false = words (codes "base") refl

pub collection_utf8 : (c : Collection) → IsSoundCollection c → texts_utf8 (collection_jv c) ≡ true
collection_utf8 c h =
    utf8_map (collection_members c)
    ∙ (more (codes "createRule") (rule_jv c.create_rule) refl (rule_utf8 c.create_rule h.create_rule) (more (codes "deleteRule") (rule_jv c.delete_rule) refl (rule_utf8 c.delete_rule h.delete_rule)
    (more (codes "fields") (list_jv (map field_jv c.fields)) refl (utf8_list (map field_jv c.fields) ∙ fields_utf8 c.fields h.fields)
    (more (codes "listRule") (rule_jv c.list_rule) refl (rule_utf8 c.list_rule h.list_rule) (named (codes "name") c.name refl (name_is c.name h.name)
    (named (codes "type") (type_text c.is_auth) refl (type_utf8 c.is_auth) (more (codes "updateRule") (rule_jv c.update_rule) refl (rule_utf8 c.update_rule h.update_rule)
    (more (codes "viewRule") (rule_jv c.view_rule) refl (rule_utf8 c.view_rule h.view_rule) none)))))))).all
