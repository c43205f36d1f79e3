-- What stands under the keys of a map that was put together.
use Rattle.std.proofs.Common.{◌≡◌, ◌≢◌, ◌<◌, ℕ, suc, Bool, true, false, ◌&&◌, not, List, [], ◌∷◌, codes, map, length, slice_index_or, Option, Some, if◌then◌else◌, refl, sym, ap, ◌∙◌, rules, arith, ◌+◌, get_or, drop, drop-cons, add-one}
use Rattle.std.specs.Ordering.{nat_cmp, is_eq, match_ordering}
use Rattle.std.specs.Cmp.Lexicographic.{slice_cmp}
use Rattle.std.specs.List.{AllPairs}
use Rattle.std.specs.Str.{bytes_eq}
use Rattle.std.specs.declared.cmp.Ordering.{Ordering}
use Rattle.std.specs.declared.cmp.Ordering.TheVariants.{Less, Equal, Greater}
use Rattle.std.proofs.lemmas.Bool.{false≢true}
use Rattle.std.proofs.lemmas.Map.Text.{is_eq-slice_cmp}
use Rattle.pocket_types.proofs.OrderLemmas.{equal_itself, same_from_equal}
use Rattle.pocket_types.specs.declared.json.Jv.{Jv, the_lemmas}
use Rattle.pocket_types.specs.declared.json.Member.{Member}
use Rattle.pocket_types.specs.declared.records.Cell.{Cell}
use Rattle.pocket_types.specs.declared.records.Collection.{Collection}
use Rattle.pocket_types.specs.declared.records.Field.{Field}
use Rattle.pocket_types.specs.declared.records.Rec.{Rec}
use Rattle.pocket_ops.specs.Dates.{date_text}
use Rattle.pocket_types.specs.Maps.{member_of, put}
use Rattle.pocket_ops.specs.Trees.{put_cells, cell_jv, text_jv, date_members, rec_members}
use Rattle.pocket_types.specs.Sound.{is_reserved, IsSoundCollection}
use Rattle.pocket_keeper.specs.Texts.{token_members}
use Rattle.pocket_keeper.specs.declared.tokens.Token.{Token}
use Rattle.pocket_rows.specs.Cells.{value_under, AreUnder, IsUnder, IsTokenUnder}

abbrev pub Entries : Type 0
Entries = List (List ℕ × Jv)

-- the value under a key among entries
abbrev pub value_among : List ℕ → Entries → Option Jv
value_among key es = value_under key (map member_of es)

-- ---- texts that are equal and that differ

equal_from : (o : Ordering) → is_eq o ≡ true → o ≡ Equal
equal_from Less h = cc
equal_from Equal h = refl
equal_from Greater h = cc

pub same_text : (a b : List ℕ) → bytes_eq a b ≡ true → a ≡ b
same_text a b h = same_from_equal a b (equal_from (slice_cmp nat_cmp a b) (is_eq-slice_cmp a b ∙ h))

pub text_itself : (a : List ℕ) → bytes_eq a a ≡ true
text_itself a = sym (is_eq-slice_cmp a a) ∙ ap is_eq (equal_itself a)

pub other_text : (a b : List ℕ) → a ≢ b → bytes_eq a b ≡ false
other_text a b h = by (bytes_eq a b) refl
  where
    by : (r : Bool) → bytes_eq a b ≡ r → bytes_eq a b ≡ false
    by true is = absurd (h (same_text a b is))
    by false is = is

-- ---- one entry more

member_key : (e : List ℕ × Jv) → (member_of e).key ≡ e.0
member_key e = search (rules, the_lemmas)

member_value : (e : List ℕ × Jv) → (member_of e).value ≡ e.1
member_value e = search (rules, the_lemmas)

among_first : (key : List ℕ) (e : List ℕ × Jv) (es : Entries) → value_among key (e ∷ es) ≡ (if bytes_eq e.0 key then Some e.1 else value_among key es)
among_first key e es = λ i. if bytes_eq (member_key e i) key then Some (member_value e i) else value_among key es

pub among_found : (key : List ℕ) (e : List ℕ × Jv) (es : Entries) → e.0 ≡ key → value_among key (e ∷ es) ≡ Some e.1
among_found key e es h = among_first key e es ∙ ap (λ b. if b then Some e.1 else value_among key es) (ap (bytes_eq e.0) (sym h) ∙ text_itself e.0)

pub among_next : (key : List ℕ) (e : List ℕ × Jv) (es : Entries) → e.0 ≢ key → value_among key (e ∷ es) ≡ value_among key es
among_next key e es h = among_first key e es ∙ ap (λ b. if b then Some e.1 else value_among key es) (other_text e.0 key h)

-- ---- an entry that is put

greater_differs : (key a : List ℕ) → slice_cmp nat_cmp key a ≡ Greater → a ≢ key
greater_differs key a is e =
    let same : slice_cmp nat_cmp key key ≡ Greater = ap (slice_cmp nat_cmp key) (sym e) ∙ is in
    let clash : Equal ≡ Greater = sym (equal_itself key) ∙ same in
    cc

pub put_found : (key : List ℕ) (v : Jv) (es : Entries) → value_among key (put key v es) ≡ Some v
unfolding put
put_found key v [] = among_found key (key, v) [] refl
put_found key v (e ∷ es) = by (slice_cmp nat_cmp key e.0) refl (put_found key v es)
  where
    by : (o : Ordering) → slice_cmp nat_cmp key e.0 ≡ o → value_among key (put key v es) ≡ Some v
        → value_among key (match_ordering o ((key, v) ∷ e ∷ es) ((e.0, v) ∷ es) (e ∷ put key v es)) ≡ Some v
    by Less is more = among_found key (key, v) (e ∷ es) refl
    by Equal is more = among_found key (e.0, v) es (sym (same_from_equal key e.0 is))
    by Greater is more = among_next key e (put key v es) (greater_differs key e.0 is) ∙ more

pub put_kept : (key other : List ℕ) (v : Jv) (es : Entries) → other ≢ key → value_among key (put other v es) ≡ value_among key es
unfolding put
put_kept key other v [] h = among_next key (other, v) [] h
put_kept key other v (e ∷ es) h = by (slice_cmp nat_cmp other e.0) refl (put_kept key other v es h)
  where
    by : (o : Ordering) → slice_cmp nat_cmp other e.0 ≡ o → value_among key (put other v es) ≡ value_among key es
        → value_among key (match_ordering o ((other, v) ∷ e ∷ es) ((e.0, v) ∷ es) (e ∷ put other v es)) ≡ value_among key (e ∷ es)
    by Less is more = among_next key (other, v) (e ∷ es) h
    by Equal is more =
        let differs : e.0 ≢ key = λ q. h (same_from_equal other e.0 is ∙ q) in
        among_next key (e.0, v) es differs ∙ sym (among_next key e es differs)
    by Greater is more =
        among_first key e (put other v es) ∙ ap (λ x. if bytes_eq e.0 key then Some e.1 else x) more ∙ sym (among_first key e es)

-- ---- the cells of a record

-- no field has the name
abbrev NoneNamed : List ℕ → List Field → Type 0
NoneNamed key [] = Unit {0}
NoneNamed key (f ∷ fs) = (f.name ≢ key) × NoneNamed key fs

-- no two fields have one name
abbrev Apart : List Field → Type 0
Apart [] = Unit {0}
Apart (f ∷ fs) = NoneNamed f.name fs × Apart fs

put_all : (hidden : Bool) (x y : Entries) → (if hidden && not true then x else y) ≡ y
put_all true x y = refl
put_all false x y = refl

cells_kept : (key : List ℕ) (fs : List Field) (cs : List Cell) (es : Entries) → NoneNamed key fs → value_among key (put_cells true fs cs es) ≡ value_among key es
cells_kept key [] cs es h = refl
cells_kept key (f ∷ fs) [] es h = refl
cells_kept key (f ∷ fs) (c ∷ cs) es h =
    let v = cell_jv f.kind c in
    cells_kept key fs cs (if f.hidden && not true then es else put f.name v es) h.1 ∙ ap (value_among key) (put_all f.hidden es (put f.name v es)) ∙ put_kept key f.name v es h.0

cells_under : (fs : List Field) (cs : List Cell) (es : Entries) → Apart fs → AreUnder fs cs (map member_of (put_cells true fs cs es))
cells_under [] cs es h = tt
cells_under (f ∷ fs) [] es h = tt
cells_under (f ∷ fs) (c ∷ cs) es h =
    let v = cell_jv f.kind c in
    let more = if f.hidden && not true then es else put f.name v es in
    (cells_kept f.name fs cs more h.0 ∙ ap (value_among f.name) (put_all f.hidden es (put f.name v es)) ∙ put_found f.name v es, cells_under fs cs more h.1)

-- ---- a sound collection's fields

none_named : (key : List ℕ) (fs : List Field) → ((k : ℕ) (d : Field) → k < length fs → (slice_index_or fs k d).name ≢ key) → NoneNamed key fs
none_named key [] h = tt
none_named key (f ∷ fs) h = (h 0 f (omega arith), none_named key fs (λ k d l. h (suc k) d (omega arith)))

apart : (fs : List Field) → AllPairs (λ f g. f.name ≢ g.name) fs → Apart fs
apart [] h = tt
apart (f ∷ fs) h =
    (none_named f.name fs (λ k d l e. h 0 (suc k) d (omega arith) (omega arith) (sym e)), apart fs (λ i j d l m. h (suc i) (suc j) d (omega arith) (omega arith)))

free_of : (c : Collection) (key : List ℕ) → IsSoundCollection c → is_reserved key ≡ true → NoneNamed key c.fields
free_of c key sound h = none_named key c.fields (λ k d l e. false≢true (sym (sound.fields k d l).name.1 ∙ ap is_reserved e ∙ h))

-- ---- a record's members

abbrev updated_member : Rec → List ℕ × Jv
updated_member r = (codes "updated", text_jv (date_text r.updated))

created_first : (r : Rec) → value_among (codes "created") (date_members r) ≡ Some (text_jv (date_text r.created))
created_first r = among_found (codes "created") (codes "created", text_jv (date_text r.created)) (updated_member r ∷ []) refl

updated_next : (r : Rec) → value_among (codes "updated") (date_members r) ≡ Some (text_jv (date_text r.updated))
updated_next r =
    among_first (codes "updated") (codes "created", text_jv (date_text r.created)) (updated_member r ∷ []) ∙ among_found (codes "updated") (updated_member r) [] refl

pub rec_under : (c : Collection) (r : Rec) → IsSoundCollection c → IsUnder c r (map member_of (rec_members true c r))
rec_under c r sound = record {
  created = cells_kept (codes "created") c.fields r.cells (date_members r) (free_of c (codes "created") sound refl) ∙ created_first r;
  updated = cells_kept (codes "updated") c.fields r.cells (date_members r) (free_of c (codes "updated") sound refl) ∙ updated_next r;
  cells = cells_under c.fields r.cells (date_members r) (apart c.fields sound.differ);
}

-- ---- a token's members

pub token_under : (t : Token) → IsTokenUnder t (map member_of (token_members t.collection t.id t.until))
token_under t =
    let id : List ℕ × Jv = (codes "id", text_jv t.id) in
    let until : List ℕ × Jv = (codes "until", text_jv (date_text t.until)) in
    let name : List ℕ × Jv = (codes "collection", text_jv t.collection) in
    record {
      collection = among_found (codes "collection") name (id ∷ until ∷ []) refl;
      id = among_first (codes "id") name (id ∷ until ∷ []) ∙ among_found (codes "id") id (until ∷ []) refl;
      until = among_first (codes "until") name (id ∷ until ∷ []) ∙ among_first (codes "until") id (until ∷ []) ∙ among_found (codes "until") until [] refl;
    }

-- ---- the value found by going over the members

pub under_here : (key k : List ℕ) (ms : List Member) (i : ℕ) (m : Member) → i < length ms → m ≡ get_or ms i m → k ≡ m.key → bytes_eq k key ≡ true → value_under key ms ≡ value_under key (drop i ms)
    → Some m.value ≡ value_under key ms
under_here key k ms i m l here name same rest =
    let head : drop i ms ≡ m ∷ drop (i + 1) ms = drop-cons ms i m l ∙ ap (λ n. get_or ms i m ∷ drop n ms) (sym (add-one i)) ∙ ap (λ x. x ∷ drop (i + 1) ms) (sym here) in
    sym (rest ∙ ap (value_under key) head ∙ ap (λ b. if b then Some m.value else value_under key (drop (i + 1) ms)) (ap (λ x. bytes_eq x key) (sym name) ∙ same))

pub under_later : (key k : List ℕ) (ms : List Member) (i : ℕ) (m : Member) → i < length ms → m ≡ get_or ms i m → k ≡ m.key → bytes_eq k key ≡ false → value_under key ms ≡ value_under key (drop i ms)
    → value_under key ms ≡ value_under key (drop (i + 1) ms)
under_later key k ms i m l here name other rest =
    let head : drop i ms ≡ m ∷ drop (i + 1) ms = drop-cons ms i m l ∙ ap (λ n. get_or ms i m ∷ drop n ms) (sym (add-one i)) ∙ ap (λ x. x ∷ drop (i + 1) ms) (sym here) in
    rest ∙ ap (value_under key) head ∙ ap (λ b. if b then Some m.value else value_under key (drop (i + 1) ms)) (ap (λ x. bytes_eq x key) (sym name) ∙ other)
