-- The record and the token that a row may keep.
use Rattle.std.proofs.Common.{◌≡◌, ◌≢◌, ◌≤◌, ◌<◌, ◌+◌, ℕ, ℤ, true, List, [], ◌∷◌, ◌++◌, codes, map, length, get_or, drop, drop-cons, add-one, Option, Some, None, IsTrue, IsUtf8, MatchOption, refl, sym, ap, subst, ◌∙◌, arith, rules, append_assoc, append-nil}
use Rattle.std.specs.List.{list_all}
use Rattle.std.specs.Str.{is_utf8}
use Rattle.std.proofs.lemmas.List.{append_cancel_left}
use Rattle.std.proofs.lemmas.List.Elements.{All-cons, All-nil}
use Rattle.pocket_types.specs.Names.{is_id, is_name, IsMoment}
use Rattle.pocket_types.specs.declared.json.Jv.{Jv, the_lemmas}
use Rattle.pocket_types.specs.declared.json.Jv.TheOpen as jv
use Rattle.pocket_types.specs.declared.json.Jv.TheViews.{roll-Jv}
use Rattle.pocket_types.specs.declared.json.Member.{Member}
use Rattle.pocket_types.specs.declared.records.Cell.{Cell}
use Rattle.pocket_types.specs.declared.records.Collection.{Collection}
use Rattle.pocket_types.specs.declared.records.Field.{Field}
use Rattle.pocket_types.specs.declared.records.Rec.{Rec}
use Rattle.pocket_types.specs.Profile.{keys_rise, numbers_small, texts_utf8, entry_utf8, levels, greatest, IsProfiled}
use Rattle.pocket_json.specs.Reading.{read, IsJson}
use Rattle.pocket_json.proofs.Layers.{rising_map, small_map, utf8_map, levels_map}
use Rattle.pocket_json.proofs.Profiles.{and_parts}
use Rattle.pocket_json.proofs.RoundTrips.{read_printed}
use Rattle.pocket_ops.specs.DateReading.{date_of}
use Rattle.pocket_ops.specs.Dates.{date_text, IsDateOf}
use Rattle.pocket_types.specs.Maps.{map_jv, member_of}
use Rattle.pocket_ops.specs.Trees.{text_jv, rec_members}
use Rattle.pocket_keeper.specs.Texts.{rec_key, rec_row, token_members, token_row}
use Rattle.pocket_keeper.specs.declared.rows.KeptRow.{KeptRow}
use Rattle.pocket_keeper.specs.declared.tokens.Token.{Token}
use Rattle.pocket_rows.proofs.MemberLemmas.{Entries, rec_under, token_under}
use Rattle.pocket_rows.proofs.MomentLemmas.{date_text-read}
use Rattle.pocket_rows.proofs.ProfileLemmas.{kept_profiled, token_profiled}
use Rattle.pocket_rows.proofs.TreeForms.{map_once, text_once}
use Rattle.pocket_rows.specs.Cells.{AreShallow, value_under, IsNoTree, IsTreeOf, IsNoMap, MayBeMap, HasNoMoment, MayHaveMoment, HasNoCell, MayHaveCell, AreUnder, HasNoCells, MayHaveCells, IsUnder, HasNoRec, MayHaveRec, MayKeepRec, IsTokenUnder, HasNoToken, MayHaveToken, MayKeepToken}
use Rattle.pocket_rows.specs.RowReading.{KeepsNoRec, KeepsNoToken}
use Rattle.pocket_types.specs.Sound.{IsCellTree, AllFit, IsSoundCollection, IsSoundRec}
use Rattle.pocket_rows.specs.SoundTokens.{is_token, IsSoundToken}

-- ---- texts of trees

pub no_tree : (text bytes : List ℕ) → IsUtf8 text → bytes ≡ text → ((tree : Jv) → ¬ IsJson bytes tree) → IsNoTree text
no_tree text bytes u same none tree profile e = none tree (subst IsUtf8 (sym same) u, ap read (same ∙ e) ∙ read_printed tree profile)

pub tree_is : (text bytes : List ℕ) (tree : Jv) → bytes ≡ text → IsJson bytes tree → IsProfiled tree → IsTreeOf text tree
tree_is text bytes tree same is profile = record {
  profile = profile;
  only = λ other p e. let twice : Some other ≡ Some tree = sym (read_printed other p) ∙ ap read (sym (same ∙ e)) ∙ is.1 in cc;
}

pub no_map : (text : List ℕ) → IsNoTree text → IsNoMap text
no_map text none es profile e = none (map_jv es) profile e

pub other_tree : (text : List ℕ) (tree : Jv) → IsTreeOf text tree → ((members : List Member) → tree ≢ roll-Jv (jv.Map members)) → IsNoMap text
other_tree text tree is none es profile e = none (map member_of es) (sym (is.only (map_jv es) profile e))

abbrev entries_of : List Member → Entries
entries_of = map (λ m. (m.key, m.value))

member_again : (m : Member) → member_of (m.key, m.value) ≡ m
member_again m = search (rules, the_lemmas)

members_again : (ms : List Member) → map member_of (entries_of ms) ≡ ms
members_again [] = refl
members_again (m ∷ ms) = λ i. member_again m i ∷ members_again ms i

values_shallow : (ms : List Member) → list_all (λ e. keys_rise e.1) (entries_of ms) ≡ true → list_all (λ e. numbers_small e.1) (entries_of ms) ≡ true → list_all entry_utf8 (entries_of ms) ≡ true → greatest (map (λ e. levels e.1) (entries_of ms)) ≤ 31
    → AreShallow ms
values_shallow [] k s u l = All-nil (λ m. IsCellTree m.value)
values_shallow (m ∷ ms) k s u l =
    let ks = and_parts (keys_rise m.value) (list_all (λ e. keys_rise e.1) (entries_of ms)) k in
    let ss = and_parts (numbers_small m.value) (list_all (λ e. numbers_small e.1) (entries_of ms)) s in
    let us = and_parts (entry_utf8 (m.key, m.value)) (list_all entry_utf8 (entries_of ms)) u in
    let text = and_parts (is_utf8 m.key) (texts_utf8 m.value) us.0 in
    All-cons (λ m. IsCellTree m.value) m ms (record { keys = ks.0; numbers = ss.0; texts = text.1; depth = omega (arith, l) }) (values_shallow ms ks.1 ss.1 us.1 (omega (arith, l)))

pub map_shallow : (ms : List Member) → IsProfiled (roll-Jv (jv.Map ms)) → AreShallow ms
map_shallow ms p =
    let es = entries_of ms in
    let q : IsProfiled (map_jv es) = subst (λ x. IsProfiled (roll-Jv (jv.Map x))) (sym (members_again ms)) p in
    let ks = and_parts _ (list_all (λ e. keys_rise e.1) es) (sym (rising_map es) ∙ q.keys) in
    values_shallow ms ks.1 (sym (small_map es) ∙ q.numbers) (sym (utf8_map es) ∙ q.texts) (omega (arith, levels_map es, q.depth))

pub map_is : (text : List ℕ) (tree : Jv) (members : List Member) → IsTreeOf text tree → tree ≡ roll-Jv (jv.Map members) → MayBeMap text members
map_is text tree members is e = record {
  shallow = map_shallow members (subst IsProfiled e is.profile);
  only = λ es profile q. map_once members (map member_of es) (sym e ∙ sym (is.only (map_jv es) profile q));
}

-- ---- moments

pub no_moment-text : (key : List ℕ) (ms : List Member) → ((t : List ℕ) → value_under key ms ≢ Some (text_jv t)) → HasNoMoment key ms
no_moment-text key ms none m form e = none (date_text m) e

some_text : (key : List ℕ) (ms : List Member) (t s : List ℕ) → value_under key ms ≡ Some (text_jv t) → value_under key ms ≡ Some (text_jv s) → t ≡ s
some_text key ms t s e q = let same : text_jv t ≡ text_jv s = some_once (text_jv t) (text_jv s) (sym e ∙ q) in text_once t s same
  where
    some_once : (a b : Jv) → Some a ≡ Some b → a ≡ b
    some_once a b h = cc

pub no_moment-date : (key : List ℕ) (ms : List Member) (t : List ℕ) → value_under key ms ≡ Some (text_jv t) → None ≡ date_of t → HasNoMoment key ms
no_moment-date key ms t e none m form q = let clash : None ≡ Some m = none ∙ ap date_of (some_text key ms t (date_text m) e q) ∙ date_text-read m form in cc

pub moment_is : (key : List ℕ) (ms : List Member) (t : List ℕ) (m : ℤ) → value_under key ms ≡ Some (text_jv t) → Some m ≡ date_of t → IsMoment m → MayHaveMoment key ms m
moment_is key ms t m e is form = record {
  form = form;
  only = λ n h q. let same : Some m ≡ Some n = is ∙ ap date_of (some_text key ms t (date_text n) e q) ∙ date_text-read n h in cc;
}

-- ---- cells of all fields

-- the cells of the first fields are found, those of the fields that are left are not
pub record AreBegun (fields left : List Field) (ms : List Member) (cells : List Cell) : Type 0 where
  pub fits : (rest : List Cell) → AllFit left rest → AllFit fields (cells ++ rest)
  pub only : (others : List Cell) → AllFit fields others → AreUnder fields others ms → (rest : List Cell) × (others ≡ cells ++ rest) × AllFit left rest × AreUnder left rest ms

pub cells_begin : (fields : List Field) (ms : List Member) → AreBegun fields fields ms []
cells_begin fields ms = record { fits = λ rest h. h; only = λ others h u. (others, refl, h, u) }

begun_more : (fields : List Field) (f : Field) (left : List Field) (ms : List Member) (cells : List Cell) (c : Cell) → MayHaveCell f ms c → AreBegun fields (f ∷ left) ms cells → AreBegun fields left ms (cells ++ c ∷ [])
begun_more fields f left ms cells c may b = record {
  fits = λ rest h. subst (AllFit fields) (sym (append_assoc cells (c ∷ []) rest)) (b.fits (c ∷ rest) (may.fits, h));
  only = λ others h u. let x = b.only others h u in parted others x.0 x.1 x.2 x.3;
}
  where
    parted : (others rest : List Cell) → others ≡ cells ++ rest → AllFit (f ∷ left) rest → AreUnder (f ∷ left) rest ms
        → (more : List Cell) × (others ≡ (cells ++ c ∷ []) ++ more) × AllFit left more × AreUnder left more ms
    parted others [] e fit under = absurd fit
    parted others (d ∷ ds) e fit under =
        (ds, e ∙ ap (λ x. cells ++ x ∷ ds) (may.only d fit.0 under.0) ∙ sym (append_assoc cells (c ∷ []) ds), fit.1, under.1)

begun_none : (fields : List Field) (f : Field) (left : List Field) (ms : List Member) (cells : List Cell) → HasNoCell f ms → AreBegun fields (f ∷ left) ms cells → HasNoCells fields ms
begun_none fields f left ms cells none b others h u = let x = b.only others h u in parted x.0 x.2 x.3
  where
    parted : (rest : List Cell) → AllFit (f ∷ left) rest → AreUnder (f ∷ left) rest ms → ⊥
    parted [] fit under = fit
    parted (d ∷ ds) fit under = none d fit.0 under.0

head_of : (fields : List Field) (i : ℕ) (f : Field) → i < length fields → f ≡ get_or fields i f → drop i fields ≡ f ∷ drop (i + 1) fields
head_of fields i f l here = drop-cons fields i f l ∙ ap (λ n. get_or fields i f ∷ drop n fields) (sym (add-one i)) ∙ ap (λ x. x ∷ drop (i + 1) fields) (sym here)

pub cells_more : (fields : List Field) (ms : List Member) (cells : List Cell) (i : ℕ) (f : Field) (c : Cell) → i < length fields → f ≡ get_or fields i f → MayHaveCell f ms c → AreBegun fields (drop i fields) ms cells
    → AreBegun fields (drop (i + 1) fields) ms (cells ++ c ∷ [])
cells_more fields ms cells i f c l here may b = begun_more fields f (drop (i + 1) fields) ms cells c may (subst (λ left. AreBegun fields left ms cells) (head_of fields i f l here) b)

pub cells_none : (fields : List Field) (ms : List Member) (cells : List Cell) (i : ℕ) (f : Field) → i < length fields → f ≡ get_or fields i f → HasNoCell f ms → AreBegun fields (drop i fields) ms cells → HasNoCells fields ms
cells_none fields ms cells i f l here none b = begun_none fields f (drop (i + 1) fields) ms cells none (subst (λ left. AreBegun fields left ms cells) (head_of fields i f l here) b)

pub cells_end : (fields left : List Field) (ms : List Member) (cells : List Cell) → left ≡ [] → AreBegun fields left ms cells → MayHaveCells fields ms cells
cells_end fields left ms cells e b = ended (subst (λ x. AreBegun fields x ms cells) e b)
  where
    ended : AreBegun fields [] ms cells → MayHaveCells fields ms cells
    ended b = record {
      fit = subst (AllFit fields) (append-nil cells) (b.fits [] tt);
      only = λ others h u. let x = b.only others h u in x.1 ∙ ap (λ y. cells ++ y) (none_left x.0 x.2) ∙ append-nil cells;
    }
      where
        none_left : (rest : List Cell) → AllFit [] rest → rest ≡ []
        none_left [] h = refl
        none_left (d ∷ ds) h = absurd h

-- ---- records

pub no_created : (c : Collection) (ms : List Member) → HasNoMoment (codes "created") ms → HasNoRec c ms
no_created c ms none r sound under = none r.created sound.created under.created

pub no_updated : (c : Collection) (ms : List Member) → HasNoMoment (codes "updated") ms → HasNoRec c ms
no_updated c ms none r sound under = none r.updated sound.updated under.updated

pub no_cells : (c : Collection) (ms : List Member) (fields : List Field) → fields ≡ c.fields → HasNoCells fields ms → HasNoRec c ms
no_cells c ms fields e none r sound under = none r.cells (subst (λ fs. AllFit fs r.cells) (sym e) sound.cells) (subst (λ fs. AreUnder fs r.cells ms) (sym e) under.cells)

pub rec_is : (c : Collection) (ms : List Member) (fields : List Field) (r : Rec) → fields ≡ c.fields → IsTrue (is_id r.id) → MayHaveMoment (codes "created") ms r.created → MayHaveMoment (codes "updated") ms r.updated
    → MayHaveCells fields ms r.cells → MayHaveRec c r.id ms r
rec_is c ms fields r e id created updated cells =
    let own : MayHaveCells c.fields ms r.cells = subst (λ fs. MayHaveCells fs ms r.cells) e cells in
    record {
      sound = record { id = id; created = created.form; updated = updated.form; cells = own.fit };
      only = λ s sound same under.
          let a = created.only s.created sound.created under.created in
          let b = updated.only s.updated sound.updated under.updated in
          let d = own.only s.cells sound.cells under.cells in
          λ i. record { id = same i; created = a i; updated = b i; cells = d i };
    }

-- ---- rows of records

pub no_rec-id : (c : Collection) (row : KeptRow) (key name : List ℕ) → key ≡ row.key → name ≡ c.name → ((id : List ℕ) → IsTrue (is_id id) → key ≢ rec_key name id) → KeepsNoRec c row
no_rec-id c row key name ek en none r sound e = none r.id sound.id (ek ∙ ap (λ x. x.key) e ∙ ap (λ x. rec_key x r.id) (sym en))

pub no_rec-map : (c : Collection) (row : KeptRow) (value : List ℕ) → IsSoundCollection c → value ≡ row.value → IsNoMap value → KeepsNoRec c row
no_rec-map c row value whole ev none r sound e = none (rec_members true c r) (kept_profiled c r whole sound) (ev ∙ ap (λ x. x.value) e)

there_under : (c : Collection) (row : KeptRow) (value : List ℕ) (ms : List Member) → IsSoundCollection c → value ≡ row.value → MayBeMap value ms → (r : Rec) → IsSoundRec c r → row ≡ rec_row c r → IsUnder c r ms
there_under c row value ms whole ev is r sound e =
    subst (IsUnder c r) (sym (is.only (rec_members true c r) (kept_profiled c r whole sound) (ev ∙ ap (λ x. x.value) e))) (rec_under c r whole)

pub no_rec : (c : Collection) (row : KeptRow) (value : List ℕ) (ms : List Member) → IsSoundCollection c → value ≡ row.value → MayBeMap value ms → HasNoRec c ms → KeepsNoRec c row
no_rec c row value ms whole ev is none r sound e = none r sound (there_under c row value ms whole ev is r sound e)

pub rec_kept : (c : Collection) (row : KeptRow) (key name id value : List ℕ) (ms : List Member) (r : Rec) → IsSoundCollection c → key ≡ row.key → name ≡ c.name → key ≡ rec_key name id → value ≡ row.value → MayBeMap value ms
    → MayHaveRec c id ms r → MayKeepRec c row r
rec_kept c row key name id value ms r whole ek en eid ev is may = record {
  sound = may.sound;
  only = λ s sound e.
      let keys : rec_key c.name s.id ≡ rec_key c.name id = sym (ap (λ x. x.key) e) ∙ sym ek ∙ eid ∙ ap (λ x. rec_key x id) en in
      let ids : s.id ≡ id = append_cancel_left (47 ∷ []) s.id id (append_cancel_left c.name _ _ (append_cancel_left (codes "r/") _ _ keys)) in
      may.only s sound ids (there_under c row value ms whole ev is s sound e);
}

-- ---- rows of tokens

pub no_token-key : (row : KeptRow) (key : List ℕ) → key ≡ row.key → ((text : List ℕ) → IsTrue (is_token text) → key ≢ codes "t/" ++ text) → KeepsNoToken row
no_token-key row key ek none t sound e = none t.text sound.text (ek ∙ ap (λ x. x.key) e)

pub no_token-map : (row : KeptRow) (value : List ℕ) → value ≡ row.value → IsNoMap value → KeepsNoToken row
no_token-map row value ev none t sound e = none (token_members t.collection t.id t.until) (token_profiled t sound) (ev ∙ ap (λ x. x.value) e)

token_there : (row : KeptRow) (value : List ℕ) (ms : List Member) → value ≡ row.value → MayBeMap value ms → (t : Token) → IsSoundToken t → row ≡ token_row t → IsTokenUnder t ms
token_there row value ms ev is t sound e =
    subst (IsTokenUnder t) (sym (is.only (token_members t.collection t.id t.until) (token_profiled t sound) (ev ∙ ap (λ x. x.value) e))) (token_under t)

pub no_token : (row : KeptRow) (value : List ℕ) (ms : List Member) → value ≡ row.value → MayBeMap value ms → HasNoToken ms → KeepsNoToken row
no_token row value ms ev is none t sound e = none t sound (token_there row value ms ev is t sound e)

pub token_kept : (row : KeptRow) (key text value : List ℕ) (ms : List Member) (t : Token) → key ≡ row.key → key ≡ codes "t/" ++ text → value ≡ row.value → MayBeMap value ms → MayHaveToken text ms t → MayKeepToken row t
token_kept row key text value ms t ek et ev is may = record {
  sound = may.sound;
  only = λ u sound e.
      let texts : u.text ≡ text = append_cancel_left (codes "t/") u.text text (sym (ap (λ x. x.key) e) ∙ sym ek ∙ et) in
      may.only u sound texts (token_there row value ms ev is u sound e);
}

pub token_is : (ms : List Member) (text : List ℕ) (t : Token) → t.text ≡ text → IsTrue (is_token text) → IsTrue (is_name t.collection) → value_under (codes "collection") ms ≡ Some (text_jv t.collection)
    → IsTrue (is_id t.id) → value_under (codes "id") ms ≡ Some (text_jv t.id) → MayHaveMoment (codes "until") ms t.until → MayHaveToken text ms t
token_is ms text t et token name ename id eid until = record {
  sound = record { text = ap is_token et ∙ token; collection = name; id = id; until = until.form };
  only = λ u sound same under.
      let a : u.text ≡ t.text = same ∙ sym et in
      let b : u.collection ≡ t.collection = some_text (codes "collection") ms u.collection t.collection under.collection ename in
      let d : u.id ≡ t.id = some_text (codes "id") ms u.id t.id under.id eid in
      let f : u.until ≡ t.until = until.only u.until sound.until under.until in
      λ i. record { text = a i; collection = b i; id = d i; until = f i };
}

pub no_token-name : (ms : List Member) → ((name : List ℕ) → IsTrue (is_name name) → value_under (codes "collection") ms ≢ Some (text_jv name)) → HasNoToken ms
no_token-name ms none t sound under = none t.collection sound.collection under.collection

pub no_token-id : (ms : List Member) → ((id : List ℕ) → IsTrue (is_id id) → value_under (codes "id") ms ≢ Some (text_jv id)) → HasNoToken ms
no_token-id ms none t sound under = none t.id sound.id under.id

pub no_token-until : (ms : List Member) → HasNoMoment (codes "until") ms → HasNoToken ms
no_token-until ms none t sound under = none t.until sound.until under.until

-- ---- what was found

pub map_read : (text : List ℕ) (tree : Jv) → IsTreeOf text tree → (r : Option (List Member)) → MatchOption r ((members : List Member) → tree ≢ roll-Jv (jv.Map members)) (λ members. tree ≡ roll-Jv (jv.Map members))
    → MatchOption r (IsNoMap text) (λ members. MayBeMap text members)
map_read text tree is None h = other_tree text tree is h
map_read text tree is (Some members) h = map_is text tree members is h

pub moment_read : (key : List ℕ) (ms : List Member) (t : List ℕ) (r : Option ℤ) → value_under key ms ≡ Some (text_jv t) → r ≡ date_of t → MatchOption r ((m : ℤ) → ¬ IsDateOf t m) (λ m. IsDateOf t m)
    → MatchOption r (HasNoMoment key ms) (λ m. MayHaveMoment key ms m)
moment_read key ms t None e is h = no_moment-date key ms t e is
moment_read key ms t (Some m) e is h = moment_is key ms t m e is h.4

pub token_read : (row : KeptRow) (key text value : List ℕ) (ms : List Member) → key ≡ row.key → key ≡ codes "t/" ++ text → value ≡ row.value → MayBeMap value ms
    → (r : Option Token) → MatchOption r (HasNoToken ms) (λ t. MayHaveToken text ms t) → MatchOption r (KeepsNoToken row) (λ t. MayKeepToken row t)
token_read row key text value ms ek et ev is None h = no_token row value ms ev is h
token_read row key text value ms ek et ev is (Some t) h = token_kept row key text value ms t ek et ev is h

pub rec_read : (c : Collection) (row : KeptRow) (key name id value : List ℕ) (ms : List Member) → IsSoundCollection c → key ≡ row.key → name ≡ c.name → key ≡ rec_key name id → value ≡ row.value → MayBeMap value ms
    → (r : Option Rec) → MatchOption r (HasNoRec c ms) (λ x. MayHaveRec c id ms x) → MatchOption r (KeepsNoRec c row) (λ x. MayKeepRec c row x)
rec_read c row key name id value ms whole ek en eid ev is None h = no_rec c row value ms whole ev is h
rec_read c row key name id value ms whole ek en eid ev is (Some r) h = rec_kept c row key name id value ms r whole ek en eid ev is h

abbrev pub RecFound : Collection → List ℕ → List Member → Option Rec → Type 0
RecFound c id ms found = MatchOption found (HasNoRec c ms) (λ x. MayHaveRec c id ms x)

abbrev pub RecMayKeep : Collection → KeptRow → Option Rec → Type 0
RecMayKeep c row found = MatchOption found (KeepsNoRec c row) (λ x. MayKeepRec c row x)

abbrev pub TokenFound : List ℕ → List Member → Option Token → Type 0
TokenFound text ms found = MatchOption found (HasNoToken ms) (λ t. MayHaveToken text ms t)

abbrev pub TokenMayKeep : KeptRow → Option Token → Type 0
TokenMayKeep row found = MatchOption found (KeepsNoToken row) (λ t. MayKeepToken row t)
