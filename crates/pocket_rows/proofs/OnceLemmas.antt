-- No two sound records of a collection have one row, and no two sound tokens.
use Rattle.std.proofs.Common.{◌≡◌, ◌≤◌, ℕ, ℤ, Bool, true, false, nat_lt, nat_le, List, [], ◌∷◌, codes, map, length, Option, Some, None, IfSome, if◌then◌else◌, slice_index_or, refl, sym, ap, subst, ◌∙◌, arith}
use Rattle.std.proofs.lemmas.List.{append_cancel_left}
use Rattle.pocket_types.specs.Json.{printed}
use Rattle.pocket_types.specs.Maps.{map_jv, member_of}
use Rattle.pocket_types.specs.Names.{IsMoment}
use Rattle.pocket_types.specs.declared.json.Jv.{Jv}
use Rattle.pocket_types.specs.declared.json.Member.{Member}
use Rattle.pocket_types.specs.declared.records.Cell.{Cell}
use Rattle.pocket_types.specs.declared.records.Cell.TheVariants as cell
use Rattle.pocket_types.specs.declared.records.Collection.{Collection}
use Rattle.pocket_types.specs.declared.records.Field.{Field}
use Rattle.pocket_types.specs.declared.records.Kind.{Kind}
use Rattle.pocket_types.specs.declared.records.Kind.TheVariants as kind
use Rattle.pocket_types.specs.declared.records.Rec.{Rec}
use Rattle.pocket_types.specs.Profile.{IsProfiled}
use Rattle.pocket_json.specs.Reading.{read}
use Rattle.pocket_json.proofs.RoundTrips.{read_printed}
use Rattle.pocket_ops.specs.DateReading.{date_of}
use Rattle.pocket_ops.specs.Dates.{date_text}
use Rattle.pocket_ops.specs.Trees.{text_jv, num_jv, flag_jv, list_jv, one_jv, items_jv, date_jv, cell_jv, rec_members}
use Rattle.pocket_keeper.specs.Texts.{rec_key, rec_row, token_members, token_row}
use Rattle.pocket_keeper.specs.declared.tokens.Token.{Token}
use Rattle.pocket_rows.proofs.CellLemmas.{filled_id, filled_items}
use Rattle.pocket_rows.proofs.MemberLemmas.{Entries, rec_under, token_under}
use Rattle.pocket_rows.proofs.MomentLemmas.{date_text-read, date_text-filled}
use Rattle.pocket_rows.proofs.ProfileLemmas.{kept_profiled, token_profiled}
use Rattle.pocket_rows.proofs.TreeForms.{text_once, num_once, flag_once, list_once, texts_once, map_once}
use Rattle.pocket_rows.specs.Cells.{AreFilled, AreItems, value_under, AreUnder, IsUnder, IsTokenUnder}
use Rattle.pocket_types.specs.Sound.{Fits, AllFit, IsSoundCollection, IsSoundRec}
use Rattle.pocket_rows.specs.SoundTokens.{IsSoundToken}

-- ---- moments

pub moment_once : (m n : ℤ) → IsMoment m → IsMoment n → date_text m ≡ date_text n → m ≡ n
moment_once m n h k e = let same : Some m ≡ Some n = sym (date_text-read m h) ∙ ap date_of e ∙ date_text-read n k in cc

pub date_once : (d e : Option ℤ) → IfSome d IsMoment → IfSome e IsMoment → date_jv d ≡ date_jv e → d ≡ e
date_once None None h k q = refl
date_once None (Some n) h k q = absurd (date_text-filled n (sym (text_once [] (date_text n) q)))
date_once (Some m) None h k q = absurd (date_text-filled m (text_once (date_text m) [] q))
date_once (Some m) (Some n) h k q = ap Some (moment_once m n h k (text_once (date_text m) (date_text n) q))

-- ---- items

one_once : (xs ys : List (List ℕ)) → AreFilled xs → AreFilled ys → length xs ≤ 1 → length ys ≤ 1 → one_jv xs ≡ one_jv ys → xs ≡ ys
one_once [] [] f g l m e = refl
one_once [] (y ∷ ys) f g l m e = absurd (g 0 y (omega arith) (sym (text_once [] y e)))
one_once (x ∷ xs) [] f g l m e = absurd (f 0 x (omega arith) (text_once x [] e))
one_once (x ∷ []) (y ∷ []) f g l m e = ap (λ t. t ∷ []) (text_once x y e)
one_once (x ∷ []) (y ∷ z ∷ zs) f g l m e = absurd (omega (arith, m))
one_once (x ∷ z ∷ zs) (y ∷ ys) f g l m e = absurd (omega (arith, l))

few_from : (most : ℕ) → nat_le most 1 ≡ true → nat_lt 1 most ≡ false
few_from most h = grind arith

pub items_once : (most : ℕ) (xs ys : List (List ℕ)) → AreItems most xs → AreItems most ys → items_jv most xs ≡ items_jv most ys → xs ≡ ys
items_once most xs ys h k e = by (nat_le most 1) refl e
  where
    by : (b : Bool) → nat_le most 1 ≡ b → (if b then one_jv xs else list_jv (map text_jv xs)) ≡ (if b then one_jv ys else list_jv (map text_jv ys)) → xs ≡ ys
    by true one q = one_once xs ys h.filled k.filled (h.few (few_from most one)) (k.few (few_from most one)) q
    by false several q = texts_once xs ys (list_once (map text_jv xs) (map text_jv ys) q)

-- ---- cells

text_cell : (min max : ℕ) (t : List ℕ) (d : Cell) → Fits (kind.Text min max) d → text_jv t ≡ cell_jv (kind.Text min max) d → cell.Text t ≡ d
text_cell min max t (cell.Text s) h e = ap (λ x. cell.Text x) (text_once t s e)
text_cell min max t d h e = absurd h

number_cell : (min max : Option ℤ) (n : ℤ) (d : Cell) → Fits (kind.Number min max) d → num_jv n ≡ cell_jv (kind.Number min max) d → cell.Num n ≡ d
number_cell min max n (cell.Num m) h e = ap (λ x. cell.Num x) (num_once n m e)
number_cell min max n d h e = absurd h

flag_cell : (b : Bool) (d : Cell) → Fits kind.Flag d → flag_jv b ≡ cell_jv kind.Flag d → cell.Flag b ≡ d
flag_cell b (cell.Flag a) h e = ap (λ x. cell.Flag x) (flag_once b a e)
flag_cell b d h e = absurd h

date_cell : (min max : Option ℤ) (t : Option ℤ) (d : Cell) → IfSome t IsMoment → Fits (kind.Date min max) d → date_jv t ≡ cell_jv (kind.Date min max) d → cell.Date t ≡ d
date_cell min max t (cell.Date s) k h e = ap (λ x. cell.Date x) (date_once t s k h e)
date_cell min max t d k h e = absurd h

json_cell : (max : ℕ) (tree : Jv) (d : Cell) → Fits (kind.Json max) d → tree ≡ cell_jv (kind.Json max) d → cell.Json tree ≡ d
json_cell max tree (cell.Json other) h e = ap (λ x. cell.Json x) e
json_cell max tree d h e = absurd h

are_picks : (values : List (List ℕ)) (most : ℕ) (items : List (List ℕ)) → Fits (kind.Select values most) (cell.Picks items) → AreItems most items
are_picks values most items h = record { filled = filled_items items h.0; differ = h.1; few = h.2 }

picks_cell : (values : List (List ℕ)) (most : ℕ) (items : List (List ℕ)) (d : Cell) → AreItems most items → Fits (kind.Select values most) d → items_jv most items ≡ cell_jv (kind.Select values most) d
    → cell.Picks items ≡ d
picks_cell values most items (cell.Picks others) k h e = ap (λ x. cell.Picks x) (items_once most items others k (are_picks values most others h) e)
picks_cell values most items d k h e = absurd h

are_refs : (target : List ℕ) (most : ℕ) (cascade : Bool) (ids : List (List ℕ)) → Fits (kind.Relation target most cascade) (cell.Refs ids) → AreItems most ids
are_refs target most cascade ids h = record { filled = λ k d l. filled_id (slice_index_or ids k d) (h.0 k d l); differ = h.1; few = h.2 }

refs_cell : (target : List ℕ) (most : ℕ) (cascade : Bool) (ids : List (List ℕ)) (d : Cell) → AreItems most ids → Fits (kind.Relation target most cascade) d
    → items_jv most ids ≡ cell_jv (kind.Relation target most cascade) d → cell.Refs ids ≡ d
refs_cell target most cascade ids (cell.Refs others) k h e = ap (λ x. cell.Refs x) (items_once most ids others k (are_refs target most cascade others h) e)
refs_cell target most cascade ids d k h e = absurd h

pub cell_once : (k : Kind) (c d : Cell) → Fits k c → Fits k d → cell_jv k c ≡ cell_jv k d → c ≡ d
cell_once (kind.Text min max) (cell.Text t) d f g e = text_cell min max t d g e
cell_once (kind.Number min max) (cell.Num n) d f g e = number_cell min max n d g e
cell_once kind.Flag (cell.Flag b) d f g e = flag_cell b d g e
cell_once (kind.Date min max) (cell.Date t) d f g e = date_cell min max t d f g e
cell_once (kind.Select values most) (cell.Picks items) d f g e = picks_cell values most items d (are_picks values most items f) g e
cell_once (kind.Json max) (cell.Json tree) d f g e = json_cell max tree d g e
cell_once (kind.Relation target most cascade) (cell.Refs ids) d f g e = refs_cell target most cascade ids d (are_refs target most cascade ids f) g e
cell_once k c d f g e = absurd f

some_once : (a b : Jv) → Some a ≡ Some b → a ≡ b
some_once a b e = cc

pub cells_once : (fields : List Field) (members : List Member) (cs ds : List Cell) → AllFit fields cs → AllFit fields ds → AreUnder fields cs members → AreUnder fields ds members → cs ≡ ds
cells_once [] members [] [] f g u v = refl
cells_once [] members [] (d ∷ ds) f g u v = absurd g
cells_once [] members (c ∷ cs) ds f g u v = absurd f
cells_once (x ∷ fields) members [] ds f g u v = absurd f
cells_once (x ∷ fields) members (c ∷ cs) [] f g u v = absurd g
cells_once (x ∷ fields) members (c ∷ cs) (d ∷ ds) f g u v =
    let first = cell_once x.kind c d f.0 g.0 (some_once (cell_jv x.kind c) (cell_jv x.kind d) (sym u.0 ∙ v.0)) in
    let rest = cells_once fields members cs ds f.1 g.1 u.1 v.1 in
    λ i. first i ∷ rest i

-- ---- members

-- no two trees of the profile have one text
pub tree_once : (tree other : Jv) → IsProfiled tree → IsProfiled other → printed tree ≡ printed other → tree ≡ other
tree_once tree other p q e = some_once tree other (sym (read_printed tree p) ∙ ap read e ∙ read_printed other q)

members_once : (es fs : Entries) → IsProfiled (map_jv es) → IsProfiled (map_jv fs) → printed (map_jv es) ≡ printed (map_jv fs) → map member_of es ≡ map member_of fs
members_once es fs p q e = map_once (map member_of es) (map member_of fs) (tree_once (map_jv es) (map_jv fs) p q e)

text_under : (key : List ℕ) (members : List Member) (t s : List ℕ) → value_under key members ≡ Some (text_jv t) → value_under key members ≡ Some (text_jv s) → t ≡ s
text_under key members t s u v = text_once t s (some_once (text_jv t) (text_jv s) (sym u ∙ v))

-- ---- records

rec_from : (c : Collection) (r s : Rec) (members : List Member) → IsSoundRec c r → IsSoundRec c s → r.id ≡ s.id → IsUnder c r members → IsUnder c s members → r ≡ s
rec_from c r s members x y id u v =
    let created = moment_once r.created s.created x.created y.created (text_under (codes "created") members (date_text r.created) (date_text s.created) u.created v.created) in
    let updated = moment_once r.updated s.updated x.updated y.updated (text_under (codes "updated") members (date_text r.updated) (date_text s.updated) u.updated v.updated) in
    let cells = cells_once c.fields members r.cells s.cells x.cells y.cells u.cells v.cells in
    λ i. record { id = id i; created = created i; updated = updated i; cells = cells i }

pub rec_once : (c : Collection) (r s : Rec) → IsSoundCollection c → IsSoundRec c r → IsSoundRec c s → rec_row c r ≡ rec_row c s → r ≡ s
rec_once c r s whole x y e =
    let keys : rec_key c.name r.id ≡ rec_key c.name s.id = ap (λ row. row.key) e in
    let ids : r.id ≡ s.id = append_cancel_left (47 ∷ []) r.id s.id (append_cancel_left c.name _ _ (append_cancel_left (codes "r/") _ _ keys)) in
    let same = members_once (rec_members true c r) (rec_members true c s) (kept_profiled c r whole x) (kept_profiled c s whole y) (ap (λ row. row.value) e) in
    rec_from c r s (map member_of (rec_members true c s)) x y ids (subst (IsUnder c r) same (rec_under c r whole)) (rec_under c s whole)

-- ---- tokens

token_from : (t u : Token) (members : List Member) → IsSoundToken t → IsSoundToken u → t.text ≡ u.text → IsTokenUnder t members → IsTokenUnder u members → t ≡ u
token_from t u members x y text p q =
    let collection = text_under (codes "collection") members t.collection u.collection p.collection q.collection in
    let id = text_under (codes "id") members t.id u.id p.id q.id in
    let until = moment_once t.until u.until x.until y.until (text_under (codes "until") members (date_text t.until) (date_text u.until) p.until q.until) in
    λ i. record { text = text i; collection = collection i; id = id i; until = until i }

pub token_once : (t u : Token) → IsSoundToken t → IsSoundToken u → token_row t ≡ token_row u → t ≡ u
token_once t u x y e =
    let texts : t.text ≡ u.text = append_cancel_left (codes "t/") t.text u.text (ap (λ row. row.key) e) in
    let same = members_once (token_members t.collection t.id t.until) (token_members u.collection u.id u.until) (token_profiled t x) (token_profiled u y) (ap (λ row. row.value) e) in
    token_from t u (map member_of (token_members u.collection u.id u.until)) x y texts (subst (IsTokenUnder t) same (token_under t)) (token_under u)
