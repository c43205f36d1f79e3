-- The trees of cells and records are as they are read.
use Rattle.std.proofs.Common.{◌≡◌, ◌<◌, ◌^◌, ℕ, ℤ, Bool, true, false, ◌&&◌, not, nat_le, nat_lt, List, [], ◌∷◌, map, Option, Some, None, if◌then◌else◌, refl, ◌∙◌, arith}
use Rattle.pocket_types.specs.declared.json.Jv.{Jv}
use Rattle.pocket_types.specs.declared.json.Jv.TheOpen as jv
use Rattle.pocket_types.specs.declared.json.Jv.TheFolds.{fold-roll-Jv}
use Rattle.pocket_types.specs.declared.moments.Moment.{Moment}
use Rattle.pocket_types.specs.declared.records.Cell.{Cell}
use Rattle.pocket_types.specs.declared.records.Cell.TheVariants as cell
use Rattle.pocket_types.specs.declared.records.Collection.{Collection}
use Rattle.pocket_types.specs.declared.records.Field.{Field}
use Rattle.pocket_types.specs.declared.records.Kind.{Kind}
use Rattle.pocket_types.specs.declared.records.Kind.TheVariants as kind
use Rattle.pocket_types.specs.declared.records.Rec.{Rec}
use Rattle.pocket_types.specs.Kinds.{most_of}
use Rattle.pocket_types.specs.Profile.{rise, rising_step, rising_member, size_of, small_step, small_member, levels_step, levels_member, IsProfiled}
use Rattle.pocket_json.proofs.Layers.{keys}
use Rattle.pocket_json.proofs.Profiles.{Fine, AllFine, EntriesFine, fine_more, fine_list, fine_map, put_fine, rise_put}
use Rattle.pocket_ops.specs.Dates.{date_text}
use Rattle.pocket_types.specs.Maps.{map_jv, put}
use Rattle.pocket_ops.specs.Trees.{text_jv, num_jv, flag_jv, list_jv, date_jv, one_jv, items_jv, cell_jv, put_cells, date_members, rec_members, kept_jv}
use Rattle.pocket_keeper.specs.Texts.{token_members}
use Rattle.pocket_keeper.specs.declared.tokens.Token.{Token}
use Rattle.pocket_rows.proofs.MemberLemmas.{Entries}
use Rattle.pocket_rows.proofs.Utf8Lemmas.{kept_utf8, token_utf8}
use Rattle.pocket_rows.specs.SoundTokens.{IsSoundToken}
use Rattle.pocket_types.specs.Sound.{IsSmall, Fits, AllFit, IsSoundCollection, IsSoundRec}

-- ---- trees of one layer

plain_text : (t : List ℕ) → Fine 0 (text_jv t)
plain_text t =
    (fold-roll-Jv Bool (List ℕ × Bool) rising_step rising_member (jv.Text t), fold-roll-Jv Bool Bool small_step small_member (jv.Text t), omega (arith, fold-roll-Jv ℕ ℕ levels_step levels_member (jv.Text t)))

pub text_fine : (t : List ℕ) → Fine 31 (text_jv t)
text_fine t = fine_more 0 31 (text_jv t) (omega arith) (plain_text t)

flag_fine : (b : Bool) → Fine 31 (flag_jv b)
flag_fine b =
    (fold-roll-Jv Bool (List ℕ × Bool) rising_step rising_member (jv.Flag b), fold-roll-Jv Bool Bool small_step small_member (jv.Flag b), omega (arith, fold-roll-Jv ℕ ℕ levels_step levels_member (jv.Flag b)))

below_true : (a b : ℕ) → a < b → nat_lt a b ≡ true
below_true a b h = grind arith

num_fine : (n : ℤ) → IsSmall n → Fine 31 (num_jv n)
num_fine n h =
    (fold-roll-Jv Bool (List ℕ × Bool) rising_step rising_member (jv.Num n), fold-roll-Jv Bool Bool small_step small_member (jv.Num n) ∙ below_true (size_of n) (2 ^ 53) h, omega (arith, fold-roll-Jv ℕ ℕ levels_step levels_member (jv.Num n)))

-- ---- cells

texts_fine : (ts : List (List ℕ)) → AllFine 0 (map text_jv ts)
texts_fine [] = tt
texts_fine (t ∷ ts) = (plain_text t, texts_fine ts)

one_fine : (ts : List (List ℕ)) → Fine 31 (one_jv ts)
one_fine [] = text_fine []
one_fine (t ∷ ts) = text_fine t

items_fine : (most : ℕ) (ts : List (List ℕ)) → Fine 31 (items_jv most ts)
items_fine most ts = by (nat_le most 1)
  where
    by : (b : Bool) → Fine 31 (if b then one_jv ts else list_jv (map text_jv ts))
    by true = one_fine ts
    by false = fine_more 1 31 (list_jv (map text_jv ts)) (omega arith) (fine_list 0 (map text_jv ts) (texts_fine ts))

date_fine : (d : Option Moment) → Fine 31 (date_jv d)
date_fine None = text_fine []
date_fine (Some m) = text_fine (date_text m)

cell_fine : (k : Kind) (c : Cell) → Fits k c → Fine 31 (cell_jv k c)
cell_fine k (cell.Text t) h = text_fine t
cell_fine k (cell.Flag b) h = flag_fine b
cell_fine k (cell.Date d) h = date_fine d
cell_fine k (cell.Picks items) h = items_fine (most_of k) items
cell_fine k (cell.Refs ids) h = items_fine (most_of k) ids
cell_fine (kind.Number min max) (cell.Num n) h = num_fine n h
cell_fine k (cell.Num n) h = absurd h
cell_fine (kind.Json max) (cell.Json tree) h = (h.keys, h.numbers, omega (arith, h.depth))
cell_fine k (cell.Json tree) h = absurd h

-- ---- records

-- entries that may be those of a record
abbrev AreFine : Entries → Type 0
AreFine es = EntriesFine 31 es × (rise (keys es) ≡ true)

put_all_fine : (hidden : Bool) (key : List ℕ) (v : Jv) (es : Entries) → Fine 31 v → AreFine es → AreFine (if hidden && not true then es else put key v es)
put_all_fine true key v es f h = (put_fine 31 key v es f h.0, rise_put es key v h.1)
put_all_fine false key v es f h = (put_fine 31 key v es f h.0, rise_put es key v h.1)

cells_fine : (fs : List Field) (cs : List Cell) (es : Entries) → AllFit fs cs → AreFine es → AreFine (put_cells true fs cs es)
cells_fine [] cs es h f = f
cells_fine (x ∷ fs) [] es h f = f
cells_fine (x ∷ fs) (c ∷ cs) es h f =
    cells_fine fs cs (if x.hidden && not true then es else put x.name (cell_jv x.kind c) es) h.1 (put_all_fine x.hidden x.name (cell_jv x.kind c) es (cell_fine x.kind c h.0) f)

dates_fine : (r : Rec) → AreFine (date_members r)
dates_fine r = ((text_fine (date_text r.created), (text_fine (date_text r.updated), tt)), refl)

pub kept_profiled : (c : Collection) (r : Rec) → IsSoundCollection c → IsSoundRec c r → IsProfiled (kept_jv c r)
kept_profiled c r whole sound =
    let all = cells_fine c.fields r.cells (date_members r) sound.cells (dates_fine r) in
    let fine = fine_map 31 (rec_members true c r) all.0 all.1 in
    record { keys = fine.0; numbers = fine.1; texts = kept_utf8 c r whole sound; depth = omega (arith, fine.2) }

-- ---- tokens

pub token_profiled : (t : Token) → IsSoundToken t → IsProfiled (map_jv (token_members t.collection t.id t.until))
token_profiled t sound =
    let fine = fine_map 31 (token_members t.collection t.id t.until) (text_fine t.collection, (text_fine t.id, (text_fine (date_text t.until), tt))) refl in
    record { keys = fine.0; numbers = fine.1; texts = token_utf8 t sound; depth = omega (arith, fine.2) }
