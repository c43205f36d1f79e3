-- The cells that trees of the profile give fit, but for a number's size.
use Rattle.std.proofs.Common.{◌≡◌, ◌≤◌, ◌==◌, ℕ, ℤ, Bool, true, false, List, [], ◌∷◌, map, length, filter, Option, Some, None, IfSome, MatchOption, IsTrue, IsUtf8, All, option_map, option_and_then, if◌then◌else◌, refl, sym, ap, ◌∙◌, arith, true≢false}
use Rattle.std.specs.List.{list_all}
use Rattle.std.specs.Option.{option_map_or}
use Rattle.std.proofs.lemmas.Bool.{false≢true}
use Rattle.std.proofs.lemmas.List.Elements.{All-cons, All-filter, All-head, All-nil, All-tail, filter_passes}
use Rattle.std.proofs.lemmas.List.Sums.{AllPass-from_list_all}
use Rattle.std.proofs.lemmas.Option.{IfSome_then}
use Rattle.std.proofs.lemmas.Str.{IsUtf8-from_is_utf8, IsUtf8-nil}
use Rattle.pocket_types.specs.Kinds.{is_multiple}
use Rattle.pocket_types.specs.Names.{IsMoment, is_id}
use Rattle.pocket_types.specs.Profile.{levels, levels_member, levels_step, rising_member, rising_step, small_member, small_step, texts_utf8, utf8_member, utf8_step}
use Rattle.pocket_types.specs.Sound.{AllFit, Differ, Fits, IsCellTree, IsItem}
use Rattle.pocket_types.specs.declared.json.Jv.{Jv}
use Rattle.pocket_types.specs.declared.json.Jv.TheFolds.{fold-roll-Jv}
use Rattle.pocket_types.specs.declared.json.Jv.TheOpen as jv
use Rattle.pocket_types.specs.declared.json.Jv.TheOpen.{Jv-F}
use Rattle.pocket_types.specs.declared.json.Jv.TheViews.{out-Jv, roll-Jv, roll-out-Jv}
use Rattle.pocket_types.specs.declared.json.Member.{Member}
use Rattle.pocket_types.specs.declared.records.Cell.{Cell}
use Rattle.pocket_types.specs.declared.records.Cell.TheVariants as cell
use Rattle.pocket_types.specs.declared.records.Field.{Field}
use Rattle.pocket_types.specs.declared.records.Kind.{Kind}
use Rattle.pocket_types.specs.declared.records.Kind.TheVariants as kind
use Rattle.pocket_ops.specs.DateReading.{date_of}
use Rattle.pocket_ops.specs.Dates.{IsDateOf}
use Rattle.pocket_ops.specs.Trees.{null_jv}
use Rattle.pocket_ops.proofs.ReadDates.{forms}
use Rattle.pocket_rows.specs.FieldReading.{flag_in, list_in, may_be_date, read_all, text_in}
use Rattle.pocket_rows.proofs.FieldSoundness.{items_shallow}
use Rattle.pocket_check.specs.Cells.{cell_of, given_cell, is_filled, is_null, items_in, num_in, only_ids, text_of, texts_of, zero_cell}
use Rattle.pocket_check.proofs.AnswerLemmas.{if_some, map_some, then_some}
use Rattle.pocket_check.proofs.HeldLemmas.{AreHeld, filter_shorter, once_all, once_differ, once_shorter}

-- a cell fits its field, but a number may be of any size
abbrev pub AlmostFits : Kind → Cell → Type 0
AlmostFits (kind.Number min max) (cell.Num n) = Unit {0}
AlmostFits k c = Fits k c

pub almost : (k : Kind) (c : Cell) → Fits k c → AlmostFits k c
almost (kind.Number min max) (cell.Num n) h = tt
almost k c h = h

-- ---- cells that were never set

null_fits : IsCellTree null_jv
null_fits =
    let none : levels null_jv ≡ 0 = fold-roll-Jv ℕ ℕ levels_step levels_member jv.Null in
    record {
      keys = fold-roll-Jv Bool (List ℕ × Bool) rising_step rising_member jv.Null;
      numbers = fold-roll-Jv Bool Bool small_step small_member jv.Null;
      texts = fold-roll-Jv Bool Bool utf8_step utf8_member jv.Null;
      depth = omega (arith, none);
    }

none_differ : Differ []
none_differ i j d l m = absurd (omega (arith, m))

pub zero_fits : (k : Kind) → Fits k (zero_cell k)
zero_fits (kind.Text min max) = IsUtf8-nil
zero_fits (kind.Number min max) = omega arith
zero_fits kind.Flag = tt
zero_fits (kind.Date min max) = tt
zero_fits (kind.Select values most) = (All-nil IsItem, none_differ, λ few. omega arith)
zero_fits (kind.Json max) = null_fits
zero_fits (kind.Relation target most cascade) = (All-nil (λ id. IsTrue (is_id id)), none_differ, λ few. omega arith)

pub zeros_fit : (fields : List Field) → AllFit fields (map (λ f. zero_cell f.kind) fields)
zeros_fit [] = tt
zeros_fit (f ∷ fields) = (zero_fits f.kind, zeros_fit fields)

-- ---- texts

pub layer_of : (tree : Jv) (x : Jv-F Jv Member) → out-Jv tree ≡ x → tree ≡ roll-Jv x
layer_of tree x e = sym (roll-out-Jv tree) ∙ ap roll-Jv e

pub text_fine : (tree : Jv) → IsCellTree tree → IfSome (text_of tree) IsUtf8
text_fine tree h = by (out-Jv tree) refl
  where
    by : (x : Jv-F Jv Member) → out-Jv tree ≡ x → IfSome (text_in x) IsUtf8
    by (jv.Text t) e =
        IsUtf8-from_is_utf8 t (sym (fold-roll-Jv Bool Bool utf8_step utf8_member (jv.Text t)) ∙ ap texts_utf8 (sym (layer_of tree (jv.Text t) e)) ∙ h.texts)
    by x e = tt

read_fine : (trees : List Jv) → All IsCellTree trees → IfSome (read_all text_of trees) (All IsUtf8)
read_fine [] h = All-nil IsUtf8
read_fine (tree ∷ trees) h =
    then_some (λ t. option_map (λ ts. t ∷ ts) (read_all text_of trees)) (text_of tree) IsUtf8 (All IsUtf8) (text_fine tree (All-head IsCellTree tree trees h))
    (λ t u. map_some (λ ts. t ∷ ts) (read_all text_of trees) (All IsUtf8) (All IsUtf8) (read_fine trees (All-tail IsCellTree tree trees h)) (λ ts us. All-cons IsUtf8 t ts u us))

-- texts in UTF-8, and one where one may stand
abbrev AreTexts : Bool → List (List ℕ) → Type 0
AreTexts several texts = All IsUtf8 texts × (several ≡ false → length texts ≤ 1)

one_text : (several : Bool) (t : List ℕ) → IsUtf8 t → AreTexts several (t ∷ [])
one_text several t u = (All-cons IsUtf8 t [] u (All-nil IsUtf8), λ few. omega arith)

texts_fine : (several : Bool) (tree : Jv) → IsCellTree tree → IfSome (texts_of several tree) (AreTexts several)
texts_fine false tree h = map_some (λ t. t ∷ []) (text_of tree) IsUtf8 (AreTexts false) (text_fine tree h) (one_text false)
texts_fine true tree h = by (out-Jv tree) refl (text_fine tree h)
  where
    by : (x : Jv-F Jv Member) → out-Jv tree ≡ x → IfSome (text_in x) IsUtf8
        → IfSome (option_map_or (λ t. Some (t ∷ [])) (text_in x) (option_and_then (read_all text_of) (list_in x))) (AreTexts true)
    by (jv.Text t) e u = one_text true t u
    by (jv.List items) e u =
        IfSome_then (read_all text_of items) (read_fine items (items_shallow tree items (layer_of tree (jv.List items) e) h)) (λ ts us. (us, λ few. absurd (true≢false few)))
    by x e u = tt

-- ---- items

filled_item : (t : List ℕ) → IsUtf8 t → is_filled t ≡ true → IsItem t
filled_item [] u e = absurd (false≢true e)
filled_item (b ∷ bs) u e = (u, λ q. false≢true (sym (ap is_filled q) ∙ refl))

items_fine : (k : Kind) (texts : List (List ℕ)) → AreTexts (is_multiple k) texts → AreHeld IsItem k (items_in texts)
items_fine k texts h = (
  once_all IsItem (filter is_filled texts) (λ i d l. filled_item _ (All-filter is_filled IsUtf8 texts h.0 i d l) (filter_passes is_filled texts i d l)),
  once_differ (filter is_filled texts),
  λ few. omega (arith, once_shorter (filter is_filled texts), filter_shorter is_filled texts, h.1 few),
)

ids_fine : (target : List ℕ) (most : ℕ) (cascade : Bool) (items : List (List ℕ)) → AreHeld IsItem (kind.Relation target most cascade) items
    → IfSome (only_ids items) (AlmostFits (kind.Relation target most cascade))
ids_fine target most cascade items h = by (list_all is_id items) refl
  where
    by : (b : Bool) → list_all is_id items ≡ b → IfSome (if b then Some (cell.Refs items) else None) (AlmostFits (kind.Relation target most cascade))
    by true e = (AllPass-from_list_all is_id items e, h.1, h.2)
    by false e = tt

-- ---- dates

date_fine : (t : List ℕ) → IfSome (may_be_date t) (λ d. IfSome d IsMoment)
date_fine t = if_some (length t == 0) (Some None) (option_map (λ m. Some m) (date_of t)) (λ d. IfSome d IsMoment) tt (moment (date_of t) (forms t (date_of t) refl))
  where
    moment : (r : Option ℤ) → MatchOption r ((m : ℤ) → ¬ IsDateOf t m) (λ m. IsDateOf t m) → IfSome (option_map (λ m. Some m) r) (λ d. IfSome d IsMoment)
    moment None h = tt
    moment (Some m) h = h.4

-- ---- cells

abbrev pub Any : {A : Type 0} → A → Type 0
Any a = Unit {0}

pub any : {A : Type 0} (o : Option A) → IfSome o Any
any None = tt
any (Some a) = tt

given_fine : (k : Kind) (tree : Jv) → IsCellTree tree → IfSome (given_cell k tree) (AlmostFits k)
given_fine (kind.Text min max) tree h = map_some (λ t. cell.Text t) (text_of tree) IsUtf8 (AlmostFits (kind.Text min max)) (text_fine tree h) (λ t u. u)
given_fine (kind.Number min max) tree h = map_some (λ n. cell.Num n) (num_in (out-Jv tree)) Any (AlmostFits (kind.Number min max)) (any (num_in (out-Jv tree))) (λ n u. tt)
given_fine kind.Flag tree h = map_some (λ b. cell.Flag b) (flag_in (out-Jv tree)) Any (AlmostFits kind.Flag) (any (flag_in (out-Jv tree))) (λ b u. tt)
given_fine (kind.Date min max) tree h =
    map_some (λ d. cell.Date d) (option_and_then may_be_date (text_of tree)) (λ d. IfSome d IsMoment) (AlmostFits (kind.Date min max))
    (then_some may_be_date (text_of tree) Any (λ d. IfSome d IsMoment) (any (text_of tree)) (λ t u. date_fine t)) (λ d u. u)
given_fine (kind.Select values most) tree h =
    let k = kind.Select values most in
    map_some (λ texts. cell.Picks (items_in texts)) (texts_of (is_multiple k) tree) (AreTexts (is_multiple k)) (AlmostFits k) (texts_fine (is_multiple k) tree h) (items_fine k)
given_fine (kind.Json max) tree h = h
given_fine (kind.Relation target most cascade) tree h =
    let k = kind.Relation target most cascade in
    then_some (λ texts. only_ids (items_in texts)) (texts_of (is_multiple k) tree) (AreTexts (is_multiple k)) (AlmostFits k) (texts_fine (is_multiple k) tree h)
    (λ texts are. ids_fine target most cascade (items_in texts) (items_fine k texts are))

pub cell_fine : (k : Kind) (tree : Jv) → IsCellTree tree → IfSome (cell_of k tree) (AlmostFits k)
cell_fine k tree h = if_some (is_null (out-Jv tree)) (Some (zero_cell k)) (given_cell k tree) (AlmostFits k) (almost k (zero_cell k) (zero_fits k)) (given_fine k tree h)
