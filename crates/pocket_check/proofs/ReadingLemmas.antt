-- What is read of values of the profile.
use Rattle.std.proofs.Common.{◌≡◌, ◌^◌, ℕ, ℤ, nat_lt, Bool, true, false, List, [], ◌∷◌, Option, Some, None, IfSome, IsUtf8, IsTrue, All, MatchOption, option_map, option_and_then, if◌then◌else◌, refl, sym, ap, ◌∙◌, arith}
use Rattle.std.specs.List.{list_all}
use Rattle.std.proofs.lemmas.List.Elements.{All-head, All-tail}
use Rattle.std.proofs.lemmas.List.Sums.{AllPass-from_list_all, list_all-from_AllPass}
use Rattle.std.proofs.lemmas.Str.{is_utf8-from_IsUtf8}
use Rattle.pocket_types.specs.Kinds.{is_multiple}
use Rattle.pocket_types.specs.Names.{is_id}
use Rattle.pocket_types.specs.Profile.{numbers_small, size_of, small_member, small_step}
use Rattle.pocket_types.specs.Sound.{IsCellTree, IsSmall}
use Rattle.pocket_types.specs.declared.json.Jv.{Jv}
use Rattle.pocket_types.specs.declared.json.Jv.TheFolds.{fold-roll-Jv}
use Rattle.pocket_types.specs.declared.json.Jv.TheOpen as jv
use Rattle.pocket_types.specs.declared.json.Jv.TheOpen.{Jv-F}
use Rattle.pocket_types.specs.declared.json.Jv.TheViews.{out-Jv}
use Rattle.pocket_types.specs.declared.json.Member.{Member}
use Rattle.pocket_types.specs.declared.records.Cell.TheVariants as cell
use Rattle.pocket_types.specs.declared.records.Field.{Field}
use Rattle.pocket_types.specs.declared.records.Kind.{Kind}
use Rattle.pocket_types.specs.declared.records.Kind.TheVariants as kind
use Rattle.pocket_rows.specs.Cells.{AreShallow, value_under}
use Rattle.pocket_rows.specs.FieldReading.{flag_in, list_in, may_be_date, read_all, text_read, utf8_of}
use Rattle.pocket_rows.proofs.FieldSoundness.{items_shallow, value_shallow}
use Rattle.pocket_check.specs.Cells.{cell_of, given_cell, is_null, items_in, num_in, only_ids, text_of, texts_of, zero_cell}
use Rattle.pocket_check.specs.Bodies.{has_key, key_of}
use Rattle.pocket_check.specs.Changes.{IsWithin, asked}
use Rattle.pocket_check.specs.declared.change.Change.{Change}
use Rattle.pocket_check.proofs.AnswerLemmas.{if_some, map_some, then_some}
use Rattle.pocket_check.proofs.ChangeLemmas.{fits_within, small_bounds}
use Rattle.pocket_check.proofs.GivenLemmas.{Any, any, layer_of, text_fine, zero_fits}

-- ---- texts

utf8_kept : (o : Option (List ℕ)) → IfSome o IsUtf8 → option_and_then utf8_of o ≡ o
utf8_kept None h = refl
utf8_kept (Some t) h = ap (λ b. if b then Some t else None) (is_utf8-from_IsUtf8 t h)

-- texts of the profile are read as they stand
pub same_texts : (trees : List Jv) → All IsCellTree trees → read_all text_read trees ≡ read_all text_of trees
same_texts [] h = refl
same_texts (tree ∷ trees) h =
    ap (λ o. option_and_then (λ x. option_map (λ xs. x ∷ xs) (read_all text_read trees)) o) (utf8_kept (text_of tree) (text_fine tree (All-head IsCellTree tree trees h)))
    ∙ ap (λ r. option_and_then (λ x. option_map (λ xs. x ∷ xs) r) (text_of tree)) (same_texts trees (All-tail IsCellTree tree trees h))

-- the values of a list that fits into a cell fit too
pub list_fine : (tree : Jv) → IsCellTree tree → IfSome (list_in (out-Jv tree)) (All IsCellTree)
list_fine tree h = by (out-Jv tree) refl
  where
    by : (x : Jv-F Jv Member) → out-Jv tree ≡ x → IfSome (list_in x) (All IsCellTree)
    by (jv.List items) e = items_shallow tree items (layer_of tree (jv.List items) e) h
    by x e = tt

-- ---- what stands under keys

-- what a body's members have for a change fits into a cell
pub asked_shallow : (f : Field) (ms : List Member) (change : Change) → AreShallow ms → IfSome (asked f ms change) IsCellTree
asked_shallow f ms change h = if_some (has_key f.kind change) (value_under (key_of f.name change) ms) None IsCellTree (value_shallow (key_of f.name change) ms h) tt

-- ---- ids

-- what reading ids gives, where all texts are ids, and where not
pub ids_are : (items : List (List ℕ)) (found : Option (List (List ℕ)))
    → MatchOption found (¬ All (λ text. IsTrue (is_id text)) items) (λ ids. (ids ≡ items) × All (λ text. IsTrue (is_id text)) items)
    → option_map (λ ids. cell.Refs ids) found ≡ only_ids items
ids_are items None h = by (list_all is_id items) refl
  where
    by : (b : Bool) → list_all is_id items ≡ b → None ≡ (if b then Some (cell.Refs items) else None)
    by true e = absurd (h (AllPass-from_list_all is_id items e))
    by false e = refl
ids_are items (Some ids) h =
    ap (λ x. Some (cell.Refs x)) h.0 ∙ sym (ap (λ b. if b then Some (cell.Refs items) else None) (list_all-from_AllPass is_id items h.1))

-- ---- numbers

below : (n : ℤ) → nat_lt (size_of n) (2 ^ 53) ≡ true → IsSmall n
below n h = grind arith

number_small : (tree : Jv) → IsCellTree tree → IfSome (num_in (out-Jv tree)) IsSmall
number_small tree h = by (out-Jv tree) refl
  where
    by : (x : Jv-F Jv Member) → out-Jv tree ≡ x → IfSome (num_in x) IsSmall
    by (jv.Num n) e = below n (sym (fold-roll-Jv Bool Bool small_step small_member (jv.Num n)) ∙ ap numbers_small (sym (layer_of tree (jv.Num n) e)) ∙ h.numbers)
    by x e = tt

given_small : (k : Kind) (tree : Jv) → IsCellTree tree → IfSome (given_cell k tree) (IsWithin 1)
given_small (kind.Text min max) tree h = map_some (λ t. cell.Text t) (text_of tree) Any (IsWithin 1) (any (text_of tree)) (λ t u. tt)
given_small (kind.Number min max) tree h = map_some (λ n. cell.Num n) (num_in (out-Jv tree)) IsSmall (IsWithin 1) (number_small tree h) small_bounds
given_small kind.Flag tree h = map_some (λ b. cell.Flag b) (flag_in (out-Jv tree)) Any (IsWithin 1) (any (flag_in (out-Jv tree))) (λ b u. tt)
given_small (kind.Date min max) tree h =
    let date = option_and_then may_be_date (text_of tree) in
    map_some (λ d. cell.Date d) date Any (IsWithin 1) (any date) (λ d u. tt)
given_small (kind.Select values most) tree h =
    let texts = texts_of (is_multiple (kind.Select values most)) tree in
    map_some (λ ts. cell.Picks (items_in ts)) texts Any (IsWithin 1) (any texts) (λ ts u. tt)
given_small (kind.Json max) tree h = tt
given_small (kind.Relation target most cascade) tree h =
    let texts = texts_of (is_multiple (kind.Relation target most cascade)) tree in
    then_some (λ ts. only_ids (items_in ts)) texts Any (IsWithin 1) (any texts)
    (λ ts u. if_some (list_all is_id (items_in ts)) (Some (cell.Refs (items_in ts))) None (IsWithin 1) tt tt)

-- a number that a value of the profile gives is small
pub cell_small : (k : Kind) (tree : Jv) → IsCellTree tree → IfSome (cell_of k tree) (IsWithin 1)
cell_small k tree h = if_some (is_null (out-Jv tree)) (Some (zero_cell k)) (given_cell k tree) (IsWithin 1) (fits_within k (zero_cell k) (zero_fits k)) (given_small k tree h)
