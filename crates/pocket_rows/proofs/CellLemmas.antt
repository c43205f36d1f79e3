-- The cells and items that a tree stands for.
use Rattle.std.proofs.Common.{◌≡◌, ◌≢◌, ◌≤◌, ◌<◌, ◌^◌, ◌==◌, ◌↔◌, ◌+◌, ℕ, zero, suc, ℤ, Bool, true, false, nat_lt, nat_le, List, [], ◌∷◌, ◌++◌, map, length, take, get_or, slice_index_or, Option, Some, None, IfSome, if◌then◌else◌, IsTrue, IsUtf8, All, Contains, MatchOption, refl, sym, ap, subst, ◌∙◌, arith}
use Rattle.std.proofs.lemmas.Bool.Decides.{nat_tests}
use Rattle.std.proofs.lemmas.Grind.{common_steps}
use Rattle.std.proofs.lemmas.List.{get_or_default}
use Rattle.std.proofs.lemmas.List.Elements.{All-cons, All-nil, All-push, All-more}
use Rattle.std.proofs.lemmas.List.Quantifiers.{all_pairs_push}
use Rattle.pocket_types.specs.declared.json.Jv.{Jv}
use Rattle.pocket_types.specs.declared.json.Jv.TheOpen as jv
use Rattle.pocket_types.specs.declared.json.Jv.TheFolds.{fold-roll-Jv}
use Rattle.pocket_types.specs.declared.records.Cell.{Cell}
use Rattle.pocket_types.specs.declared.records.Cell.TheVariants as cell
use Rattle.pocket_types.specs.declared.records.Kind.TheVariants as kind
use Rattle.pocket_types.specs.Names.{IsMoment, is_id}
use Rattle.pocket_types.specs.Profile.{size_of, small_step, small_member}
use Rattle.pocket_ops.specs.DateReading.{date_of}
use Rattle.pocket_ops.specs.Dates.{date_text}
use Rattle.pocket_ops.specs.Trees.{text_jv, num_jv, flag_jv, list_jv, one_jv, items_jv, date_jv, cell_jv}
use Rattle.pocket_rows.proofs.MomentLemmas.{date_text-read, date_text-filled}
use Rattle.pocket_rows.proofs.TreeForms.{text_once, num_once, flag_once, list_once, texts_once}
use Rattle.pocket_rows.specs.Cells.{AreFilled, AreNoItems, MayBeItems, IsNoDate, MayBeDate, IsNoCell, MayBeCell}
use Rattle.pocket_types.specs.Sound.{IsSmall, IsCellTree, IsItem, Differ, Fits}

-- ---- texts

pub empty_text : (t : List ℕ) (b : Bool) → b ≡ (length t == 0) → b ≡ true → t ≡ []
empty_text t b e h = grind (arith, common_steps, nat_tests)

pub filled_text : (t : List ℕ) (b : Bool) → b ≡ (length t == 0) → b ≡ false → t ≢ []
filled_text t b e h q = let clash : true ≡ false = sym (e ∙ ap (λ x. length x == 0) q) ∙ h in cc

-- ---- dates

date_of-empty : date_of [] ≡ None
unfolding date_of
date_of-empty = refl

pub empty_date : (t : List ℕ) → t ≡ [] → MayBeDate (text_jv t) None
empty_date t e = record { form = tt; only = λ d h q. by d q }
  where
    by : (d : Option ℤ) → text_jv t ≡ date_jv d → d ≡ None
    by None q = refl
    by (Some n) q = absurd (date_text-filled n (sym (text_once t (date_text n) q) ∙ e))

pub some_date : (t : List ℕ) (m : ℤ) → Some m ≡ date_of t → IsMoment m → MayBeDate (text_jv t) (Some m)
some_date t m e form = record { form = form; only = λ d h q. by d h q }
  where
    by : (d : Option ℤ) → IfSome d IsMoment → text_jv t ≡ date_jv d → d ≡ Some m
    by None h q = let clash : Some m ≡ None = e ∙ ap date_of (text_once t [] q) ∙ date_of-empty in cc
    by (Some n) h q = sym (e ∙ ap date_of (text_once t (date_text n) q) ∙ date_text-read n h)

pub no_date : (t : List ℕ) → None ≡ date_of t → t ≢ [] → IsNoDate (text_jv t)
no_date t e filled None h q = filled (text_once t [] q)
no_date t e filled (Some n) h q = let clash : None ≡ Some n = e ∙ ap date_of (text_once t (date_text n) q) ∙ date_text-read n h in cc

-- ---- cells of one form

pub text_cell-none : (tree : Jv) → ((t : List ℕ) → tree ≢ text_jv t) → (min max : ℕ) → IsNoCell (kind.Text min max) tree
text_cell-none tree none min max (cell.Text t) h e = none t e
text_cell-none tree none min max c h e = absurd h

pub text_cell-is : (tree : Jv) (t : List ℕ) (c : Cell) → IsUtf8 t → tree ≡ text_jv t → c ≡ cell.Text t → (min max : ℕ) → MayBeCell (kind.Text min max) tree c
text_cell-is tree t c u e is min max = subst (MayBeCell (kind.Text min max) tree) (sym is) (record { fits = u; only = only })
  where
    only : (d : Cell) → Fits (kind.Text min max) d → tree ≡ cell_jv (kind.Text min max) d → d ≡ cell.Text t
    only (cell.Text s) h q = ap (λ x. cell.Text x) (text_once s t (sym q ∙ e))
    only d h q = absurd h

pub number_cell-none : (tree : Jv) → ((n : ℤ) → tree ≢ num_jv n) → (min max : Option ℤ) → IsNoCell (kind.Number min max) tree
number_cell-none tree none min max (cell.Num n) h e = none n e
number_cell-none tree none min max c h e = absurd h

below : (a b : ℕ) → nat_lt a b ≡ true → a < b
below a b h = grind arith

pub small_number : (n : ℤ) → IsCellTree (num_jv n) → IsSmall n
small_number n h = below (size_of n) (2 ^ 53) (sym (fold-roll-Jv Bool Bool small_step small_member (jv.Num n)) ∙ h.numbers)

pub number_cell-is : (tree : Jv) (n : ℤ) → IsCellTree tree → tree ≡ num_jv n → (min max : Option ℤ) → MayBeCell (kind.Number min max) tree (cell.Num n)
number_cell-is tree n t e min max = record { fits = small_number n (subst IsCellTree e t); only = only }
  where
    only : (d : Cell) → Fits (kind.Number min max) d → tree ≡ cell_jv (kind.Number min max) d → d ≡ cell.Num n
    only (cell.Num m) h q = ap (λ x. cell.Num x) (num_once m n (sym q ∙ e))
    only d h q = absurd h

pub flag_cell-none : (tree : Jv) → ((b : Bool) → tree ≢ flag_jv b) → IsNoCell kind.Flag tree
flag_cell-none tree none (cell.Flag b) h e = none b e
flag_cell-none tree none c h e = absurd h

pub flag_cell-is : (tree : Jv) (b : Bool) → tree ≡ flag_jv b → MayBeCell kind.Flag tree (cell.Flag b)
flag_cell-is tree b e = record { fits = tt; only = only }
  where
    only : (d : Cell) → Fits kind.Flag d → tree ≡ cell_jv kind.Flag d → d ≡ cell.Flag b
    only (cell.Flag a) h q = ap (λ x. cell.Flag x) (flag_once a b (sym q ∙ e))
    only d h q = absurd h

text_of_date : (d : Option ℤ) → (t : List ℕ) × (date_jv d ≡ text_jv t)
text_of_date None = ([], refl)
text_of_date (Some m) = (date_text m, refl)

pub date_cell-no_text : (tree : Jv) → ((t : List ℕ) → tree ≢ text_jv t) → (min max : Option ℤ) → IsNoCell (kind.Date min max) tree
date_cell-no_text tree none min max (cell.Date d) h e = let x = text_of_date d in none x.0 (e ∙ x.1)
date_cell-no_text tree none min max c h e = absurd h

pub date_cell-none : (tree : Jv) (t s : List ℕ) → tree ≡ text_jv t → s ≡ t → IsNoDate (text_jv s) → (min max : Option ℤ) → IsNoCell (kind.Date min max) tree
date_cell-none tree t s e same none min max (cell.Date d) h q = none d h (ap (λ x. text_jv x) same ∙ sym e ∙ q)
date_cell-none tree t s e same none min max c h q = absurd h

pub date_cell-is : (tree : Jv) (t s : List ℕ) (d : Option ℤ) → tree ≡ text_jv t → s ≡ t → MayBeDate (text_jv s) d → (min max : Option ℤ) → MayBeCell (kind.Date min max) tree (cell.Date d)
date_cell-is tree t s d e same x min max = record { fits = x.form; only = only }
  where
    only : (c : Cell) → Fits (kind.Date min max) c → tree ≡ cell_jv (kind.Date min max) c → c ≡ cell.Date d
    only (cell.Date a) h q = ap (λ y. cell.Date y) (x.only a h (ap (λ y. text_jv y) same ∙ sym e ∙ q))
    only c h q = absurd h

pub json_cell-is : (tree copy : Jv) → copy ≡ tree → IsCellTree tree → (max : ℕ) → MayBeCell (kind.Json max) tree (cell.Json copy)
json_cell-is tree copy same t max = record { fits = subst IsCellTree (sym same) t; only = only }
  where
    only : (d : Cell) → Fits (kind.Json max) d → tree ≡ cell_jv (kind.Json max) d → d ≡ cell.Json copy
    only (cell.Json a) h q = ap (λ x. cell.Json x) (sym q ∙ sym same)
    only d h q = absurd h

-- ---- items

pub differ-more : (items : List (List ℕ)) (i : ℕ) (x : List ℕ) (has : Bool) → i < length items → x ≡ get_or items i x → (IsTrue has ↔ Contains (take i items) x) → has ≡ false → Differ (take i items) → Differ (take (i + 1) items)
differ-more items i x has l here seen none so =
    let taken : take (i + 1) items ≡ take i items ++ x ∷ [] = grind (arith, common_steps) in
    let other : ¬ Contains (take i items) x = λ q. let clash : true ≡ false = sym (seen.1 q) ∙ none in cc in
    subst Differ (sym taken) (all_pairs_push (λ a b. a ≢ b) (take i items) x so (λ k d m e. other (k, m, get_or_default (take i items) k x d m ∙ e)))

pub differ-all : (items : List (List ℕ)) (i : ℕ) → length items ≤ i → Differ (take i items) → IsTrue true ↔ Differ items
differ-all items i l so = let whole : take i items ≡ items = grind (arith, common_steps) in (λ _. subst Differ whole so, λ _. refl)

map_at : (items : List (List ℕ)) (i : ℕ) (tree : Jv) → i < length (map text_jv items) → AreFilled items → (t : List ℕ) × (t ≢ []) × (get_or (map text_jv items) i tree ≡ text_jv t)
map_at [] i tree l f = absurd (omega (arith, l))
map_at (t ∷ ts) zero tree l f = (t, f 0 [] (omega arith), refl)
map_at (t ∷ ts) (suc i) tree l f = map_at ts i tree (omega (arith, l)) (λ k d m. f (suc k) d (omega arith))

pub listed-none : (trees : List Jv) (i : ℕ) (tree : Jv) → i < length trees → tree ≡ get_or trees i tree → ((t : List ℕ) → t ≢ [] → tree ≢ text_jv t)
    → (items : List (List ℕ)) → AreFilled items → trees ≢ map text_jv items
listed-none trees i tree l here none items filled e =
    let x = map_at items i tree (subst (λ ts. i < length ts) e l) filled in
    none x.0 x.1 (here ∙ ap (λ ts. get_or ts i tree) e ∙ x.2)

pub several-none_listed : (tree : Jv) (trees : List Jv) → tree ≡ list_jv trees → ((items : List (List ℕ)) → AreFilled items → trees ≢ map text_jv items)
    → (items : List (List ℕ)) → AreFilled items → Differ items → tree ≢ list_jv (map text_jv items)
several-none_listed tree trees e none items filled differ q = none items filled (list_once trees (map text_jv items) (sym e ∙ q))

pub several-none_differ : (tree : Jv) (trees : List Jv) (found : List (List ℕ)) (r : Bool) → tree ≡ list_jv trees → trees ≡ map text_jv found → (IsTrue r ↔ Differ found) → r ≡ false
    → (items : List (List ℕ)) → AreFilled items → Differ items → tree ≢ list_jv (map text_jv items)
several-none_differ tree trees found r e same is none items filled differ q =
    let here : items ≡ found = texts_once items found (sym (list_once trees (map text_jv items) (sym e ∙ q)) ∙ same) in
    let clash : true ≡ false = sym (is.1 (subst Differ here differ)) ∙ none in
    cc

pub filled_items : (items : List (List ℕ)) → All IsItem items → AreFilled items
filled_items items h k d l = (h k d l).1

several_jv : (most : ℕ) (items : List (List ℕ)) → 1 < most → items_jv most items ≡ list_jv (map text_jv items)
several_jv most items h = let e : nat_le most 1 ≡ false = grind arith in ap (λ b. if b then one_jv items else list_jv (map text_jv items)) e

single_jv : (most : ℕ) (items : List (List ℕ)) → most ≤ 1 → items_jv most items ≡ one_jv items
single_jv most items h = let e : nat_le most 1 ≡ true = grind arith in ap (λ b. if b then one_jv items else list_jv (map text_jv items)) e

pub several-none : (most : ℕ) (tree : Jv) → 1 < most → ((items : List (List ℕ)) → AreFilled items → Differ items → tree ≢ list_jv (map text_jv items)) → AreNoItems most tree
several-none most tree h none items are e = none items are.filled are.differ (e ∙ several_jv most items h)

pub several-is : (most : ℕ) (tree : Jv) (items : List (List ℕ)) → 1 < most → All IsItem items × Differ items × (tree ≡ list_jv (map text_jv items)) → MayBeItems most tree items
several-is most tree items h x = record {
  texts = x.0;
  are = record { filled = filled_items items x.0; differ = x.1; few = λ e. absurd (several_few most h e) };
  only = λ others are q. texts_once others items (list_once (map text_jv others) (map text_jv items) (sym (several_jv most others h) ∙ sym q ∙ x.2));
}
  where
    several_few : (most : ℕ) → 1 < most → nat_lt 1 most ≡ false → ⊥
    several_few most h e = let t : nat_lt 1 most ≡ true = grind arith in let clash : true ≡ false = sym t ∙ e in cc

pub single-none : (most : ℕ) (tree : Jv) → most ≤ 1 → ((items : List (List ℕ)) → tree ≢ one_jv items) → AreNoItems most tree
single-none most tree h none items are e = none items (e ∙ single_jv most items h)

few_differ : (items : List (List ℕ)) → length items ≤ 1 → Differ items
few_differ items h i j d l m = absurd (omega (arith, l, m, h))

pub single-is : (most : ℕ) (tree : Jv) (items : List (List ℕ)) → most ≤ 1
    → All IsItem items × (length items ≤ 1) × ((others : List (List ℕ)) → AreFilled others → length others ≤ 1 → tree ≡ one_jv others → others ≡ items) → MayBeItems most tree items
single-is most tree items h x =
    let one : nat_lt 1 most ≡ false = grind arith in
    record {
      texts = x.0;
      are = record { filled = filled_items items x.0; differ = few_differ items x.1; few = λ e. x.1 };
      only = λ others are q. x.2 others are.filled (are.few one) (q ∙ single_jv most others h);
    }

one_text : (items : List (List ℕ)) → (t : List ℕ) × (one_jv items ≡ text_jv t)
one_text [] = ([], refl)
one_text (t ∷ ts) = (t, refl)

pub one-none : (tree : Jv) → ((t : List ℕ) → tree ≢ text_jv t) → (items : List (List ℕ)) → tree ≢ one_jv items
one-none tree none items e = let x = one_text items in none x.0 (e ∙ x.1)

abbrev pub IsOne : Jv → List (List ℕ) → Type 0
IsOne tree items = All IsItem items × (length items ≤ 1) × ((others : List (List ℕ)) → AreFilled others → length others ≤ 1 → tree ≡ one_jv others → others ≡ items)

pub one-empty : (tree : Jv) (t : List ℕ) → tree ≡ text_jv t → t ≡ [] → IsOne tree []
one-empty tree t e empty = ((λ k d l. absurd (omega (arith, l))), omega arith, only)
  where
    only : (others : List (List ℕ)) → AreFilled others → length others ≤ 1 → tree ≡ one_jv others → others ≡ []
    only [] f l q = refl
    only (s ∷ ss) f l q = absurd (f 0 s (omega arith) (sym (text_once t s (sym e ∙ q)) ∙ empty))

pub one-filled : (tree : Jv) (t s : List ℕ) → tree ≡ text_jv t → s ≡ t → IsUtf8 s → t ≢ [] → IsOne tree (s ∷ [])
one-filled tree t s e same u filled = (All-cons IsItem s [] (u, λ q. filled (sym same ∙ q)) (All-nil IsItem), omega arith, only)
  where
    only : (others : List (List ℕ)) → AreFilled others → length others ≤ 1 → tree ≡ one_jv others → others ≡ s ∷ []
    only [] f l q = absurd (filled (text_once t [] (sym e ∙ q)))
    only (x ∷ []) f l q = ap (λ y. y ∷ []) (sym (text_once t x (sym e ∙ q)) ∙ sym same)
    only (x ∷ y ∷ ys) f l q = absurd (omega (arith, l))

-- ---- cells of items

pub picks-none : (most : ℕ) (tree : Jv) → AreNoItems most tree → (values : List (List ℕ)) → IsNoCell (kind.Select values most) tree
picks-none most tree none values (cell.Picks items) h e = none items (record { filled = filled_items items h.0; differ = h.1; few = h.2 }) e
picks-none most tree none values c h e = absurd h

pub picks-is : (most : ℕ) (tree : Jv) (items : List (List ℕ)) → MayBeItems most tree items → (values : List (List ℕ)) → MayBeCell (kind.Select values most) tree (cell.Picks items)
picks-is most tree items x values = record { fits = (x.texts, x.are.differ, x.are.few); only = only }
  where
    only : (d : Cell) → Fits (kind.Select values most) d → tree ≡ cell_jv (kind.Select values most) d → d ≡ cell.Picks items
    only (cell.Picks others) h q = ap (λ y. cell.Picks y) (x.only others (record { filled = filled_items others h.0; differ = h.1; few = h.2 }) q)
    only d h q = absurd h

pub filled_id : (t : List ℕ) → IsTrue (is_id t) → t ≢ []
filled_id t h e = let clash : true ≡ false = sym h ∙ ap is_id e in cc

filled_ids : (ids : List (List ℕ)) → All (λ id. IsTrue (is_id id)) ids → AreFilled ids
filled_ids ids h k d l = filled_id (slice_index_or ids k d) (h k d l)

pub refs-no_items : (most : ℕ) (tree : Jv) → AreNoItems most tree → (target : List ℕ) (cascade : Bool) → IsNoCell (kind.Relation target most cascade) tree
refs-no_items most tree none target cascade (cell.Refs ids) h e = none ids (record { filled = filled_ids ids h.0; differ = h.1; few = h.2 }) e
refs-no_items most tree none target cascade c h e = absurd h

pub refs-no_ids : (most : ℕ) (tree : Jv) (items : List (List ℕ)) → MayBeItems most tree items → ¬ All (λ id. IsTrue (is_id id)) items → (target : List ℕ) (cascade : Bool) → IsNoCell (kind.Relation target most cascade) tree
refs-no_ids most tree items x none target cascade (cell.Refs ids) h e =
    none (subst (All (λ id. IsTrue (is_id id))) (x.only ids (record { filled = filled_ids ids h.0; differ = h.1; few = h.2 }) e) h.0)
refs-no_ids most tree items x none target cascade c h e = absurd h

pub refs-is : (most : ℕ) (tree : Jv) (items ids : List (List ℕ)) → MayBeItems most tree items → ids ≡ items → All (λ id. IsTrue (is_id id)) items → (target : List ℕ) (cascade : Bool)
    → MayBeCell (kind.Relation target most cascade) tree (cell.Refs ids)
refs-is most tree items ids x same form target cascade = subst (λ y. MayBeCell (kind.Relation target most cascade) tree (cell.Refs y)) (sym same) (record { fits = (form, x.are.differ, x.are.few); only = only })
  where
    only : (d : Cell) → Fits (kind.Relation target most cascade) d → tree ≡ cell_jv (kind.Relation target most cascade) d → d ≡ cell.Refs items
    only (cell.Refs others) h q = ap (λ y. cell.Refs y) (x.only others (record { filled = filled_ids others h.0; differ = h.1; few = h.2 }) q)
    only d h q = absurd h

-- ---- items that are found one by one

pub listed-more : (trees : List Jv) (i : ℕ) (tree : Jv) (items new : List (List ℕ)) (item : List ℕ) → i < length trees → tree ≡ get_or trees i tree → All IsItem items × (take i trees ≡ map text_jv items)
    → IsItem item × (tree ≡ text_jv item) → new ≡ items ++ item ∷ [] → All IsItem new × (take (i + 1) trees ≡ map text_jv new)
listed-more trees i tree items new item l here so is e =
    let taken : take (i + 1) trees ≡ take i trees ++ tree ∷ [] = grind (arith, common_steps) in
    let mapped : map text_jv (items ++ item ∷ []) ≡ map text_jv items ++ text_jv item ∷ [] = grind (arith, common_steps) in
    (subst (All IsItem) (sym e) (All-push IsItem items item so.0 is.0), taken ∙ (λ k. so.1 k ++ is.1 k ∷ []) ∙ sym mapped ∙ ap (map text_jv) (sym e))

pub listed-end : (trees : List Jv) (i : ℕ) (items found : List (List ℕ)) → length trees ≤ i → found ≡ items → All IsItem items × (take i trees ≡ map text_jv items) → All IsItem found × (trees ≡ map text_jv found)
listed-end trees i items found l e so =
    let whole : take i trees ≡ trees = grind (arith, common_steps) in
    (subst (All IsItem) (sym e) so.0, sym whole ∙ so.1 ∙ ap (map text_jv) (sym e))

abbrev pub IsIdText : List ℕ → Type 0
IsIdText text = IsTrue (is_id text)

pub ids-more : (texts : List (List ℕ)) (i : ℕ) (text read id : List ℕ) (ids new : List (List ℕ)) → i < length texts → text ≡ get_or texts i text → read ≡ text → All IsIdText (take i texts) × (ids ≡ take i texts)
    → (id ≡ read) × IsTrue (is_id read) → new ≡ ids ++ id ∷ [] → All IsIdText (take (i + 1) texts) × (new ≡ take (i + 1) texts)
ids-more texts i text read id ids new l here same so is e =
    let taken : take (i + 1) texts ≡ take i texts ++ text ∷ [] = grind (arith, common_steps) in
    (All-more IsIdText texts i text l so.0 (subst IsIdText (same ∙ here) is.1), e ∙ (λ k. so.1 k ++ (is.0 ∙ same) k ∷ []) ∙ sym taken)

abbrev pub SeveralRead : Jv → Option (List (List ℕ)) → Type 0
SeveralRead tree found =
    MatchOption found ((items : List (List ℕ)) → AreFilled items → Differ items → tree ≢ list_jv (map text_jv items)) (λ items. All IsItem items × Differ items × (tree ≡ list_jv (map text_jv items)))

abbrev pub OneRead : Jv → Option (List (List ℕ)) → Type 0
OneRead tree found = MatchOption found ((items : List (List ℕ)) → tree ≢ one_jv items) (λ items. IsOne tree items)

abbrev pub ItemsRead : ℕ → Jv → Option (List (List ℕ)) → Type 0
ItemsRead most tree found = MatchOption found (AreNoItems most tree) (λ items. MayBeItems most tree items)

pub several-read : (most : ℕ) (tree : Jv) → 1 < most → (found : Option (List (List ℕ))) → SeveralRead tree found → ItemsRead most tree found
several-read most tree h None x = several-none most tree h x
several-read most tree h (Some items) x = several-is most tree items h x

pub one-read : (most : ℕ) (tree : Jv) → most ≤ 1 → (found : Option (List (List ℕ))) → OneRead tree found → ItemsRead most tree found
one-read most tree h None x = single-none most tree h x
one-read most tree h (Some items) x = single-is most tree items h x
