-- A tree that was read has rising keys, small numbers and at most 32 levels.
use Rattle.std.proofs.Common.{◌≡◌, ◌≤◌, ◌^◌, ◌&&◌, ℕ, zero, suc, max, ℤ, pos, neg_ℤ, List, [], ◌∷◌, Bool, true, false, map, drop, nat_lt, if◌then◌else◌, Option, Some, None, option_map, option_and_then, refl, sym, ap, ◌∙◌, arith, subst, slice_index, ◌==◌}
use Rattle.std.specs.Bool.{⊤}
use Rattle.std.specs.Prelude.{IsTrue}
use Rattle.std.specs.List.{list_all}
use Rattle.std.specs.Str.{is_utf8}
use Rattle.std.specs.Ordering.{nat_cmp, match_ordering}
use Rattle.std.specs.Cmp.Lexicographic.{slice_cmp}
use Rattle.std.specs.declared.cmp.Ordering.{Ordering}
use Rattle.std.specs.declared.cmp.Ordering.TheVariants.{Less, Equal, Greater}
use Rattle.std.proofs.lemmas.Bool.{and_from}
use Rattle.fast_float.specs.Text.{Parts, minus, scan, digits_of}
use Rattle.json.specs.Json as json
use Rattle.json.specs.Lex.{tokens}
use Rattle.json.specs.Token.{Token}
use Rattle.json.specs.Tree.{depth, items_depth, members_depth}
use Rattle.json.proofs.Nesting.{value-depth}
use Rattle.serde_json.specs.Read.{is_integer}
use Rattle.pocket_types.specs.Order.{is_before}
use Rattle.pocket_types.proofs.OrderLemmas.{is_before_from, before_from_after}
use Rattle.pocket_types.specs.declared.json.Jv.{Jv}
use Rattle.pocket_types.specs.declared.json.Jv.TheOpen as jv
use Rattle.pocket_types.specs.declared.json.Jv.TheViews.{roll-Jv}
use Rattle.pocket_types.specs.declared.json.Jv.TheFolds.{fold-roll-Jv}
use Rattle.pocket_types.specs.Profile.{rise, rise_from, rising_step, rising_member, keys_rise, size_of, small_step, small_member, numbers_small, greatest, levels_step, levels_member, levels, texts_utf8, entry_utf8, IsProfiled}
use Rattle.pocket_types.specs.Maps.{map_jv, put}
use Rattle.pocket_json.specs.Reading.{from_zero, below_zero, whole_of, tree_of, trees_of, entries_of, document, read}
use Rattle.pocket_json.proofs.Layers.{Entries, keys, rising_list, small_list, levels_list, rising_map, small_map, levels_map}

-- ---- options

pub and_then_some : {A B : Type 0} (f : A → Option B) (o : Option A) (b : B) → option_and_then f o ≡ Some b → (a : A) × (o ≡ Some a) × (f a ≡ Some b)
and_then_some f None b h = cc
and_then_some f (Some a) b h = (a, refl, h)

pub map_some : {A B : Type 0} (f : A → B) (o : Option A) (b : B) → option_map f o ≡ Some b → (a : A) × (o ≡ Some a) × (f a ≡ b)
map_some f None b h = cc
map_some f (Some a) b h = (a, refl, cc)

pub and_parts : (a b : Bool) → (a && b) ≡ true → (a ≡ true) × (b ≡ true)
and_parts true true h = (refl, refl)
and_parts true false h = cc
and_parts false b h = cc

if_some : (b : Bool) (x n : ℤ) → (if b then Some x else None) ≡ Some n → (b ≡ true) × (x ≡ n)
if_some true x n h = (refl, cc)
if_some false x n h = cc

-- ---- numbers

size_below : (n : ℕ) → size_of (neg_ℤ (pos n)) ≡ n
size_below zero = refl
size_below (suc n) = refl

small_from_zero : (p : Parts) (n : ℤ) → from_zero p ≡ Some n → nat_lt (size_of n) (2 ^ 53) ≡ true
small_from_zero p n h =
    let found = if_some _ (pos (digits_of p)) n h in
    let parts = and_parts (is_integer p) (nat_lt (digits_of p) (2 ^ 53)) found.0 in
    ap (λ z. nat_lt (size_of z) (2 ^ 53)) (sym found.1) ∙ parts.1

small_below_zero : (p : Parts) (n : ℤ) → below_zero p ≡ Some n → nat_lt (size_of n) (2 ^ 53) ≡ true
small_below_zero p n h =
    let found = if_some _ (neg_ℤ (pos (digits_of p))) n h in
    let parts = and_parts _ (nat_lt (digits_of p) (2 ^ 53)) found.0 in
    ap (λ z. nat_lt (size_of z) (2 ^ 53)) (sym found.1) ∙ ap (λ d. nat_lt d (2 ^ 53)) (size_below (digits_of p)) ∙ parts.1

small_either : (b : Bool) (s : List ℕ) (n : ℤ) → (if b then below_zero (scan (drop 1 s)) else from_zero (scan s)) ≡ Some n → nat_lt (size_of n) (2 ^ 53) ≡ true
small_either true s n h = small_below_zero (scan (drop 1 s)) n h
small_either false s n h = small_from_zero (scan s) n h

small_whole : (s : List ℕ) (n : ℤ) → whole_of s ≡ Some n → nat_lt (size_of n) (2 ^ 53) ≡ true
unfolding whole_of
small_whole s n h = small_either (slice_index s 0 == minus) s n h

-- ---- keys that rise, and one more

rise_from_put : (low : List ℕ) (es : Entries) (key : List ℕ) (v : Jv) → is_before low key ≡ true → rise_from low (keys es) ≡ true → rise_from low (keys (put key v es)) ≡ true
unfolding put
rise_from_put low [] key v below h = and_from _ _ below refl
rise_from_put low (e ∷ es) key v below h =
    let parts = and_parts (is_before low e.0) (rise_from e.0 (keys es)) h in
    by (slice_cmp nat_cmp key e.0) refl parts (λ after. rise_from_put e.0 es key v after parts.1)
  where
    by : (o : Ordering) → slice_cmp nat_cmp key e.0 ≡ o → (is_before low e.0 ≡ true) × (rise_from e.0 (keys es) ≡ true)
        → (is_before e.0 key ≡ true → rise_from e.0 (keys (put key v es)) ≡ true)
        → rise_from low (keys (match_ordering o ((key, v) ∷ e ∷ es) ((e.0, v) ∷ es) (e ∷ put key v es))) ≡ true
    by Less is parts more = and_from _ _ below (and_from _ _ (is_before_from key e.0 is) parts.1)
    by Equal is parts more = and_from _ _ parts.0 parts.1
    by Greater is parts more = and_from _ _ parts.0 (more (is_before_from e.0 key (before_from_after key e.0 is)))

pub rise_put : (es : Entries) (key : List ℕ) (v : Jv) → rise (keys es) ≡ true → rise (keys (put key v es)) ≡ true
unfolding put
rise_put [] key v h = refl
rise_put (e ∷ es) key v h = by (slice_cmp nat_cmp key e.0) refl
  where
    by : (o : Ordering) → slice_cmp nat_cmp key e.0 ≡ o
        → rise (keys (match_ordering o ((key, v) ∷ e ∷ es) ((e.0, v) ∷ es) (e ∷ put key v es))) ≡ true
    by Less is = and_from _ _ (is_before_from key e.0 is) h
    by Equal is = h
    by Greater is = rise_from_put e.0 es key v (is_before_from e.0 key (before_from_after key e.0 is)) h

-- ---- trees with at most so many levels

abbrev pub Fine : ℕ → Jv → Type 0
Fine d v = (keys_rise v ≡ true) × (numbers_small v ≡ true) × (levels v ≤ d)

abbrev pub AllFine : ℕ → List Jv → Type 0
AllFine d [] = ⊤
AllFine d (v ∷ vs) = Fine d v × AllFine d vs

abbrev pub EntriesFine : ℕ → Entries → Type 0
EntriesFine d [] = ⊤
EntriesFine d (e ∷ es) = Fine d e.1 × EntriesFine d es

pub fine_more : (d e : ℕ) (v : Jv) → d ≤ e → Fine d v → Fine e v
fine_more d e v h f = (f.0, f.1, omega (arith, f.2))

all_more : (d e : ℕ) (vs : List Jv) → d ≤ e → AllFine d vs → AllFine e vs
all_more d e [] h f = tt
all_more d e (v ∷ vs) h f = (fine_more d e v h f.0, all_more d e vs h f.1)

list_fine : (d : ℕ) (vs : List Jv) → AllFine d vs → (list_all keys_rise vs ≡ true) × (list_all numbers_small vs ≡ true) × (greatest (map levels vs) ≤ d)
list_fine d [] f = (refl, refl, omega arith)
list_fine d (v ∷ vs) f = let more = list_fine d vs f.1 in (and_from _ _ f.0.0 more.0, and_from _ _ f.0.1 more.1, omega (arith, f.0.2, more.2))

entries_fine : (d : ℕ) (es : Entries) → EntriesFine d es
    → (list_all (λ e. keys_rise e.1) es ≡ true) × (list_all (λ e. numbers_small e.1) es ≡ true) × (greatest (map (λ e. levels e.1) es) ≤ d)
entries_fine d [] f = (refl, refl, omega arith)
entries_fine d (e ∷ es) f = let more = entries_fine d es f.1 in (and_from _ _ f.0.0 more.0, and_from _ _ f.0.1 more.1, omega (arith, f.0.2, more.2))

pub fine_list : (d : ℕ) (vs : List Jv) → AllFine d vs → Fine (suc d) (roll-Jv (jv.List vs))
fine_list d vs f = let all = list_fine d vs f in (rising_list vs ∙ all.0, small_list vs ∙ all.1, omega (arith, levels_list vs, all.2))

pub fine_map : (d : ℕ) (es : Entries) → EntriesFine d es → rise (keys es) ≡ true → Fine (suc d) (map_jv es)
fine_map d es f r =
    let all = entries_fine d es f in
    (rising_map es ∙ and_from _ _ r all.0, small_map es ∙ all.1, omega (arith, levels_map es, all.2))

pub put_fine : (d : ℕ) (key : List ℕ) (v : Jv) (es : Entries) → Fine d v → EntriesFine d es → EntriesFine d (put key v es)
unfolding put
put_fine d key v [] f g = (f, tt)
put_fine d key v (e ∷ es) f g = by (slice_cmp nat_cmp key e.0) (put_fine d key v es f g.1)
  where
    by : (o : Ordering) → EntriesFine d (put key v es) → EntriesFine d (match_ordering o ((key, v) ∷ e ∷ es) ((e.0, v) ∷ es) (e ∷ put key v es))
    by Less more = (f, g)
    by Equal more = (f, g.1)
    by Greater more = (g.0, more)

-- an entry of UTF-8 more
pub put_utf8 : (key : List ℕ) (v : Jv) (es : Entries) → is_utf8 key ≡ true → texts_utf8 v ≡ true → list_all entry_utf8 es ≡ true → list_all entry_utf8 (put key v es) ≡ true
unfolding put
put_utf8 key v [] k t h = and_from _ _ (and_from _ _ k t) refl
put_utf8 key v (e ∷ es) k t h =
    let parts = and_parts (entry_utf8 e) (list_all entry_utf8 es) h in
    let own = and_parts (is_utf8 e.0) (texts_utf8 e.1) parts.0 in
    by (slice_cmp nat_cmp key e.0) own.0 parts (put_utf8 key v es k t parts.1)
  where
    by : (o : Ordering) → is_utf8 e.0 ≡ true → (entry_utf8 e ≡ true) × (list_all entry_utf8 es ≡ true) → list_all entry_utf8 (put key v es) ≡ true
        → list_all entry_utf8 (match_ordering o ((key, v) ∷ e ∷ es) ((e.0, v) ∷ es) (e ∷ put key v es)) ≡ true
    by Less own parts more = and_from _ _ (and_from _ _ k t) (and_from _ _ parts.0 parts.1)
    by Equal own parts more = and_from _ _ (and_from _ _ own t) parts.1
    by Greater own parts more = and_from _ _ parts.0 more

mutual
  tree_fine : (j : json.Json) (v : Jv) → tree_of j ≡ Some v → Fine (depth j) v
  tree_fine json.null v h =
      let is : roll-Jv jv.Null ≡ v = cc in
      subst (Fine 0) is (fold-roll-Jv Bool (List ℕ × Bool) rising_step rising_member jv.Null, fold-roll-Jv Bool Bool small_step small_member jv.Null, omega (arith, fold-roll-Jv ℕ ℕ levels_step levels_member jv.Null))
  tree_fine (json.boolean b) v h =
      let is : roll-Jv (jv.Flag b) ≡ v = cc in
      subst (Fine 0) is (fold-roll-Jv Bool (List ℕ × Bool) rising_step rising_member (jv.Flag b), fold-roll-Jv Bool Bool small_step small_member (jv.Flag b), omega (arith, fold-roll-Jv ℕ ℕ levels_step levels_member (jv.Flag b)))
  tree_fine (json.number s) v h =
      let found = map_some (λ n. roll-Jv (jv.Num n)) (whole_of s) v h in
      let n = found.0 in
      subst (Fine 0) found.2 (fold-roll-Jv Bool (List ℕ × Bool) rising_step rising_member (jv.Num n), fold-roll-Jv Bool Bool small_step small_member (jv.Num n) ∙ small_whole s n found.1, omega (arith, fold-roll-Jv ℕ ℕ levels_step levels_member (jv.Num n)))
  tree_fine (json.string s) v h =
      let is : roll-Jv (jv.Text s) ≡ v = cc in
      subst (Fine 0) is (fold-roll-Jv Bool (List ℕ × Bool) rising_step rising_member (jv.Text s), fold-roll-Jv Bool Bool small_step small_member (jv.Text s), omega (arith, fold-roll-Jv ℕ ℕ levels_step levels_member (jv.Text s)))
  tree_fine (json.array js) v h =
      let found = map_some (λ vs. roll-Jv (jv.List vs)) (trees_of js) v h in
      subst (Fine (suc (items_depth js))) found.2 (fine_list (items_depth js) found.0 (trees_fine js found.0 found.1))
  tree_fine (json.object ms) v h =
      let found = map_some map_jv (entries_of ms []) v h in
      let all = members_fine ms [] found.0 (members_depth ms) (omega arith) tt refl found.1 in
      subst (Fine (suc (members_depth ms))) found.2 (fine_map (members_depth ms) found.0 all.0 all.1)

  trees_fine : (js : json.Items) (vs : List Jv) → trees_of js ≡ Some vs → AllFine (items_depth js) vs
  trees_fine json.no_items vs h = let is : [] ≡ vs = cc in subst (AllFine 0) is tt
  trees_fine (json.item j js) vs h =
      let first = and_then_some (λ tree. option_map (λ trees. tree ∷ trees) (trees_of js)) (tree_of j) vs h in
      let rest = map_some (λ trees. first.0 ∷ trees) (trees_of js) vs first.2 in
      let d = max (depth j) (items_depth js) in
      subst (AllFine d) rest.2
      (fine_more (depth j) d first.0 (omega arith) (tree_fine j first.0 first.1), all_more (items_depth js) d rest.0 (omega arith) (trees_fine js rest.0 rest.1))

  members_fine : (ms : json.Members) (found es : Entries) (d : ℕ) → members_depth ms ≤ d → EntriesFine d found → rise (keys found) ≡ true → entries_of ms found ≡ Some es
      → EntriesFine d es × (rise (keys es) ≡ true)
  members_fine json.no_members found es d deep f r h = let is : found ≡ es = cc in subst (λ es. EntriesFine d es × (rise (keys es) ≡ true)) is (f, r)
  members_fine (json.member key j ms) found es d deep f r h =
      let first = and_then_some (λ tree. entries_of ms (put key tree found)) (tree_of j) es h in
      let v = first.0 in
      members_fine ms (put key v found) es d (omega arith)
      (put_fine d key v found (fine_more (depth j) d v (omega arith) (tree_fine j v first.1)) f) (rise_put found key v r) first.2

-- ---- whole texts

last_is : (j k : json.Json) (ts : List Token) → json.if_last j ts ≡ Some k → j ≡ k
last_is j k [] h = cc
last_is j k (t ∷ ts) h = cc

pub document_depth : (text : List ℕ) (j : json.Json) → document text ≡ Some j → depth j ≤ 32
document_depth text j h =
    let found = and_then_some (λ p. json.if_last p.0 p.1) (json.value 32 (tokens text)) j h in
    subst (λ k. depth k ≤ 32) (last_is found.0.0 j found.0.1 found.2) (value-depth 32 (tokens text) found.0.1 found.0.0 found.1)

pub is_profiled : (text : List ℕ) (tree : Jv) → read text ≡ Some tree → IsTrue (texts_utf8 tree) → IsProfiled tree
is_profiled text tree h texts =
    let found = and_then_some tree_of (document text) tree h in
    let fine = tree_fine found.0 tree found.2 in
    record { keys = fine.0; numbers = fine.1; texts = texts; depth = omega (arith, fine.2, document_depth text found.0 found.1) }
