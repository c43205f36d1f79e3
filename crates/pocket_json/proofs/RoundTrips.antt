-- A tree that is printed and read is itself.
use Rattle.std.proofs.Common.{◌≡◌, ◌≤◌, ◌^◌, ℕ, suc, ℤ, List, [], ◌∷◌, ◌++◌, Bool, true, false, map, nat_lt, Some, option_map, option_and_then, refl, sym, ap, ◌∙◌, subst, append_assoc, append-nil, arith}
use Rattle.std.specs.Bool.{⊤}
use Rattle.std.specs.Fmt.{signed_decimal}
use Rattle.std.specs.List.{join_with_byte, list_all}
use Rattle.std.specs.Cmp.Lexicographic.{slice_cmp}
use Rattle.std.specs.Ordering.{nat_cmp}
use Rattle.json.specs.Json as json
use Rattle.json.specs.Print.{print}
use Rattle.json.specs.Tree.{json_tokens, depth, items_depth, members_depth, HasNumbers, ItemsHaveNumbers, MembersHaveNumbers}
use Rattle.json.specs.Value.{items_of}
use Rattle.json.proofs.Printed.Tokens.{tokens-print}
use Rattle.json.proofs.Printed.Trees.{value-json_tokens, ArePrintable-json_tokens}
use Rattle.pocket_types.specs.Json.{printed, printed_member, quoted, value_text, member_text}
use Rattle.pocket_types.specs.Order.{IsBefore}
use Rattle.pocket_types.specs.declared.json.Jv.{Jv, fold-Jv, map-Jv}
use Rattle.pocket_types.specs.declared.json.Jv.TheFolds.{ind-Jv, fold-roll-Jv, fold-roll-Member}
use Rattle.pocket_types.specs.declared.json.Jv.TheOpen as jv
use Rattle.pocket_types.specs.declared.json.Jv.TheOpen.{Jv-F, Member-F}
use Rattle.pocket_types.specs.declared.json.Jv.TheViews.{roll-Jv, roll-Member}
use Rattle.pocket_types.specs.declared.json.Member.{Member, fold-Member}
use Rattle.pocket_types.proofs.OrderLemmas.{before_from, before_trans, after_from_before}
use Rattle.pocket_types.specs.Profile.{rise, rise_from, keys_rise, numbers_small, greatest, levels, small_step, small_member, levels_step, levels_member, size_of, IsProfiled}
use Rattle.pocket_types.specs.Maps.{member_of, map_jv, put}
use Rattle.pocket_json.specs.Reading.{tree_of, trees_of, entries_of, document, read}
use Rattle.pocket_json.proofs.Layers.{Entries, keys, rising_list, small_list, levels_list, rising_map, small_map, levels_map}
use Rattle.pocket_json.proofs.Numerals.{whole_printed, number_printed}
use Rattle.pocket_json.proofs.Outlines.{text_of, items_text, members_text, same_quoted, print_is}
use Rattle.pocket_json.proofs.Profiles.{and_parts}

-- ---- the value of the grammar that a tree is printed as

abbrev pairs_of : List (List ℕ × json.Json) → json.Members
pairs_of [] = json.no_members
pairs_of (p ∷ ps) = json.member p.0 p.1 (pairs_of ps)

abbrev json_step : Jv-F json.Json (List ℕ × json.Json) → json.Json
json_step jv.Null = json.null
json_step (jv.Flag b) = json.boolean b
json_step (jv.Num n) = json.number (signed_decimal n)
json_step (jv.Text t) = json.string t
json_step (jv.List items) = json.array (items_of items)
json_step (jv.Map members) = json.object (pairs_of members)

abbrev json_member : Member-F json.Json (List ℕ × json.Json) → List ℕ × json.Json
json_member m = (m.key, m.value)

abbrev json_of : Jv → json.Json
json_of = fold-Jv json.Json (List ℕ × json.Json) json_step json_member

abbrev pairs_json : Entries → json.Members
pairs_json [] = json.no_members
pairs_json (e ∷ es) = json.member e.0 (json_of e.1) (pairs_json es)

json_pairs : (es : Entries) → pairs_of (map (fold-Member json.Json (List ℕ × json.Json) json_step json_member) (map member_of es)) ≡ pairs_json es
json_pairs [] = refl
json_pairs (e ∷ es) = rw (fold-roll-Member json.Json (List ℕ × json.Json) json_step json_member (record { key = e.0; value = e.1 }), json_pairs es) refl

json_list : (vs : List Jv) → json_of (roll-Jv (jv.List vs)) ≡ json.array (items_of (map json_of vs))
json_list vs = fold-roll-Jv json.Json (List ℕ × json.Json) json_step json_member (jv.List vs)

json_map : (es : Entries) → json_of (map_jv es) ≡ json.object (pairs_json es)
json_map es = fold-roll-Jv json.Json (List ℕ × json.Json) json_step json_member (jv.Map (map member_of es)) ∙ ap json.object (json_pairs es)

-- ---- what is shown of each tree

abbrev Reads : Jv → Type 0
Reads v = HasNumbers (json_of v) × (tree_of (json_of v) ≡ Some v)

record Round (v : Jv) : Type 0 where
  text : printed v ≡ text_of (json_of v)
  deep : depth (json_of v) ≡ levels v
  reads : keys_rise v ≡ true → numbers_small v ≡ true → Reads v

abbrev AllRound : List Jv → Type 0
AllRound [] = ⊤
AllRound (v ∷ vs) = Round v × AllRound vs

abbrev EntriesRound : Entries → Type 0
EntriesRound [] = ⊤
EntriesRound (e ∷ es) = Round e.1 × EntriesRound es

-- ---- leaves

round_leaf : (v : Jv) (j : json.Json) → json_of v ≡ j → printed v ≡ text_of j → depth j ≡ 0 → levels v ≡ 0 → (numbers_small v ≡ true → HasNumbers j × (tree_of j ≡ Some v)) → Round v
round_leaf v j is text flat level reads = record {
  text = text ∙ ap text_of (sym is);
  deep = ap depth is ∙ flat ∙ sym level;
  reads = λ r s. subst (λ k. HasNumbers k × (tree_of k ≡ Some v)) (sym is) (reads s);
}

level_leaf : (x : Jv-F Jv Member) → levels (roll-Jv x) ≡ levels_step (map-Jv Jv Member ℕ ℕ levels (fold-Member ℕ ℕ levels_step levels_member) x)
level_leaf x = fold-roll-Jv ℕ ℕ levels_step levels_member x

round_null : Round (roll-Jv jv.Null)
round_null =
    round_leaf (roll-Jv jv.Null) json.null (fold-roll-Jv json.Json (List ℕ × json.Json) json_step json_member jv.Null)
    (fold-roll-Jv (List ℕ) (List ℕ) value_text member_text jv.Null) refl (level_leaf jv.Null) (λ s. (tt, refl))

round_flag : (b : Bool) → Round (roll-Jv (jv.Flag b))
round_flag true =
    round_leaf (roll-Jv (jv.Flag true)) (json.boolean true) (fold-roll-Jv json.Json (List ℕ × json.Json) json_step json_member (jv.Flag true))
    (fold-roll-Jv (List ℕ) (List ℕ) value_text member_text (jv.Flag true)) refl (level_leaf (jv.Flag true)) (λ s. (tt, refl))
round_flag false =
    round_leaf (roll-Jv (jv.Flag false)) (json.boolean false) (fold-roll-Jv json.Json (List ℕ × json.Json) json_step json_member (jv.Flag false))
    (fold-roll-Jv (List ℕ) (List ℕ) value_text member_text (jv.Flag false)) refl (level_leaf (jv.Flag false)) (λ s. (tt, refl))

round_num : (n : ℤ) → Round (roll-Jv (jv.Num n))
round_num n =
    round_leaf (roll-Jv (jv.Num n)) (json.number (signed_decimal n)) (fold-roll-Jv json.Json (List ℕ × json.Json) json_step json_member (jv.Num n))
    (fold-roll-Jv (List ℕ) (List ℕ) value_text member_text (jv.Num n)) refl (level_leaf (jv.Num n))
    (λ s. let small : nat_lt (size_of n) (2 ^ 53) ≡ true = sym (fold-roll-Jv Bool Bool small_step small_member (jv.Num n)) ∙ s in
    (number_printed n small, ap (option_map (λ n. roll-Jv (jv.Num n))) (whole_printed n small)))

round_text : (t : List ℕ) → Round (roll-Jv (jv.Text t))
round_text t =
    round_leaf (roll-Jv (jv.Text t)) (json.string t) (fold-roll-Jv json.Json (List ℕ × json.Json) json_step json_member (jv.Text t))
    (fold-roll-Jv (List ℕ) (List ℕ) value_text member_text (jv.Text t) ∙ sym (same_quoted t)) refl (level_leaf (jv.Text t)) (λ s. (tt, refl))

-- ---- lists

list_text : (vs : List Jv) → AllRound vs → join_with_byte 44 (map printed vs) ++ 93 ∷ [] ≡ items_text false (items_of (map json_of vs))
list_text [] r = refl
list_text (v ∷ []) r = ap (λ s. s ++ 93 ∷ []) r.0.text
list_text (v ∷ w ∷ vs) r =
    let rest = join_with_byte 44 (map printed (w ∷ vs)) in
    append_assoc (printed v) (44 ∷ rest) (93 ∷ []) ∙ ap (λ s. s ++ 44 ∷ (rest ++ 93 ∷ [])) r.0.text
    ∙ ap (λ s. text_of (json_of v) ++ 44 ∷ s) (list_text (w ∷ vs) r.1)

list_deep : (vs : List Jv) → AllRound vs → items_depth (items_of (map json_of vs)) ≡ greatest (map levels vs)
list_deep [] r = refl
list_deep (v ∷ vs) r = rw (r.0.deep, list_deep vs r.1) refl

list_reads : (vs : List Jv) → AllRound vs → list_all keys_rise vs ≡ true → list_all numbers_small vs ≡ true
    → ItemsHaveNumbers (items_of (map json_of vs)) × (trees_of (items_of (map json_of vs)) ≡ Some vs)
list_reads [] r k s = (tt, refl)
list_reads (v ∷ vs) r k s =
    let ks = and_parts (keys_rise v) (list_all keys_rise vs) k in
    let ss = and_parts (numbers_small v) (list_all numbers_small vs) s in
    let first = r.0.reads ks.0 ss.0 in
    let more = list_reads vs r.1 ks.1 ss.1 in
    ((first.0, more.0), rw (first.1, more.1) refl)

round_list : (vs : List Jv) → AllRound vs → Round (roll-Jv (jv.List vs))
round_list vs r = record {
  text = fold-roll-Jv (List ℕ) (List ℕ) value_text member_text (jv.List vs) ∙ ap (λ s. 91 ∷ s) (list_text vs r) ∙ ap text_of (sym (json_list vs));
  deep = ap depth (json_list vs) ∙ ap suc (list_deep vs r) ∙ sym (levels_list vs);
  reads = λ k s.
      let all = list_reads vs r (sym (rising_list vs) ∙ k) (sym (small_list vs) ∙ s) in
      subst (λ j. HasNumbers j × (tree_of j ≡ Some (roll-Jv (jv.List vs)))) (sym (json_list vs)) (all.0, ap (option_map (λ trees. roll-Jv (jv.List trees))) all.1);
}

-- ---- maps

abbrev pair_text : List ℕ × Jv → List ℕ
pair_text e = quoted e.0 ++ 58 ∷ printed e.1

pair_texts : (es : Entries) → map printed_member (map member_of es) ≡ map pair_text es
pair_texts [] = refl
pair_texts (e ∷ es) = rw (fold-roll-Member (List ℕ) (List ℕ) value_text member_text (record { key = e.0; value = e.1 }), pair_texts es) refl

regroup : (q a b c : List ℕ) → ((q ++ 58 ∷ a) ++ b) ++ c ≡ q ++ 58 ∷ (a ++ (b ++ c))
regroup q a b c = append_assoc (q ++ 58 ∷ a) b c ∙ append_assoc q (58 ∷ a) (b ++ c)

map_text : (es : Entries) → EntriesRound es → join_with_byte 44 (map pair_text es) ++ 125 ∷ [] ≡ members_text false (pairs_json es)
map_text [] r = refl
map_text (e ∷ []) r =
    append_assoc (quoted e.0) (58 ∷ printed e.1) (125 ∷ []) ∙ ap (λ s. quoted e.0 ++ 58 ∷ (s ++ 125 ∷ [])) r.0.text
    ∙ ap (λ q. q ++ 58 ∷ (text_of (json_of e.1) ++ 125 ∷ [])) (sym (same_quoted e.0))
map_text (e ∷ f ∷ es) r =
    let rest = join_with_byte 44 (map pair_text (f ∷ es)) in
    regroup (quoted e.0) (printed e.1) (44 ∷ rest) (125 ∷ []) ∙ ap (λ s. quoted e.0 ++ 58 ∷ (s ++ 44 ∷ (rest ++ 125 ∷ []))) r.0.text
    ∙ ap (λ s. quoted e.0 ++ 58 ∷ (text_of (json_of e.1) ++ 44 ∷ s)) (map_text (f ∷ es) r.1)
    ∙ ap (λ q. q ++ 58 ∷ (text_of (json_of e.1) ++ 44 ∷ members_text false (pairs_json (f ∷ es)))) (sym (same_quoted e.0))

map_deep : (es : Entries) → EntriesRound es → members_depth (pairs_json es) ≡ greatest (map (λ e. levels e.1) es)
map_deep [] r = refl
map_deep (e ∷ es) r = rw (r.0.deep, map_deep es r.1) refl

-- keys that rise, from a later one on
rise_later : (low : List ℕ) (ks : List (List ℕ)) → rise_from low ks ≡ true → rise ks ≡ true
rise_later low [] h = refl
rise_later low (k ∷ ks) h = (and_parts _ (rise_from k ks) h).1

across : (low : List ℕ) (fs : Entries) (key : List ℕ) (v : Jv) (es : Entries) → rise_from low (keys (fs ++ (key, v) ∷ es)) ≡ true → IsBefore low key
across low [] key v es h = before_from low key (and_parts _ (rise_from key (keys es)) h).0
across low (f ∷ fs) key v es h =
    let parts = and_parts _ (rise_from f.0 (keys (fs ++ (key, v) ∷ es))) h in
    before_trans low f.0 key (before_from low f.0 parts.0) (across f.0 fs key v es parts.1)

-- an entry whose key stands behind all others goes to the end
last_put : (fs : Entries) (key : List ℕ) (v : Jv) (es : Entries) → rise (keys (fs ++ (key, v) ∷ es)) ≡ true → put key v fs ≡ fs ++ (key, v) ∷ []
unfolding put
last_put [] key v es h = refl
last_put (f ∷ fs) key v es h =
    let behind : slice_cmp nat_cmp key f.0 ≡ _ = after_from_before f.0 key (across f.0 fs key v es h) in
    rw behind (ap (λ gs. f ∷ gs) (last_put fs key v es (rise_later f.0 (keys (fs ++ (key, v) ∷ es)) h)))

map_reads : (es found : Entries) → EntriesRound es → rise (keys (found ++ es)) ≡ true → list_all (λ e. keys_rise e.1) es ≡ true → list_all (λ e. numbers_small e.1) es ≡ true
    → MembersHaveNumbers (pairs_json es) × (entries_of (pairs_json es) found ≡ Some (found ++ es))
map_reads [] found r h k s = (tt, ap Some (sym (append-nil found)))
map_reads (e ∷ es) found r h k s =
    let ks = and_parts (keys_rise e.1) (list_all (λ e. keys_rise e.1) es) k in
    let ss = and_parts (numbers_small e.1) (list_all (λ e. numbers_small e.1) es) s in
    let first = r.0.reads ks.0 ss.0 in
    let same : (found ++ e ∷ []) ++ es ≡ found ++ e ∷ es = append_assoc found (e ∷ []) es in
    let more = map_reads es (found ++ e ∷ []) r.1 (ap (λ all. rise (keys all)) same ∙ h) ks.1 ss.1 in
    let here : entries_of (pairs_json (e ∷ es)) found ≡ entries_of (pairs_json es) (put e.0 e.1 found) = rw (first.1) refl in
    ((first.0, more.0), here ∙ ap (entries_of (pairs_json es)) (last_put found e.0 e.1 es h) ∙ more.1 ∙ ap Some same)

round_map : (es : Entries) → EntriesRound es → Round (map_jv es)
round_map es r = record {
  text = fold-roll-Jv (List ℕ) (List ℕ) value_text member_text (jv.Map (map member_of es)) ∙ ap (λ ts. 123 ∷ join_with_byte 44 ts ++ 125 ∷ []) (pair_texts es)
      ∙ ap (λ s. 123 ∷ s) (map_text es r) ∙ ap text_of (sym (json_map es));
  deep = ap depth (json_map es) ∙ ap suc (map_deep es r) ∙ sym (levels_map es);
  reads = λ k s.
      let ks = and_parts (rise (keys es)) (list_all (λ e. keys_rise e.1) es) (sym (rising_map es) ∙ k) in
      let all = map_reads es [] r ks.0 ks.1 (sym (small_map es) ∙ s) in
      subst (λ j. HasNumbers j × (tree_of j ≡ Some (map_jv es))) (sym (json_map es)) (all.0, ap (option_map map_jv) all.1);
}

-- ---- each tree

abbrev RoundMember : Member → Type 0
RoundMember m = (e : List ℕ × Jv) × (m ≡ member_of e) × Round e.1

list_round : (vs : List ((v : Jv) × Round v)) → AllRound (map (λ e. e.0) vs)
list_round [] = tt
list_round (v ∷ vs) = (v.1, list_round vs)

map_round : (ms : List ((m : Member) × RoundMember m)) → (es : Entries) × (map (λ m. m.0) ms ≡ map member_of es) × EntriesRound es
map_round [] = ([], refl, tt)
map_round (m ∷ ms) =
    let more = map_round ms in
    (m.1.0 ∷ more.0, rw (m.1.1, more.1) refl, (m.1.2, more.2))

layer_round : (y : Jv-F ((v : Jv) × Round v) ((m : Member) × RoundMember m))
    → Round (roll-Jv (map-Jv ((v : Jv) × Round v) ((m : Member) × RoundMember m) Jv Member (λ e. e.0) (λ e. e.0) y))
layer_round jv.Null = round_null
layer_round (jv.Flag b) = round_flag b
layer_round (jv.Num n) = round_num n
layer_round (jv.Text t) = round_text t
layer_round (jv.List items) = round_list (map (λ e. e.0) items) (list_round items)
layer_round (jv.Map members) =
    let all = map_round members in
    subst (λ ms. Round (roll-Jv (jv.Map ms))) (sym all.1) (round_map all.0 all.2)

round : (v : Jv) → Round v
round =
    ind-Jv Round RoundMember
    (λ x y is. subst (λ z. Round (roll-Jv z)) is (layer_round y))
    (λ x y is. subst (λ z. RoundMember (roll-Member z)) is ((y.key, y.value.0), refl, y.value.1))

-- ---- the law

document_printed : (j : json.Json) → HasNumbers j → depth j ≤ 32 → document (print (json_tokens j)) ≡ Some j
document_printed j numbers shallow =
    ap (option_and_then (λ p. json.if_last p.0 p.1))
    (ap (json.value 32) (tokens-print (json_tokens j) (ArePrintable-json_tokens j numbers) ∙ sym (append-nil (json_tokens j)))
    ∙ value-json_tokens j 32 [] shallow)

pub read_printed : (v : Jv) → IsProfiled v → read (printed v) ≡ Some v
read_printed v p =
    let r = round v in
    let j = json_of v in
    let found = r.reads p.keys p.numbers in
    let shallow : depth j ≤ 32 = omega (arith, r.deep, p.depth) in
    ap read (r.text ∙ sym (print_is j)) ∙ ap (option_and_then tree_of) (document_printed j found.0 shallow) ∙ found.1
