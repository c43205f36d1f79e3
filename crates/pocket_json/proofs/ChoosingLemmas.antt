-- Trees are cut level by level.
use Rattle.std.proofs.Common.{◌≡◌, ◌||◌, ◌+◌, ◌<◌, ℕ, Bool, true, false, Bor, List, [], ◌∷◌, ◌++◌, length, get_or, take, map, codes, Option, Some, None, option_map, if◌then◌else◌, refl, sym, ap, subst, rules, append-nil, ◌∙◌}
use Rattle.std.specs.List.{cons_option, list_any}
use Rattle.std.specs.Prelude.{bytes_eq, filter_map}
use Rattle.std.proofs.lemmas.List.{map-append, map_more}
use Rattle.std.proofs.lemmas.List.Elements.{filter_map-append}
use Rattle.std.proofs.lemmas.Slice.Eq.{bytes_eq-Decides}
use Rattle.pocket_types.specs.Maps.{map_jv, member_of}
use Rattle.pocket_types.specs.declared.json.Jv.{Jv, map-Jv, the_lemmas}
use Rattle.pocket_types.specs.declared.json.Jv.TheFolds.{ind-Jv, fold-roll-Jv, fold-roll-Member}
use Rattle.pocket_types.specs.declared.json.Jv.TheOpen as jv
use Rattle.pocket_types.specs.declared.json.Jv.TheOpen.{Jv-F, Member-F}
use Rattle.pocket_types.specs.declared.json.Jv.TheViews.{roll-Jv, roll-Member}
use Rattle.pocket_types.specs.declared.json.Member.{Member}
use Rattle.pocket_json.specs.Choosing.{Cuts, CutsByLevel, KeyPath, behind_key, choose_paths, cuts, cuts_member, cuts_of_member, cuts_step, entry_cuts, has_ended, kept_member, kept_value, names_last, rests_behind}

abbrev level : (x : Jv-F Jv Member) → cuts (roll-Jv x) ≡ cuts_step (map-Jv Jv Member Cuts (List ℕ × Cuts) cuts cuts_of_member x)
level x = fold-roll-Jv Cuts (List ℕ × Cuts) cuts_step cuts_member x

member_cuts : (e : List ℕ × Jv) → cuts_of_member (member_of e) ≡ (e.0, cuts e.1)
member_cuts e = fold-roll-Member Cuts (List ℕ × Cuts) cuts_step cuts_member (record { key = e.0; value = e.1 })

-- ---- the whole of a tree is the tree

abbrev IsWhole : Jv → Type 0
IsWhole v = (cuts v).whole ≡ v

abbrev IsWholeMember : Member → Type 0
IsWholeMember m = (e : List ℕ × Jv) × (m ≡ member_of e) × IsWhole e.1

abbrev whole_of_member : List ℕ × Cuts → Member
whole_of_member m = member_of (m.0, m.1.whole)

whole_member : (m : Member) → IsWholeMember m → whole_of_member (cuts_of_member m) ≡ m
whole_member m h = ap (λ n. whole_of_member (cuts_of_member n)) h.1 ∙ ap whole_of_member (member_cuts h.0) ∙ ap (λ v. member_of (h.0.0, v)) h.2 ∙ sym h.1

whole_items : (vs : List ((v : Jv) × IsWhole v)) → map (λ (x : Cuts). x.whole) (map cuts (map (λ v. v.0) vs)) ≡ map (λ v. v.0) vs
whole_items [] = refl
whole_items (v ∷ vs) = λ i. v.1 i ∷ whole_items vs i

whole_members : (ms : List ((m : Member) × IsWholeMember m)) → map member_of (map (λ (m : List ℕ × Cuts). (m.0, m.1.whole)) (map cuts_of_member (map (λ m. m.0) ms))) ≡ map (λ m. m.0) ms
whole_members [] = refl
whole_members (m ∷ ms) = λ i. whole_member m.0 m.1 i ∷ whole_members ms i

layer_whole : (y : Jv-F ((v : Jv) × IsWhole v) ((m : Member) × IsWholeMember m))
    → IsWhole (roll-Jv (map-Jv ((v : Jv) × IsWhole v) ((m : Member) × IsWholeMember m) Jv Member (λ e. e.0) (λ e. e.0) y))
layer_whole jv.Null = ap (λ (c : Cuts). c.whole) (level jv.Null)
layer_whole (jv.Flag b) = ap (λ (c : Cuts). c.whole) (level (jv.Flag b))
layer_whole (jv.Num n) = ap (λ (c : Cuts). c.whole) (level (jv.Num n))
layer_whole (jv.Text t) = ap (λ (c : Cuts). c.whole) (level (jv.Text t))
layer_whole (jv.List items) = ap (λ (c : Cuts). c.whole) (level (jv.List (map (λ v. v.0) items))) ∙ ap (λ vs. roll-Jv (jv.List vs)) (whole_items items)
layer_whole (jv.Map members) = ap (λ (c : Cuts). c.whole) (level (jv.Map (map (λ m. m.0) members))) ∙ ap (λ ms. roll-Jv (jv.Map ms)) (whole_members members)

pub is_whole : (v : Jv) → (cuts v).whole ≡ v
is_whole =
    ind-Jv IsWhole IsWholeMember
    (λ x y is. subst (λ z. IsWhole (roll-Jv z)) is (layer_whole y))
    (λ x y is. subst (λ z. IsWholeMember (roll-Member z)) is ((y.key, y.value.0), refl, y.value.1))

-- a tree with its cuts is the tree and the choices in it
pub cuts_are : (v : Jv) → cuts v ≡ record { whole = v; cut = choose_paths v }
cuts_are v = ap (λ w. (let c : Cuts = record { whole = w; cut = choose_paths v } in c)) (is_whole v)

-- ---- levels

items_cut : (items : List Jv) (paths : List KeyPath) → map (λ (x : Cuts). x.cut paths) (map cuts items) ≡ map (λ x. choose_paths x paths) items
items_cut [] paths = refl
items_cut (x ∷ xs) paths = ap (λ rest. choose_paths x paths ∷ rest) (items_cut xs paths)

entries_cut : (es : List (List ℕ × Jv)) → map cuts_of_member (map member_of es) ≡ map entry_cuts es
entries_cut [] = refl
entries_cut (e ∷ es) = λ i. (member_cuts e ∙ ap (λ c. (e.0, c)) (cuts_are e.1)) i ∷ entries_cut es i

of_leaf : (x : Jv-F Jv Member) (paths : List KeyPath) → choose_paths (roll-Jv x) paths ≡ (cuts_step (map-Jv Jv Member Cuts (List ℕ × Cuts) cuts cuts_of_member x)).cut paths
of_leaf x paths = ap (λ (c : Cuts). c.cut paths) (level x)

pub of_list : (items : List Jv) (paths : List KeyPath) → choose_paths (roll-Jv (jv.List items)) paths ≡ roll-Jv (jv.List (map (λ x. choose_paths x paths) items))
of_list items paths = of_leaf (jv.List items) paths ∙ ap (λ xs. roll-Jv (jv.List xs)) (items_cut items paths)

of_map : (es : List (List ℕ × Jv)) (paths : List KeyPath) → choose_paths (map_jv es) paths ≡ map_jv (filter_map (kept_member paths) (map entry_cuts es))
of_map es paths = of_leaf (jv.Map (map member_of es)) paths ∙ ap (λ ms. map_jv (filter_map (kept_member paths) ms)) (entries_cut es)

pub by_level : CutsByLevel
by_level = record {
  null = λ paths. of_leaf jv.Null paths;
  flag = λ b paths. of_leaf (jv.Flag b) paths;
  number = λ n paths. of_leaf (jv.Num n) paths;
  text = λ t paths. of_leaf (jv.Text t) paths;
  list = of_list;
  members = of_map;
}

-- ---- a key named last

some_ended : (before after : List KeyPath) → list_any has_ended (before ++ [] ∷ after) ≡ true
some_ended [] after = refl
some_ended ([] ∷ before) after = refl
some_ended ((key ∷ rest) ∷ before) after = some_ended before after

kept_where_ended : (star : Bool) (before after : List KeyPath) (value : Cuts) → kept_value star (before ++ [] ∷ after) value ≡ Some value.whole
kept_where_ended star [] after value = refl
kept_where_ended star (rest ∷ rests) after value = rw (some_ended (rest ∷ rests) after) refl

behind_last : (key : List ℕ) (before after : List KeyPath)
    → rests_behind key (before ++ (key ∷ []) ∷ after) ≡ rests_behind key before ++ [] ∷ rests_behind key after
behind_last key before after =
    filter_map-append (behind_key key) before ((key ∷ []) ∷ after)
    ∙ ap (λ same. rests_behind key before ++ cons_option (if same then Some [] else None) (rests_behind key after)) ((bytes_eq-Decides key key).1 refl)

pub named_last : (key : List ℕ) (value : Cuts) (before after : List KeyPath) → kept_member (before ++ (key ∷ []) ∷ after) (key, value) ≡ Some (key, value.whole)
named_last key value before after =
    let star = names_last (codes "*") (before ++ (key ∷ []) ∷ after) in
    let behind = rests_behind key in
    ap (λ rests. option_map (λ v. (key, v)) (kept_value star rests value)) (behind_last key before after)
    ∙ ap (option_map (λ v. (key, v))) (kept_where_ended star (behind before) (behind after) value)

-- ---- a key that only `*` keeps

-- where `*` stands last, a key that no other path leads through is kept whole
pub star_keeps : (key : List ℕ) (value : Cuts) (before after : List KeyPath) → rests_behind key (before ++ after) ≡ []
    → kept_member (before ++ (codes "*" ∷ []) ∷ after) (key, value) ≡ Some (key, value.whole)
star_keeps key value before after none =
    let paths = before ++ (codes "*" ∷ []) ∷ after in
    let star : names_last (codes "*") paths ≡ true = ap (list_any has_ended) (behind_last (codes "*") before after) ∙ some_ended (rests_behind (codes "*") before) (rests_behind (codes "*") after) in
    ap (λ b. option_map (λ v. (key, v)) (kept_value b (rests_behind key paths) value)) star
    ∙ ap (λ rests. option_map (λ v. (key, v)) (kept_value true rests value)) (filter_map-append (behind_key key) before ((codes "*" ∷ []) ∷ after))
    ∙ ap (option_map (λ v. (key, v))) (by (bytes_eq (codes "*") key))
  where
    by : (same : Bool) → kept_value true (rests_behind key before ++ cons_option (if same then Some [] else None) (rests_behind key after)) value ≡ Some value.whole
    by true = kept_where_ended true (rests_behind key before) (rests_behind key after) value
    by false = ap (λ rests. kept_value true rests value) (sym (filter_map-append (behind_key key) before after) ∙ none)

-- ---- what is borrowed

pub now_mapped : {X Y : Type 0} (f : X → Y) (xs : List (Bor X)) → map (λ x. f x.now) xs ≡ map f (map (λ x. x.now) xs)
now_mapped f [] = refl
now_mapped f (x ∷ xs) = ap (λ ys. f x.now ∷ ys) (now_mapped f xs)

pub any_now : {X : Type 0} (test : X → Bool) (xs : List (Bor X)) → list_any (λ x. test x.now) xs ≡ list_any test (map (λ x. x.now) xs)
any_now test [] = refl
any_now test (x ∷ xs) = ap (λ some. test x.now || some) (any_now test xs)

-- ---- loops

-- one more element
pub one_more : {X Y Z : Type 0} (f : Y → Option Z) (g : X → Y) (xs : List X) (k : ℕ) (x : X) → k < length xs → x ≡ get_or xs k x
    → filter_map f (map g (take (k + 1) xs)) ≡ filter_map f (map g (take k xs)) ++ cons_option (f (g x)) []
one_more f g xs k x h at =
    ap (filter_map f) (map_more g xs k x h ∙ ap (λ y. map g (take k xs) ++ g y ∷ []) (sym at)) ∙ filter_map-append f (map g (take k xs)) (g x ∷ [])

-- one more path, with what stands behind its key
pub some_more : {X : Type 0} (f : X → Option X) (paths : List (Bor X)) (k : ℕ) (path rest : Bor X) (old new : List (Bor X))
    → k < length paths → path ≡ get_or paths k path → f path.now ≡ Some rest.now → map (λ x. x.now) old ≡ filter_map f (map (λ x. x.now) (take k paths))
    → new ≡ old ++ rest ∷ [] → map (λ x. x.now) new ≡ filter_map f (map (λ x. x.now) (take (k + 1) paths))
some_more f paths k path rest old new h at found old_is new_is =
    ap (map (λ x. x.now)) new_is ∙ map-append (λ x. x.now) old (rest ∷ []) ∙ ap (λ xs. xs ++ rest.now ∷ []) old_is
    ∙ ap (λ o. filter_map f (map (λ (x : Bor _). x.now) (take k paths)) ++ cons_option o []) (sym found) ∙ sym (one_more f (λ x. x.now) paths k path h at)

-- one more path that doesn't begin with the key
pub none_more : {X : Type 0} (f : X → Option X) (paths : List (Bor X)) (k : ℕ) (path : Bor X) (old new : List (Bor X))
    → k < length paths → path ≡ get_or paths k path → f path.now ≡ None → map (λ x. x.now) old ≡ filter_map f (map (λ x. x.now) (take k paths))
    → new ≡ old → map (λ x. x.now) new ≡ filter_map f (map (λ x. x.now) (take (k + 1) paths))
none_more f paths k path old new h at none old_is new_is =
    let so_far = filter_map f (map (λ (x : Bor _). x.now) (take k paths)) in
    ap (map (λ x. x.now)) new_is ∙ old_is ∙ sym (append-nil so_far) ∙ ap (λ o. so_far ++ cons_option o []) (sym none) ∙ sym (one_more f (λ x. x.now) paths k path h at)

member_is : (m : Member) → cuts_of_member m ≡ (m.key, cuts m.value)
member_is m = search (rules, the_lemmas)

-- one more member, with what is kept of its value
pub member_more : (paths : List KeyPath) (ms : List Member) (k : ℕ) (m : Member) (star : Bool) (value : Option Jv) (old new : List Member)
    → k < length ms → m ≡ get_or ms k m → star ≡ names_last (codes "*") paths → value ≡ kept_value star (rests_behind m.key paths) (cuts m.value)
    → old ≡ map member_of (filter_map (kept_member paths) (map cuts_of_member (take k ms)))
    → new ≡ old ++ map member_of (cons_option (option_map (λ v. (m.key, v)) value) [])
    → new ≡ map member_of (filter_map (kept_member paths) (map cuts_of_member (take (k + 1) ms)))
member_more paths ms k m star value old new h at star_is value_is old_is new_is =
    let so_far = filter_map (kept_member paths) (map cuts_of_member (take k ms)) in
    let kept : option_map (λ v. (m.key, v)) value ≡ kept_member paths (cuts_of_member m) =
    ap (option_map (λ v. (m.key, v))) (value_is ∙ ap (λ s. kept_value s (rests_behind m.key paths) (cuts m.value)) star_is) ∙ ap (kept_member paths) (sym (member_is m)) in
    new_is ∙ ap (λ ns. ns ++ map member_of (cons_option (option_map (λ v. (m.key, v)) value) [])) old_is
    ∙ ap (λ v. map member_of so_far ++ map member_of (cons_option v [])) kept
    ∙ sym (map-append member_of so_far (cons_option (kept_member paths (cuts_of_member m)) []))
    ∙ ap (map member_of) (sym (one_more (kept_member paths) cuts_of_member ms k m h at))

-- ---- what is kept of a value

pub none_behind : (star : Bool) (rests : List KeyPath) (v : Jv) → rests ≡ [] → (if star then Some v else None) ≡ kept_value star rests (cuts v)
none_behind star rests v none = sym (ap (λ rs. kept_value star rs (cuts v)) none ∙ ap (λ w. if star then Some w else None) (is_whole v))

pub one_ended : (star : Bool) (rests : List KeyPath) (v : Jv) → list_any has_ended rests ≡ true → Some v ≡ kept_value star rests (cuts v)
one_ended star [] v h = cc
one_ended star (rest ∷ rests) v h = sym (rw h (ap Some (is_whole v)))
