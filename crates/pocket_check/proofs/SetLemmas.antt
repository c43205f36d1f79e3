-- Sets of texts grow by one text, and so does a list without repeats.
use Rattle.std.proofs.Common.{◌≡◌, ◌<◌, ◌+◌, ℕ, Bool, true, false, not, cond, ◌||◌, List, [], ◌∷◌, ◌++◌, length, take, get_or, map, filter, Bor, if◌then◌else◌, refl, sym, ap, subst, ◌∙◌, arith}
use Rattle.std.specs.BTreeSet.{BTreeSet, contains, Updates}
use Rattle.std.specs.Ordering.{is_eq}
use Rattle.std.specs.List.{list_any}
use Rattle.std.specs.Str.{bytes_eq}
use Rattle.std.proofs.lemmas.Grind.{common_steps}
use Rattle.std.proofs.lemmas.List.{map-append}
use Rattle.std.proofs.lemmas.List.Elements.{filter-append}
use Rattle.std.proofs.lemmas.List.Folds.{list_any-append}
use Rattle.std.proofs.lemmas.Map.Text.{is_eq-slice_cmp}
use Rattle.pocket_types.specs.Lists.{once}
use Rattle.pocket_tables.proofs.KeyLemmas.{key_differs_back, key_same, key_true}
use Rattle.pocket_check.specs.Bodies.{items_without}
use Rattle.pocket_check.specs.TextSets.{IsSetOf, by_text}

-- ---- comparing texts

-- two texts are the same the other way round
pub same_back : (a b : List ℕ) → bytes_eq a b ≡ bytes_eq b a
same_back a b = by (bytes_eq a b) refl
  where
    by : (r : Bool) → bytes_eq a b ≡ r → bytes_eq a b ≡ bytes_eq b a
    by true is = is ∙ sym (key_true b a (sym (key_same a b is)))
    by false is = is ∙ sym (key_differs_back a b is)

-- ---- sets

pub set_none : (s : BTreeSet (Bor (List ℕ))) → s.keys ≡ [] → IsSetOf s []
set_none s e text = ap (list_any (λ k. is_eq (by_text text k))) e

either : (here there : Bool) → cond here true there ≡ (there || (here || false))
either true true = refl
either true false = refl
either false true = refl
either false false = refl

-- a text more stands in the set, and in the list
pub set_more : (s n : BTreeSet (Bor (List ℕ))) (texts : List (List ℕ)) (k : Bor (List ℕ)) → IsSetOf s texts → Updates by_text s n k true → IsSetOf n (texts ++ k.now ∷ [])
set_more s n texts k h u text =
    u.0 text
    ∙ ap (λ b. cond b true (contains by_text s text)) (is_eq-slice_cmp k.now text.now ∙ same_back k.now text.now)
    ∙ ap (cond (bytes_eq text.now k.now) true) (h text)
    ∙ either (bytes_eq text.now k.now) (list_any (bytes_eq text.now) texts)
    ∙ sym (list_any-append (bytes_eq text.now) texts (k.now ∷ []))

-- ---- lists without repeats

-- a text, where it is new
abbrev pub where_new : Bool → List ℕ → List (List ℕ)
where_new old x = if old then [] else x ∷ []

new_among : (y x : List ℕ) (old : Bool) → filter (λ z. not (bytes_eq y z)) (where_new old x) ≡ where_new (bytes_eq x y || old) x
new_among y x true = by (bytes_eq x y)
  where
    by : (b : Bool) → [] ≡ where_new (b || true) x
    by true = refl
    by false = refl
new_among y x false = by (bytes_eq y x) ∙ ap (λ b. where_new (b || false) x) (same_back y x)
  where
    by : (b : Bool) → (if not b then x ∷ [] else []) ≡ where_new (b || false) x
    by true = refl
    by false = refl

-- a text behind a list stays where it is new
pub once_more : (xs : List (List ℕ)) (x : List ℕ) → once (xs ++ x ∷ []) ≡ once xs ++ where_new (list_any (bytes_eq x) xs) x
once_more [] x = refl
once_more (y ∷ ys) x =
    let differs = λ (z : List ℕ). not (bytes_eq y z) in
    let tail = where_new (list_any (bytes_eq x) ys) x in
    ap (λ zs. y ∷ filter differs zs) (once_more ys x)
    ∙ ap (λ zs. y ∷ zs) (filter-append differs (once ys) tail ∙ ap (λ zs. filter differs (once ys) ++ zs) (new_among y x (list_any (bytes_eq x) ys)))

-- ---- going over a list of items

-- the texts of one item more
pub texts_more : {A : Type 0} (text : A → List ℕ) (items : List A) (i : ℕ) (x : A) → i < length items → x ≡ get_or items i x
    → map text (take (i + 1) items) ≡ map text (take i items) ++ text x ∷ []
texts_more text items i x l here =
    let more : take (i + 1) items ≡ take i items ++ x ∷ [] = grind (arith, common_steps) in
    ap (map text) more ∙ map-append text (take i items) (x ∷ [])

abbrev pub where_wanted : {A : Type 0} → Bool → A → List A
where_wanted wanted x = if wanted then x ∷ [] else []

wanted_texts : {A : Type 0} (text : A → List ℕ) (wanted : Bool) (x : A) → map text (where_wanted wanted x) ≡ where_wanted wanted (text x)
wanted_texts text true x = refl
wanted_texts text false x = refl

wanted_where_new : (old : Bool) (x : List ℕ) → where_wanted (not old) x ≡ where_new old x
wanted_where_new true x = refl
wanted_where_new false x = refl

-- an item more is seen
pub seen_more : {A : Type 0} (text : A → List ℕ) (items : List A) (i : ℕ) (x : A) (s n : BTreeSet (Bor (List ℕ))) (k : Bor (List ℕ)) → i < length items → x ≡ get_or items i x → k.now ≡ text x
    → IsSetOf s (map text (take i items)) → Updates by_text s n k true → IsSetOf n (map text (take (i + 1) items))
seen_more text items i x s n k l here is h u =
    subst (IsSetOf n) (ap (λ t. map text (take i items) ++ t ∷ []) is ∙ sym (texts_more text items i x l here)) (set_more s n (map text (take i items)) k h u)

-- and kept where it is new
pub kept_more : {A : Type 0} (text : A → List ℕ) (items kept more : List A) (i : ℕ) (x : A) (s : BTreeSet (Bor (List ℕ))) (k : Bor (List ℕ)) (is_new : Bool)
    → i < length items → x ≡ get_or items i x → k.now ≡ text x → IsSetOf s (map text (take i items)) → is_new ≡ not (contains by_text s k) → more ≡ kept ++ where_wanted is_new x
    → map text kept ≡ once (map text (take i items)) → map text more ≡ once (map text (take (i + 1) items))
kept_more text items kept more i x s k is_new l here is h new grown so =
    let texts = map text (take i items) in
    let old : contains by_text s k ≡ list_any (bytes_eq (text x)) texts = h k ∙ ap (λ t. list_any (bytes_eq t) texts) is in
    ap (map text) grown ∙ map-append text kept (where_wanted is_new x)
    ∙ ap (λ ts. ts ++ map text (where_wanted is_new x)) so
    ∙ ap (λ ts. once texts ++ ts)
    (wanted_texts text is_new x ∙ ap (λ b. where_wanted b (text x)) (new ∙ ap not old) ∙ wanted_where_new (list_any (bytes_eq (text x)) texts) (text x))
    ∙ sym (once_more texts (text x))
    ∙ ap once (sym (texts_more text items i x l here))

-- an item more is left where it isn't gone
pub left_more : {A : Type 0} (text : A → List ℕ) (items left more : List A) (gone : List (List ℕ)) (i : ℕ) (x : A) (s : BTreeSet (Bor (List ℕ))) (k : Bor (List ℕ)) (wanted : Bool)
    → i < length items → x ≡ get_or items i x → k.now ≡ text x → IsSetOf s gone → wanted ≡ not (contains by_text s k) → more ≡ left ++ where_wanted wanted x
    → map text left ≡ items_without (map text (take i items)) gone → map text more ≡ items_without (map text (take (i + 1) items)) gone
left_more text items left more gone i x s k wanted l here is h new grown so =
    let stays = λ (t : List ℕ). not (list_any (bytes_eq t) gone) in
    let texts = map text (take i items) in
    ap (map text) grown ∙ map-append text left (where_wanted wanted x)
    ∙ ap (λ ts. ts ++ map text (where_wanted wanted x)) so
    ∙ ap (λ ts. filter stays texts ++ ts) (wanted_texts text wanted x ∙ ap (λ b. where_wanted b (text x)) (new ∙ ap not (h k ∙ ap (λ t. list_any (bytes_eq t) gone) is)))
    ∙ sym (filter-append stays texts (text x ∷ []))
    ∙ ap (filter stays) (sym (texts_more text items i x l here))
