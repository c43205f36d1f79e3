-- The lengths of texts, piece by piece.
use Rattle.std.proofs.Common.{◌≡◌, ◌≢◌, ℕ, zero, suc, ◌+◌, ◌<◌, ◌≤◌, min, Bool, true, false, not, ◌&&◌, if◌then◌else◌, nat_le, ℤ, Option, None, List, [], ◌∷◌, ◌++◌, length, get_or, take, drop, map, flat_map, codes, ◌||◌, All, IsTrue, refl, sym, ap, ◌∙◌, subst, append-nil, length-append, arith}
use Rattle.std.specs.Prelude.{MatchBool}
use Rattle.std.specs.declared.cmp.Ordering.{Ordering}
use Rattle.std.specs.declared.cmp.Ordering.TheVariants.{Less, Equal, Greater}
use Rattle.std.specs.Ordering.{match_ordering, nat_cmp}
use Rattle.std.specs.Cmp.Lexicographic.{slice_cmp}
use Rattle.std.specs.List.{join_with_byte, list_all, list_any, AllPass}
use Rattle.std.specs.Str.{bytes_eq}
use Rattle.std.proofs.lemmas.Bool.{false≢true}
use Rattle.std.proofs.lemmas.Slice.Eq.{bytes_eq-Decides}
use Rattle.std.proofs.lemmas.Grind.{flat_map-append}
use Rattle.std.proofs.lemmas.List.{take_all, take_more, drop_more, length-map}
use Rattle.std.proofs.lemmas.List.Elements.{All-cons, All-head, All-nil, All-tail, All-weaker}
use Rattle.std.proofs.lemmas.List.Kept.{AllPairs-cons}
use Rattle.std.proofs.lemmas.List.Sums.{AllPass-from_list_all, list_all-from_AllPass}
use Rattle.std.proofs.lemmas.Bool.Decides.{nat_tests}
use Rattle.pocket_types.proofs.OrderLemmas.{same_from_equal}
use Rattle.pocket_types.proofs.PrintLemmas.{join_more, member_text_is}
use Rattle.pocket_types.specs.declared.json.Jv.{Jv}
use Rattle.pocket_types.specs.declared.records.Cell.{Cell}
use Rattle.pocket_types.specs.declared.records.Collection.{Collection}
use Rattle.pocket_types.specs.declared.records.Field.{Field}
use Rattle.pocket_types.specs.declared.records.Rec.{Rec}
use Rattle.pocket_types.specs.declared.json.Member.{Member}
use Rattle.pocket_types.specs.Sound.{is_reserved, IsSoundCollection, IsSoundField}
use Rattle.pocket_types.specs.Json.{printed, printed_member, quoted, comma_before}
use Rattle.pocket_ops.specs.Dates.{date_text}
use Rattle.pocket_ops.specs.Lengths.{held, row_len, is_undated, AreApart, HasOwnNames}
use Rattle.pocket_ops.specs.Printing.{pair_text, printed_text, printed_list, printed_map}
use Rattle.pocket_types.specs.Maps.{put, map_jv}
use Rattle.pocket_ops.specs.Trees.{put_cells, text_jv, list_jv, one_jv, items_jv, date_jv, cell_jv, date_members, rec_members}

-- ---- numbers that are held

pub held_more : (x y a b r : ℕ) → a ≡ held x → b ≡ held y → r ≡ held (a + b) → r ≡ held (x + y)
held_more x y a b r e f g = omega (arith, e, f, g)

-- ---- lists of texts

pub length-flat_more : (f : ℕ → List ℕ) (xs : List ℕ) (i x : ℕ) → i < length xs → x ≡ get_or xs i x → length (flat_map f (take (i + 1) xs)) ≡ length (flat_map f (take i xs)) + length (f x)
length-flat_more f xs i x h e =
    ap (λ ys. length (flat_map f ys)) (take_more xs i x h) ∙ ap length (flat_map-append f (take i xs) (get_or xs i x ∷ []))
    ∙ length-append (flat_map f (take i xs)) (f (get_or xs i x) ++ [])
    ∙ ap (λ y. length (flat_map f (take i xs)) + length y) (append-nil (f (get_or xs i x)) ∙ ap f (sym e))

-- a list's text so far with one more item
pub joined_more : {X : Type 0} (f : X → List ℕ) (xs : List X) (k : ℕ) (x : X) (len comma more item next : ℕ) → k < length xs → x ≡ get_or xs k x
    → len ≡ held (2 + length (join_with_byte 44 (map f (take k xs)))) → comma ≡ length (comma_before k) → more ≡ held (len + comma) → item ≡ held (length (f x)) → next ≡ held (more + item)
    → next ≡ held (2 + length (join_with_byte 44 (map f (take (k + 1) xs))))
joined_more f xs k x len comma more item next h e el ec em ei en =
    let grown = ap length (join_more f xs k x h e) ∙ length-append (join_with_byte 44 (map f (take k xs))) (comma_before k ++ f x) in
    let last = length-append (comma_before k) (f x) in
    omega (arith, grown, last, el, ec, em, ei, en)

-- a list's text between its brackets
pub bracketed : (a b : ℕ) (text : List ℕ) → length (a ∷ text ++ b ∷ []) ≡ 2 + length text
bracketed a b text = omega (arith, length-append text (b ∷ []))

pub printed_texts : (ts : List (List ℕ)) → map printed (map text_jv ts) ≡ map quoted ts
printed_texts [] = refl
printed_texts (t ∷ ts) = λ i. printed_text t i ∷ printed_texts ts i

pub length-pair : (key text : List ℕ) → length (quoted key ++ 58 ∷ text) ≡ length (quoted key) + 1 + length text
length-pair key text = omega (arith, length-append (quoted key) (58 ∷ text))

-- ---- the members of a map

-- the lengths of the members, with a byte behind each
abbrev pub pairs_len : List (List ℕ × Jv) → ℕ
pairs_len [] = 0
pairs_len (m ∷ ms) = length (pair_text m) + 1 + pairs_len ms

join_len : (m : List ℕ × Jv) (ms : List (List ℕ × Jv)) → length (join_with_byte 44 (map pair_text (m ∷ ms))) + 1 ≡ pairs_len (m ∷ ms)
join_len m [] = omega arith
join_len m (n ∷ ms) = omega (arith, length-append (pair_text m) (44 ∷ join_with_byte 44 (map pair_text (n ∷ ms))), join_len n ms)

-- the text of a map that isn't empty
pub map_len : (ms : List (List ℕ × Jv)) → 0 < pairs_len ms → length (printed (map_jv ms)) ≡ 1 + pairs_len ms
map_len [] h = absurd (omega arith)
map_len (m ∷ ms) h =
    let text = ap length (printed_map (m ∷ ms)) in
    omega (arith, text, bracketed 123 125 (join_with_byte 44 (map pair_text (m ∷ ms))), join_len m ms)

-- no member has the key
abbrev pub Lacks : List ℕ → List (List ℕ × Jv) → Type 0
Lacks key [] = Unit {0}
Lacks key (m ∷ ms) = (key ≢ m.0) × Lacks key ms

new_len : (o : Ordering) (key : List ℕ) (v : Jv) (m : List ℕ × Jv) (ms rest : List (List ℕ × Jv)) → o ≢ Equal → pairs_len rest ≡ length (pair_text (key, v)) + 1 + pairs_len ms
    → pairs_len (match_ordering o ((key, v) ∷ m ∷ ms) ((m.0, v) ∷ ms) (m ∷ rest)) ≡ length (pair_text (key, v)) + 1 + pairs_len (m ∷ ms)
new_len Less key v m ms rest apart e = refl
new_len Equal key v m ms rest apart e = absurd (apart refl)
new_len Greater key v m ms rest apart e = omega (arith, e)

pub put_len : (key : List ℕ) (v : Jv) (ms : List (List ℕ × Jv)) → Lacks key ms → pairs_len (put key v ms) ≡ length (pair_text (key, v)) + 1 + pairs_len ms
unfolding put
put_len key v [] lacks = refl
put_len key v (m ∷ ms) lacks =
    new_len (slice_cmp nat_cmp key m.0) key v m ms _ (λ e. lacks.0 (same_from_equal key m.0 e)) (put_len key v ms lacks.1)

still_lacks : (o : Ordering) (other key : List ℕ) (v : Jv) (m : List ℕ × Jv) (ms rest : List (List ℕ × Jv)) → other ≢ key → Lacks other (m ∷ ms) → Lacks other rest
    → Lacks other (match_ordering o ((key, v) ∷ m ∷ ms) ((m.0, v) ∷ ms) (m ∷ rest))
still_lacks Less other key v m ms rest apart lacks more = (apart, lacks)
still_lacks Equal other key v m ms rest apart lacks more = (lacks.0, lacks.1)
still_lacks Greater other key v m ms rest apart lacks more = (lacks.0, more)

pub lacks_put : (other key : List ℕ) (v : Jv) (ms : List (List ℕ × Jv)) → other ≢ key → Lacks other ms → Lacks other (put key v ms)
unfolding put
lacks_put other key v [] apart lacks = (apart, tt)
lacks_put other key v (m ∷ ms) apart lacks =
    still_lacks (slice_cmp nat_cmp key m.0) other key v m ms _ apart lacks (lacks_put other key v ms apart lacks.1)

-- ---- the cells of a record

-- the lengths of the cells' members, with a byte behind each
abbrev pub cells_len : List Field → List Cell → ℕ
cells_len [] cells = 0
cells_len (f ∷ fs) [] = 0
cells_len (f ∷ fs) (cell ∷ cells) = length (pair_text (f.name, cell_jv f.kind cell)) + 1 + cells_len fs cells

shown : {X : Type 0} (hidden : Bool) (a b : X) → (if hidden && not true then a else b) ≡ b
shown true a b = refl
shown false a b = refl

and_parts : (a b : Bool) → (a && b) ≡ true → (a ≡ true) × (b ≡ true)
and_parts true b e = (refl, e)
and_parts false b e = absurd cc

not_true : (a : Bool) → not a ≡ true → a ≡ false
not_true true e = absurd cc
not_true false e = refl

or_parts : (a b : Bool) → (a || b) ≡ false → (a ≡ false) × (b ≡ false)
or_parts true b e = absurd cc
or_parts false b e = (refl, e)

apart_from : (a b : List ℕ) → bytes_eq a b ≡ false → a ≢ b
apart_from a b e same = absurd (false≢true (sym e ∙ (bytes_eq-Decides a b).1 same))

-- each field's name is no member's key
abbrev AllLack : List Field → List (List ℕ × Jv) → Type 0
AllLack [] ms = Unit {0}
AllLack (f ∷ fs) ms = Lacks f.name ms × AllLack fs ms

all_lack_put : (name : List ℕ) (v : Jv) (ms : List (List ℕ × Jv)) (fs : List Field) → All (λ g. name ≢ g.name) fs → AllLack fs ms → AllLack fs (put name v ms)
all_lack_put name v ms [] apart lack = tt
all_lack_put name v ms (g ∷ gs) apart lack =
    (lacks_put g.name name v ms (λ e. All-head (λ g. name ≢ g.name) g gs apart (sym e)) lack.0, all_lack_put name v ms gs (All-tail (λ g. name ≢ g.name) g gs apart) lack.1)

all_lack_dates : (r : Rec) (fs : List Field) → AllPass is_undated fs → AllLack fs (date_members r)
all_lack_dates r [] e = tt
all_lack_dates r (f ∷ fs) e =
    let own = and_parts (not (bytes_eq f.name (codes "created"))) (not (bytes_eq f.name (codes "updated"))) (All-head (λ f. IsTrue (is_undated f)) f fs e) in (
      (apart_from f.name (codes "created") (not_true _ own.0), (apart_from f.name (codes "updated") (not_true _ own.1), tt)),
      all_lack_dates r fs (All-tail (λ f. IsTrue (is_undated f)) f fs e),
    )

apart_first : (f : Field) (fs : List Field) → AreApart (f ∷ fs) → All (λ g. f.name ≢ g.name) fs
apart_first f fs h k d within = h zero (suc k) d (omega arith) (omega arith)

apart_rest : (f : Field) (fs : List Field) → AreApart (f ∷ fs) → AreApart fs
apart_rest f fs h i j d before within = h (suc i) (suc j) d (omega arith) (omega arith)

pub put_cells_len : (fs : List Field) (cells : List Cell) (ms : List (List ℕ × Jv)) → AreApart fs → AllLack fs ms
    → pairs_len (put_cells true fs cells ms) ≡ pairs_len ms + cells_len fs cells
put_cells_len [] cells ms apart lack = omega arith
put_cells_len (f ∷ fs) [] ms apart lack = omega arith
put_cells_len (f ∷ fs) (cell ∷ cells) ms apart lack =
    let v = cell_jv f.kind cell in
    let rest = put_cells_len fs cells (put f.name v ms) (apart_rest f fs apart) (all_lack_put f.name v ms fs (apart_first f fs apart) lack.1) in
    let here = put_len f.name v ms lack.0 in
    ap (λ xs. pairs_len (put_cells true fs cells xs)) (shown f.hidden ms (put f.name v ms)) ∙ omega (arith, rest, here)

-- the length of a record's row text by its parts
pub row_len-is : (c : Collection) (r : Rec) → HasOwnNames c → row_len c r ≡ length (printed (map_jv (date_members r))) + cells_len c.fields r.cells
row_len-is c r own =
    let dates = date_members r in
    let whole = put_cells_len c.fields r.cells dates own.apart (all_lack_dates r c.fields own.undated) in
    let nonempty : 0 < pairs_len dates = omega arith in
    omega (arith, whole, map_len dates nonempty, map_len (rec_members true c r) (omega (arith, whole, nonempty)))

-- one more field and its cell
pub cells_len_more : (fs : List Field) (cells : List Cell) (n : ℕ) (f : Field) (cell : Cell) → n < length fs → n < length cells → f ≡ get_or fs n f → cell ≡ get_or cells n cell
    → cells_len (drop n fs) (drop n cells) ≡ length (pair_text (f.name, cell_jv f.kind cell)) + 1 + cells_len (drop (n + 1) fs) (drop (n + 1) cells)
cells_len_more fs cells n f cell h k e d =
    (λ i. cells_len ((drop_more fs n f h ∙ ap (λ x. x ∷ drop (n + 1) fs) (sym e)) i) ((drop_more cells n cell k ∙ ap (λ x. x ∷ drop (n + 1) cells) (sym d)) i))

-- where the shorter of both ends, there is no more
pub cells_len-end : (n : ℕ) (fs : List Field) (cells : List Cell) → n ≡ min (length fs) (length cells) → cells_len (drop n fs) (drop n cells) ≡ 0
cells_len-end zero [] cells e = refl
cells_len-end (suc n) [] cells e = absurd (omega arith)
cells_len-end zero (f ∷ fs) [] e = refl
cells_len-end (suc n) (f ∷ fs) [] e = absurd (omega arith)
cells_len-end zero (f ∷ fs) (c ∷ cells) e = absurd (omega arith)
cells_len-end (suc n) (f ∷ fs) (c ∷ cells) e = cells_len-end n fs cells (omega arith)

-- the length so far, with one more member and the byte behind it
pub len_more : (len next item more pair rest whole : ℕ) → held (len + (pair + 1 + rest)) ≡ whole → item ≡ held pair → more ≡ held (len + item) → next ≡ held (more + 1) → held (next + rest) ≡ whole
len_more len next item more pair rest whole e ei em en = omega (arith, e, ei, em, en)

-- ---- lists and single items

pub texts_len-is : (ts : List (List ℕ)) (len i : ℕ) → len ≡ held (2 + length (join_with_byte 44 (map quoted (take i ts)))) → length ts ≤ i → len ≡ held (length (printed (list_jv (map text_jv ts))))
texts_len-is ts len i e whole =
    let text = printed_list (map text_jv ts) ∙ ap (λ ys. 91 ∷ join_with_byte 44 ys ++ 93 ∷ []) (printed_texts ts) in
    e ∙ ap (λ xs. held (2 + length (join_with_byte 44 (map quoted xs)))) (take_all i ts whole)
    ∙ ap held (sym (ap length text ∙ bracketed 91 93 (join_with_byte 44 (map quoted ts))))

spelled : {T : Type 0} (text : T → List ℕ) (i : ℕ) (xs : List T) → map quoted (take i (map text xs)) ≡ map (λ x. quoted (text x)) (take i xs)
spelled text zero xs = refl
spelled text (suc i) [] = refl
spelled text (suc i) (x ∷ xs) = ap (λ ys. quoted (text x) ∷ ys) (spelled text i xs)

-- the same of items that have a text each
pub listed_len-is : {T : Type 0} (text : T → List ℕ) (xs : List T) (len i : ℕ) → len ≡ held (2 + length (join_with_byte 44 (map (λ x. quoted (text x)) (take i xs)))) → length xs ≤ i → len ≡ held (length (printed (list_jv (map text_jv (map text xs)))))
listed_len-is text xs len i e whole =
    texts_len-is (map text xs) len i (e ∙ ap (λ ys. held (2 + length (join_with_byte 44 ys))) (sym (spelled text i xs))) (rw (length-map xs text) whole)

pub member_len-is : (m : Member) (len : ℕ) (key : List ℕ) → key ≡ m.key → len ≡ held (length (quoted key ++ 58 ∷ printed m.value)) → len ≡ held (length (printed_member m))
member_len-is m len key e f =
    f ∙ ap (λ k. held (length (quoted k ++ 58 ∷ printed m.value))) e ∙ ap (λ t. held (length t)) (sym (member_text_is m))

quoted_len : (len : ℕ) (t : List ℕ) → len ≡ held (length (quoted t)) → len ≡ held (length (printed (text_jv t)))
quoted_len len t e = e ∙ ap (λ x. held (length x)) (sym (printed_text t))

at_most_one : (most : ℕ) (items : List (List ℕ)) → most ≤ 1 → items_jv most items ≡ one_jv items
at_most_one most items h =
    let e : nat_le most 1 ≡ true = grind (arith, nat_tests) in
    ap (λ b. if b then one_jv items else list_jv (map text_jv items)) e

pub no_item_len : (most : ℕ) (items : List (List ℕ)) → most ≤ 1 → length items < 1 → 2 ≡ held (length (printed (items_jv most items)))
no_item_len most [] h k = quoted_len 2 [] refl ∙ ap (λ v. held (length (printed v))) (sym (at_most_one most [] h))
no_item_len most (x ∷ xs) h k = absurd (omega arith)

pub one_item_len : (most : ℕ) (items : List (List ℕ)) (len : ℕ) (x text : List ℕ) → most ≤ 1 → 1 ≤ length items → x ≡ get_or items 0 x → text ≡ x → len ≡ held (length (quoted text)) → len ≡ held (length (printed (items_jv most items)))
one_item_len most [] len x text h k e f g = absurd (omega arith)
one_item_len most (y ∷ ys) len x text h k e f g =
    quoted_len len y (g ∙ ap (λ t. held (length (quoted t))) (f ∙ e)) ∙ ap (λ v. held (length (printed v))) (sym (at_most_one most (y ∷ ys) h))

pub no_listed_len : {T : Type 0} (text : T → List ℕ) (most : ℕ) (items : List T) → most ≤ 1 → length items < 1 → 2 ≡ held (length (printed (items_jv most (map text items))))
no_listed_len text most [] h k = no_item_len most [] h k
no_listed_len text most (x ∷ xs) h k = absurd (omega arith)

pub one_listed_len : {T : Type 0} (text : T → List ℕ) (most : ℕ) (items : List T) (len : ℕ) (x : T) (s : List ℕ) → most ≤ 1 → 1 ≤ length items → x ≡ get_or items 0 x → s ≡ text x → len ≡ held (length (quoted s)) → len ≡ held (length (printed (items_jv most (map text items))))
one_listed_len text most [] len x s h k e f g = absurd (omega arith)
one_listed_len text most (y ∷ ys) len x s h k e f g = one_item_len most (text y ∷ map text ys) len (text x) s h (omega arith) (ap text e) f g

pub moment_len-is : (m : ℤ) (len : ℕ) (text : List ℕ) → text ≡ date_text m → len ≡ held (length (quoted text)) → len ≡ held (length (printed (text_jv (date_text m))))
moment_len-is m len text e f = quoted_len len (date_text m) (f ∙ ap (λ t. held (length (quoted t))) e)

pub no_date_len : (d : Option ℤ) → d ≡ None → 2 ≡ held (length (printed (date_jv d)))
no_date_len d e = quoted_len 2 [] refl ∙ ap (λ x. held (length (printed (date_jv x)))) (sym e)

pub dates_len-is : (r : Rec) (a b sum len : ℕ) → a ≡ held (length (pair_text (codes "created", text_jv (date_text r.created)))) → b ≡ held (length (pair_text (codes "updated", text_jv (date_text r.updated))))
    → sum ≡ held (a + b) → len ≡ held (sum + 3) → len ≡ held (length (printed (map_jv (date_members r))))
dates_len-is r a b sum len ea eb es el =
    let nonempty : 0 < pairs_len (date_members r) = omega arith in
    omega (arith, map_len (date_members r) nonempty, ea, eb, es, el)

-- ---- the loop over fields and cells

pub row_len-more : (fs : List Field) (cells : List Cell) (n m : ℕ) (f : Field) (cell : Cell) (len next item more whole : ℕ) → m ≡ n + 1 → n < length fs → n < length cells → f ≡ get_or fs n f → cell ≡ get_or cells n cell
    → held (len + cells_len (drop n fs) (drop n cells)) ≡ whole → item ≡ held (length (pair_text (f.name, cell_jv f.kind cell))) → more ≡ held (len + item) → next ≡ held (more + 1)
    → (held next ≡ next) × (held (next + cells_len (drop m fs) (drop m cells)) ≡ whole)
row_len-more fs cells n m f cell len next item more whole em h k e d el ei emore en =
    let pair = length (pair_text (f.name, cell_jv f.kind cell)) in
    let rest = cells_len (drop (n + 1) fs) (drop (n + 1) cells) in
    let grown = sym (ap (λ x. held (len + x)) (cells_len_more fs cells n f cell h k e d)) ∙ el in
    (omega (arith, en), ap (λ i. held (next + cells_len (drop i fs) (drop i cells))) em ∙ len_more len next item more pair rest whole grown ei emore en)

pub row_len-end : (c : Collection) (r : Rec) (n len : ℕ) → HasOwnNames c → n ≡ min (length c.fields) (length r.cells) → held len ≡ len
    → held (len + cells_len (drop n c.fields) (drop n r.cells)) ≡ held (length (printed (map_jv (date_members r))) + cells_len c.fields r.cells) → len ≡ held (row_len c r)
row_len-end c r n len own en eh el =
    let none = cells_len-end n c.fields r.cells en in
    let whole = row_len-is c r own in
    omega (arith, none, whole, eh, el)

-- ---- fields' names

-- no later field has the name
none_named : (name : List ℕ) (fs : List Field) → list_any (λ g. bytes_eq g.name name) fs ≡ false → All (λ g. name ≢ g.name) fs
none_named name [] e = All-nil (λ g. name ≢ g.name)
none_named name (g ∷ gs) e =
    let parts = or_parts (bytes_eq g.name name) (list_any (λ g. bytes_eq g.name name) gs) e in
    All-cons (λ g. name ≢ g.name) g gs (λ same. apart_from g.name name parts.0 (sym same)) (none_named name gs parts.1)

-- one of them has it
one_named : (name : List ℕ) (fs : List Field) → list_any (λ g. bytes_eq g.name name) fs ≡ true → ¬ All (λ g. name ≢ g.name) fs
one_named name [] e none = cc
one_named name (g ∷ gs) e none = by (bytes_eq g.name name) refl e (λ later. one_named name gs later (All-tail (λ g. name ≢ g.name) g gs none))
  where
    by : (b : Bool) → bytes_eq g.name name ≡ b → (b || list_any (λ g. bytes_eq g.name name) gs) ≡ true → (list_any (λ g. bytes_eq g.name name) gs ≡ true → ⊥) → ⊥
    by true is e rest = All-head (λ g. name ≢ g.name) g gs none (sym ((bytes_eq-Decides g.name name).0 is))
    by false is e rest = rest e

pub apart_more : (f : Field) (rest fs : List Field) (name : List ℕ) (named apart : Bool) → fs ≡ f ∷ rest → name ≡ f.name → named ≡ list_any (λ g. bytes_eq g.name name) rest → named ≡ false
    → MatchBool apart (AreApart rest) (¬ AreApart rest) → MatchBool apart (AreApart fs) (¬ AreApart fs)
apart_more f rest fs name named true es en ed none h =
    let first = none_named f.name rest (sym (ap (λ n. list_any (λ g. bytes_eq g.name n) rest) en) ∙ sym ed ∙ none) in
    subst AreApart (sym es) (AllPairs-cons (λ f g. f.name ≢ g.name) f rest first h)
apart_more f rest fs name named false es en ed none h = λ all. h (apart_rest f rest (subst AreApart es all))

pub not_apart : (f : Field) (rest fs : List Field) (name : List ℕ) (named : Bool) → fs ≡ f ∷ rest → name ≡ f.name → named ≡ list_any (λ g. bytes_eq g.name name) rest → named ≡ true
    → MatchBool (not named) (AreApart fs) (¬ AreApart fs)
not_apart f rest fs name named es en ed one =
    subst (λ b. MatchBool (not b) (AreApart fs) (¬ AreApart fs)) (sym one)
    (λ all. one_named f.name rest (sym (ap (λ n. list_any (λ g. bytes_eq g.name n) rest) en) ∙ sym ed ∙ one) (apart_first f rest (subst AreApart es all)))

pub own_names_by : (c : Collection) (apart undated : Bool) → apart ≡ true → MatchBool apart (AreApart c.fields) (¬ AreApart c.fields) → undated ≡ list_all is_undated c.fields
    → MatchBool undated (HasOwnNames c) (¬ HasOwnNames c)
own_names_by c false undated t h e = cc
own_names_by c true true t h e = record { apart = h; undated = AllPass-from_list_all is_undated c.fields (sym e) }
own_names_by c true false t h e = λ own. false≢true (e ∙ list_all-from_AllPass is_undated c.fields own.undated)

-- ---- a sound collection's

not_date : (name : List ℕ) → is_reserved name ≡ false → (not (bytes_eq name (codes "created")) && not (bytes_eq name (codes "updated"))) ≡ true
not_date name h = grind (arith, nat_tests)

pub sound_own_names : (c : Collection) → IsSoundCollection c → HasOwnNames c
sound_own_names c sound = record {
  apart = sound.differ;
  undated = All-weaker IsSoundField (λ f. IsTrue (is_undated f)) (λ f s. not_date f.name s.name.1) c.fields sound.fields;
}
