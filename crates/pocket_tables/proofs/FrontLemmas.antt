-- What is left of a text behind the parts of a tree's compact text.
use Rattle.std.proofs.Common.{◌≡◌, ◌≢◌, ℕ, suc, ◌+◌, ◌<◌, ◌≤◌, List, [], ◌∷◌, ◌++◌, Bool, true, false, refl, sym, ◌∙◌, ap, map, take, length, get_or, append-nil, flat_map, Option, Some, None, arith}
use Rattle.std.specs.Prelude.{cond, ◌&&◌, ◌==◌, MatchOption}
use denote.Ref.{Bor}
use Rattle.std.specs.Cmp.Lexicographic.{slice_cmp}
use Rattle.std.specs.List.{join_with_byte}
use Rattle.std.specs.Option.{option_copied}
use Rattle.std.specs.Ordering.{is_eq, nat_cmp}
use Rattle.std.specs.Str.{bytes_eq}
use Rattle.std.proofs.lemmas.Bool.Decides.{Decides-eqb, nat_tests}
use Rattle.std.proofs.lemmas.Grind.{flat_map-append}
use Rattle.std.proofs.lemmas.List.{take_all, take_more}
use Rattle.std.proofs.lemmas.Map.Text.{is_eq-slice_cmp}
use Rattle.pocket_types.specs.Json.{comma_before, escape_byte, printed, printed_member, quoted}
use Rattle.pocket_types.specs.declared.json.Member.{Member}
use Rattle.pocket_types.proofs.PrintLemmas.{join_more, member_text_is}
use Rattle.pocket_tables.specs.Fronts.{behind, then_behind}

-- ---- fronts

same_byte : (a : ℕ) → (a == a) ≡ true
same_byte a = (Decides-eqb a a).1 refl

-- a front is taken off
pub behind_front : (front rest : List ℕ) → behind front (front ++ rest) ≡ Some rest
behind_front [] rest = refl
behind_front (a ∷ front) rest = ap (λ b. cond b (behind front (front ++ rest)) None) (same_byte a) ∙ behind_front front rest

-- where there is no front, nothing is left
pub behind_none : (front text : List ℕ) → ((rest : List ℕ) → text ≢ front ++ rest) → behind front text ≡ None
behind_none [] text h = absurd (h text refl)
behind_none (a ∷ front) [] h = refl
behind_none (a ∷ front) (b ∷ text) h =
    by (a == b) refl (λ e. behind_none front text (λ rest is. h rest (λ i. (sym ((Decides-eqb a b).0 e)) i ∷ is i)))
  where
    by : (c : Bool) → (a == b) ≡ c → ((a == b) ≡ true → behind front text ≡ None) → cond c (behind front text) None ≡ None
    by true e rest = rest e
    by false e rest = refl

-- what a call that takes a front off answers
pub stripped : (front text : List ℕ) (r : Option (Bor (List ℕ))) → MatchOption r ((rest : List ℕ) → text ≢ front ++ rest) (λ x. text ≡ front ++ x.now)
    → option_copied r ≡ behind front text
stripped front text None h = sym (behind_none front text h)
stripped front text (Some x) h = sym (ap (behind front) h ∙ behind_front front x.now)

-- two fronts, one behind the other
behind_both : (a b t : List ℕ) → behind (a ++ b) t ≡ then_behind b (behind a t)
behind_both [] b t = refl
behind_both (x ∷ a) b [] = refl
behind_both (x ∷ a) b (y ∷ t) = by (x == y) (behind_both a b t)
  where
    by : (c : Bool) → behind (a ++ b) t ≡ then_behind b (behind a t) → cond c (behind (a ++ b) t) None ≡ then_behind b (cond c (behind a t) None)
    by true h = h
    by false h = refl

pub then_both : (a b : List ℕ) (t : Option (List ℕ)) → then_behind (a ++ b) t ≡ then_behind b (then_behind a t)
then_both a b None = refl
then_both a b (Some t) = behind_both a b t

-- ---- the whole text

-- whether nothing is left
abbrev pub is_end : Option (List ℕ) → Bool
is_end None = false
is_end (Some t) = length t == 0

some_left : (n : ℕ) → (suc n == 0) ≡ false
some_left n = grind (arith, nat_tests)

-- nothing is left behind the whole text
pub end_is : (p t : List ℕ) → is_end (behind p t) ≡ bytes_eq p t
end_is [] [] = refl
end_is [] (b ∷ t) = some_left (length t)
end_is (a ∷ p) [] = refl
end_is (a ∷ p) (b ∷ t) = by (a == b) (end_is p t)
  where
    by : (c : Bool) → is_end (behind p t) ≡ bytes_eq p t → is_end (cond c (behind p t) None) ≡ (c && bytes_eq p t)
    by true h = h
    by false h = refl

-- ---- strings, lists and maps

-- one byte more of a string
pub byte_more : (bs : List ℕ) (i : ℕ) (t rest next : Option (List ℕ)) → i < length bs → rest ≡ then_behind (34 ∷ flat_map escape_byte (take i bs)) t
    → next ≡ then_behind (escape_byte (get_or bs i 0)) rest → next ≡ then_behind (34 ∷ flat_map escape_byte (take (i + 1) bs)) t
byte_more bs i t rest next within e f =
    let b = get_or bs i 0 in
    let so_far = flat_map escape_byte (take i bs) in
    let grown : flat_map escape_byte (take (i + 1) bs) ≡ so_far ++ escape_byte b =
    ap (flat_map escape_byte) (take_more bs i 0 within) ∙ flat_map-append escape_byte (take i bs) (b ∷ []) ∙ ap (λ l. so_far ++ l) (append-nil (escape_byte b)) in
    f ∙ ap (then_behind (escape_byte b)) e ∙ sym (then_both (34 ∷ so_far) (escape_byte b) t) ∙ ap (λ l. then_behind (34 ∷ l) t) (sym grown)

-- all bytes of a string, and its end
pub string_done : (bs : List ℕ) (i : ℕ) (t rest end : Option (List ℕ)) → length bs ≤ i → rest ≡ then_behind (34 ∷ flat_map escape_byte (take i bs)) t
    → end ≡ then_behind (34 ∷ []) rest → end ≡ then_behind (quoted bs) t
string_done bs i t rest end all e f =
    f ∙ ap (then_behind (34 ∷ [])) e ∙ sym (then_both (34 ∷ flat_map escape_byte (take i bs)) (34 ∷ []) t)
    ∙ ap (λ l. then_behind (34 ∷ flat_map escape_byte l ++ 34 ∷ []) t) (take_all i bs all)

-- one item more, after its comma
pub item_more : {X : Type 0} (f : X → List ℕ) (a : ℕ) (xs : List X) (i : ℕ) (x : X) (t rest comma next : Option (List ℕ)) → i < length xs → x ≡ get_or xs i x
    → rest ≡ then_behind (a ∷ join_with_byte 44 (map f (take i xs))) t → comma ≡ then_behind (comma_before i) rest → next ≡ then_behind (f x) comma
    → next ≡ then_behind (a ∷ join_with_byte 44 (map f (take (i + 1) xs))) t
item_more f a xs i x t rest comma next within is e g h =
    let so_far = a ∷ join_with_byte 44 (map f (take i xs)) in
    h ∙ ap (then_behind (f x)) (g ∙ ap (then_behind (comma_before i)) e)
    ∙ sym (then_both (comma_before i) (f x) (then_behind so_far t))
    ∙ sym (then_both so_far (comma_before i ++ f x) t)
    ∙ ap (λ l. then_behind (a ∷ l) t) (sym (join_more f xs i x within is))

-- all items, and the bracket behind them
pub items_done : {X : Type 0} (f : X → List ℕ) (a z : ℕ) (xs : List X) (i : ℕ) (t rest end : Option (List ℕ)) → length xs ≤ i
    → rest ≡ then_behind (a ∷ join_with_byte 44 (map f (take i xs))) t → end ≡ then_behind (z ∷ []) rest → end ≡ then_behind (a ∷ join_with_byte 44 (map f xs) ++ z ∷ []) t
items_done f a z xs i t rest end all e g =
    g ∙ ap (then_behind (z ∷ [])) e ∙ sym (then_both (a ∷ join_with_byte 44 (map f (take i xs))) (z ∷ []) t)
    ∙ ap (λ l. then_behind (a ∷ join_with_byte 44 (map f l) ++ z ∷ []) t) (take_all i xs all)

-- a member: its key, a colon, its value
pub member_done : (m : Member) (comma key colon next : Option (List ℕ)) → key ≡ then_behind (quoted m.key) comma → colon ≡ then_behind (58 ∷ []) key
    → next ≡ then_behind (printed m.value) colon → next ≡ then_behind (printed_member m) comma
member_done m comma key colon next e g h =
    h ∙ ap (then_behind (printed m.value)) (g ∙ ap (then_behind (58 ∷ [])) e)
    ∙ sym (then_both (58 ∷ []) (printed m.value) (then_behind (quoted m.key) comma))
    ∙ sym (then_both (quoted m.key) (58 ∷ printed m.value) comma)
    ∙ ap (λ l. then_behind l comma) (sym (member_text_is m))

-- ---- texts compared with values

pub empty_equals : (t : List ℕ) → (length t == 0) ≡ is_eq (slice_cmp nat_cmp t [])
empty_equals [] = refl
empty_equals (x ∷ t) = some_left (length t)

pub same_equals : (a b : List ℕ) → bytes_eq a b ≡ is_eq (slice_cmp nat_cmp a b)
same_equals a b = sym (is_eq-slice_cmp a b)
