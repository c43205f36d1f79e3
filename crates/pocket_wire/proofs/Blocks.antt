-- Fronts of bytes, and where a block ends.
use Rattle.std.proofs.Common.{◌≡◌, ◌≢◌, ◌⊎◌, inl, inr, ℕ, ◌+◌, ◌-◌, ◌≤◌, ◌<◌, List, [], ◌∷◌, ◌++◌, length, take, refl, ap, sym, ◌∙◌, arith, Bool, true, false, append_assoc, length-append}
use Rattle.std.specs.Prelude.{◌&&◌, ◌||◌, ◌==◌, nat_eq, count_by}
use Rattle.std.specs.List.{starts_with, ends_with}
use Rattle.std.proofs.lemmas.Grind.{common_steps}
use Rattle.std.proofs.lemmas.Bool.Decides.{Decides-eqb}
use Rattle.std.proofs.lemmas.List.{take-take, take-append-drop}
use Rattle.std.proofs.lemmas.List.Sums.{sum_by-append, count_by-le-length}
use Rattle.std.proofs.lemmas.Slice.Eq.{ends_is}
use Rattle.std.proofs.lemmas.Bool.{cases_lt}
use Rattle.pocket_wire.specs.Blocks.{after_empty_line, is_ended, is_line_feed, line_feeds, IsPartOfBlock, IsUnfinished}

-- ---- the empty line before a head

and_true : (b : Bool) → (b && true) ≡ b
and_true true = refl
and_true false = refl

and_false : (b : Bool) → (b && false) ≡ false
and_false true = refl
and_false false = refl

-- one byte is no empty line
after_one : (x : ℕ) → after_empty_line (x ∷ []) ≡ x ∷ []
after_one x = rw (and_false (13 == x)) refl

-- two bytes say whether there is one
after_two : (x y : ℕ) (rest : List ℕ) → ((13 == x) && ((10 == y) && true)) ≡ false → after_empty_line (x ∷ y ∷ rest) ≡ x ∷ y ∷ rest
after_two x y rest e = rw e refl

after_two_ends : (x y : ℕ) (rest : List ℕ) → ((13 == x) && ((10 == y) && true)) ≡ true → after_empty_line (x ∷ y ∷ rest) ≡ rest
after_two_ends x y rest e = rw e refl

-- more bytes behind
after_more : (x y : ℕ) (rest more : List ℕ) → after_empty_line (x ∷ y ∷ rest ++ more) ≡ after_empty_line (x ∷ y ∷ rest) ++ more
after_more x y rest more = by ((13 == x) && ((10 == y) && true)) refl
  where
    by : (b : Bool) → ((13 == x) && ((10 == y) && true)) ≡ b → after_empty_line (x ∷ y ∷ rest ++ more) ≡ after_empty_line (x ∷ y ∷ rest) ++ more
    by true e = after_two_ends x y (rest ++ more) e ∙ ap (λ s. s ++ more) (sym (after_two_ends x y rest e))
    by false e = after_two x y (rest ++ more) e ∙ ap (λ s. s ++ more) (sym (after_two x y rest e))

-- what is behind it is an end of the bytes
pub behind : (bytes : List ℕ) → (front : List ℕ) × (bytes ≡ front ++ after_empty_line bytes)
behind bytes = by (starts_with nat_eq bytes (13 ∷ 10 ∷ [])) refl
  where
    by : (b : Bool) → starts_with nat_eq bytes (13 ∷ 10 ∷ []) ≡ b → (front : List ℕ) × (bytes ≡ front ++ after_empty_line bytes)
    by true e = (take 2 bytes, rw e (sym (take-append-drop 2 bytes)))
    by false e = ([], rw e refl)

-- what is behind it is no longer
after_short : (bytes : List ℕ) → length (after_empty_line bytes) ≤ length bytes
after_short bytes =
    let b = behind bytes in
    let all : length bytes ≡ length b.0 + length (after_empty_line bytes) = ap length b.1 ∙ length-append b.0 (after_empty_line bytes) in
    omega (arith, all)

-- another first byte is none
after_other : (x : ℕ) (more : List ℕ) → (13 == x) ≡ false → after_empty_line (x ∷ more) ≡ x ∷ more
after_other x [] e = after_one x
after_other x (y ∷ more) e = let no : ((13 == x) && ((10 == y) && true)) ≡ false = rw e refl in after_two x y more no

-- ---- line feeds

abbrev count : List ℕ → ℕ
count bytes = count_by is_line_feed bytes

count-append : (a b : List ℕ) → count (a ++ b) ≡ count a + count b
count-append a b = sum_by-append _ a b

count-other : (x : ℕ) → x ≢ 10 → count (x ∷ []) ≡ 0
count-other x n = let e : (x == 10) ≡ false = grind arith in rw e refl

-- two bytes have few
pub few_in_two : (bytes : List ℕ) → length bytes ≤ 2 → line_feeds bytes ≤ 66
few_in_two bytes short = omega (arith, count_by-le-length is_line_feed (after_empty_line bytes), after_short bytes)

-- more bytes take none away
pub feeds_grow : (front more : List ℕ) → line_feeds front ≤ line_feeds (front ++ more)
feeds_grow [] more = omega arith
feeds_grow (x ∷ []) more = by (13 == x) refl
  where
    by : (b : Bool) → (13 == x) ≡ b → line_feeds (x ∷ []) ≤ line_feeds (x ∷ more)
    by true e = let is : x ≡ 13 = grind arith in let none : line_feeds (x ∷ []) ≡ 0 = rw is refl in omega (arith, none)
    by false e =
        let one : line_feeds (x ∷ []) ≡ count (x ∷ []) = ap count (after_one x) in
        let all : line_feeds (x ∷ more) ≡ count (x ∷ more) = ap count (after_other x more e) in
        let sum : count (x ∷ more) ≡ count (x ∷ []) + count more = count-append (x ∷ []) more in
        omega (arith, one, all, sum)
feeds_grow (x ∷ y ∷ rest) more =
    let sum : line_feeds (x ∷ y ∷ rest ++ more) ≡ line_feeds (x ∷ y ∷ rest) + count more =
    ap count (after_more x y rest more) ∙ count-append (after_empty_line (x ∷ y ∷ rest)) more
    in
    omega (arith, sum)

-- another byte adds none
pub feeds_stay : (front : List ℕ) (x : ℕ) → x ≢ 10 → line_feeds front ≤ 66 → line_feeds (front ++ x ∷ []) ≤ 66
feeds_stay [] x n few = few_in_two (x ∷ []) (omega arith)
feeds_stay (a ∷ []) x n few = few_in_two (a ∷ x ∷ []) (omega arith)
feeds_stay (a ∷ b ∷ rest) x n few =
    let sum : line_feeds (a ∷ b ∷ rest ++ x ∷ []) ≡ line_feeds (a ∷ b ∷ rest) + count (x ∷ []) =
    ap count (after_more a b rest (x ∷ [])) ∙ count-append (after_empty_line (a ∷ b ∷ rest)) (x ∷ [])
    in
    omega (arith, sum, count-other x n, few)

-- ---- the last byte

snoc_last : (a b : List ℕ) (x y : ℕ) → a ++ x ∷ [] ≡ b ++ y ∷ [] → x ≡ y
snoc_last [] [] x y e = cc e
snoc_last [] (d ∷ b) x y e =
    let l : length (x ∷ []) ≡ length ((d ∷ b) ++ y ∷ []) = ap length e in
    absurd (omega (arith, l, length-append b (y ∷ [])))
snoc_last (c ∷ a) [] x y e =
    let l : length ((c ∷ a) ++ x ∷ []) ≡ length (y ∷ []) = ap length e in
    absurd (omega (arith, l, length-append a (x ∷ [])))
snoc_last (c ∷ a) (d ∷ b) x y e = let rest : a ++ x ∷ [] ≡ b ++ y ∷ [] = cc e in snoc_last a b x y rest

last_of : (front pre : List ℕ) (x : ℕ) (s t m : List ℕ) → front ++ x ∷ [] ≡ pre ++ s → s ≡ t ++ (m ++ 10 ∷ []) → x ≡ 10
last_of front pre x s t m e is =
    let regroup : pre ++ (t ++ (m ++ 10 ∷ [])) ≡ (pre ++ (t ++ m)) ++ 10 ∷ [] = simp append_assoc in
    snoc_last front (pre ++ (t ++ m)) x 10 (e ∙ ap (λ z. pre ++ z) is ∙ regroup)

or_true : (a b : Bool) → (a || b) ≡ true → (a ≡ true) ⊎ (b ≡ true)
or_true true b e = inl refl
or_true false b e = inr e

-- only a line feed is the end of an empty line
pub ended_last : (front : List ℕ) (x : ℕ) → is_ended (front ++ x ∷ []) ≡ true → x ≡ 10
unfolding is_ended
ended_last front x e = by (or_true _ _ e)
  where
    s : List ℕ
    s = after_empty_line (front ++ x ∷ [])

    pre : (p : List ℕ) × (front ++ x ∷ [] ≡ p ++ after_empty_line (front ++ x ∷ []))
    pre = behind (front ++ x ∷ [])

    by : (ends_with nat_eq (after_empty_line (front ++ x ∷ [])) (10 ∷ 10 ∷ []) ≡ true) ⊎ (ends_with nat_eq (after_empty_line (front ++ x ∷ [])) (10 ∷ 13 ∷ 10 ∷ []) ≡ true) → x ≡ 10
    by (inl f) = last_of front pre.0 x (after_empty_line (front ++ x ∷ [])) _ (10 ∷ []) pre.1 ((ends_is Decides-eqb (after_empty_line (front ++ x ∷ [])) (10 ∷ 10 ∷ []) _ refl).0 f)
    by (inr f) = last_of front pre.0 x (after_empty_line (front ++ x ∷ [])) _ (10 ∷ 13 ∷ []) pre.1 ((ends_is Decides-eqb (after_empty_line (front ++ x ∷ [])) (10 ∷ 13 ∷ 10 ∷ []) _ refl).0 f)

pub going_on : (front : List ℕ) (x : ℕ) → x ≢ 10 → is_ended (front ++ x ∷ []) ≡ false
going_on front x n = by (is_ended (front ++ x ∷ [])) refl
  where
    by : (b : Bool) → is_ended (front ++ x ∷ []) ≡ b → b ≡ false
    by true e = absurd (n (ended_last front x e))
    by false e = refl

-- no bytes have no end
pub nothing_goes : is_ended [] ≡ false
unfolding is_ended
nothing_goes = refl

-- ---- parts of a block

-- one byte behind a part without its end
pub part_on : (bytes : List ℕ) → 0 < length bytes → IsUnfinished (take (length bytes - 1) bytes) → IsPartOfBlock bytes
part_on bytes some going = λ n below. by n below (cases_lt n (length bytes - 1))
  where
    by : (n : ℕ) → n < length bytes → ((n < length bytes - 1) ⊎ (length bytes - 1 ≤ n)) → is_ended (take n bytes) ≡ false
    by n below (inl less) =
        let short : n < length (take (length bytes - 1) bytes) = grind (arith, common_steps, less) in
        let same : take n (take (length bytes - 1) bytes) ≡ take n bytes = take-take n (length bytes - 1) bytes (omega (arith, less)) in
        ap is_ended (sym same) ∙ going.part n short
    by n below (inr more) =
        let is : n ≡ length bytes - 1 = omega (arith, below, more) in
        ap (λ k. is_ended (take k bytes)) is ∙ going.going

-- a search begins
pub nothing_looked : (bytes : List ℕ) → IsUnfinished (take 0 bytes)
nothing_looked bytes = record { part = λ n below. absurd (omega (arith, below)); going = nothing_goes; few = omega arith; feeds = omega arith }
