-- Parentheses, joins and operators.
use Rattle.std.proofs.Common.{◌≡◌, ◌+◌, ◌<◌, ◌≤◌, ◌==◌, ℕ, suc, List, [], ◌∷◌, ◌++◌, length, take, slice_index, true, false, Bool, Option, Some, None, option_map, refl, sym, ap, ◌∙◌, subst, arith, one-add, cond, ◌⊎◌, inl, inr}
use Rattle.std.proofs.lemmas.Bool.{eqb-true}
use Rattle.std.proofs.lemmas.Bool.Decides.{nat_tests}
use Rattle.std.proofs.lemmas.List.{length-append, take_at}
use Rattle.std.specs.Str.{IsUtf8, IsCharBoundary}
use Rattle.pocket_types.specs.declared.expr.Op.{Op}
use Rattle.pocket_types.specs.declared.expr.Op.TheVariants.{Eq, Ne, Gt, Ge, Lt, Le, Like, Unlike}
use Rattle.pocket_filter.specs.Tokens.{Lexeme, Open, Close, And, Or, Test, Ident, Text, Number}
use Rattle.pocket_filter.specs.Lexing.{op_text, Spells, TakesLongest, BeginsNoToken, IsInRange, is_quote}
use Rattle.pocket_filter.specs.Scanning.{class, op_of, mark_of}
use Rattle.pocket_filter.proofs.Fronts.{AreAscii, longest_by, none_by, boundary_after}
use Rattle.pocket_filter.proofs.Spelled.{class_of, class_is, spelled_some}

-- ---- operators

-- the first two bytes of an operator
abbrev Begins : Op → ℕ → ℕ → Type 0
Begins Eq b c = b ≡ 61
Begins Ne b c = (b ≡ 33) × (c ≡ 61)
Begins Gt b c = b ≡ 62
Begins Ge b c = (b ≡ 62) × (c ≡ 61)
Begins Lt b c = b ≡ 60
Begins Le b c = (b ≡ 60) × (c ≡ 61)
Begins Like b c = b ≡ 126
Begins Unlike b c = (b ≡ 33) × (c ≡ 126)

begins : (b c : ℕ) (op : Op) → op_of b c ≡ Some op → Begins op b c
begins b c Eq h = grind (arith, nat_tests)
begins b c Ne h = grind (arith, nat_tests)
begins b c Gt h = grind (arith, nat_tests)
begins b c Ge h = grind (arith, nat_tests)
begins b c Lt h = grind (arith, nat_tests)
begins b c Le h = grind (arith, nat_tests)
begins b c Like h = grind (arith, nat_tests)
begins b c Unlike h = grind (arith, nat_tests)

one_byte : (bytes : List ℕ) (b : ℕ) → 0 < b → slice_index bytes 0 ≡ b → (rest : List ℕ) × (bytes ≡ b ∷ rest)
one_byte [] b some h = absurd (omega arith)
one_byte (c ∷ rest) b some h = (rest, ap (λ x. x ∷ rest) h)

two_bytes : (bytes : List ℕ) (b c : ℕ) → 0 < b → 0 < c → slice_index bytes 0 ≡ b → slice_index bytes 1 ≡ c → (rest : List ℕ) × (bytes ≡ b ∷ c ∷ rest)
two_bytes [] b c some more h g = absurd (omega arith)
two_bytes (d ∷ []) b c some more h g = absurd (omega arith)
two_bytes (d ∷ e ∷ rest) b c some more h g = (rest, ap (λ x. x ∷ e ∷ rest) h ∙ ap (λ x. b ∷ x ∷ rest) g)

op_front : (bytes : List ℕ) (op : Op) → Begins op (slice_index bytes 0) (slice_index bytes 1) → (rest : List ℕ) × (bytes ≡ op_text op ++ rest)
op_front bytes Eq h = one_byte bytes 61 (omega arith) h
op_front bytes Ne h = two_bytes bytes 33 61 (omega arith) (omega arith) h.0 h.1
op_front bytes Gt h = one_byte bytes 62 (omega arith) h
op_front bytes Ge h = two_bytes bytes 62 61 (omega arith) (omega arith) h.0 h.1
op_front bytes Lt h = one_byte bytes 60 (omega arith) h
op_front bytes Le h = two_bytes bytes 60 61 (omega arith) (omega arith) h.0 h.1
op_front bytes Like h = one_byte bytes 126 (omega arith) h
op_front bytes Unlike h = two_bytes bytes 33 126 (omega arith) (omega arith) h.0 h.1

-- an operator as long as this one at least
abbrev Longer : Op → Option Op → Type 0
Longer op found = (other : Op) × (found ≡ Some other) × (length (op_text op) ≤ length (op_text other))

op_longest : (op : Op) (rest : List ℕ) → Longer op (op_of (slice_index (op_text op ++ rest) 0) (slice_index (op_text op ++ rest) 1))
op_longest Eq rest = (Eq, refl, omega arith)
op_longest Ne rest = (Ne, refl, omega arith)
op_longest Gt rest = go (slice_index rest 0 == 61) refl
  where
    go : (t : Bool) → (slice_index rest 0 == 61) ≡ t → Longer Gt (op_of 62 (slice_index rest 0))
    go true e = (Ge, rw e refl, omega arith)
    go false e = (Gt, rw e refl, omega arith)
op_longest Ge rest = (Ge, refl, omega arith)
op_longest Lt rest = go (slice_index rest 0 == 61) refl
  where
    go : (t : Bool) → (slice_index rest 0 == 61) ≡ t → Longer Lt (op_of 60 (slice_index rest 0))
    go true e = (Le, rw e refl, omega arith)
    go false e = (Lt, rw e refl, omega arith)
op_longest Le rest = (Le, refl, omega arith)
op_longest Like rest = (Like, refl, omega arith)
op_longest Unlike rest = (Unlike, refl, omega arith)

-- ---- marks

-- what three bytes at the front begin
abbrev pub mark_at : List ℕ → Option (Lexeme × ℕ)
mark_at bytes = mark_of (slice_index bytes 0) (slice_index bytes 1) (slice_index bytes 2)

-- a mark as long as n at least
abbrev AtLeast : ℕ → Option (Lexeme × ℕ) → Type 0
AtLeast n found = (mark : Lexeme × ℕ) × (found ≡ Some mark) × (n ≤ mark.1)

test_least : (any : Bool) (n : ℕ) (op : Op) (found : Option Op) → Longer op found → AtLeast (n + length (op_text op)) (option_map (λ o. (Test any o, n + length (op_text o))) found)
test_least any n op found (other, e, long) = ((Test any other, n + length (op_text other)), ap (option_map (λ o. (Test any o, n + length (op_text o)))) e, omega arith)

plain_least : (op : Op) (found : Option Op) → Longer op found → AtLeast (length (op_text op)) (option_map (λ o. (Test false o, length (op_text o))) found)
plain_least op found (other, e, long) = ((Test false other, length (op_text other)), ap (option_map (λ o. (Test false o, length (op_text o)))) e, long)

plain_test : (op : Op) (rest : List ℕ) → AtLeast (length (op_text op)) (mark_at (op_text op ++ rest))
plain_test Eq rest = plain_least Eq _ (op_longest Eq rest)
plain_test Ne rest = plain_least Ne _ (op_longest Ne rest)
plain_test Gt rest = plain_least Gt _ (op_longest Gt rest)
plain_test Ge rest = plain_least Ge _ (op_longest Ge rest)
plain_test Lt rest = plain_least Lt _ (op_longest Lt rest)
plain_test Le rest = plain_least Le _ (op_longest Le rest)
plain_test Like rest = plain_least Like _ (op_longest Like rest)
plain_test Unlike rest = plain_least Unlike _ (op_longest Unlike rest)

any_test : (op : Op) (rest : List ℕ) → AtLeast (suc (length (op_text op))) (mark_at (63 ∷ (op_text op ++ rest)))
any_test op rest = subst (λ n. AtLeast n (mark_at (63 ∷ (op_text op ++ rest)))) (one-add (length (op_text op))) (test_least true 1 op _ (op_longest op rest))

-- each mark is found where it stands, or a longer one
least : (token rest : List ℕ) (l : Lexeme) → class_of l ≡ 0 → Spells token l → AtLeast (length token) (mark_at (token ++ rest))
least token rest Open h e = subst (λ t. AtLeast (length t) (mark_at (t ++ rest))) (sym e) ((Open, 1), refl, omega arith)
least token rest Close h e = subst (λ t. AtLeast (length t) (mark_at (t ++ rest))) (sym e) ((Close, 1), refl, omega arith)
least token rest And h e = subst (λ t. AtLeast (length t) (mark_at (t ++ rest))) (sym e) ((And, 2), refl, omega arith)
least token rest Or h e = subst (λ t. AtLeast (length t) (mark_at (t ++ rest))) (sym e) ((Or, 2), refl, omega arith)
least token rest (Test true op) h e = subst (λ t. AtLeast (length t) (mark_at (t ++ rest))) (sym e) (any_test op rest)
least token rest (Test false op) h e = subst (λ t. AtLeast (length t) (mark_at (t ++ rest))) (sym e) (plain_test op rest)
least token rest (Ident written) h e = absurd (omega arith)
least token rest (Text written) h e = absurd (omega arith)
least token rest (Number n) h e = absurd (omega arith)

token_class : (bytes token rest : List ℕ) (l : Lexeme) → class (slice_index bytes 0) ≡ 0 → bytes ≡ token ++ rest → Spells token l → class_of l ≡ 0
token_class bytes [] rest l h e s = absurd (spelled_some l s)
token_class bytes (b ∷ token) rest l h e s = sym (class_is (b ∷ token) l s) ∙ ap (λ s. class (slice_index s 0)) (sym e) ∙ h

bytes_least : (bytes token rest : List ℕ) (l : Lexeme) → class (slice_index bytes 0) ≡ 0 → bytes ≡ token ++ rest → Spells token l → AtLeast (length token) (mark_at bytes)
bytes_least bytes token rest l h e s = subst (λ bs. AtLeast (length token) (mark_at bs)) (sym e) (least token rest l (token_class bytes token rest l h e s) s)

-- where no mark is found, no token begins
pub no_mark : (bytes : List ℕ) → class (slice_index bytes 0) ≡ 0 → mark_of (slice_index bytes 0) (slice_index bytes 1) (slice_index bytes 2) ≡ None → BeginsNoToken bytes
no_mark bytes h none = none_by bytes (λ token rest l e s. let found = (bytes_least bytes token rest l h e s).1 in cc)

-- ---- a mark that is found stands there

abbrev Stands : List ℕ → Lexeme → ℕ → Type 0
Stands bytes l n = (token rest : List ℕ) × (bytes ≡ token ++ rest) × (length token ≡ n) × Spells token l × AreAscii token × IsInRange l × (0 < n)

op_ascii : (op : Op) → AreAscii (op_text op)
op_ascii Eq = (omega arith, tt)
op_ascii Ne = (omega arith, (omega arith, tt))
op_ascii Gt = (omega arith, tt)
op_ascii Ge = (omega arith, (omega arith, tt))
op_ascii Lt = (omega arith, tt)
op_ascii Le = (omega arith, (omega arith, tt))
op_ascii Like = (omega arith, tt)
op_ascii Unlike = (omega arith, (omega arith, tt))

op_some : (op : Op) → 0 < length (op_text op)
op_some Eq = omega arith
op_some Ne = omega arith
op_some Gt = omega arith
op_some Ge = omega arith
op_some Lt = omega arith
op_some Le = omega arith
op_some Like = omega arith
op_some Unlike = omega arith

chosen : {X : Type 0} (t : Bool) (x y z : X) → cond t x y ≡ z → ((t ≡ true) × (x ≡ z)) ⊎ ((t ≡ false) × (y ≡ z))
chosen true x y z e = inl (refl, e)
chosen false x y z e = inr (refl, e)

mapped : (o : Option Op) (f : Op → Lexeme × ℕ) (mark : Lexeme × ℕ) → option_map f o ≡ Some mark → (op : Op) × (o ≡ Some op) × (f op ≡ mark)
mapped None f mark e = cc
mapped (Some op) f mark e = (op, refl, cc)

test_stands : (bytes : List ℕ) (op : Op) → op_of (slice_index bytes 0) (slice_index bytes 1) ≡ Some op → Stands bytes (Test false op) (length (op_text op))
test_stands bytes op e =
    let f = op_front bytes op (begins _ _ op e) in
    (op_text op, f.0, f.1, refl, refl, op_ascii op, tt, op_some op)

any_stands : (bytes : List ℕ) (op : Op) → slice_index bytes 0 ≡ 63 → op_of (slice_index bytes 1) (slice_index bytes 2) ≡ Some op → Stands bytes (Test true op) (1 + length (op_text op))
any_stands bytes op first e =
    let r = one_byte bytes 63 (omega arith) first in
    let f = op_front r.0 op (begins _ _ op (subst (λ bs. op_of (slice_index bs 1) (slice_index bs 2) ≡ Some op) r.1 e)) in
    (63 ∷ op_text op, f.0, r.1 ∙ ap (λ s. 63 ∷ s) f.1, sym (one-add (length (op_text op))), refl, (omega arith, op_ascii op), tt, omega arith)

pair_stands : (bytes : List ℕ) (b : ℕ) (l : Lexeme) → 0 < b → b < 128 → slice_index bytes 0 ≡ b → slice_index bytes 1 ≡ b → Spells (b ∷ b ∷ []) l → IsInRange l → Stands bytes l 2
pair_stands bytes b l some small first second spelled range =
    let r = two_bytes bytes b b some some first second in
    (b ∷ b ∷ [], r.0, r.1, refl, spelled, (small, (small, tt)), range, omega arith)

single_stands : (bytes : List ℕ) (b : ℕ) (l : Lexeme) → 0 < b → b < 128 → slice_index bytes 0 ≡ b → Spells (b ∷ []) l → IsInRange l → Stands bytes l 1
single_stands bytes b l some small first spelled range =
    let r = one_byte bytes b some first in
    (b ∷ [], r.0, r.1, refl, spelled, (small, tt), range, omega arith)

found_stands : (bytes : List ℕ) (mark found : Lexeme × ℕ) → Some mark ≡ Some found → Stands bytes mark.0 mark.1 → Stands bytes found.0 found.1
found_stands bytes mark found e s = let same : mark ≡ found = cc in subst (λ m. Stands bytes m.0 m.1) same s

joined_stands : (bytes : List ℕ) (b : ℕ) (l : Lexeme) (found : Lexeme × ℕ) → 0 < b → b < 128 → slice_index bytes 0 ≡ b → Spells (b ∷ b ∷ []) l → IsInRange l
    → cond (slice_index bytes 1 == b) (Some (l, 2)) None ≡ Some found → Stands bytes found.0 found.1
joined_stands bytes b l found some small first spelled range h = elim (chosen (slice_index bytes 1 == b) _ _ _ h) [
  | inl (e, f) ↦ found_stands bytes (l, 2) found f (pair_stands bytes b l some small first (eqb-true _ b e) spelled range)
  | inr (e, f) ↦ cc
]

any_found : (bytes : List ℕ) (found : Lexeme × ℕ) → slice_index bytes 0 ≡ 63 → option_map (λ op. (Test true op, 1 + length (op_text op))) (op_of (slice_index bytes 1) (slice_index bytes 2)) ≡ Some found → Stands bytes found.0 found.1
any_found bytes found first h =
    let m = mapped _ (λ op. (Test true op, 1 + length (op_text op))) found h in
    subst (λ f. Stands bytes f.0 f.1) m.2 (any_stands bytes m.0 first m.1)

plain_found : (bytes : List ℕ) (found : Lexeme × ℕ) → option_map (λ op. (Test false op, length (op_text op))) (op_of (slice_index bytes 0) (slice_index bytes 1)) ≡ Some found → Stands bytes found.0 found.1
plain_found bytes found h =
    let m = mapped _ (λ op. (Test false op, length (op_text op))) found h in
    subst (λ f. Stands bytes f.0 f.1) m.2 (test_stands bytes m.0 m.1)

mark_stands : (bytes : List ℕ) (found : Lexeme × ℕ) → mark_at bytes ≡ Some found → Stands bytes found.0 found.1
mark_stands bytes found h =
    let b = slice_index bytes 0 in
    elim (chosen (b == 40) _ _ _ h) [
      | inl (e, f) ↦ found_stands bytes (Open, 1) found f (single_stands bytes 40 Open (omega arith) (omega arith) (eqb-true b 40 e) refl tt)
      | inr (_, g) ↦ elim (chosen (b == 41) _ _ _ g) [
        | inl (e, f) ↦ found_stands bytes (Close, 1) found f (single_stands bytes 41 Close (omega arith) (omega arith) (eqb-true b 41 e) refl tt)
        | inr (_, g) ↦ elim (chosen (b == 38) _ _ _ g) [
          | inl (e, f) ↦ joined_stands bytes 38 And found (omega arith) (omega arith) (eqb-true b 38 e) refl tt f
          | inr (_, g) ↦ elim (chosen (b == 124) _ _ _ g) [
            | inl (e, f) ↦ joined_stands bytes 124 Or found (omega arith) (omega arith) (eqb-true b 124 e) refl tt f
            | inr (_, g) ↦ elim (chosen (b == 63) _ _ _ g) [
              | inl (e, f) ↦ any_found bytes found (eqb-true b 63 e) f
              | inr (_, f) ↦ plain_found bytes found f
            ]
          ]
        ]
      ]
    ]

stands_found : (bytes : List ℕ) (l : Lexeme) (n : ℕ) → IsUtf8 bytes → class (slice_index bytes 0) ≡ 0 → mark_at bytes ≡ Some (l, n) → Stands bytes l n
    → (0 < n) × TakesLongest bytes n l × IsInRange l × IsCharBoundary bytes n
stands_found bytes l n utf8 h found (token, rest, e, long, spelled, ascii, range, some) =
    let front : take n bytes ≡ token = ap (take n) e ∙ take_at token rest n long in
    let whole = ap length e ∙ length-append token rest in
    let within : n ≤ length bytes = omega arith in (
      some,
      longest_by bytes n l within (subst (λ t. Spells t l) (sym front) spelled) (λ other tail o f s.
          let found_here = bytes_least bytes other tail o h f s in
          let same : found_here.0 ≡ (l, n) = cc (found_here.1, found) in
          let bound : length other ≤ found_here.0.1 = found_here.2 in
          subst (λ m. length other ≤ m.1) same bound),
      range,
      boundary_after bytes n utf8 some within (subst AreAscii (sym front) ascii),
    )

-- what is at the front of bytes that begin with a mark
pub mark_found : (bytes : List ℕ) (l : Lexeme) (n : ℕ) → IsUtf8 bytes → class (slice_index bytes 0) ≡ 0
    → mark_of (slice_index bytes 0) (slice_index bytes 1) (slice_index bytes 2) ≡ Some (l, n)
    → (0 < n) × TakesLongest bytes n l × IsInRange l × IsCharBoundary bytes n
mark_found bytes l n utf8 h found = stands_found bytes l n utf8 h found (mark_stands bytes (l, n) found)

-- what begins neither a text nor a number nor an ident is no quote
pub mark_start : (b : ℕ) → class b ≡ 0 → is_quote b ≡ false
mark_start b h = grind (arith, nat_tests)
