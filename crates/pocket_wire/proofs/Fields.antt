-- A head has a line feed for each field, one for its first line and one for its last; and the fields of a name one by one.
use Rattle.std.proofs.Common.{◌≡◌, ℕ, ◌+◌, ◌≤◌, List, [], ◌∷◌, ◌++◌, length, refl, sym, ◌∙◌, subst, arith, Bool, true, false}
use Rattle.std.specs.Prelude.{count_by}
use Rattle.std.specs.List.{flat_map, list_any}
use Rattle.std.proofs.lemmas.List.{append-nil}
use Rattle.std.proofs.lemmas.List.Sums.{sum_by-append}
use Rattle.httparse.specs.Grammar.{RequestHead, print_request, Field, print_field, LineEnd, crlf, lf, print_end, print_blank, print_version}
use Rattle.httparse.specs.declared.spans.HeaderSpan.{HeaderSpan}
use Rattle.pocket_wire.specs.Blocks.{is_line_feed}
use Rattle.pocket_wire.specs.Heads.{IsHead, is_field, values_of}

-- ---- line feeds of a head

abbrev count : List ℕ → ℕ
count bytes = count_by is_line_feed bytes

count-append : (a b : List ℕ) → count (a ++ b) ≡ count a + count b
count-append a b = sum_by-append _ a b

count-end : (e : LineEnd) → count (print_end e) ≡ 1
count-end crlf = refl
count-end lf = refl

count-field : (f : Field) → 1 ≤ count (print_field f)
count-field f = omega (arith, count-append (f.name ++ 58 ∷ f.raw) (print_end f.end), count-end f.end)

count-fields : (fields : List Field) → length fields ≤ count (flat_map print_field fields)
count-fields [] = omega arith
count-fields (f ∷ fields) =
    omega (arith, count-append (print_field f) (flat_map print_field fields), count-field f, count-fields fields)

-- from the end of the first line on
count-parts : (front end fields last : List ℕ) → count end + count fields + count last ≤ count (front ++ end ++ (fields ++ last))
count-parts front end fields last =
    omega (arith, count-append (front ++ end) (fields ++ last), count-append front end, count-append fields last)

count-head : (h : RequestHead) → length h.fields + 2 ≤ count (print_request h)
unfolding print_request
count-head h =
    omega (
      arith,
      count-parts (print_blank h.blank ++ h.method ++ 32 ∷ h.target ++ 32 ∷ print_version h.minor) (print_end h.line_end)
          (flat_map print_field h.fields) (print_end h.last),
      count-end h.line_end,
      count-end h.last,
      count-fields h.fields,
    )

-- the lines are the head's bytes
pub lines_are : (lines : List ℕ) (h : RequestHead) → IsHead lines h → lines ≡ print_request h
lines_are lines h is = is.1 ∙ append-nil (print_request h)

-- few line feeds are few fields
pub few_fields : (lines : List ℕ) (h : RequestHead) → IsHead lines h → count lines ≤ 66 → length h.fields ≤ 64
few_fields lines h is few =
    let all : length h.fields + 2 ≤ count lines = subst (λ s. length h.fields + 2 ≤ count s) (sym (lines_are lines h is)) (count-head h) in
    omega (arith, all, few)

-- ---- fields of a name

-- a place of no field
abbrev pub empty : HeaderSpan
empty = record { name = record { start = 0; end = 0 }; value = record { start = 0; end = 0 } }

-- no value of a name: no field of it
pub none_of : (name : List ℕ) (fields : List (List ℕ × List ℕ)) → values_of name fields ≡ [] → list_any (is_field name) fields ≡ false
none_of name [] e = refl
none_of name (f ∷ fields) e = by (is_field name f) refl (λ q. none_of name fields q)
  where
    by : (b : Bool) → is_field name f ≡ b → (values_of name fields ≡ [] → list_any (is_field name) fields ≡ false) → list_any (is_field name) (f ∷ fields) ≡ false
    by true t rest = let bad : values_of name (f ∷ fields) ≡ f.1 ∷ values_of name fields = rw t refl in absurd (cc (bad, e))
    by false t rest = let same : values_of name (f ∷ fields) ≡ values_of name fields = rw t refl in rw t (rest (sym same ∙ e))

-- a value of a name: a field of it
pub some_of : (name : List ℕ) (fields : List (List ℕ × List ℕ)) (value : List ℕ) (values : List (List ℕ)) → values_of name fields ≡ value ∷ values
    → list_any (is_field name) fields ≡ true
some_of name [] value values e = absurd (cc e)
some_of name (f ∷ fields) value values e = by (is_field name f) refl (λ q. some_of name fields value values q)
  where
    by : (b : Bool) → is_field name f ≡ b → (values_of name fields ≡ value ∷ values → list_any (is_field name) fields ≡ true) → list_any (is_field name) (f ∷ fields) ≡ true
    by true t rest = rw t refl
    by false t rest = let same : values_of name (f ∷ fields) ≡ values_of name fields = rw t refl in rw t (rest (sym same ∙ e))
