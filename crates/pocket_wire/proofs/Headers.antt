-- Fields as headers.
use Rattle.std.proofs.Common.{◌≡◌, ◌<◌, ℕ, suc, List, [], ◌∷◌, map, Bool, true, false, refl, IsUtf8, All, arith}
use Rattle.std.proofs.lemmas.List.Elements.{All-cons, All-nil}
use Rattle.std.proofs.lemmas.List.Elements.{All-weaker}
use Rattle.std.proofs.lemmas.Bool.Decides.{nat_tests}
use Rattle.std.proofs.lemmas.Str.Ascii.{IsAscii-from_all}
use Rattle.httparse.specs.declared.spans.HeaderSpan.{HeaderSpan}
use Rattle.httparse.specs.Grammar.{Field, IsField, is_token_byte}
use Rattle.httparse.specs.Spans.{header_bytes, name_and_value, span_bytes}
use Rattle.std.specs.Str.{is_utf8}
use Rattle.std.proofs.lemmas.Str.{IsUtf8-from_ascii, IsUtf8-from_is_utf8, is_utf8-from_IsUtf8}
use Rattle.pocket_wire.specs.Heads.{header_of}

-- a value in UTF-8
pub header_of-text : (name value : List ℕ) (n v : List ℕ) → IsUtf8 value → n ≡ name → v ≡ value
    → header_of (name, value) ≡ record { name = n; value = v } ∷ []
header_of-text name value n v text is_name is_value = rw (is_utf8-from_IsUtf8 value text, is_name, is_value) refl

-- another value
pub header_of-none : (name value : List ℕ) → ¬ (IsUtf8 value) → header_of (name, value) ≡ []
header_of-none name value other = by (is_utf8 value) refl
  where
    by : (b : Bool) → is_utf8 value ≡ b → header_of (name, value) ≡ []
    by true e = absurd (other (IsUtf8-from_is_utf8 value e))
    by false e = rw e refl

-- a byte of a token is ASCII
token_is_ascii : (b : ℕ) → is_token_byte b ≡ true → b < 128
unfolding is_token_byte
token_is_ascii b token = grind (arith, nat_tests)

-- the name of a field is a token, which is ASCII
field_text : (f : Field) → IsField f → IsUtf8 f.name
field_text f valid = IsUtf8-from_ascii _ (IsAscii-from_all _ (All-weaker (λ b. is_token_byte b ≡ true) (λ b. b < 128) token_is_ascii _ valid.name.1))

-- so is what a span of it covers
pub names_text : (lines : List ℕ) (spans : List HeaderSpan) (fields : List Field) → All IsField fields
    → map (header_bytes lines) spans ≡ map name_and_value fields → All (λ (s : HeaderSpan). IsUtf8 (span_bytes lines s.name)) spans
names_text lines [] fields valid same = All-nil _
names_text lines (s ∷ spans) [] valid same = absurd (cc same)
names_text lines (s ∷ spans) (f ∷ fields) valid same =
    let here : header_bytes lines s ≡ name_and_value f = cc same in
    let rest : map (header_bytes lines) spans ≡ map name_and_value fields = cc same in
    let name : span_bytes lines s.name ≡ f.name = λ i. (here i).0 in
    let first : IsField f = valid 0 f (omega arith) in
    let P : HeaderSpan → Type 0 = λ (x : HeaderSpan). IsUtf8 (span_bytes lines x.name) in
    let text : P s = rw name (field_text f first) in
    All-cons P s spans text
    (names_text lines spans fields (λ k d below. valid (suc k) d (omega arith)) rest)
