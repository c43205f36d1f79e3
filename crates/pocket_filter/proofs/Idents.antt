-- Where an ident ends.
use Rattle.std.proofs.Common.{◌≡◌, ◌+◌, ◌<◌, ◌≤◌, ◌==◌, ◌&&◌, ◌⊎◌, inl, inr, ℕ, zero, suc, List, [], ◌∷◌, ◌++◌, length, take, drop, slice_index, true, false, Bool, Option, Some, None, IfSome, is_some, refl, sym, ap, ◌∙◌, subst, arith, zero-add, append_assoc, append-nil}
use Rattle.std.proofs.lemmas.Bool.{eqb-true, and_parts, and_from}
use Rattle.std.proofs.lemmas.Bool.Decides.{nat_tests}
use Rattle.std.proofs.lemmas.List.{length-append, length-drop}
use Rattle.std.specs.List.{AllByRecursion, list_all}
use Rattle.std.specs.Str.{IsUtf8, IsCharBoundary}
use Rattle.pocket_types.specs.Names.{is_digit, is_word}
use Rattle.pocket_types.specs.declared.expr.Part.{Part}
use Rattle.pocket_filter.specs.Tokens.{Lexeme, Ident}
use Rattle.pocket_filter.specs.Lexing.{IsName, suffix_text, part_text, IsPart, dotted, parts_text, sign_text, ident_text, ArePath, IsIdent, Spells, TakesLongest, BeginsNoToken, is_quote, is_blank, BeginsNoSeparator}
use Rattle.pocket_filter.proofs.Separators.{no_separator}
use Rattle.pocket_filter.specs.Scanning.{class, sign_len, begins_name, joins, path_len}
use Rattle.pocket_filter.proofs.Fronts.{AreAscii, ascii_append, longest_by, none_by, boundary_after, take_add}
use Rattle.pocket_filter.proofs.Spelled.{class_of, class_is, spelled_some, name_first, part_first, path_first}

-- ---- an ident is scanned to its end at least

words_run : (suffixed : Bool) (name rest : List ℕ) → list_all is_word name ≡ true → path_len suffixed (name ++ rest) ≡ length name + path_len suffixed rest
words_run suffixed [] rest h = sym (zero-add (path_len suffixed rest))
words_run suffixed (b ∷ name) rest h =
    let parts = and_parts (is_word b) (list_all is_word name) h in
    let more = words_run suffixed name rest parts.1 in
    rw parts.0 (omega arith)

suffix_run : (suffix : Option (List ℕ)) (rest : List ℕ) → IfSome suffix IsName → path_len false (suffix_text suffix ++ rest) ≡ length (suffix_text suffix) + path_len (is_some suffix) rest
suffix_run None rest h = sym (zero-add (path_len false rest))
suffix_run (Some name) rest h =
    let run = words_run true name rest h.1 in
    rw (name_first name rest h) (omega arith)

pub part_run : (part : Part) (rest : List ℕ) → IsPart part → path_len false (part_text part ++ rest) ≡ length (part_text part) + path_len (is_some part.suffix) rest
part_run part rest h =
    let name = words_run false part.name (suffix_text part.suffix ++ rest) h.name.1 in
    let suffix = suffix_run part.suffix rest h.suffix in
    let long = length-append part.name (suffix_text part.suffix) in
    ap (path_len false) (append_assoc part.name (suffix_text part.suffix) rest) ∙ omega arith

dotted_run : (suffixed : Bool) (parts : List Part) (rest : List ℕ) → AllByRecursion IsPart parts → length (dotted parts) ≤ path_len suffixed (dotted parts ++ rest)
dotted_run suffixed [] rest h = omega arith
dotted_run suffixed (part ∷ parts) rest h =
    let run = part_run part (dotted parts ++ rest) h.0 in
    let more = dotted_run (is_some part.suffix) parts rest h.1 in
    let long = length-append (part_text part) (dotted parts) in
    let first = part_first part (dotted parts ++ rest) h.0 in
    let whole = append_assoc (part_text part) (dotted parts) rest in
    rw (whole, first) (omega arith)

path_run : (parts : List Part) (rest : List ℕ) → AllByRecursion IsPart parts → length (parts_text parts) ≤ path_len false (parts_text parts ++ rest)
path_run [] rest h = omega arith
path_run (part ∷ parts) rest h =
    let run = part_run part (dotted parts ++ rest) h.0 in
    let more = dotted_run (is_some part.suffix) parts rest h.1 in
    let long = length-append (part_text part) (dotted parts) in
    let whole = append_assoc (part_text part) (dotted parts) rest in
    rw whole (omega arith)

-- ---- what is scanned is an ident

-- The end of an ident, within a name: bytes of that name, perhaps its suffix, and further parts.
record IsEnd (suffixed : Bool) (bytes : List ℕ) : Type 0 where
  name : List ℕ
  words : list_all is_word name ≡ true
  suffix : Option (List ℕ)
  unsuffixed : suffixed ≡ true → suffix ≡ None
  is_suffix : IfSome suffix IsName
  parts : List Part
  each : AllByRecursion IsPart parts
  whole : bytes ≡ (name ++ suffix_text suffix) ++ dotted parts

end_here : (suffixed : Bool) → IsEnd suffixed []
end_here suffixed = record { name = []; words = refl; suffix = None; unsuffixed = λ _. refl; is_suffix = tt; parts = []; each = tt; whole = refl }

end_word : (suffixed : Bool) (b : ℕ) (bytes : List ℕ) → is_word b ≡ true → IsEnd suffixed bytes → IsEnd suffixed (b ∷ bytes)
end_word suffixed b bytes h r = record {
  name = b ∷ r.name;
  words = and_from _ _ h r.words;
  suffix = r.suffix;
  unsuffixed = r.unsuffixed;
  is_suffix = r.is_suffix;
  parts = r.parts;
  each = r.each;
  whole = ap (λ s. b ∷ s) r.whole;
}

-- a name that begins with a byte of a name isn't empty
some_name : (name : List ℕ) (suffix : Option (List ℕ)) (parts : List Part) → is_word (slice_index ((name ++ suffix_text suffix) ++ dotted parts) 0) ≡ true → 0 < length name
some_name (b ∷ name) suffix parts h = omega arith
some_name [] (Some suffix) parts h = cc
some_name [] None (part ∷ parts) h = cc
some_name [] None [] h = cc

end_dot : (suffixed : Bool) (bytes : List ℕ) → is_word (slice_index bytes 0) ≡ true → IsEnd false bytes → IsEnd suffixed (46 ∷ bytes)
end_dot suffixed bytes first r =
    let some = some_name r.name r.suffix r.parts (subst (λ s. is_word (slice_index s 0) ≡ true) r.whole first) in
    record {
      name = [];
      words = refl;
      suffix = None;
      unsuffixed = λ _. refl;
      is_suffix = tt;
      parts = record { name = r.name; suffix = r.suffix } ∷ r.parts;
      each = (record { name = (some, r.words); suffix = r.is_suffix }, r.each);
      whole = ap (λ s. 46 ∷ s) r.whole;
    }

end_colon : (bytes : List ℕ) → is_word (slice_index bytes 0) ≡ true → IsEnd true bytes → IsEnd false (58 ∷ bytes)
end_colon bytes first r =
    let some = some_name r.name r.suffix r.parts (subst (λ s. is_word (slice_index s 0) ≡ true) r.whole first) in
    let none = r.unsuffixed refl in
    let whole : bytes ≡ r.name ++ dotted r.parts = r.whole ∙ ap (λ s. (r.name ++ suffix_text s) ++ dotted r.parts) none ∙ ap (λ s. s ++ dotted r.parts) (append-nil r.name) in
    record {
      name = [];
      words = refl;
      suffix = Some r.name;
      unsuffixed = λ e. cc;
      is_suffix = (some, r.words);
      parts = r.parts;
      each = r.each;
      whole = ap (λ s. 58 ∷ s) whole;
    }

-- the first byte is scanned where it may stand in a name
first_kept : (suffixed : Bool) (bytes : List ℕ) → is_word (slice_index bytes 0) ≡ true → is_word (slice_index (take (path_len suffixed bytes) bytes) 0) ≡ true
first_kept suffixed [] h = h
first_kept suffixed (b ∷ bytes) h = rw h h

joined : (suffixed : Bool) (b : ℕ) → joins suffixed b ≡ true → (b ≡ 46) ⊎ ((b ≡ 58) × (suffixed ≡ false))
joined true b h = grind (arith, nat_tests)
joined false b h = grind (arith, nat_tests)

end_joined : (suffixed : Bool) (b : ℕ) (bytes : List ℕ) → joins suffixed b ≡ true → is_word (slice_index bytes 0) ≡ true
    → ((u : Bool) → IsEnd u (take (path_len u bytes) bytes)) → IsEnd suffixed (b ∷ take (path_len (b == 58) bytes) bytes)
end_joined suffixed b bytes h first further = elim (joined suffixed b h) [
  | inl dot ↦ subst (λ x. IsEnd suffixed (x ∷ take (path_len (x == 58) bytes) bytes)) (sym dot) (end_dot suffixed (take (path_len false bytes) bytes) (first_kept false bytes first) (further false))
  | inr colon ↦
      let e : IsEnd false (58 ∷ take (path_len true bytes) bytes) = end_colon (take (path_len true bytes) bytes) (first_kept true bytes first) (further true) in
      subst (λ x. IsEnd suffixed (x ∷ take (path_len (x == 58) bytes) bytes)) (sym colon.0) (subst (λ s. IsEnd s (58 ∷ take (path_len true bytes) bytes)) (sym colon.1) e)
]

end_step : (suffixed : Bool) (b : ℕ) (bytes : List ℕ) (t u : Bool) → is_word b ≡ t → (joins suffixed b && is_word (slice_index bytes 0)) ≡ u
    → ((s : Bool) → IsEnd s (take (path_len s bytes) bytes)) → IsEnd suffixed (take (path_len suffixed (b ∷ bytes)) (b ∷ bytes))
end_step suffixed b bytes true u e f further = rw e (end_word suffixed b _ e (further suffixed))
end_step suffixed b bytes false true e f further =
    let parts = and_parts (joins suffixed b) (is_word (slice_index bytes 0)) f in
    rw (e, f) (end_joined suffixed b bytes parts.0 parts.1 further)
end_step suffixed b bytes false false e f further = rw (e, f) (end_here suffixed)

ends : (suffixed : Bool) (bytes : List ℕ) → IsEnd suffixed (take (path_len suffixed bytes) bytes)
ends suffixed [] = end_here suffixed
ends suffixed (b ∷ bytes) = end_step suffixed b bytes (is_word b) (joins suffixed b && is_word (slice_index bytes 0)) refl refl (λ s. ends s bytes)

front_same : (n : ℕ) (bytes : List ℕ) → is_word (slice_index (take n bytes) 0) ≡ true → slice_index (take n bytes) 0 ≡ slice_index bytes 0
front_same zero bytes h = cc
front_same (suc n) [] h = refl
front_same (suc n) (b ∷ bytes) h = refl

path_taken : (bytes : List ℕ) → is_word (slice_index bytes 0) ≡ true → is_digit (slice_index bytes 0) ≡ false
    → (parts : List Part) × ArePath parts × (take (path_len false bytes) bytes ≡ parts_text parts)
path_taken bytes first no_digit =
    let r = ends false bytes in
    let kept = first_kept false bytes first in
    let some = some_name r.name r.suffix r.parts (subst (λ s. is_word (slice_index s 0) ≡ true) r.whole kept) in
    let same = front_same (path_len false bytes) bytes kept in
    let parts : List Part = record { name = r.name; suffix = r.suffix } ∷ r.parts in
    let whole : take (path_len false bytes) bytes ≡ parts_text parts = r.whole in (
      parts,
      record {
        some = omega arith;
        each = (record { name = (some, r.words); suffix = r.is_suffix }, r.each);
        first = subst (λ s. is_digit (slice_index s 0) ≡ false) whole (ap is_digit same ∙ no_digit);
      },
      whole,
    )

-- ---- tokens

begins_from : (b : ℕ) → is_word b ≡ true → is_digit b ≡ false → begins_name b ≡ true
begins_from b h n = grind (arith, nat_tests)

begins_word : (b : ℕ) → begins_name b ≡ true → is_word b ≡ true
begins_word b h = grind (arith, nat_tests)

begins_no_digit : (b : ℕ) → begins_name b ≡ true → is_digit b ≡ false
begins_no_digit b h = grind (arith, nat_tests)

pub no_sign : (b : ℕ) → is_word b ≡ true → sign_len 64 b ≡ 0
no_sign b h = grind (arith, nat_tests)

-- an ident after its sign
abbrev pub after_sign : List ℕ → List ℕ
after_sign bytes = drop (sign_len 64 (slice_index bytes 0)) bytes

abbrev pub ident_len : List ℕ → ℕ
ident_len bytes = sign_len 64 (slice_index bytes 0) + path_len false (after_sign bytes)

ident_token : (token : List ℕ) (l : Lexeme) → class (slice_index token 0) ≡ 3 → Spells token l → IsIdent token
ident_token token (Ident written) h s = s.1
ident_token token l h s = let apart : 3 ≡ class_of l = sym h ∙ class_is token l s in absurd (omega arith)

abbrev pub Fits : List ℕ → List ℕ → Type 0
Fits bytes token = (begins_name (slice_index (after_sign bytes) 0) ≡ true) × (length token ≤ ident_len bytes)

pub path_begins : (parts : List Part) (rest : List ℕ) → ArePath parts → slice_index (parts_text parts ++ rest) 0 ≡ slice_index (parts_text parts) 0
path_begins parts rest h = go (parts_text parts) (path_first parts h)
  where
    go : (text : List ℕ) → is_word (slice_index text 0) ≡ true → slice_index (text ++ rest) 0 ≡ slice_index text 0
    go [] e = cc
    go (b ∷ text) e = refl

fits : (sign : Bool) (parts : List Part) (rest : List ℕ) → ArePath parts → Fits (ident_text sign parts ++ rest) (ident_text sign parts)
fits true parts rest h =
    let run = path_run parts rest h.each in
    let first = begins_from (slice_index (parts_text parts) 0) (path_first parts h) h.first in
    (ap begins_name (path_begins parts rest h) ∙ first, omega arith)
fits false parts rest h =
    let run = path_run parts rest h.each in
    let begins = path_begins parts rest h in
    let first = begins_from (slice_index (parts_text parts) 0) (path_first parts h) h.first in
    let start : sign_len 64 (slice_index (parts_text parts ++ rest) 0) ≡ 0 = no_sign _ (ap is_word begins ∙ path_first parts h) in
    let P : ℕ → Type 0 = λ k. (begins_name (slice_index (drop k (parts_text parts ++ rest)) 0) ≡ true) × (length (parts_text parts) ≤ k + path_len false (drop k (parts_text parts ++ rest))) in
    subst P (sym start) (ap begins_name begins ∙ first, omega arith)

pub token_fits : (bytes token rest : List ℕ) (l : Lexeme) → class (slice_index bytes 0) ≡ 3 → bytes ≡ token ++ rest → Spells token l → Fits bytes token
token_fits bytes [] rest l h e s = absurd (spelled_some l s)
token_fits bytes (b ∷ token) rest l h e s =
    let i = ident_token (b ∷ token) l (ap (λ s. class (slice_index s 0)) (sym e) ∙ h) s in
    subst (λ bs. Fits bs (b ∷ token)) (sym e) (subst (λ t. Fits (t ++ rest) t) (sym i.3) (fits i.0 i.1 rest i.2))

-- where no name begins, no token begins
pub no_ident : (bytes : List ℕ) → class (slice_index bytes 0) ≡ 3 → begins_name (slice_index (after_sign bytes) 0) ≡ false → BeginsNoToken bytes
no_ident bytes h none = none_by bytes (λ token rest l e s. let begins = (token_fits bytes token rest l h e s).0 in cc)

taken_from : (bytes : List ℕ) (start : ℕ) (sign : Bool) → take start bytes ≡ sign_text sign → begins_name (slice_index (drop start bytes) 0) ≡ true
    → IsIdent (take (start + path_len false (drop start bytes)) bytes)
taken_from bytes start sign e h =
    let b = slice_index (drop start bytes) 0 in
    let path = path_taken (drop start bytes) (begins_word b h) (begins_no_digit b h) in
    let front = take_add start (path_len false (drop start bytes)) bytes in
    (sign, path.0, path.1, front ∙ ap (λ s. s ++ take (path_len false (drop start bytes)) (drop start bytes)) e ∙ ap (λ s. sign_text sign ++ s) path.2)

ident_taken : (b : ℕ) (bytes : List ℕ) (t : Bool) → (b == 64) ≡ t → begins_name (slice_index (after_sign (b ∷ bytes)) 0) ≡ true → IsIdent (take (ident_len (b ∷ bytes)) (b ∷ bytes))
ident_taken b bytes true e h =
    let start : sign_len 64 b ≡ 1 = rw e refl in
    let P : ℕ → Type 0 = λ k. begins_name (slice_index (drop k (b ∷ bytes)) 0) ≡ true → IsIdent (take (k + path_len false (drop k (b ∷ bytes))) (b ∷ bytes)) in
    subst P (sym start) (taken_from (b ∷ bytes) 1 true (ap (λ x. x ∷ []) (eqb-true b 64 e))) h
ident_taken b bytes false e h =
    let start : sign_len 64 b ≡ 0 = rw e refl in
    let P : ℕ → Type 0 = λ k. begins_name (slice_index (drop k (b ∷ bytes)) 0) ≡ true → IsIdent (take (k + path_len false (drop k (b ∷ bytes))) (b ∷ bytes)) in
    subst P (sym start) (taken_from (b ∷ bytes) 0 false refl) h

-- ---- steps of the scan

pub path_word : (suffixed : Bool) (b : ℕ) (rest : List ℕ) → is_word b ≡ true → path_len suffixed (b ∷ rest) ≡ suc (path_len suffixed rest)
path_word suffixed b rest e = rw e refl

pub path_joined : (suffixed : Bool) (b : ℕ) (rest : List ℕ) → is_word b ≡ false → (joins suffixed b && is_word (slice_index rest 0)) ≡ true → path_len suffixed (b ∷ rest) ≡ suc (path_len (b == 58) rest)
path_joined suffixed b rest e f = rw (e, f) refl

pub path_stops : (suffixed : Bool) (b : ℕ) (rest : List ℕ) → is_word b ≡ false → (joins suffixed b && is_word (slice_index rest 0)) ≡ false → path_len suffixed (b ∷ rest) ≡ 0
path_stops suffixed b rest e f = rw (e, f) refl

-- ---- lengths

path_len_step : (suffixed : Bool) (b : ℕ) (bytes : List ℕ) (t u : Bool) → is_word b ≡ t → (joins suffixed b && is_word (slice_index bytes 0)) ≡ u
    → ((s : Bool) → path_len s bytes ≤ length bytes) → path_len suffixed (b ∷ bytes) ≤ suc (length bytes)
path_len_step suffixed b bytes true u e f further = let most = further suffixed in rw e (omega arith)
path_len_step suffixed b bytes false true e f further = let most = further (b == 58) in rw (e, f) (omega arith)
path_len_step suffixed b bytes false false e f further = rw (e, f) (omega arith)

path_len_le : (suffixed : Bool) (bytes : List ℕ) → path_len suffixed bytes ≤ length bytes
path_len_le suffixed [] = omega arith
path_len_le suffixed (b ∷ bytes) = path_len_step suffixed b bytes (is_word b) (joins suffixed b && is_word (slice_index bytes 0)) refl refl (λ s. path_len_le s bytes)

path_len_some : (suffixed : Bool) (bytes : List ℕ) → is_word (slice_index bytes 0) ≡ true → 0 < path_len suffixed bytes
path_len_some suffixed [] h = cc
path_len_some suffixed (b ∷ bytes) h = rw h (omega arith)

sign_short : (b : ℕ) → sign_len 64 b ≤ 1
sign_short b = grind (arith, nat_tests)

-- ---- ASCII

word_small : (b : ℕ) → is_word b ≡ true → b < 128
word_small b h = grind (arith, nat_tests)

words_ascii : (name : List ℕ) → list_all is_word name ≡ true → AreAscii name
words_ascii [] h = tt
words_ascii (b ∷ name) h = let parts = and_parts (is_word b) (list_all is_word name) h in (word_small b parts.0, words_ascii name parts.1)

suffix_ascii : (suffix : Option (List ℕ)) → IfSome suffix IsName → AreAscii (suffix_text suffix)
suffix_ascii None h = tt
suffix_ascii (Some name) h = let small : 58 < 128 = omega arith in (small, words_ascii name h.1)

part_ascii : (part : Part) → IsPart part → AreAscii (part_text part)
part_ascii part h = ascii_append part.name (suffix_text part.suffix) (words_ascii part.name h.name.1) (suffix_ascii part.suffix h.suffix)

dotted_ascii : (parts : List Part) → AllByRecursion IsPart parts → AreAscii (dotted parts)
dotted_ascii [] h = tt
dotted_ascii (part ∷ parts) h = let small : 46 < 128 = omega arith in (small, ascii_append (part_text part) (dotted parts) (part_ascii part h.0) (dotted_ascii parts h.1))

parts_ascii : (parts : List Part) → AllByRecursion IsPart parts → AreAscii (parts_text parts)
parts_ascii [] h = tt
parts_ascii (part ∷ parts) h = ascii_append (part_text part) (dotted parts) (part_ascii part h.0) (dotted_ascii parts h.1)

sign_ascii : (sign : Bool) → AreAscii (sign_text sign)
sign_ascii true = let small : 64 < 128 = omega arith in (small, tt)
sign_ascii false = tt

pub ident_ascii : (bytes : List ℕ) → IsIdent bytes → AreAscii bytes
ident_ascii bytes (sign, parts, h, e) = subst AreAscii (sym e) (ascii_append (sign_text sign) (parts_text parts) (sign_ascii sign) (parts_ascii parts h.each))

-- what is at the front of bytes that begin with `@`, a letter or `_`
pub ident_found : (bytes : List ℕ) → IsUtf8 bytes → class (slice_index bytes 0) ≡ 3 → begins_name (slice_index (after_sign bytes) 0) ≡ true
    → (0 < ident_len bytes) × TakesLongest bytes (ident_len bytes) (Ident (take (ident_len bytes) bytes)) × IsCharBoundary bytes (ident_len bytes)
ident_found [] utf8 h begins = cc
ident_found (b ∷ bytes) utf8 h begins =
    let i = ident_taken b bytes (b == 64) refl begins in
    let rest = after_sign (b ∷ bytes) in
    let most = path_len_le false rest in
    let short = sign_short b in
    let left = length-drop (sign_len 64 b) (b ∷ bytes) in
    let least = path_len_some false rest (begins_word (slice_index rest 0) begins) in
    let within : ident_len (b ∷ bytes) ≤ length (b ∷ bytes) = omega arith in
    let some : 0 < ident_len (b ∷ bytes) = omega arith in (
      some,
      longest_by (b ∷ bytes) (ident_len (b ∷ bytes)) (Ident (take (ident_len (b ∷ bytes)) (b ∷ bytes))) within (refl, i) (λ token rest l e s. (token_fits (b ∷ bytes) token rest l h e s).1),
      boundary_after (b ∷ bytes) (ident_len (b ∷ bytes)) utf8 some within (ident_ascii _ i),
    )

-- `@`, a letter or `_` is no quote, and begins no separator
pub ident_start : (b : ℕ) → class b ≡ 3 → (is_quote b ≡ false) × ((bytes : List ℕ) → slice_index bytes 0 ≡ b → BeginsNoSeparator bytes)
ident_start b h = (no_quote b h, λ bytes e. no_separator bytes (ap is_blank e ∙ no_blank b h) (λ f _. no_slash b h (sym e ∙ f)))
  where
    no_quote : (b : ℕ) → class b ≡ 3 → is_quote b ≡ false
    no_quote b h = grind (arith, nat_tests)

    no_blank : (b : ℕ) → class b ≡ 3 → is_blank b ≡ false
    no_blank b h = grind (arith, nat_tests)

    no_slash : (b : ℕ) → class b ≡ 3 → b ≡ 47 → ⊥
    no_slash b h e = grind (arith, nat_tests)
