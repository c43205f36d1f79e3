-- A `.` or `:` that can't stand after an ident is a bad byte at its place.
use Rattle.std.proofs.Common.{◌≡◌, ◌+◌, ◌<◌, ◌&&◌, ◌⊎◌, inl, inr, ℕ, List, [], ◌∷◌, ◌++◌, length, drop, slice_index, Bool, true, false, Some, is_some, refl, sym, ap, ◌∙◌, subst, arith, zero-add, append_assoc}
use Rattle.std.proofs.lemmas.Bool.{and_right}
use Rattle.std.proofs.lemmas.List.{length-append, take_at, drop_at}
use Rattle.std.specs.List.{AllByRecursion}
use Rattle.pocket_types.specs.Names.{is_word}
use Rattle.pocket_types.specs.declared.expr.Part.{Part}
use Rattle.pocket_types.specs.declared.faults.FilterFault.TheVariants.{BadByte}
use Rattle.pocket_filter.specs.Tokens.{Ident}
use Rattle.pocket_filter.specs.Lexing.{part_text, IsPart, dotted, parts_text, ident_text, ArePath, Spells, TakesLongest, is_quote, is_blank, BeginsNoToken, BeginsNoSeparator, Lexes, token, no_token}
use Rattle.pocket_filter.specs.Scanning.{class, sign_len, joins, path_len, mark_of}
use Rattle.pocket_filter.specs.Stray.{last_suffixed, IsStray, StrayMarksAreBadBytes}
use Rattle.pocket_filter.proofs.Fronts.{longest_by}
use Rattle.pocket_filter.proofs.Idents.{part_run, path_begins, no_sign, ident_len, token_fits, path_stops}
use Rattle.pocket_filter.proofs.Marks.{no_mark}
use Rattle.pocket_filter.proofs.Separators.{no_separator}
use Rattle.pocket_filter.proofs.Spelled.{class_is, part_first, path_first}

dotted_exact : (suffixed : Bool) (parts : List Part) (rest : List ℕ) → AllByRecursion IsPart parts → path_len suffixed (dotted parts ++ rest) ≡ length (dotted parts) + path_len (last_suffixed suffixed parts) rest
dotted_exact suffixed [] rest h = sym (zero-add (path_len suffixed rest))
dotted_exact suffixed (part ∷ parts) rest h =
    let run = part_run part (dotted parts ++ rest) h.0 in
    let more = dotted_exact (is_some part.suffix) parts rest h.1 in
    let long = length-append (part_text part) (dotted parts) in
    let first = part_first part (dotted parts ++ rest) h.0 in
    let whole = append_assoc (part_text part) (dotted parts) rest in
    rw (whole, first) (omega arith)

path_exact : (parts : List Part) (rest : List ℕ) → ArePath parts → path_len false (parts_text parts ++ rest) ≡ length (parts_text parts) + path_len (last_suffixed false parts) rest
path_exact [] rest h = let some : 0 < 0 = h.some in absurd (omega arith)
path_exact (part ∷ parts) rest h =
    let run = part_run part (dotted parts ++ rest) h.each.0 in
    let more = dotted_exact (is_some part.suffix) parts rest h.each.1 in
    let long = length-append (part_text part) (dotted parts) in
    let whole = append_assoc (part_text part) (dotted parts) rest in
    rw whole (omega arith)

-- ---- a mark

stray_mark : (parts : List Part) (mark : ℕ) (rest : List ℕ) → IsStray parts mark rest → (mark ≡ 46) ⊎ (mark ≡ 58)
stray_mark parts mark rest (inl s) = s.0
stray_mark parts mark rest (inr s) = inr s.0

mark_word : (mark : ℕ) → (mark ≡ 46) ⊎ (mark ≡ 58) → is_word mark ≡ false
mark_word mark (inl e) = ap is_word e
mark_word mark (inr e) = ap is_word e

stray_stops : (parts : List Part) (mark : ℕ) (rest : List ℕ) → IsStray parts mark rest → path_len (last_suffixed false parts) (mark ∷ rest) ≡ 0
stray_stops parts mark rest (inl s) = path_stops (last_suffixed false parts) mark rest (mark_word mark s.0) (and_right (joins (last_suffixed false parts) mark) (is_word (slice_index rest 0)) s.1)
stray_stops parts mark rest (inr s) =
    path_stops (last_suffixed false parts) mark rest (mark_word mark (inr s.0)) (ap (λ b. joins (last_suffixed false parts) b && is_word (slice_index rest 0)) s.0 ∙ ap (λ t. joins t 58 && is_word (slice_index rest 0)) s.1)

mark_token : (mark : ℕ) (rest : List ℕ) → (mark ≡ 46) ⊎ (mark ≡ 58) → BeginsNoToken (mark ∷ rest)
mark_token mark rest (inl e) = no_mark (mark ∷ rest) (ap class e) (ap (λ b. mark_of b (slice_index rest 0) (slice_index rest 1)) e)
mark_token mark rest (inr e) = no_mark (mark ∷ rest) (ap class e) (ap (λ b. mark_of b (slice_index rest 0) (slice_index rest 1)) e)

mark_separator : (mark : ℕ) (rest : List ℕ) → (mark ≡ 46) ⊎ (mark ≡ 58) → BeginsNoSeparator (mark ∷ rest)
mark_separator mark rest (inl e) = no_separator (mark ∷ rest) (ap is_blank e) (λ f _. absurd (omega arith))
mark_separator mark rest (inr e) = no_separator (mark ∷ rest) (ap is_blank e) (λ f _. absurd (omega arith))

mark_quote : (mark : ℕ) → (mark ≡ 46) ⊎ (mark ≡ 58) → is_quote mark ≡ false
mark_quote mark (inl e) = ap is_quote e
mark_quote mark (inr e) = ap is_quote e

-- ---- the ident before it

stray_len : (sign : Bool) (parts : List Part) (mark : ℕ) (rest : List ℕ) → ArePath parts → IsStray parts mark rest → ident_len (ident_text sign parts ++ mark ∷ rest) ≡ length (ident_text sign parts)
stray_len true parts mark rest h s =
    let run = path_exact parts (mark ∷ rest) h in
    let stops = stray_stops parts mark rest s in
    omega arith
stray_len false parts mark rest h s =
    let run = path_exact parts (mark ∷ rest) h in
    let stops = stray_stops parts mark rest s in
    let start : sign_len 64 (slice_index (parts_text parts ++ mark ∷ rest) 0) ≡ 0 = no_sign _ (ap is_word (path_begins parts (mark ∷ rest) h) ∙ path_first parts h) in
    let P : ℕ → Type 0 = λ k. k + path_len false (drop k (parts_text parts ++ mark ∷ rest)) ≡ length (parts_text parts) in
    subst P (sym start) (omega arith)

ident_begins : (sign : Bool) (parts : List Part) (rest : List ℕ) → ArePath parts → slice_index (ident_text sign parts ++ rest) 0 ≡ slice_index (ident_text sign parts) 0
ident_begins true parts rest h = refl
ident_begins false parts rest h = path_begins parts rest h

stray_longest : (sign : Bool) (parts : List Part) (mark : ℕ) (rest : List ℕ) → ArePath parts → IsStray parts mark rest
    → TakesLongest (ident_text sign parts ++ mark ∷ rest) (length (ident_text sign parts)) (Ident (ident_text sign parts))
stray_longest sign parts mark rest h s =
    let text = ident_text sign parts in
    let bytes = text ++ mark ∷ rest in
    let spelled : Spells text (Ident text) = (refl, (sign, parts, h, refl)) in
    let kind = ap class (ident_begins sign parts (mark ∷ rest) h) ∙ class_is text (Ident text) spelled in
    let all = length-append text (mark ∷ rest) in
    let len = stray_len sign parts mark rest h s in
    longest_by bytes (length text) (Ident text) (omega arith) (subst (λ t. Spells t (Ident text)) (sym (take_at text (mark ∷ rest) (length text) refl)) spelled)
    (λ other tail l e f. let fits = (token_fits bytes other tail l kind e f).1 in omega arith)

-- the ident, and then the bad byte
pub stray_read : StrayMarksAreBadBytes
stray_read at sign parts mark rest h s =
    let text = ident_text sign parts in
    let e = stray_mark parts mark rest s in
    let bad = no_token (mark_quote mark e) (mark_separator mark rest e) (mark_token mark rest e) in
    token (stray_longest sign parts mark rest h s) tt (subst (λ bs. Lexes (at + length text) bs [] (Some (BadByte (at + length text)))) (sym (drop_at text (mark ∷ rest) (length text) refl)) bad)
