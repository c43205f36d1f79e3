-- Where a text ends.
use Rattle.std.proofs.Common.{◌≡◌, ◌≢◌, ◌<◌, ◌||◌, ◌==◌, ◌+◌, ℕ, zero, suc, List, [], ◌∷◌, ◌++◌, length, take, drop, get_or, Bool, true, false, Some, None, refl, sym, ap, ◌∙◌, arith, append_assoc, subst, ne_eqb, eq-eqb, take-append-drop, zero-add, slice_index}
use Rattle.std.proofs.lemmas.Bool.{eqb-true, eqb-false, or_parts}
use Rattle.std.proofs.lemmas.Bool.Decides.{nat_tests}
use Rattle.std.proofs.lemmas.List.{take_more, length-take-le, length_push}
use Rattle.std.proofs.lemmas.Str.{IsCharBoundary-after_ascii}
use Rattle.std.specs.Str.{IsUtf8, IsCharBoundary}
use Rattle.pocket_filter.specs.Tokens.{Lexeme, Text}
use Rattle.pocket_filter.specs.Lexing.{is_quote, Gives, nothing, itself, escaped, backslash, IsText, Spells, TakesLongest, BeginsNoToken}
use Rattle.pocket_filter.specs.Scanning.{closing}
use Rattle.pocket_filter.proofs.Spelled.{class_of, class_quote, class_is, spelled_some}

-- the backslash that stands before what follows
abbrev before : Bool → List ℕ → List ℕ
before true bytes = 92 ∷ bytes
before false bytes = bytes

-- the first k bytes stand between quotes, and the closing one follows
record Closes (quote : ℕ) (escape : Bool) (bytes : List ℕ) (k : ℕ) : Type 0 where
  within : k < length bytes
  at_quote : get_or bytes k 0 ≡ quote
  gives : (given : List ℕ) × Gives quote (before escape (take k bytes)) given

abbrev ClosesFrom : ℕ → Bool → List ℕ → ℕ → ℕ → Type 0
ClosesFrom quote escape bytes at found = (k : ℕ) × (found ≡ at + k) × Closes quote escape bytes k

escape_gives : (quote b : ℕ) (written given : List ℕ) → Gives quote written given → (all : List ℕ) × Gives quote (92 ∷ b ∷ written) all
escape_gives quote b written given g = go (b == quote || b == 92) refl
  where
    go : (t : Bool) → (b == quote || b == 92) ≡ t → (all : List ℕ) × Gives quote (92 ∷ b ∷ written) all
    go true e = (b ∷ given, escaped e g)
    go false e =
        let parts = or_parts (b == quote) (b == 92) e in
        (92 ∷ b ∷ given, backslash (eqb-false b quote parts.0) (eqb-false b 92 parts.1) g)

after_escape : (quote b : ℕ) (bytes : List ℕ) (at found : ℕ) → ClosesFrom quote false bytes (at + 1) found → ClosesFrom quote true (b ∷ bytes) at found
after_escape quote b bytes at found (k, e, r) =
    (suc k, omega arith, record { within = let w = r.within in omega arith; at_quote = r.at_quote; gives = escape_gives quote b (take k bytes) r.gives.0 r.gives.1 })

one_more : (quote b : ℕ) (bytes : List ℕ) (escape : Bool) → b ≢ quote → (b == 92) ≡ escape → (k : ℕ) → Closes quote escape bytes k → Closes quote false (b ∷ bytes) (suc k)
one_more quote b bytes true apart e k r =
    let same = eqb-true b 92 e in
    record { within = let w = r.within in omega arith; at_quote = r.at_quote; gives = (r.gives.0, subst (λ x. Gives quote (x ∷ take k bytes) r.gives.0) (sym same) r.gives.1) }
one_more quote b bytes false apart e k r =
    record { within = let w = r.within in omega arith; at_quote = r.at_quote; gives = (b ∷ r.gives.0, itself apart (eqb-false b 92 e) r.gives.1) }

not_closed : (quote b : ℕ) (bytes : List ℕ) (at found : ℕ) (t : Bool) → (b == quote) ≡ t
    → closing quote false at (b ∷ bytes) ≡ Some found
    → ((escape : Bool) → closing quote escape (at + 1) bytes ≡ Some found → ClosesFrom quote escape bytes (at + 1) found)
    → ClosesFrom quote false (b ∷ bytes) at found
not_closed quote b bytes at found true e h further =
    let here : Some at ≡ Some found = rw e at h in
    let same : at ≡ found = cc in
    (0, omega arith, record { within = omega arith; at_quote = eqb-true b quote e; gives = ([], nothing) })
not_closed quote b bytes at found false e h further =
    let there : closing quote (b == 92) (at + 1) bytes ≡ Some found = rw e at h in
    let r = further (b == 92) there in
    (suc r.0, (let same = r.1 in omega arith), one_more quote b bytes (b == 92) (eqb-false b quote e) refl r.0 r.2)

closes : (quote : ℕ) (escape : Bool) (bytes : List ℕ) (at found : ℕ) → closing quote escape at bytes ≡ Some found → ClosesFrom quote escape bytes at found
closes quote escape [] at found h = cc
closes quote true (b ∷ bytes) at found h = after_escape quote b bytes at found (closes quote false bytes (at + 1) found h)
closes quote false (b ∷ bytes) at found h = not_closed quote b bytes at found (b == quote) refl h (λ escape e. closes quote escape bytes (at + 1) found e)

-- the closing quote is found where a text ends
pub closing_at : {quote : ℕ} {written given : List ℕ} → quote ≢ 92 → Gives quote written given → (at : ℕ) (rest : List ℕ) → closing quote false at (written ++ quote ∷ rest) ≡ Some (at + length written)
closing_at {quote} apart nothing at rest = rw (eq-eqb quote quote refl) (let same : at ≡ at + 0 = omega arith in ap Some same)
closing_at {quote} apart (itself {b} {written} n m g) at rest =
    let same : at + 1 + length written ≡ at + suc (length written) = omega arith in
    rw (ne_eqb b quote n, ne_eqb b 92 m, closing_at apart g (at + 1) rest) (ap Some same)
closing_at {quote} apart (escaped {b} {written} h g) at rest =
    let same : at + 1 + 1 + length written ≡ at + suc (suc (length written)) = omega arith in
    rw (ne_eqb 92 quote (λ e. apart (sym e)), closing_at apart g (at + 1 + 1) rest) (ap Some same)
closing_at {quote} apart (backslash {b} {written} n m g) at rest =
    let same : at + 1 + 1 + length written ≡ at + suc (suc (length written)) = omega arith in
    rw (ne_eqb 92 quote (λ e. apart (sym e)), closing_at apart g (at + 1 + 1) rest) (ap Some same)

-- ---- tokens

-- a quote begins texts alone
text_token : (quote : ℕ) (bytes : List ℕ) (l : Lexeme) → is_quote quote ≡ true → Spells (quote ∷ bytes) l → IsText (quote ∷ bytes)
text_token quote bytes (Text written) h e = e.1
text_token quote bytes l h e =
    let apart : 1 ≡ class_of l = sym (class_quote quote h) ∙ class_is (quote ∷ bytes) l e in
    absurd (omega arith)

quote_ascii : (quote : ℕ) → is_quote quote ≡ true → quote < 128
quote_ascii quote h = grind (arith, nat_tests)

no_backslash : (quote : ℕ) → is_quote quote ≡ true → quote ≢ 92
no_backslash quote h e = grind (arith, nat_tests)

closing_found : (quote : ℕ) (rest written given tail : List ℕ) → quote ≢ 92 → Gives quote written given → rest ≡ written ++ quote ∷ tail → closing quote false 0 rest ≡ Some (length written)
closing_found quote rest written given tail apart g e = ap (closing quote false 0) e ∙ closing_at apart g 0 tail ∙ ap Some (zero-add (length written))

-- a text at the front ends where the closing quote is found
text_closes : (quote : ℕ) (rest : List ℕ) (m : ℕ) (l : Lexeme) → is_quote quote ≡ true → Spells (take m (quote ∷ rest)) l → (k : ℕ) × (closing quote false 0 rest ≡ Some k) × (length (take m (quote ∷ rest)) ≡ k + 2)
text_closes quote rest zero l h s = absurd (spelled_some l s)
text_closes quote rest (suc m) l h s =
    let t = text_token quote (take m rest) l h s in
    let opens : quote ≡ t.0 = cc (t.5) in
    let closed : take m rest ≡ t.1 ++ t.0 ∷ [] = cc (t.5) in
    let whole : rest ≡ t.1 ++ t.0 ∷ drop m rest = sym (take-append-drop m rest) ∙ ap (λ s. s ++ drop m rest) closed ∙ append_assoc t.1 (t.0 ∷ []) (drop m rest) in
    let found = closing_found t.0 rest t.1 t.2 (drop m rest) (no_backslash t.0 t.3) t.4 whole in
    let long : length (take m rest) ≡ length t.1 + 1 = ap length closed ∙ length_push t.1 t.0 in
    (length t.1, subst (λ q. closing q false 0 rest ≡ Some (length t.1)) (sym opens) found, omega arith)

no_text : (quote : ℕ) (rest : List ℕ) → is_quote quote ≡ true → closing quote false 0 rest ≡ None → BeginsNoToken (quote ∷ rest)
no_text quote rest h none m l s = let t = text_closes quote rest m l h s in cc

text_longest : (quote : ℕ) (rest : List ℕ) (k : ℕ) → is_quote quote ≡ true → closing quote false 0 rest ≡ Some k → Closes quote false rest k → TakesLongest (quote ∷ rest) (k + 2) (Text (take (k + 2) (quote ∷ rest)))
text_longest quote rest k h found r =
    let within = r.within in
    let one : take (k + 2) (quote ∷ rest) ≡ quote ∷ take (k + 1) rest = (let more : k + 2 ≡ suc (k + 1) = omega arith in ap (λ n. take n (quote ∷ rest)) more) in
    let last : take (k + 1) rest ≡ take k rest ++ quote ∷ [] = take_more rest k 0 within ∙ ap (λ b. take k rest ++ b ∷ []) r.at_quote in
    record {
      within = omega arith;
      spelled = (refl, (quote, take k rest, r.gives.0, h, r.gives.1, one ∙ ap (λ s. quote ∷ s) last));
      longest = λ m l short s.
          let t = text_closes quote rest m l h s in
          let same : k ≡ t.0 = cc in
          let long = t.2 in
          let all = length-take-le m (quote ∷ rest) short in
          omega arith;
    }

-- what is at the front of bytes that begin with a quote
pub text_found : (bytes : List ℕ) (k : ℕ) → IsUtf8 bytes → is_quote (slice_index bytes 0) ≡ true → closing (slice_index bytes 0) false 0 (drop 1 bytes) ≡ Some k
    → TakesLongest bytes (k + 2) (Text (take (k + 2) bytes)) × IsCharBoundary bytes (k + 2)
text_found [] k utf8 h found = cc
text_found (quote ∷ rest) k utf8 h found =
    let r = closes quote false rest 0 k found in
    let same : k ≡ r.0 = r.1 ∙ zero-add r.0 in
    let closed = subst (Closes quote false rest) (sym same) r.2 in
    let within = closed.within in
    let ascii : get_or rest k 0 < 128 = rw closed.at_quote (quote_ascii quote h) in
    let at_last : get_or (quote ∷ rest) (k + 1) 0 < 128 = (let more : k + 1 ≡ suc k = omega arith in rw more ascii) in
    let boundary = IsCharBoundary-after_ascii (quote ∷ rest) (k + 1) utf8 (omega arith) at_last in
    let more : k + 1 + 1 ≡ k + 2 = omega arith in
    (text_longest quote rest k h found closed, subst (IsCharBoundary (quote ∷ rest)) more boundary)

pub text_open : (bytes : List ℕ) → is_quote (slice_index bytes 0) ≡ true → closing (slice_index bytes 0) false 0 (drop 1 bytes) ≡ None → BeginsNoToken bytes
text_open [] h none = cc
text_open (quote ∷ rest) h none = no_text quote rest h none
