-- The fields that a body sends, read one after another.
use Rattle.std.proofs.Common.{◌≡◌, ◌≢◌, ◌<◌, ℕ, zero, suc, min, List, [], ◌∷◌, ◌++◌, length, drop, get_or, zip, filter_map, Option, Some, None, Result, Ok, Err, MatchResult, append-nil, append_assoc, refl, sym, ap, ◌∙◌, arith}
use Rattle.std.specs.Option.{option_to_list}
use Rattle.pocket_types.specs.Chains.{◌>>=◌, each}
use Rattle.pocket_types.specs.Sound.{AllFit, Fits}
use Rattle.pocket_types.specs.declared.json.Member.{Member}
use Rattle.pocket_types.specs.declared.records.Cell.{Cell}
use Rattle.pocket_types.specs.declared.records.Collection.{Collection}
use Rattle.pocket_types.specs.declared.records.Field.{Field}
use Rattle.pocket_types.specs.declared.requests.Caller.{Caller}
use Rattle.pocket_types.specs.declared.requests.Sent.{Sent}
use Rattle.pocket_check.specs.Answers.{Gives}
use Rattle.pocket_check.specs.Bodies.{field_sent, sent_fields}
use Rattle.pocket_check.specs.declared.fault.CheckFault.{CheckFault}
use Rattle.pocket_check.specs.declared.fault.CheckFault.TheVariants.{Memory}
use Rattle.pocket_check.proofs.AnswerLemmas.{not_ok}

same_err : {U : Type 0} (x y : CheckFault) → ◌≡◌ {A = Result U CheckFault} (Err x) (Err y) → x ≡ y
same_err x y e = cc

-- those sent so far, and what is sent of the fields that are left
abbrev pub sent_on : Caller → List Member → List Field → List Cell → List Sent → Result (List Sent) CheckFault
sent_on who ms fields old sent = each (field_sent who ms) (zip fields old) >>= λ found. Ok (sent ++ filter_map (λ x. x) found)

joined : (s : Option Sent) (sent : List Sent) (r : Result (List (Option Sent)) CheckFault)
    → ((r >>= λ ys. Ok (s ∷ ys)) >>= λ found. Ok (sent ++ filter_map (λ x. x) found)) ≡ (r >>= λ found. Ok ((sent ++ option_to_list s) ++ filter_map (λ x. x) found))
joined None sent (Ok ys) = ap (λ z. Ok (z ++ filter_map (λ x. x) ys)) (sym (append-nil sent))
joined (Some s) sent (Ok ys) = ap (λ z. Ok z) (sym (append_assoc sent (s ∷ []) (filter_map (λ x. x) ys)))
joined s sent (Err e) = refl

-- a field more, as it is sent
pub sent_more : (who : Caller) (ms : List Member) (fields : List Field) (old : List Cell) (n : ℕ) (f : Field) (c : Cell) (s : Option Sent) (sent : List Sent)
    → n < length fields → n < length old → f ≡ get_or fields n f → c ≡ get_or old n c → field_sent who ms (f, c) ≡ Ok s
    → sent_on who ms (drop n fields) (drop n old) sent ≡ sent_on who ms (drop (suc n) fields) (drop (suc n) old) (sent ++ option_to_list s)
sent_more who ms [] old n f c s sent h k e d is = absurd (omega arith)
sent_more who ms (g ∷ fields) [] n f c s sent h k e d is = absurd (omega arith)
sent_more who ms (g ∷ fields) (b ∷ old) zero f c s sent h k e d is =
    ap (λ x. (field_sent who ms x >>= λ y. each (field_sent who ms) (zip fields old) >>= λ ys. Ok (y ∷ ys)) >>= λ found. Ok (sent ++ filter_map (λ x. x) found)) (sym (same_pair e d))
    ∙ ap (λ r. (r >>= λ y. each (field_sent who ms) (zip fields old) >>= λ ys. Ok (y ∷ ys)) >>= λ found. Ok (sent ++ filter_map (λ x. x) found)) is
    ∙ joined s sent (each (field_sent who ms) (zip fields old))
  where
    same_pair : f ≡ g → c ≡ b → ◌≡◌ {A = Field × Cell} (f, c) (g, b)
    same_pair e d = rw (e, d) refl
sent_more who ms (g ∷ fields) (b ∷ old) (suc n) f c s sent h k e d is = sent_more who ms fields old n f c s sent (omega arith) (omega arith) e d is

-- the first field with a fault
pub sent_fault : (who : Caller) (ms : List Member) (fields : List Field) (old : List Cell) (n : ℕ) (f : Field) (c : Cell) (fault : CheckFault) (sent : List Sent)
    → n < length fields → n < length old → f ≡ get_or fields n f → c ≡ get_or old n c → field_sent who ms (f, c) ≡ Err fault
    → sent_on who ms (drop n fields) (drop n old) sent ≡ Err fault
sent_fault who ms [] old n f c fault sent h k e d is = absurd (omega arith)
sent_fault who ms (g ∷ fields) [] n f c fault sent h k e d is = absurd (omega arith)
sent_fault who ms (g ∷ fields) (b ∷ old) zero f c fault sent h k e d is =
    ap (λ x. (field_sent who ms x >>= λ y. each (field_sent who ms) (zip fields old) >>= λ ys. Ok (y ∷ ys)) >>= λ found. Ok (sent ++ filter_map (λ x. x) found)) (sym (same_pair e d))
    ∙ ap (λ r. (r >>= λ y. each (field_sent who ms) (zip fields old) >>= λ ys. Ok (y ∷ ys)) >>= λ found. Ok (sent ++ filter_map (λ x. x) found)) is
  where
    same_pair : f ≡ g → c ≡ b → ◌≡◌ {A = Field × Cell} (f, c) (g, b)
    same_pair e d = rw (e, d) refl
sent_fault who ms (g ∷ fields) (b ∷ old) (suc n) f c fault sent h k e d is = sent_fault who ms fields old n f c fault sent (omega arith) (omega arith) e d is

-- at the end nothing is left
pub sent_end : (who : Caller) (ms : List Member) (fields : List Field) (old : List Cell) (n : ℕ) (sent : List Sent) → n ≡ min (length fields) (length old)
    → sent_on who ms (drop n fields) (drop n old) sent ≡ Ok sent
sent_end who ms [] old zero sent e = ap (λ z. Ok z) (append-nil sent)
sent_end who ms [] old (suc n) sent e = absurd (omega arith)
sent_end who ms (f ∷ fields) [] zero sent e = ap (λ z. Ok z) (append-nil sent)
sent_end who ms (f ∷ fields) [] (suc n) sent e = absurd (omega arith)
sent_end who ms (f ∷ fields) (c ∷ old) zero sent e = absurd (omega arith)
sent_end who ms (f ∷ fields) (c ∷ old) (suc n) sent e = sent_end who ms fields old n sent (omega arith)

-- each cell of cells that fit fits its field
pub fits_at : (fields : List Field) (old : List Cell) (n : ℕ) (f : Field) (c : Cell) → n < length fields → n < length old → f ≡ get_or fields n f → c ≡ get_or old n c
    → AllFit fields old → Fits f.kind c
fits_at [] old n f c h k e d fit = absurd (omega arith)
fits_at (g ∷ fields) [] n f c h k e d fit = absurd (omega arith)
fits_at (g ∷ fields) (b ∷ old) zero f c h k e d fit = rw (e, d) fit.0
fits_at (g ∷ fields) (b ∷ old) (suc n) f c h k e d fit = fits_at fields old n f c (omega arith) (omega arith) e d fit.1

-- nothing is sent at first
pub sent_begin : (who : Caller) (collection : Collection) (old : List Cell) (ms : List Member) → sent_fields who collection old ms ≡ sent_on who ms collection.fields old []
unfolding sent_fields
sent_begin who collection old ms = refl

-- ---- what is added

-- what adding a field that is read comes to
abbrev pub IsPushed : {U : Type 0} → Result (Option Sent) CheckFault → Result U CheckFault → List Sent → List Sent → Type 0
IsPushed found result old new = MatchResult found (λ s. MatchResult result (λ _. new ≡ old ++ option_to_list s) (λ e. e ≡ Memory)) (λ e. result ≡ Err e)

-- what was added is what the field is sent as
pub pushed : {U : Type 0} (found answer : Result (Option Sent) CheckFault) (result : Result U CheckFault) (u : U) (old new : List Sent)
    → Gives found answer → IsPushed found result old new → result ≡ Ok u → (s : Option Sent) × (answer ≡ Ok s) × (new ≡ old ++ option_to_list s)
pushed (Ok s) answer (Ok v) u old new gives h e = (s, gives, h)
pushed (Ok s) answer (Err x) u old new gives h e = absurd (not_ok x u e)
pushed (Err x) answer result u old new gives h e = absurd (not_ok x u (sym h ∙ e))

-- where nothing was added, the field has this fault, or memory is wanting
pub not_pushed : {U : Type 0} (found answer : Result (Option Sent) CheckFault) (result : Result U CheckFault) (fault : CheckFault) (old new : List Sent)
    → Gives found answer → IsPushed found result old new → result ≡ Err fault → fault ≢ Memory → answer ≡ Err fault
not_pushed (Ok s) answer (Ok v) fault old new gives h e other = absurd (not_ok fault v (sym e))
not_pushed (Ok s) answer (Err x) fault old new gives h e other = absurd (other (sym (same_err x fault e) ∙ h))
not_pushed (Err x) answer result fault old new gives h e other =
    let same = same_err x fault (sym h ∙ e) in
    gives (λ memory. other (sym same ∙ memory)) ∙ ap (λ y. Err y) same
