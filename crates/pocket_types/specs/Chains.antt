-- Answers that are a value or a refusal, one after another: the first refusal counts.
use Rattle.std.specs.Prelude.{◌≡◌, ◌≢◌, Bool, true, false, List, [], ◌∷◌, Option, Some, None, Result, Ok, Err, MatchResult}

infixl 10 ◌>>=◌
-- what follows an answer: its refusal is the refusal of both
abbrev pub ◌>>=◌ : {A B E : Type 0} → Result A E → (A → Result B E) → Result B E
(Ok x) >>= next = next x
(Err e) >>= next = Err e

-- a refusal where a test holds
abbrev pub refuse : {E : Type 0} → Bool → E → Result (Unit {0}) E
refuse true e = Err e
refuse false e = Ok tt

-- what is there, or a refusal
abbrev pub or_refuse : {A E : Type 0} → Option A → E → Result A E
or_refuse (Some x) e = Ok x
or_refuse None e = Err e

-- the same answer, its refusal in the words of the layer above
abbrev pub refuse_as : {A E F : Type 0} → (E → F) → Result A E → Result A F
refuse_as tell (Ok x) = Ok x
refuse_as tell (Err e) = Err (tell e)

-- the answers to each item, or the refusal of the first that has one
abbrev pub each : {A B E : Type 0} → (A → Result B E) → List A → Result (List B) E
each ask [] = Ok []
each ask (x ∷ xs) = ask x >>= λ y. each ask xs >>= λ ys. Ok (y ∷ ys)

-- what a call gives: the answer, as its value is seen, or that memory is wanting, for which there is this refusal
abbrev pub GivesAs : {A B E : Type 0} → E → (A → B) → Result A E → Result B E → Type 0
GivesAs memory seen result answer = MatchResult result (λ x. answer ≡ Ok (seen x)) (λ e. e ≢ memory → answer ≡ Err e)
