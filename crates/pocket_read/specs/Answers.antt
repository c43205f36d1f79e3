-- Answers for which memory may be wanting.
use Rattle.std.specs.Prelude.{◌≡◌, ◌≢◌, Result, Ok, Err, MatchResult}
use Rattle.pocket_read.specs.declared.faults.ReadFault.{ReadFault}
use Rattle.pocket_read.specs.declared.faults.ReadFault.TheVariants as fault

-- an answer whose refusal is told as another
abbrev pub refuse_as : {A E : Type 0} → (E → ReadFault) → Result A E → Result A ReadFault
refuse_as tell (Ok x) = Ok x
refuse_as tell (Err e) = Err (tell e)

-- what a call gives: the answer, as its value is seen, or that memory is wanting
abbrev pub GivesAs : {A B : Type 0} → (A → B) → Result A ReadFault → Result B ReadFault → Type 0
GivesAs seen result answer = MatchResult result (λ x. answer ≡ Ok (seen x)) (λ e. e ≢ fault.Memory → answer ≡ Err e)

abbrev pub Gives : {A : Type 0} → Result A ReadFault → Result A ReadFault → Type 0
Gives = GivesAs (λ x. x)
