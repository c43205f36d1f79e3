-- Answers for which memory may be wanting.
use Rattle.std.specs.Prelude.{Result, Ok}
use Rattle.pocket_types.specs.Chains.{◌>>=◌}
use Rattle.pocket_types.specs.Chains as chains
use Rattle.pocket_types.specs.declared.faults.ResolveFault.{ResolveFault}
use Rattle.pocket_types.specs.declared.faults.ResolveFault.TheVariants.{Memory}

-- what is made of an answer, where there is one
abbrev pub made_of : {A B : Type 0} → (A → B) → Result A ResolveFault → Result B ResolveFault
made_of make answer = answer >>= (λ x. Ok (make x))

-- what a call gives: the answer, as its value is seen, or that memory is wanting
abbrev pub GivesAs : {A B : Type 0} → (A → B) → Result A ResolveFault → Result B ResolveFault → Type 0
GivesAs = chains.GivesAs Memory

abbrev pub Gives : {A : Type 0} → Result A ResolveFault → Result A ResolveFault → Type 0
Gives = GivesAs (λ x. x)
