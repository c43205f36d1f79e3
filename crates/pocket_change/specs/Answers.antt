-- Answers for which memory may be wanting.
use Rattle.std.specs.Prelude.{Result}
use Rattle.pocket_types.specs.Chains.{GivesAs}
use Rattle.pocket_change.specs.declared.fault.ChangeFault.{ChangeFault}
use Rattle.pocket_change.specs.declared.fault.ChangeFault.TheVariants.{Memory}

-- what a call gives: the answer, or that memory is wanting
abbrev pub Gives : {A : Type 0} → Result A ChangeFault → Result A ChangeFault → Type 0
Gives = GivesAs Memory (λ x. x)
