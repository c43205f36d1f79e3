-- Answers for which memory may be wanting.
use Rattle.std.specs.Prelude.{Result}
use Rattle.pocket_types.specs.Chains.{GivesAs}
use Rattle.pocket_check.specs.declared.fault.CheckFault.{CheckFault}
use Rattle.pocket_check.specs.declared.fault.CheckFault.TheVariants.{Memory}

-- what a call gives: the answer, or that memory is wanting
abbrev pub Gives : {A : Type 0} → Result A CheckFault → Result A CheckFault → Type 0
Gives = GivesAs Memory (λ x. x)
