use Rattle.std.proofs.Common.{arith}
use Rattle.pocket_read.proofs.LawLemmas.{size_is}
use Rattle.pocket_read.proofs.laws.pages_are_clamped.Goals as goal

pub returns-clause-number : goal.returns-clause-number
returns-clause-number c asked = record { first = omega arith; given = λ least. omega (arith, least) }

pub returns-clause-size : goal.returns-clause-size
returns-clause-size c asked = size_is asked
