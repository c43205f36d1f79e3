-- A keeper over calls, as a service keeps it.
use Rattle.std.specs.Prelude.{◌≡◌, ℕ, List, [], ◌∷◌, ◌++◌, Option}
use Rattle.std.proofs.Common.{refl, subst}
use Rattle.pocket_types.specs.Causes.{StaysUntold}
use Rattle.pocket_keeper.specs.declared.rows.KeptRow.{KeptRow}
use Rattle.pocket_api.specs.declared.reply.Reply.{Reply}
use Rattle.pocket_api.specs.declared.work.Work.{Work}
use Rattle.pocket_desk.specs.declared.view.Call.{Call}
use Rattle.pocket.specs.Calls.{CountsOver}

-- its count over calls and over more calls
pub counts_more : (calls more : List (Call Work Reply)) (one two three : ℕ) → CountsOver calls one two → CountsOver more two three → CountsOver (calls ++ more) one three
counts_more [] more one two three first second = subst (λ n. CountsOver more n three) first second
counts_more (call ∷ calls) more one two three first second = (first.0, first.1, counts_more calls more first.0 two three first.2 second)

-- what it didn't tell it doesn't tell after more calls
pub untold_none : (rows : Option (List KeptRow)) → StaysUntold rows rows
untold_none rows none = none

pub untold_more : (one two three : Option (List KeptRow)) → StaysUntold one two → StaysUntold two three → StaysUntold one three
untold_more one two three first second none = second (first none)
