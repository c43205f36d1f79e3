use Rattle.std.proofs.Common.{ap, ◌∙◌, sym}
use Rattle.std.proofs.lemmas.Result.{IfOk-weaker}
use Rattle.pocket_gate.specs.Seen.{seen_world}
use Rattle.pocket_read.specs.Keys.{first_member}
use Rattle.pocket_read.specs.Sorting.{first_or_nobody}
use Rattle.pocket_gate.proofs.ShownLemmas.{held_named}
use Rattle.pocket_read.proofs.keys.first_held.Goals as goal

pub returns-in-Some-clause-member : goal.returns-in-Some-clause-member
returns-in-Some-clause-member g c =
    let v = seen_world c.args.tables.now.world c.args.ask.now in
    let held = held_named v c.args.field.now c.args.cell.now c.in-Some.target.now (sym c.in-Some.ensures) in
    IfOk-weaker c.first_seen.result _ _
    (λ m is. is ∙ ap (first_member v c.in-Some.target.now) c.ids_in.ensures ∙ sym (ap first_or_nobody held))
    c.first_seen.ensures.member
