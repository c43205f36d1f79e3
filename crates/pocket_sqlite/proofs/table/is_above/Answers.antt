use Rattle.std.proofs.Common.{◌≡◌, ◌-◌, length, slice_get, Some, rules}
use Rattle.pocket_types.specs.Order.{IsBefore}
use Rattle.pocket_sqlite.proofs.ReadingLemmas.{below_last}
use Rattle.pocket_sqlite.proofs.table.is_above.Goals as goal

pub returns-in-Some-clause-above : goal.returns-in-Some-clause-above
returns-in-Some-clause-above c = λ yes.
    let last = c.in-Some.last.now in
    let is : slice_get c.args.rows.now (length c.args.rows.now - 1) ≡ Some last = search rules in
    let before : IsBefore last.key c.args.key.now = search rules in
    below_last c.args.key.now c.args.rows.now last c.requires is before
