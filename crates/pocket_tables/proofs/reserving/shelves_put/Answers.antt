use Rattle.std.proofs.Common.{arith}
use Rattle.pocket_tables.proofs.RoomLemmas.{none_asked, shelves_put_next, some_wanted}
use Rattle.pocket_tables.proofs.reserving.shelves_put.Goals as goal
use Rattle.pocket_tables.proofs.reserving.shelves_put.Goals.{then-is_some, else-is_some}

pub loop-change-preserved : goal.loop-change-preserved
loop-change-preserved c =
    let item = c.change-item.result in
    let more = shelves_put_next c.args.changes.now c.loop-change.change-index item c.loop-change-test.true c.change-item.is in
    let before = c.loop-change.invariant.count in
    let few = c.loop-change.invariant.few in
    elim c.if-is_some.branch [
      | then-is_some w ↦
          let one = some_wanted item.after c.is_some.result c.is_some.ensures w.if-is_some.true in
          let is = w.count-is in
          record { count = omega (arith, more, before, one, is); few = omega (arith, few, is) }
      | else-is_some w ↦
          let none = none_asked item.after c.is_some.result c.is_some.ensures w.if-is_some.false in
          let is = w.count-is in
          record { count = omega (arith, more, before, none, is); few = omega (arith, few, is) }
    ]
