use Rattle.std.proofs.Common.{◌∙◌, sym}
use Rattle.std.proofs.lemmas.Bool.{false≢true}
use Rattle.pocket_tables.proofs.RoomLemmas.{drawers_all, drawers_next, no_smaller_twice, no_smaller_itself}
use Rattle.pocket_tables.proofs.reserving.add_drawers.Goals as goal
use Rattle.pocket_tables.proofs.reserving.add_drawers.Goals.{then-is_some+in_ok-add_drawer, else-is_some}

pub loop-change-preserved : goal.loop-change-preserved
loop-change-preserved c =
    let l = c.loop-change in
    let item = c.change-item.result in
    elim c.if-is_some.branch [
      | then-is_some+in_ok-add_drawer w ↦
          rw w.drawers-is (record {
            kept = no_smaller_twice c.args.drawers.now.items l.drawers.items w.add_drawer.new.drawers.items l.invariant.kept w.in_ok-add_drawer.ensures.kept;
            there = drawers_next l.drawers.items w.add_drawer.new.drawers.items c.args.changes.now l.change-index item c.loop-change-test.true c.change-item.is w.in_ok-add_drawer.ensures.kept l.invariant.there (λ some. w.in_ok-add_drawer.ensures.there);
          })
      | else-is_some w ↦
          rw w.drawers-is (record {
            kept = l.invariant.kept;
            there = drawers_next l.drawers.items l.drawers.items c.args.changes.now l.change-index item c.loop-change-test.true c.change-item.is (no_smaller_itself l.drawers.items l.invariant.kept.rising) l.invariant.there
                (λ some. absurd (false≢true (sym w.if-is_some.false ∙ c.is_some.ensures ∙ some)));
          })
    ]

pub returns-clause-there : goal.returns-clause-there
returns-clause-there c = drawers_all c.loop-change.drawers.items c.args.changes.now c.loop-change.change-index c.loop-change-test.false c.loop-change.invariant.there
