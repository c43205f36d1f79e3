use Rattle.std.proofs.Common.{◌∙◌, ◌≡◌, sym, arith}
use Rattle.pocket_tables.specs.Deltas.{rec_changes}
use Rattle.pocket_tables.specs.Keyed.{places_wanted}
use Rattle.std.proofs.Common.{[], ◌∷◌}
use Rattle.pocket_tables.proofs.RoomLemmas.{cut_here, put_here, put_elsewhere, recs_put_next}
use Rattle.pocket_tables.proofs.reserving.recs_put.Goals as goal
use Rattle.pocket_tables.proofs.reserving.recs_put.Goals.{then-eq+then-is_some, else-eq, else-eq-via-then-eq+else-is_some, else-eq-via-else-eq}

pub loop-change-preserved : goal.loop-change-preserved
loop-change-preserved c =
    let item = c.change-item.result in
    let name = c.args.name.now in
    let more = recs_put_next c.args.changes.now name c.loop-change.change-index item c.loop-change-test.true c.change-item.is in
    let before = c.loop-change.invariant.count in
    let few = c.loop-change.invariant.few in
    elim c.if-eq.branch [
      | then-eq+then-is_some w ↦
          let one = put_here item name (sym c.eq.ensures ∙ w.if-eq.true) (sym w.is_some.ensures ∙ w.if-is_some.true) in
          let is = w.count-is in
          record { count = omega (arith, more, before, one, is); few = omega (arith, few, is) }
      | else-eq w ↦
          let none : places_wanted (rec_changes (item ∷ []) name) ≡ 0 = elim w.else-eq.branch [
            | else-eq-via-then-eq+else-is_some v ↦ cut_here item name (sym c.eq.ensures ∙ v.if-eq.true) (sym v.is_some.ensures ∙ v.if-is_some.false)
            | else-eq-via-else-eq v ↦ put_elsewhere item name (sym c.eq.ensures ∙ v.if-eq.false)
          ] in
          let is = w.count-is in
          record { count = omega (arith, more, before, none, is); few = omega (arith, few, is) }
    ]
