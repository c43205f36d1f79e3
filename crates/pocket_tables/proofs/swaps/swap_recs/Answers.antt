use Rattle.std.proofs.Common.{◌∙◌, ap, get_or, set}
use Rattle.pocket_tables.proofs.StepLemmas.{RecStep, next_recs, next_swapped, drawers_rising, drawers_room}
use Rattle.pocket_tables.proofs.swaps.swap_recs.Goals as goal

pub swap_rec-requires-clause-rising : goal.swap_rec-requires-clause-rising
swap_rec-requires-clause-rising c =
    let l = c.loop-change in
    let x = get_or l.changes l.change-index c.change-item.result in
    let step : RecStep c.args.drawers.now l.drawers c.args.changes.now l.changes l.change-index x = record {
      rising = c.requires.rising;
      numbered = c.requires.numbered;
      distinct = c.requires.distinct;
      within = c.loop-change-test.true;
      swapped = l.invariant.swapped;
      is_now = l.invariant.changes;
      in_place = ap (λ d. get_or l.changes l.change-index d) c.change-item.is;
    } in
    drawers_rising c.args.drawers.now l.drawers c.args.changes.now l.changes l.change-index x step

pub swap_rec-requires-clause-room : goal.swap_rec-requires-clause-room
swap_rec-requires-clause-room c =
    let l = c.loop-change in
    let x = get_or l.changes l.change-index c.change-item.result in
    let step : RecStep c.args.drawers.now l.drawers c.args.changes.now l.changes l.change-index x = record {
      rising = c.requires.rising;
      numbered = c.requires.numbered;
      distinct = c.requires.distinct;
      within = c.loop-change-test.true;
      swapped = l.invariant.swapped;
      is_now = l.invariant.changes;
      in_place = ap (λ d. get_or l.changes l.change-index d) c.change-item.is;
    } in
    drawers_room c.args.drawers.now l.drawers c.args.changes.now l.changes l.change-index x step

pub loop-change-preserved : goal.loop-change-preserved
loop-change-preserved c =
    let l = c.loop-change in
    let x = get_or l.changes l.change-index c.change-item.result in
    let step : RecStep c.args.drawers.now l.drawers c.args.changes.now l.changes l.change-index x = record {
      rising = c.requires.rising;
      numbered = c.requires.numbered;
      distinct = c.requires.distinct;
      within = c.loop-change-test.true;
      swapped = l.invariant.swapped;
      is_now = l.invariant.changes;
      in_place = ap (λ d. get_or l.changes l.change-index d) c.change-item.is;
    } in
    record {
      swapped = next_swapped c.args.drawers.now l.drawers c.args.changes.now l.changes l.change-index x step c.swap_rec.new.drawers c.swap_rec.ensures.swapped;
      changes = ap (set l.changes l.change-index) c.swap_rec.ensures.change ∙ next_recs c.args.drawers.now l.drawers c.args.changes.now l.changes l.change-index x step;
    }
