use Rattle.std.proofs.Common.{◌∙◌, ap, get_or, set, vec_capacity}
use Rattle.pocket_tables.proofs.StepLemmas.{ShelfStep, collections_rising, next_collections, next_changes}
use Rattle.pocket_tables.proofs.swaps.swap_shelves.Goals as goal

pub swap_shelf-requires-clause-rises : goal.swap_shelf-requires-clause-rises
swap_shelf-requires-clause-rises c =
    let l = c.loop-change in
    let x = get_or l.changes l.change-index c.change-item.result in
    let step : ShelfStep c.args.collections.now.items l.collections.items c.args.changes.now l.changes (vec_capacity c.args.collections.now) l.change-index x = record {
      rising = c.requires.rises;
      named = c.requires.named;
      distinct = c.requires.distinct;
      within = c.loop-change-test.true;
      so_far = l.invariant.so_far;
      is_now = l.invariant.changes;
      in_place = ap (λ d. get_or l.changes l.change-index d) c.change-item.is;
    } in
    collections_rising c.args.collections.now.items l.collections.items c.args.changes.now l.changes (vec_capacity c.args.collections.now) l.change-index x step

pub loop-change-preserved : goal.loop-change-preserved
loop-change-preserved c =
    let l = c.loop-change in
    let x = get_or l.changes l.change-index c.change-item.result in
    let step : ShelfStep c.args.collections.now.items l.collections.items c.args.changes.now l.changes (vec_capacity c.args.collections.now) l.change-index x = record {
      rising = c.requires.rises;
      named = c.requires.named;
      distinct = c.requires.distinct;
      within = c.loop-change-test.true;
      so_far = l.invariant.so_far;
      is_now = l.invariant.changes;
      in_place = ap (λ d. get_or l.changes l.change-index d) c.change-item.is;
    } in
    record {
      so_far = next_collections c.args.collections.now.items l.collections.items c.args.changes.now l.changes (vec_capacity c.args.collections.now) l.change-index x step c.swap_shelf.new.collections.items c.swap_shelf.ensures.items;
      capacity = c.swap_shelf.ensures.capacity ∙ l.invariant.capacity;
      changes = ap (set l.changes l.change-index) c.swap_shelf.ensures.change
          ∙ next_changes c.args.collections.now.items l.collections.items c.args.changes.now l.changes (vec_capacity c.args.collections.now) l.change-index x step;
    }
