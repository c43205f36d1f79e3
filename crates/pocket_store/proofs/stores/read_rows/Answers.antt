use Rattle.std.proofs.Common.{take, arith, ◌∙◌}
use Rattle.pocket_store.proofs.JudgeLemmas.{all_judged, counts_more, first_bad, good_more, named_fault}
use Rattle.pocket_store.proofs.StoreLemmas.{add_step, lengths_init, lengths_step, read_init, room, whole_at_end}
use Rattle.pocket_store.proofs.stores.read_rows.Goals as goal

pub loop-row-init : goal.loop-row-init
loop-row-init c = record {
  good = λ k d w. absurd (omega (arith, w));
  counts = c.none-counts.ensures;
  lengths = lengths_init c.args.collections.now c.args.recs.now.items c.requires.empty;
  read = read_init c.args.rows.now c.args.collections.now c.args.recs.now.items c.new-tokens.result.items c.requires.empty c.new-tokens.ensures.items;
}

pub add-requires : goal.add-requires
add-requires c =
    let next = rw c.in-Ok-Some.field-0-is at c.in-Ok-Some.ensures in
    let both = next (take c.loop-row.row-index c.args.rows.now) c.loop-row.invariant.counts in
    room c.args.rows.now c.args.collections.now c.row-item.result _ _ (omega (arith, c.loop-row.recs.ok.0, c.loop-row.invariant.lengths)) both.0

pub returns-in-Ok-None : goal.returns-in-Ok-None
returns-in-Ok-None c =
    let k = c.loop-row.row-index in
    let rows = c.args.rows.now in
    let bad = rw c.in-Ok-None.field-0-is at c.in-Ok-None.ensures in
    named_fault rows c.row-item.result c.bad_store.result c.bad_store.ensures
    (λ key named.
    first_bad rows c.args.collections.now k c.row-item.result c.loop-row-test.true c.row-item.is key named c.requires.readable c.loop-row.invariant.good
    c.loop-row.invariant.counts.within (bad (take k rows) c.loop-row.invariant.counts))

pub loop-row-preserved : goal.loop-row-preserved
loop-row-preserved c =
    let k = c.loop-row.row-index in
    let rows = c.args.rows.now in
    let cs = c.args.collections.now in
    let row = c.row-item.result in
    let now = c.loop-row.invariant in
    let next = rw c.in-Ok-Some.field-0-is at c.in-Ok-Some.ensures in
    let both = next (take k rows) now.counts in
    record {
      good = good_more rows cs k row c.loop-row-test.true c.row-item.is _ both.0 now.good;
      counts = counts_more rows cs k row c.loop-row-test.true c.row-item.is _ both.1;
      lengths = lengths_step _ _ _ _ _ c.in_ok-add-in-Ok-Some.ensures ∙ now.lengths;
      read = add_step rows cs k row c.requires.rising c.requires.readable c.loop-row-test.true c.row-item.is c.loop-row.recs.items c.loop-row.tokens.items now.lengths now.read
          _ _ _ both.0 c.in_ok-add-in-Ok-Some.ensures;
    }

pub returns : goal.returns
returns c =
    let now = c.loop-row.invariant in
    let rows = c.args.rows.now in
    let cs = c.args.collections.now in
    let k = c.loop-row.row-index in
    whole_at_end rows cs k c.loop-row.recs.items c.loop-row.tokens.items c.loop-row-test.false c.requires.readable
    (all_judged rows cs k c.loop-row.counts c.loop-row-test.false now.good now.counts) now.lengths now.read
