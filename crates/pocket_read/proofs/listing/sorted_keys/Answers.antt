use Rattle.std.proofs.Common.{ap, ◌∙◌, map}
use Rattle.pocket_read.specs.Sorting.{in_order, key_of, stands_before}
use Rattle.pocket_read.proofs.PageLemmas.{keys_now, taken_all}
use Rattle.pocket_read.proofs.listing.sorted_keys.Goals as goal

pub returns-clause-keys : goal.returns-clause-keys
returns-clause-keys g c =
    let w = c.args.tables.now.world in
    let home = c.args.collection.now.name in
    let terms = c.args.terms.now in
    c.in_ok-sort_keys.ensures
    ∙ ap (in_order (stands_before terms)) (c.loop-rec.invariant.keys
    ∙ ap (map (λ r. key_of w c.args.ask.now home terms r.now)) (taken_all c.loop-rec.rec-index c.args.recs.now c.loop-rec-test.false)
    ∙ keys_now w c.args.ask.now home terms c.args.recs.now)
