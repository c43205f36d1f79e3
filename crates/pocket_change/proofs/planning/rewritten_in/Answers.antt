use Rattle.std.proofs.Common.{sym}
use Rattle.std.specs.Option.{option_copied}
use Rattle.pocket_change.specs.Changes.{put_checked, updated}
use Rattle.pocket_change.specs.Plans.{LeadsTo}
use Rattle.pocket_change.proofs.StandingLemmas.{found_again, found_in, only_found}
use Rattle.pocket_change.proofs.planning.rewritten_in.Goals as goal

pub rewritten_rec-requires-clause-there : goal.rewritten_rec-requires-clause-there
rewritten_rec-requires-clause-there g c =
    let found = found_in c.args.tables.now.world c.collections.result.now c.args.collection.now c.in-Some.collection.now c.collections.ensures.collections c.in-Some.ensures in
    found_again c.args.tables.now.world c.args.collection.now c.in-Some.collection.now (sym found)

pub returns-clause-leads : goal.returns-clause-leads
returns-clause-leads g c = λ d e.
    let found = found_in c.args.tables.now.world c.collections.result.now c.args.collection.now c.in-Some.collection.now c.collections.ensures.collections c.in-Some.ensures in
    only_found c.args.tables.now.world c.args.collection.now c.in-Some.collection.now
    (λ k. LeadsTo (put_checked c.args.tables.now.world k) c.rewritten_rec.result
    (updated c.args.tables.now.world c.args.ask.now k c.args.id (option_copied c.args.body))) found d e c.rewritten_rec.ensures.leads
