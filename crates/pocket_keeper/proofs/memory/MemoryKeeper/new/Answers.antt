use Rattle.std.proofs.Common.{◌∙◌, ap, [], Some}
use Rattle.pocket_keeper.proofs.KeepingLemmas.{with_rising}
use Rattle.pocket_keeper.proofs.memory.MemoryKeeper.new.Goals as goal

pub returns-clause-in_order : goal.returns-clause-in_order
returns-clause-in_order c = λ rising.
    let kept = rw (c.new-kept.ensures.items, c.into_vec.ensures) at c.in_ok-change.ensures.ok in
    ap Some (kept ∙ with_rising c.args.rows [] rising)
