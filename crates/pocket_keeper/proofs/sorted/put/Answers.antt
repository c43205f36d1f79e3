use Rattle.std.proofs.Common.{◌≡◌, sym, subst, rules}
use Rattle.pocket_keeper.specs.Rows.{IsRising}
use Rattle.pocket_keeper.specs.Keeping.{put_row}
use Rattle.pocket_keeper.proofs.KeepingLemmas.{put_rises}
use Rattle.pocket_keeper.proofs.PlaceLemmas.{set_puts}
use Rattle.pocket_keeper.proofs.sorted.put.Goals as goal

pub returns-in-Ok-clause-items : goal.returns-in-Ok-clause-items
returns-in-Ok-clause-items c = set_puts c.args.row c.args.rows.now.items c.in-Ok.at (rw c.deref.ensures.value at c.in-Ok.ensures)

pub returns-in-Ok-clause-rising : goal.returns-in-Ok-clause-rising
returns-in-Ok-clause-rising c =
    subst IsRising (sym (set_puts c.args.row c.args.rows.now.items c.in-Ok.at (rw c.deref.ensures.value at c.in-Ok.ensures)))
    (put_rises c.args.row c.args.rows.now.items c.requires.rising)

pub returns-else-is_err-clause-rising : goal.returns-else-is_err-clause-rising
returns-else-is_err-clause-rising c =
    let items : c.insert.new.self.items ≡ put_row c.args.row c.args.rows.now.items = search rules in
    subst IsRising (sym items) (put_rises c.args.row c.args.rows.now.items c.requires.rising)
