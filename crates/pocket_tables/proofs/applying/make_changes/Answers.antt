use Rattle.std.proofs.Common.{sym, subst, All}
use Rattle.pocket_types.specs.Order.{Rises}
use Rattle.pocket_ops.specs.Lengths.{HasOwnNames}
use Rattle.pocket_tables.specs.Drawers.{AreRising}
use Rattle.pocket_tables.specs.Inside.{AreTables}
use Rattle.pocket_tables.specs.Tallies.{TellChanged}
use Rattle.pocket_tables.specs.Worlds.{name_of}
use Rattle.pocket_tables.proofs.TableLemmas.{all_own, are_rising, exchange, exchange_of, still_tables, told_all_of, told_changed}
use Rattle.pocket_tables.proofs.applying.make_changes.Goals as goal

pub tally_changed-leaving-requires-clause-own : goal.tally_changed-leaving-requires-clause-own
tally_changed-leaving-requires-clause-own c =
    subst (All HasOwnNames) (sym c.as_slice.ensures.value) (all_own c.args.collections.now.items c.args.drawers.now.items c.requires.tables)

pub tally_changed-coming-requires-clause-names : goal.tally_changed-coming-requires-clause-names
tally_changed-coming-requires-clause-names c =
    let cs = c.args.collections.now.items in
    let drawers = c.args.drawers.now.items in
    let new_cs = c.swap_all-back.new.collections.items in
    let new_drawers = c.swap_all-back.new.drawers.items in
    let new : AreTables new_cs new_drawers = still_tables cs new_cs drawers new_drawers c.args.delta c.swap_all-back.result c.requires.tables c.requires.fits c.swap_all-back.ensures.swapped in
    subst (λ l. Rises name_of l) (sym c.as_slice-4.ensures.value) new.rises

pub tally_changed-coming-requires-clause-rising : goal.tally_changed-coming-requires-clause-rising
tally_changed-coming-requires-clause-rising c =
    let cs = c.args.collections.now.items in
    let drawers = c.args.drawers.now.items in
    let new_cs = c.swap_all-back.new.collections.items in
    let new_drawers = c.swap_all-back.new.drawers.items in
    let new : AreTables new_cs new_drawers = still_tables cs new_cs drawers new_drawers c.args.delta c.swap_all-back.result c.requires.tables c.requires.fits c.swap_all-back.ensures.swapped in
    subst AreRising (sym c.as_slice-5.ensures.value) (are_rising new_cs new_drawers new)

pub tally_changed-coming-requires-clause-own : goal.tally_changed-coming-requires-clause-own
tally_changed-coming-requires-clause-own c =
    let cs = c.args.collections.now.items in
    let drawers = c.args.drawers.now.items in
    let new_cs = c.swap_all-back.new.collections.items in
    let new_drawers = c.swap_all-back.new.drawers.items in
    let new : AreTables new_cs new_drawers = still_tables cs new_cs drawers new_drawers c.args.delta c.swap_all-back.result c.requires.tables c.requires.fits c.swap_all-back.ensures.swapped in
    subst (All HasOwnNames) (sym c.as_slice-4.ensures.value) (all_own new_cs new_drawers new)

pub tally_after-requires-clause-own : goal.tally_after-requires-clause-own
tally_after-requires-clause-own c =
    let cs = c.args.collections.now.items in
    let drawers = c.args.drawers.now.items in
    let new_cs = c.swap_all-back.new.collections.items in
    let new_drawers = c.swap_all-back.new.drawers.items in
    let new : AreTables new_cs new_drawers = still_tables cs new_cs drawers new_drawers c.args.delta c.swap_all-back.result c.requires.tables c.requires.fits c.swap_all-back.ensures.swapped in
    subst (All HasOwnNames) (sym c.as_slice-7.ensures.value) (all_own new_cs new_drawers new)

pub tally_after-requires-clause-exchange : goal.tally_after-requires-clause-exchange
tally_after-requires-clause-exchange c =
    let cs = c.args.collections.now.items in
    let drawers = c.args.drawers.now.items in
    let new_cs = c.swap_all-back.new.collections.items in
    let new_drawers = c.swap_all-back.new.drawers.items in
    let back = c.swap_all-back.result in
    let leaving : TellChanged c.tally_changed-leaving.result cs drawers c.args.delta.recs =
    told_changed c.tally_changed-leaving.result cs c.as_slice.result.now drawers c.as_slice-2.result.now c.args.delta.recs c.as_slice-3.result.now
    c.as_slice.ensures.value c.as_slice-2.ensures.value c.as_slice-3.ensures c.tally_changed-leaving.ensures in
    let coming : TellChanged c.tally_changed-coming.result new_cs new_drawers back.recs =
    told_changed c.tally_changed-coming.result new_cs c.as_slice-4.result.now new_drawers c.as_slice-5.result.now back.recs c.as_slice-6.result.now
    c.as_slice-4.ensures.value c.as_slice-5.ensures.value c.as_slice-6.ensures c.tally_changed-coming.ensures in
    exchange_of c.args.totals.now c.tally_changed-leaving.result c.tally_changed-coming.result new_cs c.as_slice-7.result.now new_drawers c.as_slice-8.result.now
    c.as_slice-7.ensures.value c.as_slice-8.ensures.value
    (exchange cs new_cs drawers new_drawers c.args.delta back c.requires.tables c.requires.fits c.swap_all-back.ensures.swapped
    c.args.totals.now c.tally_changed-leaving.result c.tally_changed-coming.result c.requires.told leaving coming)

pub returns-clause-told : goal.returns-clause-told
returns-clause-told c =
    told_all_of c.tally_after.result c.swap_all-back.new.collections.items c.as_slice-7.result.now c.swap_all-back.new.drawers.items c.as_slice-8.result.now
    c.as_slice-7.ensures.value c.as_slice-8.ensures.value c.tally_after.ensures
