use Rattle.std.proofs.Common.{sym, subst, All}
use Rattle.pocket_ops.specs.Lengths.{HasOwnNames}
use Rattle.pocket_tables.specs.Inside.{AreTables}
use Rattle.pocket_tables.proofs.PartLemmas.{are_tables, whole}
use Rattle.pocket_tables.proofs.TableLemmas.{all_own}
use Rattle.pocket_tables.proofs.WorldLemmas.{ordered_from}
use Rattle.pocket_tables.proofs.tables.Tables.build.Goals as goal

pub tally-totals-requires-clause-names : goal.tally-totals-requires-clause-names
tally-totals-requires-clause-names c =
    let cs = c.in_ok-collections.collections.items in
    let drawers = c.in_ok-collections.drawers.items in
    let tables : AreTables cs drawers = are_tables cs drawers c.args.world (ordered_from c.args.world c.requires) c.in_ok-collections.ensures in
    rw c.as_slice-2.ensures.value tables.names

pub tally-totals-requires-clause-own : goal.tally-totals-requires-clause-own
tally-totals-requires-clause-own c =
    let cs = c.in_ok-collections.collections.items in
    let drawers = c.in_ok-collections.drawers.items in
    let tables : AreTables cs drawers = are_tables cs drawers c.args.world (ordered_from c.args.world c.requires) c.in_ok-collections.ensures in
    subst (All HasOwnNames) (sym c.as_slice.ensures.value) (all_own cs drawers tables)

pub invariant_of-result : goal.invariant_of-result
invariant_of-result c =
    let cs = c.in_ok-collections.collections.items in
    let drawers = c.in_ok-collections.drawers.items in
    record {
      tables = are_tables cs drawers c.args.world (ordered_from c.args.world c.requires) c.in_ok-collections.ensures;
      totals = rw (← c.as_slice.ensures.value, ← c.as_slice-2.ensures.value) c.tally-totals.ensures;
    }

pub returns : goal.returns
returns c = whole c.in_ok-collections.collections.items c.in_ok-collections.drawers.items c.args.world (ordered_from c.args.world c.requires) c.in_ok-collections.ensures
