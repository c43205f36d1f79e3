use Rattle.std.proofs.Common.{◌∙◌, ap}
use Rattle.pocket_tables.specs.Reads.{first_above}
use Rattle.pocket_tables.proofs.TableLemmas.{ids_seen, recs_seen}
use Rattle.pocket_tables.proofs.tables.Tables.rec_after.Goals as goal

pub next_above-requires : goal.next_above-requires
next_above-requires g c =
    let seen = recs_seen c.self.inside c.self.invariant c.args.self.now c.self.view_is c.as_slice.result.now c.recs_under.result.now c.args.collection.now c.as_slice.ensures.value c.recs_under.ensures in
    ids_seen c.self.inside c.self.invariant c.args.self.now c.self.view_is c.recs_under.result.now c.args.collection.now seen

pub returns-clause-rec : goal.returns-clause-rec
returns-clause-rec g c =
    let seen = recs_seen c.self.inside c.self.invariant c.args.self.now c.self.view_is c.as_slice.result.now c.recs_under.result.now c.args.collection.now c.as_slice.ensures.value c.recs_under.ensures in
    c.next_above.ensures ∙ ap (first_above c.args.after) seen
