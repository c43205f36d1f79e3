use Rattle.std.proofs.Common.{◌∙◌, sym, ap}
use Rattle.pocket_tables.specs.Reads.{first_above, holds_id}
use Rattle.pocket_tables.proofs.ReadLemmas.{passing_of_none, passing_of_some}
use Rattle.pocket_tables.proofs.TableLemmas.{collection_seen, ids_seen, recs_seen}
use Rattle.pocket_tables.proofs.tables.Tables.referrer_after.Goals as goal

pub next_referrer-requires : goal.next_referrer-requires
next_referrer-requires g c =
    let seen = recs_seen c.self.inside c.self.invariant c.args.self.now c.self.view_is c.as_slice.result.now c.recs_under-recs.result.now c.args.collection.now c.as_slice.ensures.value c.recs_under-recs.ensures in
    ids_seen c.self.inside c.self.invariant c.args.self.now c.self.view_is c.recs_under-recs.result.now c.args.collection.now seen

pub returns-in-Some-clause-rec : goal.returns-in-Some-clause-rec
returns-in-Some-clause-rec g c =
    let seen = recs_seen c.self.inside c.self.invariant c.args.self.now c.self.view_is c.as_slice.result.now c.recs_under-recs.result.now c.args.collection.now c.as_slice.ensures.value c.recs_under-recs.ensures in
    let found = collection_seen c.self.inside c.self.invariant c.args.self.now c.self.view_is c.as_slice-2.result.now _ c.args.collection.now c.as_slice-2.ensures.value c.in-Some.ensures in
    c.next_referrer.ensures
    ∙ ap (first_above c.args.after) (sym (passing_of_some (λ k. holds_id k c.args.field.now c.args.target) c.args.self.now.world c.args.collection.now c.in-Some.collection.now c.recs_under-recs.result.now found (sym seen)))

pub returns-in-None-clause-rec : goal.returns-in-None-clause-rec
returns-in-None-clause-rec g c =
    let found = collection_seen c.self.inside c.self.invariant c.args.self.now c.self.view_is c.as_slice-2.result.now _ c.args.collection.now c.as_slice-2.ensures.value c.in-None.ensures in
    ap (first_above c.args.after) (sym (passing_of_none (λ k. holds_id k c.args.field.now c.args.target) c.args.self.now.world c.args.collection.now found))
