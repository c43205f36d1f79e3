use Rattle.pocket_change.proofs.DeltaLemmas.{IsPutIn, again_put, collections_put, rec_put}
use Rattle.pocket_change.proofs.putting.put_in.Goals as goal

was_put : (c : goal.After-apply) → IsPutIn c.args.tables.now.world c.args.collection.now c.args.rec c.in-Ok.delta c.apply.result c.apply.new.self.world c.reserve.new.self.world
was_put c = record { put = c.in-Ok.ensures; same = c.reserve.ensures.world; made = c.apply.ensures.world; back_is = c.apply.ensures.inverse }

pub returns-in-Ok-reserve-clause-collections : goal.returns-in-Ok-reserve-clause-collections
returns-in-Ok-reserve-clause-collections c = collections_put c.args.tables.now.world c.args.collection.now c.args.rec c.in-Ok.delta c.apply.result c.apply.new.self.world c.reserve.new.self.world (was_put c)

pub returns-in-Ok-reserve-clause-found : goal.returns-in-Ok-reserve-clause-found
returns-in-Ok-reserve-clause-found c =
    rec_put c.record_changes_fit.ensures c.deltas_are_made_at_once.ensures c.args.tables.now.world c.args.collection.now c.args.rec c.in-Ok.delta c.apply.result c.apply.new.self.world c.reserve.new.self.world (was_put c) c.collections.ensures.tabled c.requires

pub returns-in-Ok-reserve-clause-again : goal.returns-in-Ok-reserve-clause-again
returns-in-Ok-reserve-clause-again c =
    again_put c.args.tables.now.world c.args.collection.now c.args.rec c.in-Ok.delta c.apply.result c.apply.new.self.world c.reserve.new.self.world (was_put c)
    (rec_put c.record_changes_fit.ensures c.deltas_are_made_at_once.ensures c.args.tables.now.world c.args.collection.now c.args.rec c.in-Ok.delta c.apply.result c.apply.new.self.world c.reserve.new.self.world (was_put c) c.collections.ensures.tabled c.requires)
