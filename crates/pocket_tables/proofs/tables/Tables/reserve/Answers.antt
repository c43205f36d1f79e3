use Rattle.std.proofs.Common.{subst, map, vec_capacity}
use Rattle.pocket_tables.specs.Drawers.{room_of}
use Rattle.pocket_tables.specs.Inside.{view_of}
use Rattle.pocket_tables.specs.Kept.{KeepsReady, Kept}
use Rattle.pocket_tables.proofs.TableLemmas.{more_places, ready_where_reserved, tables_kept, totals_kept}
use Rattle.pocket_tables.proofs.tables.Tables.reserve.Goals as goal

pub invariant_of-self : goal.invariant_of-self
invariant_of-self c =
    let t = c.self.inside in
    let e = c.reserve_all.ensures in
    record {
      tables = tables_kept t.collections.items c.reserve_all.new.collections.items t.drawers.items c.reserve_all.new.drawers.items c.self.invariant.tables e.collections e.kept;
      totals = totals_kept t.collections.items c.reserve_all.new.collections.items t.drawers.items c.reserve_all.new.drawers.items c.self.invariant.tables e.collections e.kept t.totals c.self.invariant.totals;
    }

pub returns-clause-ready : goal.returns-clause-ready
returns-clause-ready c =
    let t = c.self.inside in
    let e = c.reserve_all.ensures in
    ready_where_reserved t.collections.items c.reserve_all.new.collections.items t.drawers.items c.reserve_all.new.drawers.items c.self.invariant.tables e.collections e.kept
    c.args.delta.now (vec_capacity c.reserve_all.new.collections) c.reserve_all.result e.shelf_room e.rec_room

pub returns-clause-kept : goal.returns-clause-kept
returns-clause-kept c =
    let t = c.self.inside in
    let e = c.reserve_all.ensures in
    let new : Kept = record { world = c.args.self.now.world; rooms = record { collections = vec_capacity c.reserve_all.new.collections; records = map room_of c.reserve_all.new.drawers.items } } in
    subst (λ kept. KeepsReady kept new) c.self.view_is (more_places (view_of t) new e.capacity e.kept.places)
