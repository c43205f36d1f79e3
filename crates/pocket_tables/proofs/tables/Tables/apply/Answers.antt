use Rattle.std.proofs.Common.{vec_capacity}
use Rattle.pocket_tables.proofs.TableLemmas.{applied, can_swap, fits_inside, still_tables}
use Rattle.pocket_tables.proofs.tables.Tables.apply.Goals as goal

pub make_changes-requires-clause-fits : goal.make_changes-requires-clause-fits
make_changes-requires-clause-fits c = fits_inside c.self.inside c.self.invariant c.args.self.now c.self.view_is c.args.delta c.requires.fits

pub make_changes-requires-clause-room : goal.make_changes-requires-clause-room
make_changes-requires-clause-room c = can_swap c.self.inside c.self.invariant c.args.self.now c.self.view_is c.args.delta c.requires.fits c.requires.ready

pub invariant_of-self : goal.invariant_of-self
invariant_of-self c =
    let t = c.self.inside in
    record {
      tables = still_tables t.collections.items c.make_changes.new.collections.items t.drawers.items c.make_changes.new.drawers.items c.args.delta c.make_changes.result c.self.invariant.tables
          (fits_inside t c.self.invariant c.args.self.now c.self.view_is c.args.delta c.requires.fits) c.make_changes.ensures.swapped;
      totals = c.make_changes.ensures.told;
    }

pub returns-clause-world : goal.returns-clause-world
returns-clause-world c =
    (applied c.self.inside c.self.invariant c.args.self.now c.self.view_is c.args.delta c.make_changes.result c.make_changes.new.collections.items c.make_changes.new.drawers.items
    (vec_capacity c.make_changes.new.collections) c.requires.fits c.requires.ready c.make_changes.ensures.swapped c.make_changes.ensures.capacity).world

pub returns-clause-inverse : goal.returns-clause-inverse
returns-clause-inverse c =
    (applied c.self.inside c.self.invariant c.args.self.now c.self.view_is c.args.delta c.make_changes.result c.make_changes.new.collections.items c.make_changes.new.drawers.items
    (vec_capacity c.make_changes.new.collections) c.requires.fits c.requires.ready c.make_changes.ensures.swapped c.make_changes.ensures.capacity).inverse_is

pub returns-clause-fits : goal.returns-clause-fits
returns-clause-fits c =
    (applied c.self.inside c.self.invariant c.args.self.now c.self.view_is c.args.delta c.make_changes.result c.make_changes.new.collections.items c.make_changes.new.drawers.items
    (vec_capacity c.make_changes.new.collections) c.requires.fits c.requires.ready c.make_changes.ensures.swapped c.make_changes.ensures.capacity).fits

pub returns-clause-ready : goal.returns-clause-ready
returns-clause-ready c =
    (applied c.self.inside c.self.invariant c.args.self.now c.self.view_is c.args.delta c.make_changes.result c.make_changes.new.collections.items c.make_changes.new.drawers.items
    (vec_capacity c.make_changes.new.collections) c.requires.fits c.requires.ready c.make_changes.ensures.swapped c.make_changes.ensures.capacity).ready

pub returns-clause-undone : goal.returns-clause-undone
returns-clause-undone c =
    (applied c.self.inside c.self.invariant c.args.self.now c.self.view_is c.args.delta c.make_changes.result c.make_changes.new.collections.items c.make_changes.new.drawers.items
    (vec_capacity c.make_changes.new.collections) c.requires.fits c.requires.ready c.make_changes.ensures.swapped c.make_changes.ensures.capacity).undone

pub returns-clause-kept : goal.returns-clause-kept
returns-clause-kept c =
    (applied c.self.inside c.self.invariant c.args.self.now c.self.view_is c.args.delta c.make_changes.result c.make_changes.new.collections.items c.make_changes.new.drawers.items
    (vec_capacity c.make_changes.new.collections) c.requires.fits c.requires.ready c.make_changes.ensures.swapped c.make_changes.ensures.capacity).kept
