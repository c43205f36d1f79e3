use Rattle.pocket_tables.specs.declared.drawers.Drawer.{Drawer}
use Rattle.pocket_tables.proofs.PartLemmas.{parts_next}
use Rattle.pocket_tables.proofs.parts.parts_of.Goals as goal

pub loop-shelf-preserved : goal.loop-shelf-preserved
loop-shelf-preserved c =
    let s = c.in-Some.shelf in
    let r : Drawer = record { name = c.in_ok-name.name; recs = c.into_vec.result } in
    parts_next c.loop-shelf.collections.items c.push.new.self.items c.loop-shelf.drawers.items c.push-in-loop-shelf.new.self.items c.loop-shelf.yielded s r
    c.loop-shelf.invariant c.in_ok-push.ensures.items c.in_ok-push-2.ensures.items (record { name = c.in_ok-name.ensures.cases; recs = c.into_vec.ensures })
