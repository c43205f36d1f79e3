use Rattle.std.proofs.Common.{◌∙◌, sym, subst, Some, Err}
use Rattle.pocket_tables.specs.Drawers.{HasDrawer, AreNoSmaller, drawer_name}
use Rattle.pocket_tables.specs.Places.{IsPlaceOf}
use Rattle.pocket_tables.specs.declared.drawers.Drawer.{Drawer}
use Rattle.pocket_tables.proofs.RoomLemmas.{no_smaller_added, found_has_drawer, added_has_drawer}
use Rattle.pocket_tables.proofs.reserving.add_drawer.Goals as goal

pub returns-in_ok-insert-clause-kept : goal.returns-in_ok-insert-clause-kept
returns-in_ok-insert-clause-kept c =
    let r : Drawer = record { name = c.in_ok-name.name; recs = c.new-recs.result } in
    let place : IsPlaceOf drawer_name c.args.name.now c.args.drawers.now.items (Err c.in-Err.at) = rw c.as_slice.ensures.value at c.in-Err.ensures in
    subst (λ l. AreNoSmaller c.args.drawers.now.items l) (sym (c.in_ok-insert.ensures.items ∙ place.put (Some r)))
    (no_smaller_added c.args.drawers.now.items c.args.name.now c.in-Err.at r c.requires place c.in_ok-name.ensures.cases c.new-recs.ensures.items)

pub returns-in_ok-insert-clause-there : goal.returns-in_ok-insert-clause-there
returns-in_ok-insert-clause-there c =
    let r : Drawer = record { name = c.in_ok-name.name; recs = c.new-recs.result } in
    let place : IsPlaceOf drawer_name c.args.name.now c.args.drawers.now.items (Err c.in-Err.at) = rw c.as_slice.ensures.value at c.in-Err.ensures in
    subst (λ l. HasDrawer l c.args.name.now) (sym (c.in_ok-insert.ensures.items ∙ place.put (Some r))) (added_has_drawer c.args.drawers.now.items c.args.name.now r c.in_ok-name.ensures.cases)

pub returns-in_default-clause-there : goal.returns-in_default-clause-there
returns-in_default-clause-there c = found_has_drawer c.args.drawers.now.items c.args.name.now c.in_default.field-0 (rw c.as_slice.ensures.value at c.in_default.ensures)
