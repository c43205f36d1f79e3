use Rattle.std.proofs.Common.{◌≡◌, ◌∙◌, sym, ap, refl, get_or, length, arith}
use Rattle.pocket_types.specs.World.{rec_of}
use Rattle.pocket_tables.specs.Deltas.{rec_back}
use Rattle.pocket_tables.specs.Keyed.{places_taken, put_at}
use Rattle.pocket_tables.specs.Worlds.{id_of}
use Rattle.pocket_tables.specs.declared.drawers.Drawer.{Drawer}
use Rattle.pocket_tables.proofs.DrawerLemmas.{IsDrawerAt, drawer_places, drawer_recs, swapped_at, swapped_nowhere}
use Rattle.pocket_tables.proofs.swaps.swap_rec.Goals as goal

pub change_rec-requires-clause-room : goal.change_rec-requires-clause-room
change_rec-requires-clause-room c =
    let drawers = c.args.drawers.now in
    let name = c.args.change.now.collection in
    let x = get_or drawers c.in-Ok.at c.index-drawers-at.result in
    let entry : IsDrawerAt drawers name c.in-Ok.at x = record { place = c.in-Ok.ensures; is = ap (λ d. get_or drawers c.in-Ok.at d) c.index-drawers-at.is } in
    let stand = ap length (drawer_recs drawers name c.in-Ok.at x entry) in
    let places = drawer_places drawers name c.in-Ok.at x entry in
    let room = c.requires.room in
    let taken = ap places_taken c.take-after.ensures.value in
    omega (arith, stand, places, room, taken)

pub returns-in-Ok-clause-swapped : goal.returns-in-Ok-clause-swapped
returns-in-Ok-clause-swapped c =
    let drawers = c.args.drawers.now in
    let change = c.args.change.now in
    let x = get_or drawers c.in-Ok.at c.index-drawers-at.result in
    let entry : IsDrawerAt drawers change.collection c.in-Ok.at x = record { place = c.in-Ok.ensures; is = ap (λ d. get_or drawers c.in-Ok.at d) c.index-drawers-at.is } in
    let new : Drawer = record { name = x.name; recs = c.change_rec.new.recs } in
    let items : new.recs.items ≡ put_at id_of change.id change.after x.recs.items =
    c.change_rec.ensures.items ∙ ap (λ o. put_at id_of change.id o x.recs.items) c.take-after.ensures.value in
    swapped_at drawers change.collection c.in-Ok.at x entry change new refl c.requires.rising.names refl items c.change_rec.ensures.capacity

pub returns-in-Ok-clause-change : goal.returns-in-Ok-clause-change
returns-in-Ok-clause-change c =
    let drawers = c.args.drawers.now in
    let change = c.args.change.now in
    let x = get_or drawers c.in-Ok.at c.index-drawers-at.result in
    let entry : IsDrawerAt drawers change.collection c.in-Ok.at x = record { place = c.in-Ok.ensures; is = ap (λ d. get_or drawers c.in-Ok.at d) c.index-drawers-at.is } in
    ap (λ o. rec_back (λ name id. o) change) (c.change_rec.ensures.before ∙ ap (rec_of change.id) (sym (drawer_recs drawers change.collection c.in-Ok.at x entry)))

pub returns-in_default-clause-swapped : goal.returns-in_default-clause-swapped
returns-in_default-clause-swapped c =
    swapped_nowhere c.args.drawers.now c.args.change.now c.requires.rising.names (sym c.in_default.ensures.found) c.requires.room
