use Rattle.std.proofs.Common.{◌≡◌, ◌∙◌, ◌<◌, ◌≤◌, sym, refl, ap, subst, get_or, set, take, length, Some, All, arith}
use Rattle.std.specs.Prelude.{slice_get}
use Rattle.std.proofs.lemmas.List.{take_all, take_more_set}
use Rattle.std.proofs.lemmas.List.Elements.{All-push}
use Rattle.pocket_tables.specs.Deltas.{rec_changes}
use Rattle.pocket_tables.specs.Keyed.{places_wanted}
use Rattle.pocket_tables.specs.declared.drawers.Drawer.{Drawer}
use Rattle.pocket_tables.proofs.RoomLemmas.{HasOwnPlaces, drawers_kept, no_smaller_twice, places_for_all, no_smaller_set, read_alike}
use Rattle.pocket_tables.proofs.DrawerLemmas.{got_there}
use Rattle.pocket_tables.proofs.reserving.make_room.Goals as goal

pub returns-in_err-reserve-clause-kept : goal.returns-in_err-reserve-clause-kept
returns-in_err-reserve-clause-kept c =
    let l = c.loop-i in
    let within : l.i < length l.drawers = omega (arith, c.loop-i-test.true, l.auto.drawers) in
    let x = get_or l.drawers l.i c.index-drawers-i-in-loop-i.result in
    let y : Drawer = record { name = x.name; recs = c.reserve.new.self } in
    let got : slice_get l.drawers l.i ≡ Some x = got_there l.drawers l.i x within (ap (λ d. get_or l.drawers l.i d) c.index-drawers-i-in-loop-i.is) in
    no_smaller_twice c.args.drawers.now l.drawers (set l.drawers l.i y) l.invariant.kept
    (no_smaller_set l.drawers l.i x y l.invariant.kept.rising got refl c.in_err-reserve.ensures.items c.in_err-reserve.ensures.capacity)

pub loop-i-preserved : goal.loop-i-preserved
loop-i-preserved c =
    let l = c.loop-i in
    let within : l.i < length l.drawers = omega (arith, c.loop-i-test.true, l.auto.drawers) in
    let x = get_or l.drawers l.i c.index-drawers-i-in-loop-i.result in
    let y : Drawer = record { name = x.name; recs = c.reserve.new.self } in
    let got : slice_get l.drawers l.i ≡ Some x = got_there l.drawers l.i x within (ap (λ d. get_or l.drawers l.i d) c.index-drawers-i-in-loop-i.is) in
    let wanted = c.recs_put-wanted.ensures ∙ ap (λ r. places_wanted (rec_changes c.args.changes.now r.name)) (read_alike l.drawers l.i c.index-drawers-i.result c.index-drawers-i-in-loop-i.result within) in
    let room = c.in_ok-reserve.ensures.ok in
    let long = c.reserve.new.self.ok.0 in
    let own : HasOwnPlaces c.args.changes.now y = omega (arith, wanted, room, long) in
    record {
      kept = no_smaller_twice c.args.drawers.now l.drawers (set l.drawers l.i y) l.invariant.kept
          (no_smaller_set l.drawers l.i x y l.invariant.kept.rising got refl c.in_ok-reserve.ensures.items c.in_ok-reserve.ensures.capacity);
      room = subst (λ drawers. All (HasOwnPlaces c.args.changes.now) drawers) (sym (take_more_set l.drawers l.i y within))
          (All-push (HasOwnPlaces c.args.changes.now) (take l.i l.drawers) y l.invariant.room own);
    }

pub returns-clause-room : goal.returns-clause-room
returns-clause-room c =
    let l = c.loop-i in
    let all : length l.drawers ≤ l.i = omega (arith, c.loop-i-test.false, l.auto.drawers) in
    places_for_all l.drawers c.args.changes.now (drawers_kept c.args.drawers.now l.drawers c.args.changes.now l.invariant.kept c.requires.there)
    (subst (λ drawers. All (HasOwnPlaces c.args.changes.now) drawers) (take_all l.i l.drawers all) l.invariant.room)
