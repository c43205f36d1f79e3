use Rattle.std.proofs.Common.{◌≡◌, ◌∙◌, sym, ap, subst, map, drop, length}
use Rattle.std.proofs.lemmas.List.{take_at}
use Rattle.pocket_types.specs.Order.{Rises}
use Rattle.pocket_types.specs.World.{rec_of}
use Rattle.pocket_tables.specs.Deltas.{rec_back, rec_changes, shelf_back, shelf_changes}
use Rattle.pocket_tables.specs.Keyed.{find_key, put_all}
use Rattle.pocket_tables.specs.Drawers.{recs_in, room_of, drawer_name}
use Rattle.pocket_tables.specs.Worlds.{id_of, name_of}
use Rattle.pocket_tables.proofs.swaps.swap_all.Goals as goal

-- what the slices held stands in the lists that lent them
pub returns-clause-swapped : goal.returns-clause-swapped
returns-clause-swapped c =
    let shelves : c.as_mut_slice.result.now ≡ c.args.delta.shelves = c.as_mut_slice.ensures.value ∙ c.into_vec-shelves.ensures in
    let recs : c.as_mut_slice-3.result.now ≡ c.args.delta.recs = c.as_mut_slice-3.ensures.value ∙ c.into_vec-recs.ensures in
    let entries = c.as_mut_slice-2.ensures.value in
    let written = take_at c.swap_recs.new.drawers (drop (length c.swap_recs.new.drawers) c.args.drawers.now.items) c.args.drawers.now.len (c.swap_recs.auto.drawers ∙ c.as_mut_slice-2.ensures.len) in
    record {
      collections = c.swap_shelves.ensures.items ∙ ap (λ l. put_all name_of (shelf_changes l) c.args.collections.now.items) shelves;
      recs = λ name. ap (λ l. recs_in l name) written ∙ c.swap_recs.ensures.recs name
          ∙ ap (λ l. put_all id_of (rec_changes l name) (recs_in c.as_mut_slice-2.result.now name)) recs
          ∙ ap (λ l. put_all id_of (rec_changes c.args.delta.recs name) (recs_in l name)) entries;
      rooms = ap (map room_of) written ∙ c.swap_recs.ensures.rooms ∙ ap (map room_of) entries;
      names = subst (λ l. Rises drawer_name l) (sym written) c.swap_recs.ensures.names;
      shelves_back = c.from_vec.ensures
          ∙ take_at c.swap_shelves.new.changes (drop (length c.swap_shelves.new.changes) c.into_vec-shelves.result.items) c.into_vec-shelves.result.len (c.swap_shelves.auto.changes ∙ c.as_mut_slice.ensures.len)
          ∙ c.swap_shelves.ensures.changes ∙ ap (map (shelf_back (λ name. find_key name_of name c.args.collections.now.items))) shelves;
      recs_back = c.from_vec-2.ensures
          ∙ take_at c.swap_recs.new.changes (drop (length c.swap_recs.new.changes) c.into_vec-recs.result.items) c.into_vec-recs.result.len (c.swap_recs.auto.changes ∙ c.as_mut_slice-3.ensures.len)
          ∙ c.swap_recs.ensures.changes
          ∙ ap (λ l. map (rec_back (λ name id. rec_of id (recs_in l name))) c.as_mut_slice-3.result.now) entries
          ∙ ap (map (rec_back (λ name id. rec_of id (recs_in c.args.drawers.now.items name)))) recs;
    }
