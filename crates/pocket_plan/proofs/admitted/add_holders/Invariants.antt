use Rattle.std.proofs.Common.{◌≡◌, ◌&&◌, ◌++◌, map, take}
use Rattle.std.specs.Prelude.{filter}
use Rattle.pocket_meaning.specs.Members as member
use Rattle.pocket_meaning.specs.Seen.{seen}
use Rattle.pocket_plan.specs.Guarded.{is_admitted}
use Rattle.pocket_plan.specs.Guarding.{open_points_to}
use Rattle.pocket_plan.proofs.admitted.add_holders.Given as goal

abbrev pub invariant-loop-rec : goal.invariant-loop-rec
invariant-loop-rec l = map seen l.members.items ≡ map seen l.fn.members.items ++ map (member.Record l.shelf.collection.now) (filter (λ r. open_points_to l.shelf.collection.now l.field l.name l.id r && is_admitted l.guarded l.shelf.collection.now.name r) (take l.rec-index l.rec-items))
