use Rattle.std.proofs.Common.{◌≡◌, ◌++◌, map, take}
use Rattle.std.specs.Prelude.{filter_map}
use Rattle.pocket_types.specs.World.{lent_shelf}
use Rattle.pocket_meaning.specs.Related.{shelf_member}
use Rattle.pocket_meaning.specs.Seen.{seen}
use Rattle.pocket_plan.specs.Guarded.{admitted_of}
use Rattle.pocket_plan.proofs.admitted.add_named.Given as goal

abbrev pub invariant-loop-id : goal.invariant-loop-id
invariant-loop-id l = map seen l.members.items ≡ map seen l.fn.members.items ++ filter_map (shelf_member (admitted_of l.guarded (lent_shelf l.shelf))) (take l.id-index l.ids)
