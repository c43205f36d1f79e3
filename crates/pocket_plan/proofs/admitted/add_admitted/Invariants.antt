use Rattle.std.proofs.Common.{◌≡◌, ◌++◌, map, take}
use Rattle.std.specs.Prelude.{filter}
use Rattle.pocket_meaning.specs.Members as member
use Rattle.pocket_meaning.specs.Seen.{seen}
use Rattle.pocket_plan.specs.Guarded.{is_admitted}
use Rattle.pocket_plan.proofs.admitted.add_admitted.Given as goal

abbrev pub invariant-loop-rec : goal.invariant-loop-rec
invariant-loop-rec l = map seen l.members.items ≡ map seen l.fn.members.items ++ map (member.Record l.shelf.collection.now) (filter (is_admitted l.guarded l.shelf.collection.now.name) (take l.rec-index l.rec-items))
