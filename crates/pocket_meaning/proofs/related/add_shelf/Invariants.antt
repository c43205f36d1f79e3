use Rattle.std.proofs.Common.{◌≡◌, ◌++◌, map, take}
use Rattle.pocket_meaning.specs.Members as member
use Rattle.pocket_meaning.specs.Seen.{seen}
use Rattle.pocket_meaning.proofs.related.add_shelf.Given as goal

abbrev pub invariant-loop-rec : goal.invariant-loop-rec
invariant-loop-rec l = map seen l.members.items ≡ map seen l.fn.members.items ++ map (member.Record l.shelf.collection.now) (take l.rec-index l.rec-items)
