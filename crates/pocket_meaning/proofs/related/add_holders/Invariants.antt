use Rattle.std.proofs.Common.{◌≡◌, ◌++◌, map, take}
use Rattle.std.specs.Prelude.{filter}
use Rattle.pocket_meaning.specs.Members as member
use Rattle.pocket_meaning.specs.Related.{points_to}
use Rattle.pocket_meaning.specs.Seen.{seen}
use Rattle.pocket_meaning.proofs.related.add_holders.Given as goal

abbrev pub invariant-loop-rec : goal.invariant-loop-rec
invariant-loop-rec l = map seen l.members.items ≡ map seen l.fn.members.items ++ map (member.Record l.shelf.collection.now) (filter (points_to l.shelf.collection.now l.field l.name l.id) (take l.rec-index l.rec-items))
