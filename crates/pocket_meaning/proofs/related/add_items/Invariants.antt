use Rattle.std.proofs.Common.{◌≡◌, ◌++◌, map, take}
use Rattle.pocket_meaning.specs.Members as member
use Rattle.pocket_meaning.specs.Seen.{seen}
use Rattle.pocket_meaning.proofs.related.add_items.Given as goal

abbrev pub invariant-loop-text : goal.invariant-loop-text
invariant-loop-text l = map seen l.members.items ≡ map seen l.fn.members.items ++ map member.Item (take l.text-index l.text-items)

abbrev pub invariant-loop-id : goal.invariant-loop-id
invariant-loop-id l = map seen l.members.items ≡ map seen l.fn.members.items ++ map member.Item (take l.id-index l.id-items)
