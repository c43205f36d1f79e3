use Rattle.std.proofs.Common.{◌≡◌, take}
use Rattle.pocket_json.specs.Choosing.{lent, rests_behind}
use Rattle.pocket_json.proofs.choosing.rests_behind.Given as goal

abbrev pub invariant-loop-path : goal.invariant-loop-path
invariant-loop-path l = lent l.rests.items ≡ rests_behind l.key (lent (take l.path-index l.paths))
