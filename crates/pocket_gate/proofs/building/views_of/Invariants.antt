use Rattle.std.proofs.Common.{◌≡◌, map, take}
use Rattle.pocket_gate.specs.Built.{view_for}
use Rattle.pocket_gate.proofs.building.views_of.Given as goal

abbrev pub invariant-loop-collection : goal.invariant-loop-collection
invariant-loop-collection l = l.views.items ≡ map (view_for l.collections l.action) (take l.collection-index l.collections)
