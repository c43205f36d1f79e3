use Rattle.std.proofs.Common.{rules, Some, [], ◌∷◌, ◌≡◌}
use Rattle.pocket_desk.proofs.Steps.{starts}
use Rattle.pocket_desk.proofs.desk.Desk.start.Goals as goal

pub new-requires : goal.new-requires
new-requires g c = let e : c.in-Ok.slots.items ≡ Some c.args.machine ∷ [] = search rules in rw (c.of-opened.ensures, e) (starts _ _ _ c.requires)
