-- The first of records that are met.
use Rattle.std.specs.Prelude.{List, filter_map}
use Rattle.pocket_types.specs.declared.ids.Id.{Id}
use Rattle.pocket_types.specs.declared.names.Name.{Name}
use Rattle.pocket_types.specs.declared.world.World.{World}
use Rattle.pocket_meaning.specs.Members.{Member}
use Rattle.pocket_gate.specs.Shown.{member_at}
use Rattle.pocket_read.specs.Sorting.{first_or_nobody}

-- the first of the records of these ids that are there, or nobody
abbrev pub first_member : World → Name → List Id → Member
first_member w name ids = first_or_nobody (filter_map (member_at w name) ids)
