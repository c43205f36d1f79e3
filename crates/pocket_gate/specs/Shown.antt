-- What a caller sees of records that are met, told in whole records.
use Rattle.std.specs.Prelude.{Bool, true, false, Option, option_and_then, if◌then◌else◌}
use Rattle.pocket_types.specs.World.{shelf_named}
use Rattle.pocket_types.specs.declared.ids.Id.{Id}
use Rattle.pocket_types.specs.declared.names.Name.{Name}
use Rattle.pocket_types.specs.declared.records.Cell.{Cell}
use Rattle.pocket_types.specs.declared.records.Collection.{Collection}
use Rattle.pocket_types.specs.declared.records.Field.{Field}
use Rattle.pocket_types.specs.declared.records.Rec.{Rec}
use Rattle.pocket_types.specs.declared.world.World.{World}
use Rattle.pocket_meaning.specs.Members.{Member}
use Rattle.pocket_meaning.specs.Members as member
use Rattle.pocket_ops.specs.Fields.{field_at}
use Rattle.pocket_meaning.specs.Related.{shelf_member}
use Rattle.pocket_plan.specs.Cutting.{open_collection, open_rec}
use Rattle.pocket_plan.specs.Guarding.{open_field_at}

-- a record without its hidden fields, unless it is seen whole
abbrev pub shown : Bool → Member → Member
shown true m = m
shown false (member.Record c r) = member.Record (open_collection c) (open_rec c r)
shown false m = m

-- a field of a record that isn't hidden, unless the record is seen whole
abbrev pub field_shown : Bool → Collection → Rec → Name → Option (Field × Cell)
field_shown whole c r name = if whole then field_at c r name else open_field_at c r name

-- the record of a collection and an id
abbrev pub member_at : World → Name → Id → Option Member
member_at w name id = option_and_then (λ s. shelf_member s id) (shelf_named name w.shelves)
