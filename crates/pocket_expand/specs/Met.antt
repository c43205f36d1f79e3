-- Related records as they are met, told in whole records.
use Rattle.std.specs.Prelude.{Bool, false, ◌&&◌, map}
use Rattle.std.specs.Option.{option_map_or}
use Rattle.pocket_types.specs.Callers.{is_admin}
use Rattle.pocket_types.specs.declared.ids.Id.{Id}
use Rattle.pocket_types.specs.declared.names.Name.{Name}
use Rattle.pocket_types.specs.declared.records.Collection.{Collection}
use Rattle.pocket_types.specs.declared.records.Rec.{Rec}
use Rattle.pocket_types.specs.declared.requests.Action.TheVariants as action
use Rattle.pocket_types.specs.declared.requests.Ask.{Ask}
use Rattle.pocket_types.specs.declared.world.World.{World}
use Rattle.pocket_meaning.specs.Members as member
use Rattle.pocket_meaning.specs.Related.{refers}
use Rattle.pocket_meaning.specs.Seen.{seen}
use Rattle.pocket_meaning.specs.declared.members.Member.{Member}
use Rattle.pocket_gate.specs.Rules.{may}
use Rattle.pocket_gate.specs.Shown.{field_shown, shown}
use Rattle.pocket_expand.specs.Expansion.{Related}
use Rattle.pocket_expand.specs.declared.related.Found.{Found}

-- whether a record's field, where it isn't hidden or the record is seen whole, refers to the record of a collection and an id
abbrev pub points_shown : Bool → Collection → Name → Name → Id → Rec → Bool
points_shown whole c field name id r = option_map_or (refers name id) (field_shown whole c r field) false

-- whether the caller sees that a record refers to the record of a collection and an id
abbrev pub is_holder : World → Ask → Collection → Name → Name → Id → Rec → Bool
is_holder w ask c field name id r = points_shown (is_admin ask.caller) c field name id r && may w ask action.View c r

-- what a caller sees of a record that was met
abbrev pub member_seen : Bool → Member → member.Member
member_seen whole m = shown whole (seen m)

-- what a caller sees of related records that were met
abbrev pub found_seen : Bool → Found → Related
found_seen whole found = record { several = found.several; members = map (member_seen whole) found.members.items }
