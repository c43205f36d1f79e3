-- What the members, choices and scenes that the code lends stand for.
use Rattle.std.specs.Prelude.{List, map}
use Rattle.pocket_types.specs.World.{lent_world}
use Rattle.pocket_meaning.specs.declared.members.Member.{Member}
use Rattle.pocket_meaning.specs.declared.members.Member.TheVariants as lent
use Rattle.pocket_meaning.specs.declared.members.Chosen.{Chosen}
use Rattle.pocket_meaning.specs.declared.members.Scene.{Scene}
use Rattle.pocket_meaning.specs.Members as member
use Rattle.pocket_meaning.specs.Sights.{Sight, sight}
use Rattle.pocket_meaning.specs.Choices.{Choice}

-- the member that a borrowed one stands for
abbrev pub seen : Member → member.Member
seen lent.Nobody = member.Nobody
seen (lent.Record c r) = member.Record c.now r.now
seen (lent.Item text) = member.Item text.now
seen lent.Sent = member.Sent

-- the choice that borrowed prefixes and members stand for
abbrev pub choice_of : List Chosen → Choice
choice_of = map (λ x. (x.prefix.now, seen x.member))

-- what is seen in a scene
abbrev pub sight_of : Scene → Sight
sight_of s = sight (lent_world s.shelves.now) s.ask.now s.home.now s.rec.now
