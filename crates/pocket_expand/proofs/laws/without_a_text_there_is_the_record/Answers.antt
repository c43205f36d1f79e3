use Rattle.std.proofs.Common.{ap}
use Rattle.pocket_types.specs.Maps.{map_jv}
use Rattle.pocket_expand.proofs.FieldLemmas.{members_as_shown}
use Rattle.pocket_expand.proofs.laws.without_a_text_there_is_the_record.Goals as goal

pub returns : goal.returns
returns c = λ w ask k r. ap map_jv (members_as_shown ask.caller k r)
