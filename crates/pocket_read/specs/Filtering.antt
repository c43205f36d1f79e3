-- The filter of a client.
use Rattle.std.specs.Prelude.{ℕ, Bool, true, List, Option, Some, None, Result, Ok}
use Rattle.pocket_types.specs.Callers.{is_admin}
use Rattle.pocket_types.specs.Chains.{◌>>=◌}
use Rattle.pocket_types.specs.declared.names.Name.{Name}
use Rattle.pocket_types.specs.declared.records.Collection.{Collection}
use Rattle.pocket_types.specs.declared.records.Rec.{Rec}
use Rattle.pocket_types.specs.declared.requests.Ask.{Ask}
use Rattle.pocket_types.specs.declared.requests.Caller.{Caller}
use Rattle.pocket_types.specs.declared.resolved.Resolved.{Resolved}
use Rattle.pocket_types.specs.declared.world.World.{World}
use Rattle.pocket_filter.specs.Parsed.{parsed}
use Rattle.pocket_resolve.specs.Filters.{resolution}
use Rattle.pocket_resolve.specs.declared.purpose.Purpose.{Purpose}
use Rattle.pocket_resolve.specs.declared.purpose.Purpose.TheVariants.{ClientOf}
use Rattle.pocket_meaning.specs.Meaning.{holds}
use Rattle.pocket_gate.specs.Seen.{seen_home, seen_world}
use Rattle.pocket_read.specs.Answers.{refuse_as}
use Rattle.pocket_read.specs.declared.faults.ReadFault.{ReadFault}
use Rattle.pocket_read.specs.declared.faults.ReadFault.TheVariants.{BadFilter, BadPath}

-- what a client's paths are resolved for
abbrev pub client_of : Caller → Name → Purpose
client_of who home = ClientOf home (is_admin who)

-- the filter of a client's text, or what is wrong with it
unfoldable pub filter_of_text : List Collection → Purpose → List ℕ → Result (Option Resolved) ReadFault
filter_of_text collections purpose text = do
  tree ← refuse_as BadFilter (parsed text)
  filter ← refuse_as BadPath (resolution collections purpose tree)
  Ok (Some filter)

-- the filter of a client, where it sent one
abbrev pub client_filter : List Collection → Purpose → Option (List ℕ) → Result (Option Resolved) ReadFault
client_filter collections purpose None = Ok None
client_filter collections purpose (Some text) = filter_of_text collections purpose text

-- whether a record passes: the filter holds of it in what its caller sees, of the record too
abbrev pub passes : World → Ask → Name → Option Resolved → Rec → Bool
passes w ask home None r = true
passes w ask home (Some f) r = holds (seen_world w ask) ask home (seen_home w ask home r) f
