-- What is shown of a record.
use Rattle.std.specs.Prelude.{List, Option, Some, None, option_map}
use Rattle.pocket_types.specs.declared.json.Jv.{Jv}
use Rattle.pocket_types.specs.declared.records.Collection.{Collection}
use Rattle.pocket_types.specs.declared.records.Rec.{Rec}
use Rattle.pocket_types.specs.declared.requests.Ask.{Ask}
use Rattle.pocket_types.specs.declared.world.World.{World}
use Rattle.pocket_json.specs.Choosing.{KeyPath, choose_paths, paths_of}
use Rattle.pocket_expand.specs.Expansion.{expansion_by}
use Rattle.pocket_expand.specs.Names.{names_of}
use Rattle.pocket_api.specs.declared.call.ListQuery.{ListQuery}
use Rattle.pocket_api.specs.declared.call.Shown.{Shown}
use Rattle.pocket_core.specs.declared.showing.Display.{Display}

-- what a request asks to be shown, its texts read: the names of related records, and the paths of fields
abbrev pub display_of : Shown → Display
display_of shown = record { names = names_of shown.expand; paths = option_map paths_of shown.fields }

-- what a list asks to be shown of each of its records
abbrev pub shown_of : ListQuery → Shown
shown_of query = record { expand = query.expand; fields = query.fields }

-- a tree cut down to the paths of fields, where there are any
abbrev pub cut_by : Option (List KeyPath) → Jv → Jv
cut_by None tree = tree
cut_by (Some paths) tree = choose_paths tree paths

-- a record as its caller is shown it: with its expansion, cut down to the fields that are asked for
abbrev pub displayed : World → Ask → Collection → Display → Rec → Jv
displayed w ask c display r = cut_by display.paths (expansion_by w ask c r display.names)

abbrev pub shown_jv : World → Ask → Collection → Shown → Rec → Jv
shown_jv w ask c shown r = displayed w ask c (display_of shown) r
