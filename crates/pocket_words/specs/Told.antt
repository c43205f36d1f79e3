-- What the product tells clap of its commands: what stands behind the command's name.
use Rattle.std.specs.Prelude.{[], Some, true, codes}
use Rattle.clap.specs.Simple.{App, with_rule, new_rule, new_shape}
use Rattle.clap.specs.Walk.{Rule, Text}
use Rattle.clap.specs.declared.builder.action.ArgAction.TheVariants.{Set, SetTrue}
use Rattle.pocket_words.specs.declared.command.Verb.{Verb}
use Rattle.pocket_words.specs.declared.command.Verb.TheVariants.{Pipe, Serve}

-- an option with a value
abbrev pub option_rule : Text → Rule
option_rule name = record (new_rule name) { long = Some name; action = Some Set }

-- one without
abbrev pub flag_rule : Text → Rule
flag_rule name = record (new_rule name) { long = Some name; action = Some SetTrue }

-- a command without options, that adds none
abbrev pub plain_app : Text → App
plain_app name = record { top = record (new_shape name) { no_binary_name = true; disable_help_flag = true }; subs = [] }

-- the two options of `pipe` and of `serve`
abbrev pub kept_app : Text → App
kept_app name = with_rule (with_rule (plain_app name) (option_rule (codes "admin"))) (option_rule (codes "store"))

abbrev pub app_for : Verb → App
app_for Pipe = with_rule (kept_app (codes "pipe")) (flag_rule (codes "sample"))
app_for Serve = with_rule (with_rule (with_rule (kept_app (codes "serve")) (option_rule (codes "port"))) (option_rule (codes "workers"))) (option_rule (codes "connections"))
