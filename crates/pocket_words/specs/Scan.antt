-- The options that stand among the words of a command, read word by word.
use Rattle.std.specs.Prelude.{◌==◌, ◌||◌, Bool, false, ℕ, List, [], ◌∷◌, ◌++◌, codes, Option, Some, None, is_some, if◌then◌else◌, option_and_then}
use Rattle.std.specs.List.{list_any}
use Rattle.std.specs.Str.{bytes_eq}
use Rattle.clap.specs.Lexer.{long_of}
use Rattle.pocket_words.specs.declared.command.Verb.{Verb}
use Rattle.pocket_words.specs.declared.command.Verb.TheVariants.{Pipe, Serve}

-- the options of a command that have a value
abbrev pub has_value : Verb → List ℕ → Bool
has_value Pipe name = bytes_eq name (codes "admin") || bytes_eq name (codes "store")
has_value Serve name = bytes_eq name (codes "admin") || bytes_eq name (codes "store")
    || bytes_eq name (codes "port") || bytes_eq name (codes "workers") || bytes_eq name (codes "connections")

-- those that have none
abbrev pub is_flag : Verb → List ℕ → Bool
is_flag Pipe name = bytes_eq name (codes "sample")
is_flag Serve name = false

-- an option that stands among the words; the value of a flag is empty
pub record Setting : Type 0 where
  pub name : List ℕ
  pub value : List ℕ

-- what a scan knows between two words: the options so far, and the name of the one that waits for its value
pub record Scan : Type 0 where
  pub settings : List Setting
  pub waiting : Option (List ℕ)

abbrev pub is_named : List ℕ → Setting → Bool
is_named name s = bytes_eq s.name name

-- one more option; each stands at most once
abbrev pub added : List ℕ → List ℕ → List Setting → Option Scan
added name value settings =
    if list_any (is_named name) settings then None
    else Some (record { settings = settings ++ record { name = name; value = value } ∷ []; waiting = None })

-- `--name=value` or `--name`
abbrev pub name_met : Verb → List ℕ → Option (List ℕ) → List Setting → Option Scan
name_met verb name (Some value) settings = if has_value verb name then added name value settings else None
name_met verb name None settings =
    if is_flag verb name then added name [] settings
    else if has_value verb name then Some (record { settings = settings; waiting = Some name })
    else None

-- a word for which no option waits: it is an option
abbrev pub option_met : Verb → Option (List ℕ × Option (List ℕ)) → List Setting → Option Scan
option_met verb None settings = None
option_met verb (Some p) settings = name_met verb p.0 p.1 settings

-- the text begins with `-`
abbrev pub has_dash : List ℕ → Bool
has_dash [] = false
has_dash (b ∷ rest) = b == 45

-- the value of an option in a word of its own; it doesn't begin with `-`
abbrev pub value_met : List ℕ → List ℕ → List Setting → Option Scan
value_met name word settings = if has_dash word then None else added name word settings

-- a word, after an option that waits for it as its value, or after none
abbrev pub met_after : Verb → Option (List ℕ) → List ℕ → List Setting → Option Scan
met_after verb (Some name) word settings = value_met name word settings
met_after verb None word settings = option_met verb (long_of word) settings

unfoldable pub next_scan : Verb → Scan → List ℕ → Option Scan
next_scan verb s word = met_after verb s.waiting word s.settings

-- the options at the end, where none waits for a value
unfoldable pub scanned : Verb → Scan → List (List ℕ) → Option (List Setting)
scanned verb s [] = if is_some s.waiting then None else Some s.settings
scanned verb s (word ∷ rest) = option_and_then (λ next. scanned verb next rest) (next_scan verb s word)

abbrev pub start : Scan
start = record { settings = []; waiting = None }

-- the options that the words are, in their order
abbrev pub settings_of : Verb → List (List ℕ) → Option (List Setting)
settings_of verb words = scanned verb start words
