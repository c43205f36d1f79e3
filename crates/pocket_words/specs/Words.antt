-- What the words of a command line mean.
use Rattle.std.specs.Prelude.{◌&&◌, Bool, ℕ, List, [], ◌∷◌, codes, Option, Some, None, is_some, if◌then◌else◌, find, option_map, option_and_then}
use Rattle.std.specs.List.{list_any}
use Rattle.std.specs.Option.{option_map_or}
use Rattle.std.specs.Str.{bytes_eq}
use Rattle.pocket_words.specs.Forms.{token_of, file_of, number_in}
use Rattle.pocket_words.specs.Scan.{Setting, is_named, settings_of}
use Rattle.pocket_words.specs.declared.command.Command.{Command}
use Rattle.pocket_words.specs.declared.command.Command.TheVariants as command
use Rattle.pocket_words.specs.declared.command.Verb.TheVariants.{Pipe, Serve}

-- the value of an option, where it stands
abbrev pub value_of : List ℕ → List Setting → Option (List ℕ)
value_of name settings = option_map (λ s. s.value) (find (is_named name) settings)

-- whether a flag stands
abbrev pub has_flag : List ℕ → List Setting → Bool
has_flag name settings = list_any (is_named name) settings

-- the token of `--admin`, which has to stand
unfoldable pub admin_of : Option (List ℕ) → Option (List ℕ)
admin_of given = option_and_then token_of given

-- the file of `--store`, which may be left out
unfoldable pub store_of : Option (List ℕ) → Option (Option (List ℕ))
store_of given = option_map_or (λ text. option_map (λ file. Some file) (file_of text)) given (Some None)

-- a number that has to stand
unfoldable pub number_of : ℕ → ℕ → Option (List ℕ) → Option ℕ
number_of least most given = option_and_then (number_in least most) given

-- a number that may be left out
unfoldable pub number_or : ℕ → ℕ → ℕ → Option (List ℕ) → Option ℕ
number_or usual least most given = option_map_or (number_in least most) given (Some usual)

-- a file and the sample don't stand together
abbrev pub pipe_unless : Bool → List ℕ → Option (List ℕ) → Bool → Option Command
pipe_unless both admin store sample = if both then None else Some (command.Pipe admin store sample)

unfoldable pub pipe_with : Option (List ℕ) → Option (List ℕ) → Bool → Option Command
pipe_with admin store sample =
    option_and_then (λ token. option_and_then (λ file. pipe_unless (is_some file && sample) token file sample) (store_of store)) (admin_of admin)

unfoldable pub serve_with : Option (List ℕ) → Option (List ℕ) → Option (List ℕ) → Option (List ℕ) → Option (List ℕ) → Option Command
serve_with admin port workers connections store =
    option_and_then (λ token. option_and_then (λ p. option_and_then (λ w. option_and_then (λ c.
    option_map (λ file. command.Serve token p w c file)
    (store_of store))
    (number_or 1000000 1 1000000 connections))
    (number_or 4 1 64 workers))
    (number_of 1 65535 port))
    (admin_of admin)

-- `pipe` and `serve` with their options

abbrev pub pipe_of : List Setting → Option Command
pipe_of settings = pipe_with (value_of (codes "admin") settings) (value_of (codes "store") settings) (has_flag (codes "sample") settings)

abbrev pub serve_of : List Setting → Option Command
serve_of settings = serve_with (value_of (codes "admin") settings) (value_of (codes "port") settings) (value_of (codes "workers") settings)
    (value_of (codes "connections") settings) (value_of (codes "store") settings)

-- `load START COUNT`
unfoldable pub load_of : List (List ℕ) → Option Command
load_of (start ∷ count ∷ []) =
    option_and_then (λ first. option_map (λ number. command.Load first number) (number_in 1 50000 count)) (number_in 0 999999 start)
load_of _ = None

-- `check`, alone
unfoldable pub check_of : List (List ℕ) → Option Command
check_of [] = Some command.Check
check_of (word ∷ rest) = None

-- the words after the first
unfoldable pub command_named : List ℕ → List (List ℕ) → Option Command
command_named name words =
    if bytes_eq name (codes "pipe") then option_and_then pipe_of (settings_of Pipe words)
    else if bytes_eq name (codes "serve") then option_and_then serve_of (settings_of Serve words)
    else if bytes_eq name (codes "load") then load_of words
    else if bytes_eq name (codes "check") then check_of words
    else None

-- the command that the words give, none where they aren't good
unfoldable pub command_of : List (List ℕ) → Option Command
command_of [] = None
command_of (name ∷ words) = command_named name words
