-- The programs that the words of a command line name.
use Rattle.std.specs.Prelude.{◌≡◌, ℕ, Bool, List, Option, Some}
use Rattle.pocket_words.specs.Words.{command_of}
use Rattle.pocket_words.specs.declared.command.Command.TheVariants as command

-- `pipe`, with this administrator's token
abbrev pub IsPipe : List (List ℕ) → List ℕ → Type 0
IsPipe words token = (store : Option (List ℕ)) × (sample : Bool) × (command_of words ≡ Some (command.Pipe token store sample))

-- `serve`, with this administrator's token
abbrev pub IsServe : List (List ℕ) → List ℕ → Type 0
IsServe words token =
    (port : ℕ) × (workers : ℕ) × (connections : ℕ) × (store : Option (List ℕ))
    × (command_of words ≡ Some (command.Serve token port workers connections store))
