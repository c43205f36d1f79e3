-- What a search for the end of a head's block comes to, and how far it has come.
use Rattle.std.specs.Prelude.{◌≡◌, ◌≤◌, ℕ, List, length, take, count_by}
use Rattle.pocket_wire.specs.Blocks.{IsBlock, IsTooLong, IsUnfinished, is_line_feed}
use Rattle.pocket_wire.specs.declared.block.Found.{Found}
use Rattle.pocket_wire.specs.declared.block.Found.TheVariants as found
use Rattle.pocket_wire.specs.declared.block.Search.{Search}

-- the bytes begin with a block of so many bytes, or with what is too long for one
abbrev pub IsFound : List ℕ → Found → Type 0
IsFound bytes (found.Block n) = (n ≤ length bytes) × IsBlock (take n bytes)
IsFound bytes found.TooLong = IsTooLong bytes

-- in the bytes that were looked at a block may go on
pub record IsLookedThrough (bytes : List ℕ) (search : Search) : Type 0 where
  pub within : search.at ≤ length bytes
  pub going : IsUnfinished (take search.at bytes)
  pub feeds : search.feeds ≡ count_by is_line_feed (take search.at bytes)
