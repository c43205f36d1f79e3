-- The block of a request's head, which is cut off before the head is read. The lines of a head end in CR LF or in LF alone
-- (RFC 9112, section 2.2).
use Rattle.std.specs.Prelude.{◌≡◌, ℕ, ◌≤◌, ◌<◌, ◌==◌, ◌||◌, ◌⊎◌, nat_eq, Bool, true, false, List, [], ◌∷◌, ◌++◌, length, take, drop, count_by, if◌then◌else◌}
use Rattle.std.specs.List.{starts_with, ends_with}
use Rattle.httparse.specs.Ascii.{line_feed, carriage_return, crlf_bytes}

-- the bytes behind the one empty line CR LF that may stand before a head
abbrev pub after_empty_line : List ℕ → List ℕ
after_empty_line bytes = if starts_with nat_eq bytes crlf_bytes then drop 2 bytes else bytes

-- the last line is empty: a line feed, and behind it LF or CR LF
abbrev pub ends_with_empty_line : List ℕ → Bool
ends_with_empty_line bytes =
    ends_with nat_eq bytes (line_feed ∷ line_feed ∷ []) || ends_with nat_eq bytes (line_feed ∷ carriage_return ∷ line_feed ∷ [])

-- an empty line ends the bytes, that before the head apart
unfoldable pub is_ended : List ℕ → Bool
is_ended bytes = ends_with_empty_line (after_empty_line bytes)

-- an empty line ends no shorter front of the bytes
abbrev pub IsPartOfBlock : List ℕ → Type 0
IsPartOfBlock bytes = (n : ℕ) → n < length bytes → is_ended (take n bytes) ≡ false

abbrev pub is_line_feed : ℕ → Bool
is_line_feed byte = byte == line_feed

-- the number of line feeds, that of the empty line before the head apart
abbrev pub line_feeds : List ℕ → ℕ
line_feeds bytes = count_by is_line_feed (after_empty_line bytes)

-- the bytes are a block: they end with their first empty line, and have at most 16,384 bytes and 66 line feeds
pub record IsBlock (bytes : List ℕ) : Type 0 where
  pub part : IsPartOfBlock bytes
  pub ended : is_ended bytes ≡ true
  pub few : length bytes ≤ 16384
  pub feeds : line_feeds bytes ≤ 66

-- the bytes begin with a part of a block that has more than 66 line feeds, or 16,384 bytes and not its end
pub record IsTooLong (bytes : List ℕ) : Type 0 where
  pub front : List ℕ
  pub rest : List ℕ
  pub bytes_are : bytes ≡ front ++ rest
  pub part : IsPartOfBlock front
  pub passes : (66 < line_feeds front) ⊎ ((length front ≡ 16384) × (is_ended front ≡ false))

-- the bytes are a part of a block that more bytes can end
pub record IsUnfinished (bytes : List ℕ) : Type 0 where
  pub part : IsPartOfBlock bytes
  pub going : is_ended bytes ≡ false
  pub few : length bytes < 16384
  pub feeds : line_feeds bytes ≤ 66
