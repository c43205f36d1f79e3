-- The forms of single words: tokens, files and numbers.
use Rattle.std.specs.Prelude.{ℕ, ◌==◌, ◌&&◌, ◌||◌, not, Bool, false, nat_le, nat_lt, List, [], ◌∷◌, length, Option, Some, None, if◌then◌else◌}
use Rattle.std.specs.List.{list_all}
use Rattle.std.specs.Str.Parse.{digits_value}
use Rattle.pocket_types.specs.Names.{is_letter, is_digit}

abbrev pub is_token_byte : ℕ → Bool
is_token_byte b = is_letter b || is_digit b

-- a token: 16 to 64 letters and digits
abbrev pub is_token : List ℕ → Bool
is_token text = nat_le 16 (length text) && nat_le (length text) 64 && list_all is_token_byte text

-- a file: it isn't empty and doesn't begin with `-`
abbrev pub is_file : List ℕ → Bool
is_file [] = false
is_file (b ∷ rest) = not (b == 45)

-- a number: one or more digits
abbrev pub is_number : List ℕ → Bool
is_number text = nat_lt 0 (length text) && list_all is_digit text

-- a number is in its range
abbrev pub in_range : ℕ → ℕ → ℕ → Option ℕ
in_range least most n = if nat_le least n && nat_le n most then Some n else None

-- the token, the file, and the number in its range that a text is

abbrev pub token_of : List ℕ → Option (List ℕ)
token_of text = if is_token text then Some text else None

abbrev pub file_of : List ℕ → Option (List ℕ)
file_of text = if is_file text then Some text else None

abbrev pub number_in : ℕ → ℕ → List ℕ → Option ℕ
number_in least most text = if is_number text then in_range least most (digits_value 10 text) else None
