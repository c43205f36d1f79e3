-- What a token must be by itself to stand in a sound state.
use Rattle.std.specs.Prelude.{◌==◌, ◌&&◌, ◌||◌, nat_le, ℕ, Bool, List, length, IsTrue}
use Rattle.std.specs.List.{list_all}
use Rattle.pocket_types.specs.Names.{is_name, is_id, IsMoment}
use Rattle.pocket_keeper.specs.declared.tokens.Token.{Token}

-- a digit of 0 to 9 and a to f
abbrev pub is_hex : ℕ → Bool
is_hex b = (nat_le 48 b && nat_le b 57) || (nat_le 97 b && nat_le b 102)

-- 32 hexadecimal digits in lower case
abbrev pub is_token : List ℕ → Bool
is_token text = length text == 32 && list_all is_hex text

-- a token by itself
pub record IsSoundToken (t : Token) : Type 0 where
  pub text : IsTrue (is_token t.text)
  pub collection : IsTrue (is_name t.collection)
  pub id : IsTrue (is_id t.id)
  pub until : IsMoment t.until
