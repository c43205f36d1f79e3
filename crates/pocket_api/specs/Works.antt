-- The work of a request.
use Rattle.std.specs.Prelude.{ℕ, ◌==◌, Bool, List, [], ◌∷◌, map, drop, find, Option, Some, None, codes, option_map, if◌then◌else◌}
use Rattle.std.specs.Char.{to_ascii_lowercase}
use Rattle.std.specs.List.{starts_with}
use Rattle.std.specs.Str.{bytes_eq, is_utf8}
use Rattle.pocket_types.specs.Maps.{map_jv}
use Rattle.pocket_types.specs.declared.json.Jv.{Jv}
use Rattle.pocket_types.specs.declared.requests.Pair.{Pair}
use Rattle.pocket_json.specs.Reading.{read}
use Rattle.pocket_wire.specs.declared.request.Request.{Request}
use Rattle.pocket_api.specs.Routes.{call_of, query_of}
use Rattle.pocket_api.specs.declared.work.Draw.{Draw}
use Rattle.pocket_api.specs.declared.work.Work.{Work}

-- ---- headers

-- a byte of a header's name as rules write it
abbrev pub header_byte : ℕ → ℕ
header_byte b = if b == 45 then 95 else to_ascii_lowercase b

-- a header as rules see it: its name in lower case, with `-` as `_`
abbrev pub header_pair : Pair → Pair
header_pair p = record p { name = map header_byte p.name }

-- `Bearer ` at the front is no part of the token
abbrev pub without_bearer : List ℕ → List ℕ
without_bearer value = if starts_with ◌==◌ value (codes "Bearer ") then drop 7 value else value

abbrev pub is_authorization : Pair → Bool
is_authorization header = bytes_eq header.name (codes "authorization")

-- the token in headers as rules see them: that of the first `authorization`
abbrev pub token_in : List Pair → Option (List ℕ)
token_in headers = option_map (λ header. without_bearer header.value) (find is_authorization headers)

-- ---- bodies

-- the tree of bytes, where they are JSON
abbrev pub tree_of : List ℕ → Option Jv
tree_of bytes = if is_utf8 bytes then read bytes else None

-- the tree of a body: an empty one is an empty map, and one that isn't JSON has none
abbrev pub body_of : List ℕ → Option Jv
body_of [] = Some (map_jv [])
body_of (b ∷ bytes) = tree_of (b ∷ bytes)

-- ---- works

-- the work of a request under a draw
abbrev pub work_of : Request → Draw → Work
work_of request draw = record {
  token = token_in (map header_pair request.headers);
  method = request.method;
  headers = map header_pair request.headers;
  query = query_of request.target;
  draw = draw;
  call = call_of request.method request.target (body_of request.body);
  cost = request.cost;
}
