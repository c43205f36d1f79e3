-- What the head of a request asks for, and when it is refused (RFC 9112, sections 3, 5, 6.1, 6.2 and 9.6).
use Rattle.std.specs.Prelude.{◌≡◌, ℕ, ◌==◌, ◌||◌, ◌&&◌, not, ◌⊎◌, Bool, false, List, [], ◌∷◌, length, map, filter, find, codes, bytes_eq, nat_lt, nat_eq, Option, Some, None, is_none, unwrap_or, if◌then◌else◌}
use Rattle.std.specs.List.{flat_map, list_any, list_all, starts_with}
use Rattle.std.specs.Char.{to_ascii_lowercase, is_ascii_digit}
use Rattle.std.specs.Str.{is_utf8}
use Rattle.std.specs.Str.Parse.{digits_value}
use Rattle.httparse.specs.Grammar.{RequestHead, ReadsRequest}
use Rattle.httparse.specs.Spans.{name_and_value}
use Rattle.pocket_types.specs.declared.requests.Pair.{Pair}
use Rattle.pocket_types.specs.declared.requests.Method.{Method}
use Rattle.pocket_types.specs.declared.requests.Method.TheVariants as method
use Rattle.pocket_wire.specs.declared.request.Request.{Request}

-- the lines, all of them, are this head
abbrev pub IsHead : List ℕ → RequestHead → Type 0
IsHead lines h = ReadsRequest lines h []

-- the fields of a head by name and value, without the white space around the value
abbrev pub fields_of : RequestHead → List (List ℕ × List ℕ)
fields_of h = map name_and_value h.fields

-- the name is this one in any case of letters
abbrev pub is_named : List ℕ → List ℕ → Bool
is_named word name = bytes_eq (map to_ascii_lowercase name) word

-- the field has this name
abbrev pub is_field : List ℕ → List ℕ × List ℕ → Bool
is_field word field = is_named word field.0

-- the values of the fields of this name
abbrev pub values_of : List ℕ → List (List ℕ × List ℕ) → List (List ℕ)
values_of word fields = map (λ f. f.1) (filter (is_field word) fields)

-- one or more digits
abbrev pub is_number : List ℕ → Bool
is_number bytes = nat_lt 0 (length bytes) && list_all is_ascii_digit bytes

-- the length of a body that the values of `Content-Length` say, or none where they aren't a number said once
abbrev pub said_length : List (List ℕ) → Option ℕ
said_length [] = Some 0
said_length (value ∷ []) = if is_number value then Some (digits_value 10 value) else None
said_length (value ∷ other ∷ values) = None

-- the length of the body behind a head with these fields
abbrev pub body_length : List (List ℕ × List ℕ) → Option ℕ
body_length fields = said_length (values_of (codes "content-length") fields)

-- the methods that are known; letters of the other case make another method
abbrev pub method_of : List ℕ → Option Method
method_of name =
    if bytes_eq name (codes "GET") then Some method.Get
    else (if bytes_eq name (codes "POST") then Some method.Post
    else (if bytes_eq name (codes "PATCH") then Some method.Patch
    else (if bytes_eq name (codes "PUT") then Some method.Put
    else (if bytes_eq name (codes "DELETE") then Some method.Delete else None))))

-- the status that refuses a head, if one does, by whether its target is a path, the length of its body, whether it has a field
-- `Transfer-Encoding`, and its method
abbrev pub refusal_by : Bool → Option ℕ → Bool → Option Method → Option ℕ
refusal_by is_path length is_coded known =
    if not is_path || is_none length then Some 400
    else (if is_coded || is_none known then Some 501
    else (if nat_lt 1048576 (unwrap_or length 0) then Some 413 else None))

-- the same by its method, target and fields
unfoldable pub refusal : List ℕ → List ℕ → List (List ℕ × List ℕ) → Option ℕ
refusal name target fields =
    refusal_by (starts_with nat_eq target (codes "/")) (body_length fields) (list_any (is_field (codes "transfer-encoding")) fields) (method_of name)

-- lines are refused: as a head with this status, or with 400 where they are no head
abbrev pub AreRefused : List ℕ → ℕ → Type 0
AreRefused lines status =
    ((h : RequestHead) × IsHead lines h × (refusal h.method h.target (fields_of h) ≡ Some status))
    ⊎ ((status ≡ 400) × ((h : RequestHead) → ¬ (IsHead lines h)))

-- a field as a header: none where its value isn't UTF-8
abbrev pub header_of : List ℕ × List ℕ → List Pair
header_of field = if is_utf8 field.1 then record { name = field.0; value = field.1 } ∷ [] else []

-- the headers of a request with these fields, by name and value
abbrev pub headers_of : List (List ℕ × List ℕ) → List Pair
headers_of fields = flat_map header_of fields

-- the header has this name
abbrev pub is_header : List ℕ → Pair → Bool
is_header word header = is_named word header.name

-- the value is `close` in any case of letters
abbrev pub says_close : Option Pair → Bool
says_close None = false
says_close (Some header) = is_named (codes "close") header.value

-- the connection ends after the reply: the version is 1.0, or the first header `Connection` says so
abbrev pub asks_close : ℕ → List Pair → Bool
asks_close minor headers = (minor == 0) || says_close (find (is_header (codes "connection")) headers)

-- a head that isn't refused asks for this request
pub record AsksFor (h : RequestHead) (request : Request) : Type 0 where
  pub good : refusal h.method h.target (fields_of h) ≡ None
  pub method : method_of h.method ≡ Some request.method
  pub target : request.target ≡ h.target
  pub headers : request.headers ≡ headers_of (fields_of h)
  pub length : body_length (fields_of h) ≡ Some (length request.body)
  pub close : request.close ≡ asks_close h.minor request.headers
