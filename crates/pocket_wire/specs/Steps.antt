-- What the steps of reading a request come to.
use Rattle.std.specs.Prelude.{◌≡◌, ◌≤◌, ◌<◌, ◌⊎◌, ℕ, ◌+◌, List, [], ◌∷◌, ◌++◌, length, map, drop, get_or, min, Option, Some, None, Result, Ok, Err, Bool, true, false, ⊤}
use Rattle.std.specs.Option.{option_map}
use Rattle.std.specs.Io.KnownBytes.{IsAtEnd}
use Rattle.httparse.specs.Grammar.{RequestHead}
use Rattle.httparse.specs.Spans.{header_bytes, span_bytes}
use Rattle.httparse.specs.declared.spans.HeaderSpan.{HeaderSpan}
use Rattle.pocket_wire.specs.Heads.{IsHead, asks_close, body_length, fields_of, headers_of, method_of, refusal, refusal_by, values_of}
use Rattle.pocket_types.specs.declared.requests.Method.{Method}
use Rattle.pocket_wire.specs.Blocks.{IsUnfinished}
use Rattle.pocket_wire.specs.Searches.{IsFound}
use Rattle.pocket_wire.specs.declared.block.Found.{Found}
use Rattle.pocket_wire.specs.declared.head.Head.{Head}
use Rattle.pocket_wire.specs.declared.head.Head.TheVariants as head
use Rattle.pocket_wire.specs.declared.head.HeadParts.{HeadParts}
use Rattle.pocket_wire.specs.declared.request.Request.{Request}
use Rattle.pocket_wire.specs.declared.request.WireFault.{WireFault}
use Rattle.pocket_wire.specs.declared.request.WireFault.TheVariants as fault

-- ---- heads

-- the first of the fields of this name stands at this place
pub record IsFirstNamed (name lines : List ℕ) (fields : List HeaderSpan) (at : ℕ) : Type 0 where
  pub within : at < length fields
  pub values : (field : HeaderSpan) → values_of name (map (header_bytes lines) fields)
      ≡ span_bytes lines (get_or fields at field).value ∷ values_of name (map (header_bytes lines) (drop (at + 1) fields))

-- a length, where all that are over the limit of a body are one
abbrev pub clipped : Option ℕ → Option ℕ
clipped length = option_map (λ n. min n 1048577) length

-- the method of a head and the length of its body, or the status that refuses it, by what a refusal rests on
abbrev pub IsVerdictBy : Bool → Option ℕ → Bool → Option Method → Result (Method × ℕ) ℕ → Type 0
IsVerdictBy is_path length is_coded known (Ok (method, n)) =
    (refusal_by is_path length is_coded known ≡ None) × (known ≡ Some method) × (length ≡ Some n)
IsVerdictBy is_path length is_coded known (Err status) = refusal_by is_path length is_coded known ≡ Some status

-- the same of a head with these parts
abbrev pub IsVerdict : List ℕ → List ℕ → List (List ℕ × List ℕ) → Result (Method × ℕ) ℕ → Type 0
IsVerdict name target fields (Ok (method, length)) =
    (refusal name target fields ≡ None) × (method_of name ≡ Some method) × (body_length fields ≡ Some length)
IsVerdict name target fields (Err status) = refusal name target fields ≡ Some status

-- the parts of a request that a head with these parts asks for
pub record IsAsked (name target : List ℕ) (minor : ℕ) (fields : List (List ℕ × List ℕ)) (parts : HeadParts) : Type 0 where
  pub good : refusal name target fields ≡ None
  pub method : method_of name ≡ Some parts.method
  pub target_is : parts.target ≡ target
  pub headers : parts.headers ≡ headers_of fields
  pub close : parts.close ≡ asks_close minor parts.headers
  pub length : body_length fields ≡ Some parts.length

-- what a head with these parts comes to
abbrev pub IsJudged : List ℕ → List ℕ → ℕ → List (List ℕ × List ℕ) → Head → Type 0
IsJudged name target minor fields (head.Refused status) = refusal name target fields ≡ Some status
IsJudged name target minor fields (head.Asks parts) = IsAsked name target minor fields parts

-- what lines come to
abbrev pub IsHeadOf : List ℕ → Head → Type 0
IsHeadOf lines is =
    ((h : RequestHead) × IsHead lines h × IsJudged h.method h.target h.minor (fields_of h) is)
    ⊎ ((is ≡ head.Refused 400) × ((h : RequestHead) → ¬ (IsHead lines h)))

-- ---- reads

-- one piece more, of so many bytes, none only at the end; what fails adds none
abbrev pub IsPiece : List ℕ → List ℕ → List ℕ → Option (List ℕ) → Result ℕ WireFault → Type 0
IsPiece old got new left (Ok n) = (new ≡ old ++ got) × (length got ≡ n) × (n ≡ 0 → IsAtEnd left)
IsPiece old got new left (Err fault.SourceFault) = (got ≡ []) × (new ≡ old)
IsPiece old got new left (Err fault.Memory) = ⊤

-- what was read is added
abbrev pub IsAdded : {T : Type 0} → List ℕ → List ℕ → List ℕ → Result T WireFault → Type 0
IsAdded old got new (Err fault.Memory) = ⊤
IsAdded old got new _ = new ≡ old ++ got

-- the block is found, or the source ended or failed before
abbrev pub IsBlockFound : List ℕ → Option (List ℕ) → Result (Option Found) WireFault → Type 0
IsBlockFound bytes left (Ok (Some found)) = IsFound bytes found
IsBlockFound bytes left (Ok None) = IsUnfinished bytes × IsAtEnd left
IsBlockFound bytes left (Err fault.SourceFault) = IsUnfinished bytes
IsBlockFound bytes left (Err fault.Memory) = ⊤

-- so many bytes are there, or the source ended or failed before
abbrev pub IsFilled : ℕ → List ℕ → Option (List ℕ) → Result Bool WireFault → Type 0
IsFilled size bytes left (Ok true) = size ≤ length bytes
IsFilled size bytes left (Ok false) = (length bytes < size) × IsAtEnd left
IsFilled size bytes left (Err fault.SourceFault) = length bytes < size
IsFilled size bytes left (Err fault.Memory) = ⊤

-- the request of a head with this body, which has so many bytes in all
pub record IsWithBody (parts : HeadParts) (body : List ℕ) (size : ℕ) (request : Request) : Type 0 where
  pub method : request.method ≡ parts.method
  pub target : request.target ≡ parts.target
  pub headers : request.headers ≡ parts.headers
  pub body_is : request.body ≡ body
  pub close : request.close ≡ parts.close
  pub cost : request.cost ≡ size
