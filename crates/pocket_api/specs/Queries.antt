-- The queries that calls read.
use Rattle.std.specs.Prelude.{ℕ, ◌&&◌, ◌||◌, nat_lt, nat_le, Bool, false, List, [], ◌∷◌, map, length, find, codes, Option, Some, None, if◌then◌else◌, option_and_then}
use Rattle.std.specs.Option.{option_map_or}
use Rattle.std.specs.List.{list_all}
use Rattle.std.specs.Str.{bytes_eq}
use Rattle.std.specs.Str.Lossy.{utf8_lossy}
use Rattle.std.specs.Str.Parse.{digits_value}
use Rattle.form_urlencoded.specs.Form.{raw_pairs, decode}
use Rattle.pocket_types.specs.Names.{is_digit}
use Rattle.pocket_types.specs.declared.requests.Pair.{Pair}
use Rattle.pocket_api.specs.declared.call.ListQuery.{ListQuery}
use Rattle.pocket_api.specs.declared.call.Shown.{Shown}

-- ---- pairs

-- a pair of a query, decoded; what isn't UTF-8 is replaced
abbrev pub query_pair : List ℕ × List ℕ → Pair
query_pair p = record { name = utf8_lossy (decode p.0); value = utf8_lossy (decode p.1) }

-- the pairs of a query, in order
abbrev pub query_pairs : List ℕ → List Pair
query_pairs query = map query_pair (raw_pairs query)

-- ---- values

-- the pair has this name
abbrev pub is_named : List ℕ → Pair → Bool
is_named name p = bytes_eq p.name name

-- a text that isn't empty
abbrev pub unless_empty : List ℕ → Option (List ℕ)
unless_empty [] = None
unless_empty (b ∷ bs) = Some (b ∷ bs)

-- the value of a name: of equal names the first counts, and an empty value is absent
abbrev pub query_value : List Pair → List ℕ → Option (List ℕ)
query_value query name = option_and_then (λ p. unless_empty p.value) (find (is_named name) query)

-- the number that 1 to so many digits are, else 0
abbrev pub number_of : ℕ → List ℕ → ℕ
number_of most text = if nat_lt 0 (length text) && nat_le (length text) most && list_all is_digit text then digits_value 10 text else 0

-- the number of a name, 0 where it is absent
abbrev pub query_number : ℕ → List Pair → List ℕ → ℕ
query_number most query name = option_map_or (number_of most) (query_value query name) 0

-- a yes is `1` or `true`
abbrev pub is_yes : List ℕ → Bool
is_yes text = bytes_eq text (codes "1") || bytes_eq text (codes "true")

-- whether the value of a name is a yes
abbrev pub query_flag : List Pair → List ℕ → Bool
query_flag query name = option_map_or is_yes (query_value query name) false

-- ---- calls

-- the query of a list; its numbers have at most 9 digits
abbrev pub list_query : List Pair → ListQuery
list_query query = record {
  page = query_number 9 query (codes "page");
  per_page = query_number 9 query (codes "perPage");
  sort = query_value query (codes "sort");
  filter = query_value query (codes "filter");
  expand = query_value query (codes "expand");
  fields = query_value query (codes "fields");
  skip_total = query_flag query (codes "skipTotal");
}

-- what the answer is to show
abbrev pub shown_by : List Pair → Shown
shown_by query = record { expand = query_value query (codes "expand"); fields = query_value query (codes "fields") }
