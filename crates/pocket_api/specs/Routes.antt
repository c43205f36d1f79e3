-- The routes: which resource a path names, and what each method calls for there.
use Rattle.std.specs.Prelude.{ℕ, ◌==◌, nat_lt, Bool, List, [], get_or, length, codes, Option, Some, None, if◌then◌else◌}
use Rattle.std.specs.Cmp.Lexicographic.{pointwise}
use Rattle.std.specs.List.{after_first, before_first, slice_split, starts_with}
use Rattle.std.specs.Str.{bytes_eq}
use Rattle.pocket_types.specs.declared.json.Jv.{Jv}
use Rattle.pocket_types.specs.declared.requests.Method.{Method}
use Rattle.pocket_types.specs.declared.requests.Method.TheVariants.{Get, Post, Patch, Delete}
use Rattle.pocket_types.specs.declared.requests.Pair.{Pair}
use Rattle.pocket_api.specs.Queries.{list_query, query_number, query_pairs, shown_by}
use Rattle.pocket_api.specs.declared.call.Call.{Call}
use Rattle.pocket_api.specs.declared.call.Call.TheVariants as call
use Rattle.pocket_api.specs.declared.call.Target.{Target}
use Rattle.pocket_api.specs.declared.routes.Resource.{Resource}
use Rattle.pocket_api.specs.declared.routes.Resource.TheVariants.{Collections, Collection, Records, Record, Impersonation, Batch, Realtime, Client}

-- ---- targets

abbrev pub is_question_mark : ℕ → Bool
is_question_mark b = b == 63

-- the path of a target: what stands before its first `?`
abbrev pub path_of : List ℕ → List ℕ
path_of target = before_first is_question_mark target

-- the pairs of the query behind it
abbrev pub query_of : List ℕ → List Pair
query_of target = query_pairs (after_first is_question_mark target)

-- ---- paths

abbrev pub is_slash : ℕ → Bool
is_slash b = b == 47

-- the segments of a path, of which the first stands before its first slash
abbrev pub segments : List ℕ → List (List ℕ)
segments path = slice_split is_slash path

-- a segment of a route fits one of a path: one in braces each that isn't empty, and any other itself
abbrev pub fits_segment : List ℕ → List ℕ → Bool
fits_segment word segment = if starts_with ◌==◌ word (codes "{") then nat_lt 0 (length segment) else bytes_eq segment word

-- a route fits a path segment by segment
unfoldable pub fits : List ℕ → List ℕ → Bool
fits route path = pointwise fits_segment (segments route) (segments path)

-- the resource that a path names
abbrev pub resource_of : List ℕ → Option Resource
resource_of path =
    if fits (codes "/api/collections") path then Some Collections
    else if fits (codes "/api/collections/{c}") path then Some Collection
    else if fits (codes "/api/collections/{c}/records") path then Some Records
    else if fits (codes "/api/collections/{c}/records/{id}") path then Some Record
    else if fits (codes "/api/collections/{c}/impersonate/{id}") path then Some Impersonation
    else if fits (codes "/api/batch") path then Some Batch
    else if fits (codes "/api/realtime") path then Some Realtime
    else if fits (codes "/api/realtime/{id}") path then Some Client
    else None

-- the segment of a path at a place
abbrev pub segment_at : ℕ → List ℕ → List ℕ
segment_at n path = get_or (segments path) n []

-- the collection of a path, that of a record or its token, and the client of one
abbrev pub collection_in : List ℕ → List ℕ
collection_in path = segment_at 3 path

abbrev pub target_in : List ℕ → Target
target_in path = record { collection = segment_at 3 path; id = segment_at 5 path }

abbrev pub client_in : List ℕ → List ℕ
client_in path = segment_at 3 path

-- ---- calls

-- what a method calls for at a resource
abbrev pub call_at : Resource → Method → List ℕ → List Pair → Option Jv → Call
call_at Collections Get path query body = call.Collections
call_at Collections Post path query body = call.CollectionNew body
call_at Collection Get path query body = call.CollectionGet (collection_in path)
call_at Collection Patch path query body = call.CollectionSet (collection_in path) body
call_at Collection Delete path query body = call.CollectionDrop (collection_in path)
call_at Records Get path query body = call.List (collection_in path) (list_query query)
call_at Records Post path query body = call.Create (collection_in path) body (shown_by query)
call_at Record Get path query body = call.View (target_in path) (shown_by query)
call_at Record Patch path query body = call.Update (target_in path) body (shown_by query)
call_at Record Delete path query body = call.Remove (target_in path)
call_at Impersonation Post path query body = call.Impersonate (target_in path) body
call_at Batch Post path query body = call.Batch body
call_at Realtime Get path query body = call.LiveOpen
call_at Realtime Post path query body = call.LiveSet body
call_at Client Get path query body = call.LivePoll (client_in path) (query_number 15 query (codes "after"))
call_at Client Delete path query body = call.LiveClose (client_in path)
call_at _ _ path query body = call.NoRoute

-- what a method calls for at a path
abbrev pub call_on : Option Resource → Method → List ℕ → List Pair → Option Jv → Call
call_on None method path query body = call.NoRoute
call_on (Some resource) method path query body = call_at resource method path query body

-- what a method calls for with a target and a body
abbrev pub call_of : Method → List ℕ → Option Jv → Call
call_of method target body = call_on (resource_of (path_of target)) method (path_of target) (query_of target) body
