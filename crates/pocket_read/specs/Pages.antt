-- The page of a list.
use Rattle.std.specs.Prelude.{ℕ, ◌-◌, ◌*◌, ◌==◌, min, max, ◌&&◌, Bool, List, drop, filter, length, take, Option, Some, None, Result, Ok, if◌then◌else◌}
use Rattle.pocket_types.specs.Chains.{◌>>=◌, refuse}
use Rattle.pocket_types.specs.Within.{collections_of}
use Rattle.pocket_types.specs.declared.ids.Id.{Id}
use Rattle.pocket_types.specs.declared.records.Collection.{Collection}
use Rattle.pocket_types.specs.declared.records.Rec.{Rec}
use Rattle.pocket_types.specs.declared.requests.Action.TheVariants as action
use Rattle.pocket_types.specs.declared.requests.Ask.{Ask}
use Rattle.pocket_types.specs.declared.resolved.Resolved.{Resolved}
use Rattle.pocket_types.specs.declared.world.World.{World}
use Rattle.pocket_api.specs.declared.call.ListQuery.{ListQuery}
use Rattle.pocket_tables.specs.Worlds.{recs_at}
use Rattle.pocket_resolve.specs.declared.purpose.Purpose.{Purpose}
use Rattle.pocket_gate.specs.Rules.{keeps_out, may}
use Rattle.pocket_gate.specs.declared.verdict.Verdict.TheVariants.{Locked}
use Rattle.pocket_read.specs.Filtering.{client_filter, client_of, passes}
use Rattle.pocket_read.specs.Sorting.{sorted_ids}
use Rattle.pocket_read.specs.Terms.{sort_terms}
use Rattle.pocket_read.specs.declared.faults.ReadFault.{ReadFault}
use Rattle.pocket_read.specs.declared.faults.ReadFault.TheVariants.{Denied}
use Rattle.pocket_read.specs.declared.page.Page.{Page}
use Rattle.pocket_read.specs.declared.terms.SortTerm.{SortTerm}

-- ---- numbers

-- the number of a page: at least 1
abbrev pub page_number : ℕ → ℕ
page_number asked = max asked 1

-- the size of a page: 30 where none is asked for, at most 500
abbrev pub page_size : ℕ → ℕ
page_size asked = if asked == 0 then 30 else min asked 500

-- ---- pages

-- the part of a list that is on the page that a query asks for
abbrev pub cut : {T : Type 0} → ListQuery → List T → List T
cut query items = take (page_size query.per_page) (drop ((page_number query.page - 1) * page_size query.per_page) items)

-- a page with these ids, of so many in all; the total is left out where the query asks for that
abbrev pub page_with : List Id → ℕ → ListQuery → Page
page_with ids count query = record {
  ids = ids;
  page = page_number query.page;
  per_page = page_size query.per_page;
  total = if query.skip_total then None else Some count;
}

-- the page that a query asks for of all ids in order
abbrev pub page_in : List Id → ListQuery → Page
page_in ids query = page_with (cut query ids) (length ids) query

-- whether a record is on the list: the list rule admits it in the whole world, and it passes the client's filter
abbrev pub is_wanted : World → Ask → Collection → Option Resolved → Rec → Bool
is_wanted w ask c found r = may w ask action.List c r && passes w ask c.name found r

-- the records of the list, by id
abbrev pub matched : World → Ask → Collection → Option Resolved → List Rec
matched w ask c found = filter (is_wanted w ask c found) (recs_at w c.name)

-- what a query asks for, its texts resolved: a filter, and terms to sort by
abbrev pub Search : Type 0
Search = Option Resolved × List SortTerm

-- what is wrong with the filter counts before the first bad term
unfoldable pub search_of : List Collection → Purpose → ListQuery → Result Search ReadFault
search_of collections purpose query = do
  found ← client_filter collections purpose query.filter
  terms ← sort_terms collections purpose query.sort
  Ok (found, terms)

-- the page of what a query asks for
abbrev pub searched : World → Ask → Collection → ListQuery → Search → Page
searched w ask c query (found, terms) = page_in (sorted_ids w ask c.name terms (matched w ask c found)) query

-- the page of a list that isn't locked
abbrev pub unlocked_page : World → Ask → Collection → ListQuery → Result Page ReadFault
unlocked_page w ask c query = do
  search ← search_of (collections_of w) (client_of ask.caller c.name) query
  Ok (searched w ask c query search)

-- the page of a list: the locked rule is refused first, then what is wrong with the query
unfoldable pub page_of : World → Ask → Collection → ListQuery → Result Page ReadFault
page_of w ask c query = do
  _ ← refuse (keeps_out ask.caller c.list_rule) (Denied (Locked c.name action.List))
  unlocked_page w ask c query
