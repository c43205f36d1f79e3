-- A page of a collection's list.
use Rattle.std.specs.Prelude.{ℕ, ◌≤◌, pos, neg_ℤ, List, [], ◌∷◌, ◌++◌, codes, filter_map, map, Option, Some, None, IfSome, option_map, Result, Ok, Err}
use Rattle.std.specs.Int.{div_ceil}
use Rattle.pocket_types.specs.Chains.{◌>>=◌, or_refuse}
use Rattle.pocket_types.specs.Maps.{map_jv}
use Rattle.pocket_types.specs.Within.{collections_of}
use Rattle.pocket_types.specs.declared.ids.Id.{Id}
use Rattle.pocket_types.specs.declared.json.Jv.{Jv}
use Rattle.pocket_types.specs.declared.records.Collection.{Collection}
use Rattle.pocket_types.specs.declared.requests.Ask.{Ask}
use Rattle.pocket_types.specs.declared.world.World.{World}
use Rattle.pocket_ops.specs.Trees.{list_jv, num_jv}
use Rattle.pocket_resolve.specs.Fields.{collection_named}
use Rattle.pocket_tables.specs.Worlds.{rec_at}
use Rattle.pocket_gate.specs.declared.verdict.Verdict.{Verdict}
use Rattle.pocket_gate.specs.declared.verdict.Verdict.TheVariants as verdict_is
use Rattle.pocket_read.specs.Pages.{page_of}
use Rattle.pocket_read.specs.declared.faults.ReadFault.{ReadFault}
use Rattle.pocket_read.specs.declared.faults.ReadFault.TheVariants as fault
use Rattle.pocket_read.specs.declared.page.Page.{Page}
use Rattle.pocket_api.specs.Refusals.{Refusal, because}
use Rattle.pocket_api.specs.declared.call.ListQuery.{ListQuery}
use Rattle.pocket_api.specs.declared.why.Why.{Why}
use Rattle.pocket_api.specs.declared.why.Why.TheVariants as why
use Rattle.pocket_core.specs.Outcomes.{Outcome, Shows, Tree}
use Rattle.pocket_core.specs.Showing.{display_of, displayed, shown_of}
use Rattle.pocket_core.specs.declared.showing.Display.{Display}

-- ---- refusals

abbrev pub verdict_why : Verdict → Why
verdict_why verdict_is.Allowed = why.Done
verdict_why (verdict_is.Locked c act) = why.Locked c act
verdict_why (verdict_is.RuleFalse c act) = why.RuleFalse c act

-- why there is no list, as the cause of a refusal
abbrev pub read_why : ReadFault → Why
read_why (fault.Denied v) = verdict_why v
read_why (fault.BadFilter f) = why.BadFilter f
read_why (fault.BadPath f) = why.BadPath f
read_why (fault.BadSort n) = why.BadSort n
read_why fault.Memory = why.Memory

-- a page, or the refusal
abbrev pub page_or_refusal : Result Page ReadFault → Result Page Refusal
page_or_refusal (Ok page) = Ok page
page_or_refusal (Err f) = Err (because (read_why f))

-- ---- the JSON of a page

-- a total, or -1 where it is left out
abbrev pub total_jv : Option ℕ → Jv
total_jv None = num_jv (neg_ℤ (pos 1))
total_jv (Some n) = num_jv (pos n)

-- the records of these ids, as the caller is shown them
abbrev pub rec_trees : World → Ask → Collection → Display → List Id → List Jv
rec_trees w ask c display ids = map (displayed w ask c display) (filter_map (rec_at w c.name) ids)

-- how many pages the records of a list fill
abbrev pub page_count : Page → Option ℕ
page_count page = option_map (λ n. div_ceil n page.per_page) page.total

-- the records of a page, its number and its size
abbrev pub front_members : List Jv → Page → List (List ℕ × Jv)
front_members items page = (codes "items", list_jv items) ∷ (codes "page", num_jv (pos page.page)) ∷ (codes "perPage", num_jv (pos page.per_page)) ∷ []

-- the members of a page, keys in byte order
abbrev pub page_members : List Jv → Page → List (List ℕ × Jv)
page_members items page = front_members items page ++ (codes "totalItems", total_jv page.total) ∷ (codes "totalPages", total_jv (page_count page)) ∷ []

abbrev pub page_jv : List Jv → Page → Jv
page_jv items page = map_jv (page_members items page)

-- a page has room for records, and its total is that of a store
pub record IsSmall (page : Page) : Type 0 where
  pub size : 1 ≤ page.per_page
  pub total : IfSome page.total (λ n. n ≤ 200000)

-- ---- outcomes

-- the page with its records, as the caller is shown them
abbrev pub shown_page : World → Ask → Collection → Display → Page → Outcome
shown_page w ask c display page = Ok (Shows (Tree (page_jv (rec_trees w ask c display page.ids) page)))

-- the page of a collection's list
abbrev pub listed_outcome : World → Ask → ListQuery → Collection → Outcome
listed_outcome w ask query c = do
  page ← page_or_refusal (page_of w ask c query)
  shown_page w ask c (display_of (shown_of query)) page

-- a list: the collection first, then what the page of its list is
unfoldable pub list_outcome : World → Ask → List ℕ → ListQuery → Outcome
list_outcome w ask name query = do
  c ← or_refuse (collection_named (collections_of w) name) (because why.NoCollection)
  listed_outcome w ask query c
