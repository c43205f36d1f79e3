-- What a caller may rely on: the sizes of pages, the pages of a list, and the order of values.
use Rattle.std.specs.Prelude.{◌≡◌, ℕ, zero, suc, ◌<◌, ◌≤◌, ◌*◌, false, List, [], ◌++◌, length, Result, Ok, Err}
use Rattle.std.specs.declared.cmp.Ordering.TheVariants.{Less}
use Rattle.pocket_types.specs.Within.{collections_of}
use Rattle.pocket_types.specs.declared.ids.Id.{Id}
use Rattle.pocket_types.specs.declared.records.Collection.{Collection}
use Rattle.pocket_types.specs.declared.requests.Ask.{Ask}
use Rattle.pocket_types.specs.declared.values.Value.{Value}
use Rattle.pocket_types.specs.declared.world.World.{World}
use Rattle.pocket_api.specs.declared.call.ListQuery.{ListQuery}
use Rattle.pocket_gate.specs.Rules.{keeps_out}
use Rattle.pocket_read.specs.Filtering.{client_of}
use Rattle.pocket_read.specs.Pages.{Search, matched, page_number, page_of, page_size, search_of}
use Rattle.pocket_read.specs.Sorting.{rank, sorted_ids, value_cmp}
use Rattle.pocket_read.specs.declared.faults.ReadFault.{ReadFault}
use Rattle.pocket_read.specs.declared.page.Page.{Page}

-- ---- pages

-- a page's number is at least 1, and the one that is asked for where that is such a number
pub record IsNumber (asked : ℕ) : Type 0 where
  pub first : 1 ≤ page_number asked
  pub given : 1 ≤ asked → page_number asked ≡ asked

-- a page has 1 to 500 records, and as many as are asked for where those are so many
pub record IsSize (asked : ℕ) : Type 0 where
  pub some : 1 ≤ page_size asked
  pub most : page_size asked ≤ 500
  pub given : 1 ≤ asked → asked ≤ 500 → page_size asked ≡ asked

-- a query for another page of the same list
abbrev pub turned_to : ℕ → ListQuery → ListQuery
turned_to n query = record query { page = n }

-- the ids that a page shows; one that is refused shows none
abbrev pub ids_on : Result Page ReadFault → List Id
ids_on (Ok page) = page.ids
ids_on (Err f) = []

-- the ids that the pages 1, 2, .. up to so many show, one after another
abbrev pub ids_upto : World → Ask → Collection → ListQuery → ℕ → List Id
ids_upto w ask c query zero = []
ids_upto w ask c query (suc n) = ids_upto w ask c query n ++ ids_on (page_of w ask c (turned_to (suc n) query))

-- a query isn't refused, and its texts are resolved to this
pub record AsksFor (w : World) (ask : Ask) (c : Collection) (query : ListQuery) (search : Search) : Type 0 where
  pub unlocked : keeps_out ask.caller c.list_rule ≡ false
  pub resolved : search_of (collections_of w) (client_of ask.caller c.name) query ≡ Ok search

-- the ids of all records of a list, in order
abbrev pub listed_ids : World → Ask → Collection → Search → List Id
listed_ids w ask c (found, terms) = sorted_ids w ask c.name terms (matched w ask c found)

-- as many pages as have room for a list show, one after another, each record of it once and in order
abbrev pub PagesAreTheList : Type 0
PagesAreTheList =
    (w : World) (ask : Ask) (c : Collection) (query : ListQuery) (search : Search) (n : ℕ) → AsksFor w ask c query search
    → length (listed_ids w ask c search) ≤ n * page_size query.per_page → ids_upto w ask c query n ≡ listed_ids w ask c search

-- ---- values

-- a value of an earlier kind stands before one of a later kind, whatever they are
abbrev pub KindsAreRanked : Type 0
KindsAreRanked = (a b : Value) → rank a < rank b → value_cmp a b ≡ Less
