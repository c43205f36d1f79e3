use Rattle.std.proofs.Common.{rules}
use Rattle.std.proofs.lemmas.Fn.{always_returns_same}
use Rattle.std.specs.Cmp.Lexicographic.{slice_cmp}
use Rattle.std.specs.Ordering.{nat_cmp}
use Rattle.pocket_tables.specs.Drawers.{drawer_name}
use Rattle.pocket_tables.proofs.PlaceLemmas.{place_found}
use Rattle.pocket_tables.proofs.finding.place_of_drawer.Goals as goal

-- the closure compares the names of drawers
pub returns : goal.returns
returns c =
    let search_made = c.binary_search_by.ensures in
    let by_key = search_made.position (λ x. slice_cmp nat_cmp (drawer_name x) c.args.name.now) (always_returns_same _ _ _ (λ a r g called. search rules)) in
    place_found drawer_name c.args.name.now c.args.drawers.now c.binary_search_by.result c.requires search_made.bound by_key
