use Rattle.std.proofs.Common.{rules}
use Rattle.std.proofs.lemmas.Fn.{always_returns_same}
use Rattle.std.specs.Cmp.Lexicographic.{slice_cmp}
use Rattle.std.specs.Ordering.{nat_cmp}
use Rattle.pocket_store.proofs.SearchLemmas.{place_by}
use Rattle.pocket_store.proofs.places.place_of.Goals as goal

-- the closure compares a collection's name
pub returns-in-Ok : goal.returns-in-Ok
returns-in-Ok c =
    let found = c.binary_search_by.ensures in
    let by_name = found.position (λ x. slice_cmp nat_cmp x.name c.args.name.now) (always_returns_same _ _ _ (λ a r g called. search rules)) in
    rw c.in-Ok.is at (place_by c.args.collections.now c.args.name.now c.binary_search_by.result c.requires found.bound by_name)

pub returns-in-Err : goal.returns-in-Err
returns-in-Err c =
    let found = c.binary_search_by.ensures in
    let by_name = found.position (λ x. slice_cmp nat_cmp x.name c.args.name.now) (always_returns_same _ _ _ (λ a r g called. search rules)) in
    rw c.in-Err.is at (place_by c.args.collections.now c.args.name.now c.binary_search_by.result c.requires found.bound by_name)
