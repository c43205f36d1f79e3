use Rattle.std.proofs.Common.{rules}
use Rattle.std.proofs.lemmas.Fn.{always_returns_same}
use Rattle.std.specs.Cmp.Lexicographic.{slice_cmp}
use Rattle.std.specs.Ordering.{nat_cmp}
use Rattle.pocket_store.proofs.SearchLemmas.{has_key_by}
use Rattle.pocket_store.proofs.places.has_key.Goals as goal

-- the closure compares a row's key
pub returns-in-Ok : goal.returns-in-Ok
returns-in-Ok c =
    let found = c.binary_search_by.ensures in
    let by_key = found.position (λ row. slice_cmp nat_cmp row.key c.args.key.now) (always_returns_same _ _ _ (λ a r g called. search rules)) in
    rw c.in-Ok.is at (has_key_by c.args.rows.now c.args.key.now c.binary_search_by.result c.requires found.bound by_key)

pub returns-in-Err : goal.returns-in-Err
returns-in-Err c =
    let found = c.binary_search_by.ensures in
    let by_key = found.position (λ row. slice_cmp nat_cmp row.key c.args.key.now) (always_returns_same _ _ _ (λ a r g called. search rules)) in
    rw c.in-Err.is at (has_key_by c.args.rows.now c.args.key.now c.binary_search_by.result c.requires found.bound by_key)
