use Rattle.std.proofs.Common.{rules}
use Rattle.std.proofs.lemmas.Fn.{always_returns_same}
use Rattle.std.specs.Cmp.Lexicographic.{slice_cmp}
use Rattle.std.specs.Ordering.{nat_cmp}
use Rattle.pocket_keeper.proofs.PlaceLemmas.{searched}
use Rattle.pocket_keeper.proofs.sorted.place_of.Goals as goal

-- the closure compares a row's key
pub returns : goal.returns
returns c =
    let found = c.binary_search_by.ensures in
    let by_key = found.position (λ row. slice_cmp nat_cmp row.key c.args.key.now) (always_returns_same _ _ _ (λ a r g called. search rules)) in
    searched c.args.key.now c.args.rows.now c.binary_search_by.result c.requires found.bound by_key
