use Rattle.std.proofs.Common.{◌≡◌, ◌++◌}
use Rattle.std.specs.Prelude.{map}
use Rattle.form_urlencoded.specs.Parse.{owned_pairs_left}
use Rattle.pocket_api.specs.Queries.{query_pair, query_pairs}
use Rattle.pocket_api.proofs.query.query_pairs.Given as goal

abbrev pub invariant-loop-item : goal.invariant-loop-item
invariant-loop-item l = l.pairs ++ map query_pair (owned_pairs_left l.item-iterator) ≡ query_pairs l.query
