use Rattle.std.proofs.Common.{Bool}
use Rattle.std.specs.Prelude.{MatchBool}
use Rattle.pocket_store.specs.Reading.{IsResolved}
use Rattle.pocket_store.specs.Stores.{HoldsFilter}
use Rattle.pocket_store.proofs.ListLemmas.{ok_map}
use Rattle.pocket_store.proofs.RuleLemmas.{filter_by, no_filter}
use Rattle.pocket_store.proofs.rules.filter_resolves.Goals as goal

pub returns-in_default : goal.returns-in_default
returns-in_default c = no_filter c.args.collections.now c.args.name.now c.args.text.now (rw c.in_default.is at c.in_ok-tree.ensures)

pub returns : goal.returns
returns c =
    let cs = c.args.collections.now in
    let name = c.args.name.now in
    let p = c.in_ok-purpose.purpose in
    let is = rw c.in-Some.is at c.in_ok-tree.ensures in
    ok_map (λ (b : Bool). MatchBool b (IsResolved cs p c.in-Some.tree) (¬ IsResolved cs p c.in-Some.tree))
    (λ (b : Bool). MatchBool b (HoldsFilter cs name c.args.text.now) (¬ HoldsFilter cs name c.args.text.now))
    c.tree_resolves.result (filter_by cs name p c.args.text.now c.in-Some.tree c.in_ok-purpose.ensures is) c.tree_resolves.ensures
