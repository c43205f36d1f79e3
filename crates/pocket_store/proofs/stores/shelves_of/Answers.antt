use Rattle.std.proofs.Common.{◌≡◌, ◌∷◌, ◌++◌, [], length, arith}
use Rattle.pocket_store.specs.Drafts.{shelves_of}
use Rattle.pocket_store.proofs.ShelfLemmas.{one_less, shelves_step}
use Rattle.pocket_store.proofs.stores.shelves_of.Goals as goal

pub loop-preserved : goal.loop-preserved
loop-preserved c =
    let p : c.loop.collections.items ≡ c.pop.new.self.items ++ c.in-Some.collection ∷ [] = c.in-Some.ensures.items in
    let q : c.loop.recs.items ≡ c.pop-in-loop.new.self.items ++ c.in-Some-pop.recs ∷ [] = c.in-Some-pop.ensures.items in
    let fewer = one_less c.loop.collections.items c.pop.new.self.items c.in-Some.collection p in
    let fewer_recs = one_less c.loop.recs.items c.pop-in-loop.new.self.items c.in-Some-pop.recs q in
    let now = c.loop.invariant in
    let same : length c.pop-in-loop.new.self.items ≡ length c.pop.new.self.items = omega (arith, fewer, fewer_recs, now.same) in
    record {
      whole = shelves_step (shelves_of c.args.collections.items c.args.recs.items) c.loop.collections.items c.pop.new.self.items c.loop.recs.items
          c.pop-in-loop.new.self.items c.in-Some.collection c.in-Some-pop.recs c.loop.shelves.items c.push.new.self.items p q same c.in_ok-push.ensures.items now.whole;
      same = same;
      left = omega (arith, fewer, now.left);
    }
