use Rattle.std.proofs.Common.{◌≡◌, ◌++◌, ◌∷◌, [], arith}
use Rattle.std.proofs.lemmas.Grind.{common_steps}
use Rattle.pocket_rows.proofs.CellLemmas.{ids-more}
use Rattle.pocket_rows.proofs.items.ids_of.Goals as goal

pub loop-text-preserved : goal.loop-text-preserved
loop-text-preserved c =
    let e : c.push.new.self.items ≡ c.loop-text.ids.items ++ c.in-Some.id ∷ [] = grind (arith, common_steps) in
    ids-more c.args.texts.now c.loop-text.text-index c.text-item.result c.as_str.result.now c.in-Some.id c.loop-text.ids.items c.push.new.self.items c.loop-text-test.true c.text-item.is c.as_str.ensures
    c.loop-text.invariant c.in-Some.ensures e
