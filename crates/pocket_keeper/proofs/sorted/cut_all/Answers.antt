use Rattle.std.proofs.Common.{sym, ◌∙◌, arith, refl, ap, [], ◌∷◌}
use Rattle.pocket_keeper.specs.Keeping.{rows_without}
use Rattle.pocket_keeper.proofs.KeepingLemmas.{without_none, without_step}
use Rattle.pocket_keeper.proofs.sorted.cut_all.Goals as goal

pub loop-key-init : goal.loop-key-init
loop-key-init c = record {
  items = sym (without_none c.args.rows.now.items);
  rising = c.requires;
  len = omega arith;
  capacity = refl;
}

pub loop-key-preserved : goal.loop-key-preserved
loop-key-preserved c =
    let kept = c.loop-key.invariant in
    let cut = c.cut.ensures in
    record {
      items = cut.items ∙ ap (rows_without (c.key-item.result ∷ [])) kept.items
          ∙ sym (without_step c.args.cuts.now c.loop-key.key-index c.key-item.result c.args.rows.now.items c.loop-key-test.true c.key-item.is);
      rising = cut.rising;
      len = omega arith;
      capacity = cut.capacity ∙ kept.capacity;
    }
