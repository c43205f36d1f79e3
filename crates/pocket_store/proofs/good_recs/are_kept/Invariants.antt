use Rattle.std.proofs.Common.{take, All}
use Rattle.pocket_keeper.specs.Texts.{rec_key}
use Rattle.pocket_store.specs.Stores.{HasKey}
use Rattle.pocket_store.proofs.good_recs.are_kept.Given as goal

abbrev pub invariant-loop-id : goal.invariant-loop-id
invariant-loop-id l = All (λ id. HasKey l.rows (rec_key l.target id)) (take l.id-index l.ids)
