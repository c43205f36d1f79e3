use Rattle.std.proofs.Common.{◌≡◌, All, IsTrue, take}
use Rattle.pocket_types.specs.Names.{is_id}
use Rattle.pocket_rows.proofs.items.ids_of.Given as goal

abbrev pub invariant-loop-text : goal.invariant-loop-text
invariant-loop-text l = All (λ text. IsTrue (is_id text)) (take l.text-index l.texts) × (l.ids.items ≡ take l.text-index l.texts)
