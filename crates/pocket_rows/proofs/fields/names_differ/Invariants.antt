use Rattle.std.proofs.Common.{take, map}
use Rattle.pocket_rows.proofs.DifferLemmas.{Holds}
use Rattle.pocket_rows.proofs.fields.names_differ.Given as goal

abbrev pub invariant-loop-field : goal.invariant-loop-field
invariant-loop-field l = Holds l.seen (take l.field-index (map (λ f. f.name) l.fields))
