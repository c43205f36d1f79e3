use Rattle.pocket_ops.proofs.DigitLemmas.{IsUtf8-civil_text}
use Rattle.pocket_ops.proofs.macros.text_value.Goals as goal

pub as_text-requires : goal.as_text-requires
as_text-requires c = rw c.civil_text-bytes.ensures (IsUtf8-civil_text c.args.civil.now c.requires)
