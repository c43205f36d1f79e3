use Rattle.pocket_filter.proofs.StrayMarks.{stray_read}
use Rattle.pocket_filter.proofs.lexer.stray_marks_are_bad_bytes.Goals as goal

pub returns : goal.returns
returns c = stray_read
