use Rattle.pocket_types.specs.Json.{printed}
use Rattle.pocket_ops.specs.Dates.{date_text}
use Rattle.pocket_ops.specs.Trees.{text_jv}
use Rattle.pocket_ops.proofs.LengthLemmas.{dates_len-is}
use Rattle.pocket_ops.proofs.row_lengths.dates_len.Goals as goal

pub returns : goal.returns
returns c =
    let r = c.args.rec.now in
    dates_len-is r c.member_len-created.result c.member_len-updated.result c.saturating_add.result c.saturating_add-2.result (c.member_len-created.ensures (printed (text_jv (date_text r.created))) c.moment_len.ensures)
    (c.member_len-updated.ensures (printed (text_jv (date_text r.updated))) c.moment_len-2.ensures) c.saturating_add.ensures c.saturating_add-2.ensures
