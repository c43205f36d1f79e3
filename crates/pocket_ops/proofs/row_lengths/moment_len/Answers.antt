use Rattle.std.proofs.Common.{◌≡◌, rules}
use Rattle.pocket_ops.specs.Dates.{date_text}
use Rattle.pocket_ops.proofs.LengthLemmas.{moment_len-is}
use Rattle.pocket_ops.proofs.row_lengths.moment_len.Goals as goal

pub returns : goal.returns
returns c =
    let same : c.as_text.result.now ≡ date_text c.args.moment.now = search rules in
    moment_len-is c.args.moment.now c.text_len.result c.as_text.result.now same c.text_len.ensures
