use Rattle.std.proofs.Common.{ap, ◌∙◌}
use Rattle.pocket_json.specs.Reading.{read}
use Rattle.pocket_json.proofs.RoundTrips.{read_printed}
use Rattle.pocket_json.proofs.read.printed_tree_is_read.Goals as goal

pub returns : goal.returns
returns c = (c.utf8.text, ap read c.requires.text ∙ read_printed c.args.tree.now c.requires.tree)
