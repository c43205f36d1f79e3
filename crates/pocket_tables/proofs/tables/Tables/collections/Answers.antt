use Rattle.std.proofs.Common.{◌∙◌, sym}
use Rattle.pocket_tables.proofs.TableLemmas.{same_tables, tabled}
use Rattle.pocket_tables.proofs.tables.Tables.collections.Goals as goal

pub returns-clause-collections : goal.returns-clause-collections
returns-clause-collections c = c.as_slice.ensures.value ∙ sym (same_tables c.self.inside c.self.invariant c.args.self.now c.self.view_is)

pub returns-clause-tabled : goal.returns-clause-tabled
returns-clause-tabled c = tabled c.self.inside c.self.invariant c.args.self.now c.self.view_is
