use Rattle.pocket_tables.proofs.TableLemmas.{told_bytes, told_records}
use Rattle.pocket_tables.proofs.tables.Tables.totals.Goals as goal

pub returns-clause-records : goal.returns-clause-records
returns-clause-records c = told_records c.self.inside c.self.invariant c.args.self.now c.self.view_is

pub returns-clause-bytes : goal.returns-clause-bytes
returns-clause-bytes c = told_bytes c.self.inside c.self.invariant c.args.self.now c.self.view_is
