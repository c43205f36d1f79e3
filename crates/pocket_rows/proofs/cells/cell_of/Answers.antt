use Rattle.pocket_rows.proofs.cells.cell_of.Goals as goal

pub returns-in_ok-json_cell-in-Json : goal.returns-in_ok-json_cell-in-Json
returns-in_ok-json_cell-in-Json c = rw c.in-Json.is (c.in_ok-json_cell-in-Json.ensures c.in-Json.max)
