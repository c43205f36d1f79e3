use Rattle.pocket_cases.proofs.gate.asked.Given as goal

-- the ledger of the steps is the new one
abbrev pub ghosts-answered : goal.ghosts-answered
ghosts-answered a = record { name = a.blank.name; parts = a.blank.parts }
