use Rattle.pocket.proofs.run.run_plain.Given as goal

-- the ledger of the steps is the new one
abbrev pub ghosts-run_opened : goal.ghosts-run_opened
ghosts-run_opened g a = record { name = a.blank.name; parts = a.blank.parts }
