use Rattle.pocket_office.proofs.office.OfficeMachine.serve.Given as goal

-- the ledger of the steps is the new one
abbrev pub ghosts-answer_work : goal.ghosts-answer_work
ghosts-answer_work g a = record { name = a.blank.name; parts = a.blank.parts }
