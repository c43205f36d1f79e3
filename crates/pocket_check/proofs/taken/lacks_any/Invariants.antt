use Rattle.std.proofs.Common.{◌≡◌, ◌≤◌, false, take, is_none}
use Rattle.std.specs.List.{list_any}
use Rattle.pocket_tables.specs.Worlds.{rec_at}
use Rattle.pocket_check.proofs.taken.lacks_any.Given as goal

-- the records of the ids so far are there
abbrev pub invariant-loop-id : goal.invariant-loop-id
invariant-loop-id g l = record {
  there : list_any (λ id. is_none (rec_at l.tables.world l.target id)) (take l.id-index l.ids) ≡ false;
  steps : l.fn.steps ≤ l.steps;
}
