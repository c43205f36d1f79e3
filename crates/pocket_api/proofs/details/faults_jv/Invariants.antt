use Rattle.std.proofs.Common.{◌≡◌, [], fold, take}
use Rattle.pocket_api.specs.Refusals.{put_fault}
use Rattle.pocket_api.proofs.details.faults_jv.Given as goal

abbrev pub invariant-loop-fault : goal.invariant-loop-fault
invariant-loop-fault l = l.found.entries ≡ fold put_fault [] (take l.fault-index l.faults)
