use Rattle.std.proofs.Common.{arith}
use Rattle.pocket_wire.proofs.memory.MemorySinkSink.write.Goals as goal

pub returns-then-begin-clause-cause : goal.returns-then-begin-clause-cause
returns-then-begin-clause-cause c = record {
  later = omega (arith, c.fail.ensures.later, c.begin.ensures.faults);
  failed = omega (arith, c.fail.ensures.faults, c.begin.ensures.faults);
}
