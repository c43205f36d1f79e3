use Rattle.std.proofs.Common.{arith, ◌+◌}
use Rattle.pocket_wire.proofs.Found.{found_in, looked_on, found_by_length}
use Rattle.pocket_wire.proofs.block.look_at_next.Goals as goal

pub returns-then-byte-eq10-clause-found : goal.returns-then-byte-eq10-clause-found
returns-then-byte-eq10-clause-found c =
    found_in c.args.bytes.now (c.args.search.now.at + 1) c.judge_line.result _ (omega arith) c.judge_line.ensures

pub returns-else-byte-eq10-clause-going : goal.returns-else-byte-eq10-clause-going
returns-else-byte-eq10-clause-going c =
    looked_on c.args.bytes.now c.args.search.now c.judge_length.result c.judge_length.ensures c.requires.within c.requires.looked c.if-byte-eq10.false

pub returns-else-byte-eq10-clause-found : goal.returns-else-byte-eq10-clause-found
returns-else-byte-eq10-clause-found c =
    found_by_length c.args.bytes.now c.args.search.now c.judge_length.result c.judge_length.ensures c.requires.within c.requires.looked c.if-byte-eq10.false
