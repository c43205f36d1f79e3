use Rattle.std.proofs.Common.{arith}
use Rattle.std.proofs.lemmas.Grind.{common_steps}
use Rattle.pocket_types.proofs.PathLemmas.{add_more, begun-all, kept_begun}
use Rattle.pocket_types.proofs.paths.add_begun.Goals as goal

pub returns-in_err-add_prefix-clause-err : goal.returns-in_err-add_prefix-clause-err
returns-in_err-add_prefix-clause-err c =
    rw (c.in_err-add_prefix.ensures.err) (kept_begun c.args.prefixes.now.items c.loop-len.prefixes.items c.args.prefix.now c.loop-len.len c.loop-len.invariant)

pub loop-len-preserved : goal.loop-len-preserved
loop-len-preserved c =
    let m = add_more c.args.prefixes.now.items c.args.prefix.now c.loop-len.len (rw (← c.as_slice-steps.ensures) (omega arith)) in
    grind (arith, common_steps)

pub returns-clause-ok : goal.returns-clause-ok
returns-clause-ok c =
    let a = begun-all c.args.prefix.now in
    grind (arith, common_steps)

pub returns-clause-err : goal.returns-clause-err
returns-clause-err c = kept_begun c.args.prefixes.now.items c.loop-len.prefixes.items c.args.prefix.now c.loop-len.len c.loop-len.invariant
