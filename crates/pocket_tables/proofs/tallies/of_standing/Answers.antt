use Rattle.std.proofs.Common.{sym, subst, IfSome}
use Rattle.pocket_ops.specs.Lengths.{HasOwnNames}
use Rattle.pocket_tables.specs.Worlds.{name_of}
use Rattle.pocket_tables.proofs.KeyLemmas.{found_holds}
use Rattle.pocket_tables.proofs.tallies.of_standing.Goals as goal

pub of_one-requires : goal.of_one-requires
of_one-requires c = subst (λ o. IfSome o HasOwnNames) (sym c.in-Some.ensures) (found_holds name_of HasOwnNames c.args.change.now.collection c.args.collections.now c.requires.own)
