use Rattle.std.proofs.Common.{sym, subst, ◌∙◌}
use Rattle.pocket_types.specs.Sound.{AllFit}
use Rattle.pocket_check.proofs.GivenLemmas.{zeros_fit}
use Rattle.pocket_check.proofs.bodies.sent_new.Goals as goal

pub sent_over-requires-clause-fit : goal.sent_over-requires-clause-fit
sent_over-requires-clause-fit c =
    let fields = c.args.collection.now.fields in
    subst (AllFit fields) (sym (c.as_slice.ensures ∙ c.in_ok-zero.ensures)) (zeros_fit fields)
