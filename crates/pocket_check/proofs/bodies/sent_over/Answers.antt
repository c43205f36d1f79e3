use Rattle.std.proofs.Common.{sym, ap, ◌∙◌}
use Rattle.std.specs.Option.{option_copied}
use Rattle.pocket_types.specs.Chains.{or_refuse}
use Rattle.pocket_check.specs.declared.fault.CheckFault.TheVariants.{BadBody}
use Rattle.pocket_check.proofs.SentLemmas.{members_shallow}
use Rattle.pocket_check.proofs.bodies.sent_over.Goals as goal

pub sent_fields-requires-clause-shallow : goal.sent_fields-requires-clause-shallow
sent_fields-requires-clause-shallow c =
    members_shallow c.args.body.now c.in-Some.members.now c.requires.profile (ap (λ o. or_refuse o BadBody) (sym c.members_in.ensures ∙ ap option_copied c.in-Some.is))
