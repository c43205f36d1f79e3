use Rattle.std.proofs.Common.{sym, subst, ◌∙◌}
use Rattle.pocket_check.specs.Answers.{Gives}
use Rattle.pocket_check.proofs.ChangeLemmas.{ignored_unread, not_ignored_read}
use Rattle.pocket_check.proofs.bodies.field_sent.Goals as goal

pub returns-then-is_ignored : goal.returns-then-is_ignored
returns-then-is_ignored c = ignored_unread c.args.caller.now c.args.members.now c.args.field.now c.args.old.now (sym c.is_ignored.ensures ∙ c.if-is_ignored.true)

pub returns-else-is_ignored : goal.returns-else-is_ignored
returns-else-is_ignored c =
    subst (λ answer. Gives c.field_read.result answer) (sym (not_ignored_read c.args.caller.now c.args.members.now c.args.field.now c.args.old.now (sym c.is_ignored.ensures ∙ c.if-is_ignored.false)))
    c.field_read.ensures
