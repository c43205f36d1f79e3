use Rattle.std.proofs.Common.{◌≡◌, ◌∙◌, sym, ap, subst}
use Rattle.std.specs.Str.{bytes_eq}
use Rattle.pocket_types.specs.declared.expr.Op.TheVariants as op
use Rattle.pocket_types.specs.declared.values.Value.TheVariants as value
use Rattle.pocket_ops.specs.Comparison.{compare_values}
use Rattle.pocket_tables.proofs.FrontLemmas.{empty_equals, same_equals}
use Rattle.pocket_tables.proofs.values.text_equals.Goals as goal

pub returns-in-Nothing : goal.returns-in-Nothing
returns-in-Nothing c =
    subst (λ v. c.is_empty.result ≡ compare_values op.Eq (value.Text c.args.text.now) v) (sym c.in-Nothing.is) (c.is_empty.ensures ∙ empty_equals c.args.text.now)

pub returns-in-Text : goal.returns-in-Text
returns-in-Text c =
    subst (λ v. c.eq.result ≡ compare_values op.Eq (value.Text c.args.text.now) v) (sym c.in-Text.is)
    (c.eq.ensures ∙ ap (bytes_eq c.args.text.now) c.as_str.ensures ∙ same_equals c.args.text.now c.in-Text.other)
