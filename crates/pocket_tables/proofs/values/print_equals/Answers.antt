use Rattle.std.proofs.Common.{◌≡◌, ◌∙◌, sym, ap, subst}
use Rattle.std.specs.Str.{bytes_eq}
use Rattle.pocket_types.specs.declared.expr.Op.TheVariants as op
use Rattle.pocket_types.specs.declared.values.Value.TheVariants as value
use Rattle.pocket_types.specs.Json.{printed}
use Rattle.std.proofs.Common.{[]}
use Rattle.pocket_ops.specs.Comparison.{compare_values}
use Rattle.pocket_tables.proofs.FrontLemmas.{same_equals}
use Rattle.pocket_tables.proofs.values.print_equals.Goals as goal

pub returns-in-Nothing : goal.returns-in-Nothing
returns-in-Nothing c =
    subst (λ v. c.is_text_of.result ≡ compare_values op.Eq (value.Text (printed c.args.tree.now)) v) (sym c.in-Nothing.is)
    (c.is_text_of.ensures ∙ same_equals (printed c.args.tree.now) [])

pub returns-in-Text : goal.returns-in-Text
returns-in-Text c =
    subst (λ v. c.is_text_of-in-Text.result ≡ compare_values op.Eq (value.Text (printed c.args.tree.now)) v) (sym c.in-Text.is)
    (c.is_text_of-in-Text.ensures ∙ ap (bytes_eq (printed c.args.tree.now)) (c.as_bytes.ensures.value ∙ c.as_str.ensures) ∙ same_equals (printed c.args.tree.now) c.in-Text.other)
