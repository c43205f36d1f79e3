use Rattle.std.proofs.Common.{◌≡◌, sym, ◌∙◌, rules}
use Rattle.pocket_ops.specs.Likeness.{value_text, is_like}
use Rattle.pocket_ops.proofs.Matching.{is_like_tells, is_like_from}
use Rattle.pocket_ops.proofs.likeness.like.Goals as goal

pub returns-clause-relation : goal.returns-clause-relation
returns-clause-relation c =
    let text = value_text c.args.a.now in
    let pattern = value_text c.args.b.now in
    let is : c.is_like.result ≡ is_like text pattern = search rules in
    (λ h. is_like_tells text pattern (sym is ∙ h), λ h. is ∙ is_like_from text pattern h)
