use Rattle.std.proofs.Common.{MatchBool, ap, subst, ◌∙◌}
use Rattle.std.specs.List.{list_all}
use Rattle.pocket_ops.specs.Lengths.{is_undated, AreApart}
use Rattle.pocket_ops.proofs.LengthLemmas.{own_names_by}
use Rattle.pocket_ops.proofs.row_lengths.has_own_names.Goals as goal

pub returns-then-apart : goal.returns-then-apart
returns-then-apart c =
    own_names_by c.args.collection.now c.are_apart-apart.result c.are_undated-undated.result c.if-apart.true
    (subst (λ fs. MatchBool c.are_apart-apart.result (AreApart fs) (¬ AreApart fs)) c.as_slice-fields.ensures c.are_apart-apart.ensures)
    (c.are_undated-undated.ensures ∙ ap (list_all is_undated) c.as_slice-fields.ensures)
