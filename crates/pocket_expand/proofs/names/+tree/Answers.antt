use Rattle.std.proofs.Common.{[], ◌∷◌, ◌++◌, ◌-◌, ap, append_assoc, arith, sym, ◌∙◌}
use Rattle.std.specs.Prelude.{filter_map}
use Rattle.std.proofs.lemmas.Result.{IfOk-weaker}
use Rattle.pocket_expand.specs.Names.{branch_of, tree_of}
use Rattle.pocket_expand.proofs.PathLemmas.{branch_more, tree_level}
use Rattle.pocket_expand.proofs.names.+tree.Goals as goal

pub branches_in-loop-name-preserved : goal.branches_in-loop-name-preserved
branches_in-loop-name-preserved t c = (
  c.loop-name.invariant.0 ∙ ap (λ es. c.loop-name.yielded ++ es) c.in-Some.ensures.steps
      ∙ sym (append_assoc c.loop-name.yielded ((c.in-Some.name, c.in-Some.behind) ∷ []) c.next.new.self),
  branch_more (tree_of c.args.depth) c.loop-name.yielded c.in-Some.name c.in-Some.behind _ c.loop-name.branches c.push_branch.new.branches
      (c.in_ok-below.ensures ∙ ap (tree_of c.args.depth) c.as_slice.ensures) c.in_ok-push_branch.ensures c.loop-name.invariant.1,
)

pub branches_of-returns : goal.branches_of-returns
branches_of-returns t c =
    IfOk-weaker c.branches_in.result _ _
    (λ branches is. is ∙ ap (filter_map (branch_of (tree_of (c.args.depth - 1)))) c.in_ok-groups.ensures
    ∙ sym (tree_level c.args.depth c.args.paths.now (λ e. absurd (omega (arith, e, c.if-depth-eq0.false))))) c.branches_in.ensures
