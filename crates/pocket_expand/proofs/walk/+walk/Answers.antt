use Rattle.std.proofs.Common.{ap, arith, map, sym, ◌∙◌}
use Rattle.std.specs.Prelude.{filter_map, option_map}
use Rattle.std.proofs.lemmas.Result.{IfOk-weaker}
use Rattle.pocket_types.specs.Callers.{is_admin}
use Rattle.pocket_types.specs.Maps.{map_jv}
use Rattle.pocket_ops.specs.Trees.{shown_members}
use Rattle.pocket_gate.specs.Seen.{seen_world}
use Rattle.pocket_expand.specs.Expansion.{all_under, expands, member_jv, put_expand, shown_collection, shown_rec, with_found}
use Rattle.pocket_expand.specs.Met.{found_seen, member_seen}
use Rattle.pocket_expand.specs.declared.names.Branch.{out-Branch}
use Rattle.pocket_expand.proofs.FieldLemmas.{rec_as_shown}
use Rattle.pocket_expand.proofs.WalkLemmas.{no_tree, tree_more, trees_more, under_found, under_more, under_nothing}
use Rattle.pocket_expand.proofs.walk.+walk.Goals as goal
use Rattle.pocket_expand.proofs.walk.+walk.Goals.{member_trees-in-Some+in_ok-push, member_trees-in_default}

pub rec_tree-returns-clause-tree : goal.rec_tree-returns-clause-tree
rec_tree-returns-clause-tree g t c =
    let who = c.args.ask.now.caller in
    let k = c.args.collection.now in
    let r = c.args.rec.now in
    let found = c.in_ok-found.found.entries in
    let under = all_under (map (expands (seen_world c.args.tables.now.world c.args.ask.now)) c.args.branches.now) (shown_collection who k) (shown_rec who k r) in
    IfOk-weaker c.rec_with.result _ _
    (λ tree is. is ∙ ap (λ b. map_jv (put_expand found (shown_members b k r))) c.is_admin.ensures ∙ rec_as_shown who k r found under c.in_ok-found.ensures.found) c.rec_with.ensures

pub found_under-loop-branch-preserved : goal.found_under-loop-branch-preserved
found_under-loop-branch-preserved g t c =
    let who = c.args.ask.now.caller in
    let k = shown_collection who c.args.collection.now in
    let r = shown_rec who c.args.collection.now c.args.rec.now in
    let f = expands (seen_world c.args.tables.now.world c.args.ask.now) in
    let bs = c.args.branches.now in
    let i = c.loop-branch.branch-index in
    let more = under_more f bs i c.branch-item.result k r c.loop-branch-test.true c.branch-item.is in
    record {
      found = c.in_ok-put_found.ensures ∙ ap (with_found c.loop-branch.found.entries) c.in_ok-under.ensures.under
          ∙ ap (λ es. with_found es (f c.branch-item.result k r)) c.loop-branch.invariant.found ∙ sym more;
      steps = omega (arith, c.loop-branch.invariant.steps, c.under_branch.ensures.steps);
    }

pub under_branch-returns-in_ok-trees-in-Some-clause-under : goal.under_branch-returns-in_ok-trees-in-Some-clause-under
under_branch-returns-in_ok-trees-in-Some-clause-under g t c =
    let who = c.args.ask.now.caller in
    let whole = is_admin who in
    let k = shown_collection who c.args.collection.now in
    let r = shown_rec who c.args.collection.now c.args.rec.now in
    let seen = seen_world c.args.tables.now.world c.args.ask.now in
    let leads = ap (option_map (found_seen whole)) (sym c.in-Some.is) ∙ c.in_ok-found.ensures.found in
    let f = expands seen in
    let trees = c.in_ok-trees-in-Some.ensures.trees
    ∙ ap (λ bs. filter_map (member_jv (map f bs)) (map (member_seen whole) c.as_slice-members.result.now)) c.as_slice-below.ensures
    ∙ ap (λ ms. filter_map (member_jv (map f (out-Branch c.args.branch.now).below)) (map (member_seen whole) ms)) c.as_slice-members.ensures.value in
    IfOk-weaker c.named.result _ _ (λ under is. is ∙ sym (under_found seen whole c.args.branch.now k r c.in-Some.found c.in_ok-trees-in-Some.trees leads trees)) c.named.ensures

pub under_branch-returns-in-None-clause-under : goal.under_branch-returns-in-None-clause-under
under_branch-returns-in-None-clause-under g t c =
    let who = c.args.ask.now.caller in
    let k = shown_collection who c.args.collection.now in
    let r = shown_rec who c.args.collection.now c.args.rec.now in
    sym (under_nothing (seen_world c.args.tables.now.world c.args.ask.now) c.args.branch.now k r
    (ap (option_map (found_seen (is_admin who))) (sym c.in-None.is) ∙ c.in_ok-found.ensures.found))

pub member_trees-loop-member-preserved : goal.member_trees-loop-member-preserved
member_trees-loop-member-preserved g t c =
    let below = map (expands (seen_world c.args.tables.now.world c.args.ask.now)) c.args.below.now in
    let more = trees_more below (is_admin c.args.ask.now.caller) c.args.members.now c.loop-member.member-index c.member-item.result c.loop-member-test.true c.member-item.is in
    record {
      trees = elim c.match-branch-2.branch [
        | member_trees-in-Some+in_ok-push w ↦ w.trees-is
            ∙ tree_more c.loop-member.trees _ _ w.in-Some.tree _ w.in_ok-push.ensures.ok c.loop-member.invariant.trees (sym w.in-Some.is ∙ c.in_ok-tree.ensures.tree) ∙ sym more
        | member_trees-in_default w ↦ w.trees-is ∙ no_tree c.loop-member.trees _ _ c.loop-member.invariant.trees (sym w.in_default.is ∙ c.in_ok-tree.ensures.tree) ∙ sym more
      ];
      steps = omega (arith, c.loop-member.invariant.steps, c.member_tree.ensures.steps);
    }
