use Rattle.std.proofs.Common.{◌≡◌, [], true, Some, map, ap, sym, subst, arith, ◌∙◌}
use Rattle.std.proofs.lemmas.Bool.Decides.{nat_tests}
use Rattle.std.proofs.lemmas.List.{nil_from_length}
use Rattle.std.specs.List.{list_any}
use Rattle.std.specs.Prelude.{IfOk}
use Rattle.pocket_types.specs.declared.json.Jv.TheOpen as jv
use Rattle.pocket_types.specs.declared.json.Jv.TheViews.{roll-Jv}
use Rattle.pocket_json.specs.Choosing.{choose_paths, has_ended, lent, rests_behind}
use Rattle.pocket_json.proofs.ChoosingLemmas.{of_list, member_more, none_behind, one_ended}
use Rattle.pocket_json.proofs.choosing.+choose.Goals as goal

pub cut-returns-in_ok-cut_items-in-List : goal.cut-returns-in_ok-cut_items-in-List
unfolding roll-Jv denote.Hole.Carrier.roll
cut-returns-in_ok-cut_items-in-List t c =
    let paths = lent c.args.paths.now in
    let items = c.in-List.items in
    let kept : c.in_ok-cut_items-in-List.field-0 ≡ map (λ item. choose_paths item paths) items = c.in_ok-cut_items-in-List.ensures in
    ap (λ xs. roll-Jv (jv.List xs)) kept ∙ sym (of_list items paths) ∙ ap (λ tree. choose_paths tree paths) (sym c.in-List.is)

pub cut_members-loop-member-preserved : goal.cut_members-loop-member-preserved
cut_members-loop-member-preserved t c =
    let paths = lent c.args.paths.now in
    member_more paths c.as_slice-member-items.result.now c.loop-member.member-index c.member-item.result c.in_ok-star.star c.in_ok-value.value c.loop-member.kept c.push_kept.new.kept
    c.loop-member-test.true c.member-item.is c.in_ok-star.ensures c.in_ok-value.ensures c.loop-member.invariant c.in_ok-push_kept.ensures

pub kept_value-returns-then-is_empty : goal.kept_value-returns-then-is_empty
kept_value-returns-then-is_empty t c =
    let paths = lent c.args.paths.now in
    let member = c.args.member.now in
    let behind : lent c.in_ok-rests.rests.items ≡ rests_behind member.key paths = c.in_ok-rests.ensures ∙ ap (λ key. rests_behind key paths) c.as_str.ensures in
    let items : c.in_ok-rests.rests.items ≡ [] = nil_from_length c.in_ok-rests.rests.items (grind (arith, nat_tests, c.is_empty.ensures, c.if-is_empty.true)) in
    subst (λ kept. IfOk c.copied_if.result (λ copy. copy ≡ kept)) (none_behind c.args.star (rests_behind member.key paths) member.value (sym behind ∙ ap lent items)) c.copied_if.ensures

pub kept_value-returns-then-one_has_ended : goal.kept_value-returns-then-one_has_ended
kept_value-returns-then-one_has_ended t c =
    let paths = lent c.args.paths.now in
    let member = c.args.member.now in
    let behind : lent c.in_ok-rests.rests.items ≡ rests_behind member.key paths = c.in_ok-rests.ensures ∙ ap (λ key. rests_behind key paths) c.as_str.ensures in
    let ended : list_any has_ended (rests_behind member.key paths) ≡ true =
    ap (list_any has_ended) (sym behind ∙ ap lent (sym c.as_slice.ensures.value)) ∙ sym c.one_has_ended.ensures ∙ c.if-one_has_ended.true in
    ap Some c.in_ok-copied_tree.ensures ∙ one_ended c.args.star (rests_behind member.key paths) member.value ended
