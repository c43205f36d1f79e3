use Rattle.std.proofs.Common.{arith, sym, ◌∙◌}
use Rattle.pocket_meaning.specs.Meaning.{test_under}
use Rattle.pocket_meaning.specs.Choices.{chosen}
use Rattle.pocket_meaning.specs.Seen.{seen, choice_of}
use Rattle.pocket_meaning.proofs.MeaningLemmas.{cons_of, all_fail, all_pass}
use Rattle.pocket_meaning.proofs.meaning.+test_each.Goals as goal

pub returns-then-not-branch : goal.returns-then-not-branch
returns-then-not-branch g t c =
    let is = cons_of c.args.prefixes.now c.prefix-item.result c.in-len1-up.len_at_least c.prefix-item.is in
    let items = c.as_slice-member-items.ensures.value in
    let at = rw items at c.member-item.is in
    let within = rw items at c.loop-member-test.true in
    let tested = rw (c.as_slice.ensures.value, c.in_ok-choice-in-len1-up.ensures) at c.in_ok-test_each-in-len1-up.ensures in
    sym (all_fail seen (g.S.Sees.all_seen c.args.scene.now) (λ d. test_under (g.S.Sees.all_seen c.args.scene.now) (chosen d) c.args.left.now c.args.op c.args.right.now) c.args.prefixes.now c.prefix-item.result _ (choice_of c.args.choice.now) c.in_ok-members-in-len1-up.members.items is c.in_ok-members-in-len1-up.ensures c.loop-member.member-index c.member-item.result within at (sym tested ∙ c.if-not-branch.true))

pub returns-after-loop-member : goal.returns-after-loop-member
returns-after-loop-member g t c =
    let is = cons_of c.args.prefixes.now c.prefix-item.result c.in-len1-up.len_at_least c.prefix-item.is in
    let items = c.as_slice-member-items.ensures.value in
    let done = rw items at c.loop-member-test.false in
    let all = rw items at c.loop-member.invariant in
    sym (all_pass seen (g.S.Sees.all_seen c.args.scene.now) (λ d. test_under (g.S.Sees.all_seen c.args.scene.now) (chosen d) c.args.left.now c.args.op c.args.right.now) c.args.prefixes.now c.prefix-item.result _ (choice_of c.args.choice.now) c.in_ok-members-in-len1-up.members.items is c.in_ok-members-in-len1-up.ensures c.loop-member.member-index (omega arith) all)
