use Rattle.std.proofs.Common.{Err, IfOk, subst, sym}
use Rattle.pocket_types.specs.declared.requests.Action.TheVariants as action
use Rattle.pocket_types.specs.Within.{collections_of}
use Rattle.pocket_api.specs.Refusals.{because}
use Rattle.pocket_core.specs.Answers.{IsAnswer, answer_of}
use Rattle.pocket_api.specs.declared.why.Why.TheVariants as why
use Rattle.pocket_core.proofs.ViewLemmas.{found_by_name, view_locked, view_open, view_without}
use Rattle.pocket_core.proofs.views.answer_view.Goals as goal

pub returns-in_default-clause-reply : goal.returns-in_default-clause-reply
returns-in_default-clause-reply g c =
    let none = rw (c.collections.ensures.collections, c.as_str.ensures) at c.in_default.ensures in
    subst (λ o. IfOk c.refuse.result (IsAnswer (answer_of c.args.at o))) (sym (view_without c.args.tables.now.world c.args.ask.now c.args.target.now c.args.shown.now (sym none))) c.refuse.ensures

pub returns-then-is_locked_for-clause-reply : goal.returns-then-is_locked_for-clause-reply
returns-then-is_locked_for-clause-reply g c =
    let found = rw (c.collections.ensures.collections, c.as_str.ensures) at c.in-Some.ensures in
    let locked = view_locked c.args.tables.now.world c.args.ask.now c.args.target.now c.args.shown.now c.in-Some.collection.now (sym found) (sym c.if-is_locked_for.ensures) in
    let refused = subst (λ name. IfOk c.refuse-then-is_locked_for.result (IsAnswer (answer_of c.args.at (Err (because (why.Locked name action.View))))))
    c.in_ok-name.ensures.cases c.refuse-then-is_locked_for.ensures in
    subst (λ o. IfOk c.refuse-then-is_locked_for.result (IsAnswer (answer_of c.args.at o))) (sym locked) refused

pub answer_id-requires-clause-there : goal.answer_id-requires-clause-there
answer_id-requires-clause-there g c =
    let found = rw (c.collections.ensures.collections, c.as_str.ensures) at c.in-Some.ensures in
    found_by_name (collections_of c.args.tables.now.world) c.args.target.now.collection c.in-Some.collection.now (sym found)

pub returns-clause-reply : goal.returns-clause-reply
returns-clause-reply g c =
    let found = rw (c.collections.ensures.collections, c.as_str.ensures) at c.in-Some.ensures in
    let shown = view_open c.args.tables.now.world c.args.ask.now c.args.target.now c.args.shown.now c.in-Some.collection.now (sym found) (sym c.if-is_locked_for.ensures) in
    subst (λ o. IfOk c.answer_id.result (IsAnswer (answer_of c.args.at o))) (sym shown) (rw c.as_str-id.ensures at c.answer_id.ensures.reply)
