use Rattle.std.proofs.Common.{IfOk, subst, sym}
use Rattle.pocket_types.specs.Within.{collections_of}
use Rattle.pocket_core.specs.Answers.{IsAnswer, answer_of}
use Rattle.pocket_core.proofs.ListLemmas.{list_found, list_without}
use Rattle.pocket_core.proofs.ViewLemmas.{found_by_name}
use Rattle.pocket_core.proofs.lists.answer_list.Goals as goal

pub answer_listed-requires-clause-there : goal.answer_listed-requires-clause-there
answer_listed-requires-clause-there g c =
    let found = rw (c.collections.ensures.collections, c.as_str.ensures) at c.in-Some.ensures in
    found_by_name (collections_of c.args.tables.now.world) c.args.name.now c.in-Some.collection.now (sym found)

pub returns-in-Some-clause-reply : goal.returns-in-Some-clause-reply
returns-in-Some-clause-reply g c =
    let found = rw (c.collections.ensures.collections, c.as_str.ensures) at c.in-Some.ensures in
    let listed = list_found c.args.tables.now.world c.args.ask.now c.args.name.now c.args.query.now c.in-Some.collection.now (sym found) in
    subst (λ o. IfOk c.answer_listed.result (IsAnswer (answer_of c.args.at o))) (sym listed) c.answer_listed.ensures.reply

pub returns-in-None-clause-reply : goal.returns-in-None-clause-reply
returns-in-None-clause-reply g c =
    let none = rw (c.collections.ensures.collections, c.as_str.ensures) at c.in-None.ensures in
    subst (λ o. IfOk c.refuse.result (IsAnswer (answer_of c.args.at o))) (sym (list_without c.args.tables.now.world c.args.ask.now c.args.name.now c.args.query.now (sym none))) c.refuse.ensures
