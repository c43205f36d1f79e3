use Rattle.pocket_core.proofs.ListLemmas.{listed_refused, page_is_small}
use Rattle.pocket_core.proofs.lists.answer_listed.Goals as goal

pub show_page-requires-clause-small : goal.show_page-requires-clause-small
show_page-requires-clause-small g c = page_is_small c.args.tables.now.world c.args.ask.now c.args.collection.now c.args.query.now c.requires.sound c.in-Ok.page (rw c.requires.there at c.in-Ok.ensures.page)

pub returns-in-Err-clause-reply : goal.returns-in-Err-clause-reply
returns-in-Err-clause-reply g c =
    listed_refused c.args.tables.now.world c.args.ask.now c.args.query.now c.args.collection.now c.in-Err.fault c.args.at c.refuse_list.result
    (rw c.requires.there at c.in-Err.ensures.page) c.refuse_list.ensures.known c.refuse_list.ensures.reply
