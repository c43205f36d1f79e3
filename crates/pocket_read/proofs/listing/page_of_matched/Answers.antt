use Rattle.std.proofs.Common.{◌∙◌, ap, sym}
use Rattle.std.proofs.lemmas.Result.{IfOk-weaker}
use Rattle.pocket_read.specs.Pages.{page_in}
use Rattle.pocket_read.proofs.PageLemmas.{no_terms, unsorted_ids}
use Rattle.pocket_read.proofs.listing.page_of_matched.Goals as goal

pub returns-then-is_empty-clause-page : goal.returns-then-is_empty-clause-page
returns-then-is_empty-clause-page g c =
    let ids = unsorted_ids c.args.tables.now.world c.args.ask.now c.args.collection.now.name c.args.terms.now c.args.recs.now (no_terms c.args.terms.now (sym c.if-is_empty.ensures)) c.requires.rising in
    IfOk-weaker c.page_of_recs.result _ _ (λ page is. is ∙ ap (λ l. page_in l c.args.query.now) ids) c.page_of_recs.ensures
