use Rattle.std.proofs.Common.{◌∙◌, refl}
use Rattle.pocket_read.proofs.PageLemmas.{page_of_ids}
use Rattle.pocket_read.proofs.page.page_of_keys.Goals as goal

pub returns : goal.returns
returns c = c.page_with.ensures ∙ page_of_ids (λ k. k.id) c.args.query.now c.args.keys.now c.part_on.result.now c.in_ok-ids.ids.items _ c.part_on.ensures c.in_ok-ids.ensures refl
