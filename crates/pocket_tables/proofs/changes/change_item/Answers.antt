use Rattle.std.proofs.Common.{◌∙◌, sym, ap, length, ◌<◌, Some}
use Rattle.std.proofs.lemmas.List.{set_split}
use Rattle.pocket_tables.proofs.DrawerLemmas.{got_there}
use Rattle.pocket_tables.proofs.changes.change_item.Goals as goal

pub returns-in-Ok-Some-clause-items : goal.returns-in-Ok-Some-clause-items
returns-in-Ok-Some-clause-items g c =
    let within : c.in-Ok-Some.at < length c.args.items.now.items = rw c.in-Ok-Some.is-0 at c.requires.within in
    rw (c.in-Ok-Some.is-0, c.in-Ok-Some.is-1, c.replace.ensures.after) (set_split c.args.items.now.items c.in-Ok-Some.at c.in-Ok-Some.item within)

pub returns-in-Ok-Some-clause-before : goal.returns-in-Ok-Some-clause-before
returns-in-Ok-Some-clause-before g c =
    let within : c.in-Ok-Some.at < length c.args.items.now.items = rw c.in-Ok-Some.is-0 at c.requires.within in
    rw c.in-Ok-Some.is-0
    (ap (λ z. Some z) c.replace.ensures.value ∙ sym (got_there c.args.items.now.items c.in-Ok-Some.at c.index_mut.result.now within c.index_mut.ensures.value))

pub returns-in-Ok-None-clause-before : goal.returns-in-Ok-None-clause-before
returns-in-Ok-None-clause-before g c =
    let within : c.in-Ok-None.at < length c.args.items.now.items = rw c.in-Ok-None.is-0 at c.requires.within in
    rw c.in-Ok-None.is-0 (sym (got_there c.args.items.now.items c.in-Ok-None.at c.remove.result within c.remove.ensures.value))
