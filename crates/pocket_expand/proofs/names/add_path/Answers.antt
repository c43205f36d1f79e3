use Rattle.std.proofs.Common.{◌∷◌, ap, sym, subst, ◌∙◌, ◌<◌, length}
use Rattle.pocket_meaning.proofs.MeaningLemmas.{cons_of}
use Rattle.pocket_expand.proofs.GroupLemmas.{nameless, path_put}
use Rattle.pocket_expand.proofs.names.add_path.Goals as goal

pub returns-in-empty : goal.returns-in-empty
returns-in-empty c = nameless c.args.path.now c.args.groups.now.entries (subst (λ p. length p < 1) c.as_slice.ensures c.in-empty.len_below)

pub returns-in_ok-insert-in-len1-up : goal.returns-in_ok-insert-in-len1-up
returns-in_ok-insert-in-len1-up c =
    let rest = c.from_vec-rest.ensures ∙ c.in_ok-copied_items-in-len1-up.ensures in
    let whole = cons_of c.as_slice.result.now c.name-item.result c.in-len1-up.len_at_least c.name-item.is in
    path_put c.args.path.now c.name-item.result c.in_ok-clone-in-len1-up.field-0 c.from_vec-rest.result _ _ _ _ _
    (sym c.as_slice.ensures ∙ whole ∙ ap (λ r. c.name-item.result ∷ r) (sym rest))
    c.taken-paths.ensures.paths c.taken-paths.ensures.rest c.in_ok-push-in-len1-up.ensures.ok c.in_ok-clone-in-len1-up.ensures.cases c.in_ok-insert-in-len1-up.ensures.entries
