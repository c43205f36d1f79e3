use Rattle.std.proofs.Common.{◌++◌, ◌∷◌, codes, sym, ◌∙◌}
use Rattle.std.proofs.lemmas.List.{append_cancel_left}
use Rattle.pocket_keeper.proofs.KeyLemmas.{id_behind}
use Rattle.pocket_keeper.proofs.keys.id_in_rec_key.Goals as goal

pub returns-in_default-after-2 : goal.returns-in_default-after-2
returns-in_default-after-2 c = λ id form q.
    let r = append_cancel_left (codes "r/") _ (c.args.name.now ++ (47 ∷ id)) (sym c.in-Some.ensures ∙ q) in
    c.in_default-after-2.ensures id (append_cancel_left c.args.name.now _ (47 ∷ id) (sym c.in-Some-after.ensures ∙ r))

pub returns : goal.returns
returns c = id_behind _ _ _ _ _ _ c.in-Some.ensures c.in-Some-after.ensures c.in-Some-after-2.ensures c.read.ensures
