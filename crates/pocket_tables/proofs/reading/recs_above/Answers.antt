use Rattle.std.proofs.Common.{◌≡◌, ◌+◌, ◌-◌, ◌∙◌, sym, refl, ap, suc, drop, filter, length, true, arith}
use Rattle.std.proofs.lemmas.List.{length-drop, take_all}
use Rattle.pocket_tables.specs.Reads.{is_above}
use Rattle.pocket_tables.proofs.KeyLemmas.{filter_all}
use Rattle.pocket_tables.proofs.reading.recs_above.Goals as goal

pub returns-in-None : goal.returns-in-None
returns-in-None c =
    let recs = c.args.recs.now in
    sym (filter_all (λ r. true) recs (λ i d within. refl)) ∙ ap (λ after. filter (is_above after) recs) (sym c.in-None.is)

pub returns-in-Ok : goal.returns-in-Ok
returns-in-Ok c =
    let recs = c.args.recs.now in
    let at = c.in-Ok.at in
    let long = length-drop (at + 1) recs in
    let next : at + 1 ≡ suc at = omega arith in
    take_all (length recs - (at + 1)) (drop (at + 1) recs) (omega (arith, long))
    ∙ ap (λ n. drop n recs) next ∙ c.in-Ok.ensures.above ∙ ap (λ after. filter (is_above after) recs) (sym c.in-Some.is)
