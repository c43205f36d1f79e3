use Rattle.std.proofs.Common.{sym, subst}
use Rattle.std.specs.Option.{option_copied}
use Rattle.pocket_change.specs.Plans.{LeadsTo, admitted_put}
use Rattle.pocket_change.specs.declared.candidates.Candidate.{Candidate}
use Rattle.pocket_change.proofs.ChainLemmas.{created_stops, created_tree}
use Rattle.pocket_change.proofs.candidates.body_candidate.Goals as goal

pub returns-in-Ok-clause-leads : goal.returns-in-Ok-clause-leads
returns-in-Ok-clause-leads g c =
    let w = c.args.tables.now.world in
    let same = created_tree w c.args.ask.now c.args.collection.now (option_copied c.args.body) c.args.words c.in-Ok.tree.now c.in-Ok.ensures.body in
    subst (LeadsTo (λ (x : Candidate). admitted_put w x.ask c.args.collection.now x.rec) c.tree_candidate.result) (sym same) c.tree_candidate.ensures.leads

pub returns-in-Err-clause-leads : goal.returns-in-Err-clause-leads
returns-in-Err-clause-leads g c = λ told.
    created_stops c.args.tables.now.world c.args.ask.now c.args.collection.now (option_copied c.args.body) c.args.words c.in-Err.fault (c.in-Err.ensures.body told)
