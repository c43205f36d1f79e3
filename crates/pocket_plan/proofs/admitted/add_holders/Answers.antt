use Rattle.std.proofs.Common.{◌&&◌, ◌++◌, List, map, sym, ap, ◌∙◌}
use Rattle.std.specs.Prelude.{filter}
use Rattle.pocket_types.specs.declared.records.Rec.{Rec}
use Rattle.pocket_meaning.specs.Members as member
use Rattle.pocket_meaning.specs.Seen.{seen}
use Rattle.pocket_meaning.proofs.MeaningLemmas.{take_all}
use Rattle.pocket_plan.specs.Guarded.{is_admitted}
use Rattle.pocket_plan.specs.Guarding.{open_points_to}
use Rattle.pocket_plan.proofs.Filtered.{filter_in_filter}
use Rattle.pocket_plan.proofs.admitted.add_holders.Goals as goal

pub returns : goal.returns
returns c =
    let points = open_points_to c.args.shelf.collection.now c.args.field.now c.args.name.now c.args.id in
    let passes = is_admitted c.args.guarded.now c.args.shelf.collection.now.name in
    let recs = c.args.shelf.recs.now in
    let all = ap (filter (λ (r : Rec). points r && passes r)) (take_all recs c.loop-rec.rec-index c.loop-rec-test.false) ∙ sym (filter_in_filter points passes recs) in
    c.loop-rec.invariant ∙ ap (λ (rs : List Rec). map seen c.args.members.now.items ++ map (member.Record c.args.shelf.collection.now) rs) all
