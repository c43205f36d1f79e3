use Rattle.std.proofs.Common.{option_map, ap, ◌∙◌, sym}
use Rattle.pocket_json.specs.Choosing.{behind_key}
use Rattle.pocket_json.proofs.ChoosingLemmas.{none_more, some_more}
use Rattle.pocket_json.proofs.choosing.rests_behind.Goals.{in-Some+in_ok-push, in_default}
use Rattle.pocket_json.proofs.choosing.rests_behind.Goals as goal

pub loop-path-preserved : goal.loop-path-preserved
loop-path-preserved c =
    let l = c.loop-path in
    let paths = c.args.paths.now in
    let path = c.path-item.result in
    let behind = behind_key c.args.key.now in
    elim c.match-behind_key.branch [
      | in-Some+in_ok-push w ↦
          some_more behind paths l.path-index path w.in-Some.rest l.rests.items c.match-behind_key.rests.items
          c.loop-path-test.true c.path-item.is (sym c.behind_key.ensures ∙ ap (option_map (λ rest. rest.now)) w.in-Some.is) l.invariant
          (ap (λ rests. rests.items) w.rests-is ∙ w.in_ok-push.ensures.items)
      | in_default w ↦
          none_more behind paths l.path-index path l.rests.items c.match-behind_key.rests.items
          c.loop-path-test.true c.path-item.is (sym c.behind_key.ensures ∙ ap (option_map (λ rest. rest.now)) w.in_default.is) l.invariant
          (ap (λ rests. rests.items) w.rests-is)
    ]
