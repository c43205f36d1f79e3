use Rattle.std.proofs.Common.{◌∙◌, map, subst, sym}
use Rattle.std.specs.Prelude.{⊤}
use Rattle.std.specs.String.{string_bytes}
use Rattle.pocket.specs.Words.{IsPipe}
use Rattle.pocket.specs.Runs.{IsPipeEnd}
use Rattle.pocket.proofs.KeeperLemmas.{bad_words, kept_from, of_session, opening_of}
use Rattle.pocket.proofs.run.run_plain.Goals as goal

pub returns-in-Ok-load-clause-session : goal.returns-in-Ok-load-clause-session
returns-in-Ok-load-clause-session g c =
    let words = map string_bytes c.args.words.now in
    let before = g.K.Committer.rows c.args.keeper.now in
    let middle = g.K.Committer.rows c.load.new.keeper in
    let now = g.K.Committer.rows c.run_opened.new.keeper in
    let s = c.in-Ok-load.state in
    let opening = opening_of (IsPipe words) before middle now c.in-Ok.admin s c.load.ensures.as_before c.run_opened.ensures.untold c.in-Ok.ensures.good c.in-Ok-load.ensures.opened in
    λ word is.
    of_session c.run_opened.result.ended
    (λ ended p. (
      s.opening,
      opening,
      p.0,
      p.1,
      p.2,
      p.3,
      p.4,
      p.5,
      p.6,
      p.7,
      p.8,
      p.9,
      kept_from p.0 before middle now _ _ _ c.load.ensures.untold c.load.ensures.count p.10,
    ))
    c.run_opened.ensures.session

pub returns-in-Err-clause-ended : goal.returns-in-Err-clause-ended
returns-in-Err-clause-ended g c =
    let words = map string_bytes c.args.words.now in
    let rows = g.K.Committer.rows c.args.keeper.now in
    let faults = g.K.Committer.faults c.args.keeper.now in
    subst (IsPipeEnd words rows rows faults faults) (sym (c.unopened.ensures.ended ∙ c.word_end.ensures))
    (bad_words (IsPipe words) (λ _. ⊤) rows rows faults faults c.in-Err.fault c.in-Err.ensures.bad)
