use Rattle.std.proofs.Common.{◌≡◌, ◌∙◌, map, subst, sym}
use Rattle.std.specs.String.{string_bytes}
use Rattle.pocket.specs.Words.{IsServe}
use Rattle.pocket_wire.specs.declared.request.Ended.TheVariants.{Done}
use Rattle.pocket.specs.Runs.{IsServeEnd}
use Rattle.pocket.proofs.KeeperLemmas.{bad_words, of_session, opening_of}
use Rattle.pocket.proofs.serve.run_serve.Goals as goal

pub returns-in-Ok-load-clause-served : goal.returns-in-Ok-load-clause-served
returns-in-Ok-load-clause-served g c =
    let words = map string_bytes c.args.words.now in
    let before = g.K.Committer.rows c.args.keeper in
    let middle = g.K.Committer.rows c.load.new.keeper in
    let now = g.K.Committer.rows c.serve_opened.result.1.keeper in
    let s = c.in-Ok-load.state in
    let opening =
    opening_of (IsServe words) before middle now c.in-Ok.admin s c.load.ensures.as_before c.serve_opened.ensures.untold c.in-Ok.ensures.good
    c.in-Ok-load.ensures.opened in
    of_session c.serve_opened.result.0.started (λ ended p. (s.opening, opening, p.0, p.1, p.2)) c.serve_opened.ensures.served

pub returns-in-Err-clause-ended : goal.returns-in-Err-clause-ended
returns-in-Err-clause-ended g c =
    let words = map string_bytes c.args.words.now in
    let left = c.unserved.result.1.keeper in
    let rows = g.K.Committer.rows in
    let faults = g.K.Committer.faults in
    subst (IsServeEnd words (rows c.args.keeper) (rows left) (faults c.args.keeper) (faults left)) (sym (c.unserved.ensures.started ∙ c.word_end.ensures))
    (bad_words (IsServe words) (λ ended. ended ≡ Done) (rows c.args.keeper) (rows left) (faults c.args.keeper) (faults left) c.in-Err.fault c.in-Err.ensures.bad)
