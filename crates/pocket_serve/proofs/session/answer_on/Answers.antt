use Rattle.pocket_serve.proofs.session.answer_on.Goals as goal

pub returns-clause-apart : goal.returns-clause-apart
returns-clause-apart g c = g.met.N.Link.write_apart c.args.link.now c.answer_next.new.sink c.answer_next.ensures.apart
