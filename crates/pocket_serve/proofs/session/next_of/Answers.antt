use Rattle.pocket_serve.proofs.session.next_of.Goals as goal

pub returns-clause-apart : goal.returns-clause-apart
returns-clause-apart g c = g.met.N.Link.read_apart c.args.link.now c.next_request.new.source c.next_request.ensures.apart
