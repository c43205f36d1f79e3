use Rattle.std.proofs.Common.{refl}
use Rattle.pocket_core.proofs.StateLemmas.{state_call, state_history, state_kept, state_quiet, state_reply, state_rows, state_sound}
use Rattle.pocket_core.proofs.state.State.call.Goals as goal

pub invariant_of-self : goal.invariant_of-self
invariant_of-self g c =
    state_kept c.self.inside c.args.self.now c.self.view_is c.self.invariant c.args.work c.in-Ok.caller c.in-Ok.ensures c.taken_apart-ask.result.0 c.taken_apart-ask.result.1
    c.taken_apart-ask.ensures.ask c.taken_apart-ask.ensures.whole (g.K.Committer.rows c.args.keeper.now) (g.K.Committer.faults c.args.keeper.now) c.requires.rows
    (record {
      tables = c.handle.new.tables;
      rules = c.self.inside.rules;
      tokens = c.self.inside.tokens;
      admin = c.self.inside.admin;
      journal = c.handle.new.journal;
      costs = c.handle.new.costs;
      opening = c.self.inside.opening;
    })
    (g.K.Committer.rows c.handle.new.keeper) (g.K.Committer.faults c.handle.new.keeper) c.handle.result c.handle.ensures.handled refl refl refl

pub returns-in-Ok-clause-reply : goal.returns-in-Ok-clause-reply
returns-in-Ok-clause-reply g c =
    state_reply c.self.inside c.args.self.now c.self.view_is c.self.invariant c.args.work c.in-Ok.caller c.in-Ok.ensures c.taken_apart-ask.result.0 c.taken_apart-ask.result.1
    c.taken_apart-ask.ensures.ask c.taken_apart-ask.ensures.whole (g.K.Committer.rows c.args.keeper.now) (g.K.Committer.faults c.args.keeper.now) c.requires.rows
    (record {
      tables = c.handle.new.tables;
      rules = c.self.inside.rules;
      tokens = c.self.inside.tokens;
      admin = c.self.inside.admin;
      journal = c.handle.new.journal;
      costs = c.handle.new.costs;
      opening = c.self.inside.opening;
    })
    (g.K.Committer.rows c.handle.new.keeper) (g.K.Committer.faults c.handle.new.keeper) c.handle.result c.handle.ensures.handled

pub returns-in-Ok-clause-history : goal.returns-in-Ok-clause-history
returns-in-Ok-clause-history g c =
    state_history c.self.inside c.args.self.now c.self.view_is c.self.invariant c.args.work c.in-Ok.caller c.in-Ok.ensures c.taken_apart-ask.result.0 c.taken_apart-ask.result.1
    c.taken_apart-ask.ensures.ask c.taken_apart-ask.ensures.whole (g.K.Committer.rows c.args.keeper.now) (g.K.Committer.faults c.args.keeper.now) c.requires.rows
    (record {
      tables = c.handle.new.tables;
      rules = c.self.inside.rules;
      tokens = c.self.inside.tokens;
      admin = c.self.inside.admin;
      journal = c.handle.new.journal;
      costs = c.handle.new.costs;
      opening = c.self.inside.opening;
    })
    (g.K.Committer.rows c.handle.new.keeper) (g.K.Committer.faults c.handle.new.keeper) c.handle.result c.handle.ensures.handled

pub returns-in-Ok-clause-sound : goal.returns-in-Ok-clause-sound
returns-in-Ok-clause-sound g c =
    state_sound c.self.inside c.args.self.now c.self.view_is c.self.invariant c.args.work c.in-Ok.caller c.in-Ok.ensures c.taken_apart-ask.result.0 c.taken_apart-ask.result.1
    c.taken_apart-ask.ensures.ask c.taken_apart-ask.ensures.whole (g.K.Committer.rows c.args.keeper.now) (g.K.Committer.faults c.args.keeper.now) c.requires.rows
    (record {
      tables = c.handle.new.tables;
      rules = c.self.inside.rules;
      tokens = c.self.inside.tokens;
      admin = c.self.inside.admin;
      journal = c.handle.new.journal;
      costs = c.handle.new.costs;
      opening = c.self.inside.opening;
    })
    (g.K.Committer.rows c.handle.new.keeper) (g.K.Committer.faults c.handle.new.keeper) c.handle.result c.handle.ensures.handled

pub returns-in-Ok-clause-rows : goal.returns-in-Ok-clause-rows
returns-in-Ok-clause-rows g c =
    state_rows c.self.inside c.args.self.now c.self.view_is c.self.invariant c.args.work c.in-Ok.caller c.in-Ok.ensures c.taken_apart-ask.result.0 c.taken_apart-ask.result.1
    c.taken_apart-ask.ensures.ask c.taken_apart-ask.ensures.whole (g.K.Committer.rows c.args.keeper.now) (g.K.Committer.faults c.args.keeper.now) c.requires.rows
    (record {
      tables = c.handle.new.tables;
      rules = c.self.inside.rules;
      tokens = c.self.inside.tokens;
      admin = c.self.inside.admin;
      journal = c.handle.new.journal;
      costs = c.handle.new.costs;
      opening = c.self.inside.opening;
    })
    (g.K.Committer.rows c.handle.new.keeper) (g.K.Committer.faults c.handle.new.keeper) c.handle.result c.handle.ensures.handled

pub returns-in-Ok-clause-untold : goal.returns-in-Ok-clause-untold
returns-in-Ok-clause-untold g c =
    (state_call c.self.inside c.args.self.now c.self.view_is c.self.invariant c.args.work c.in-Ok.caller c.in-Ok.ensures c.taken_apart-ask.result.0 c.taken_apart-ask.result.1
    c.taken_apart-ask.ensures.ask c.taken_apart-ask.ensures.whole (g.K.Committer.rows c.args.keeper.now) (g.K.Committer.faults c.args.keeper.now) c.requires.rows
    (record {
      tables = c.handle.new.tables;
      rules = c.self.inside.rules;
      tokens = c.self.inside.tokens;
      admin = c.self.inside.admin;
      journal = c.handle.new.journal;
      costs = c.handle.new.costs;
      opening = c.self.inside.opening;
    })
    (g.K.Committer.rows c.handle.new.keeper) (g.K.Committer.faults c.handle.new.keeper) c.handle.result c.handle.ensures.handled).untold

pub returns-in-Ok-clause-unasked : goal.returns-in-Ok-clause-unasked
returns-in-Ok-clause-unasked g c =
    state_quiet c.self.inside c.args.self.now c.self.view_is c.self.invariant c.args.work c.in-Ok.caller c.in-Ok.ensures c.taken_apart-ask.result.0 c.taken_apart-ask.result.1
    c.taken_apart-ask.ensures.ask c.taken_apart-ask.ensures.whole (g.K.Committer.rows c.args.keeper.now) (g.K.Committer.faults c.args.keeper.now) c.requires.rows
    _ c.handle.result c.handle.ensures.asked

pub returns-in-Ok-clause-count : goal.returns-in-Ok-clause-count
returns-in-Ok-clause-count g c =
    (state_call c.self.inside c.args.self.now c.self.view_is c.self.invariant c.args.work c.in-Ok.caller c.in-Ok.ensures c.taken_apart-ask.result.0 c.taken_apart-ask.result.1
    c.taken_apart-ask.ensures.ask c.taken_apart-ask.ensures.whole (g.K.Committer.rows c.args.keeper.now) (g.K.Committer.faults c.args.keeper.now) c.requires.rows
    (record {
      tables = c.handle.new.tables;
      rules = c.self.inside.rules;
      tokens = c.self.inside.tokens;
      admin = c.self.inside.admin;
      journal = c.handle.new.journal;
      costs = c.handle.new.costs;
      opening = c.self.inside.opening;
    })
    (g.K.Committer.rows c.handle.new.keeper) (g.K.Committer.faults c.handle.new.keeper) c.handle.result c.handle.ensures.handled).count
