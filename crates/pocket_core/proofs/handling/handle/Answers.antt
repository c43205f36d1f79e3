use Rattle.std.proofs.Common.{[], ap, length, subst, sym}
use Rattle.pocket_tables.specs.Worlds.{IsTabled}
use Rattle.pocket_states.specs.States.{MachineState}
use Rattle.pocket_states.proofs.PutWorldLemmas.{sound_tabled}
use Rattle.pocket_core.specs.Courses.{IsCourse}
use Rattle.pocket_core.proofs.HandleLemmas.{puts_asked, puts_handled, replies_handled}
use Rattle.pocket_core.proofs.handling.handle.Goals as goal

pub enter-requires-clause-tabled : goal.enter-requires-clause-tabled
enter-requires-clause-tabled g c = subst IsTabled (sym c.course_of.ensures.world) (sound_tabled c.args.tables.now.world c.requires.sound)

-- what is planned in whatever state
pub enter-requires-clause-plan : goal.enter-requires-clause-plan
enter-requires-clause-plan g c =
    let s : MachineState = record { world = c.args.tables.now.world; admin = []; tokens = []; clients = [] } in
    let is = subst (IsCourse _ s c.course_of.new.tables c.args.ask c.args.rest) c.in-Ok-Puts.field-0-is (c.in-Ok-Puts.ensures.course s) in
    (is.1, is.3)

pub returns-in-Ok-Replies-clause-handled : goal.returns-in-Ok-Replies-clause-handled
returns-in-Ok-Replies-clause-handled g c = λ s.
    replies_handled c.args.ask c.args.rest c.args.tables.now.world c.args.journal.now.items c.args.costs.now (g.K.Committer.rows c.args.keeper.now)
    (g.K.Committer.faults c.args.keeper.now) c.course_of.new.tables c.course_of.ensures.world _ (ap length c.as_slice.ensures.value) c.in-Ok-Replies.reply s
    (subst (IsCourse _ s c.course_of.new.tables c.args.ask c.args.rest) c.in-Ok-Replies.field-0-is (c.in-Ok-Replies.ensures.course s))

pub returns-in-Ok-Puts-clause-handled : goal.returns-in-Ok-Puts-clause-handled
returns-in-Ok-Puts-clause-handled g c = λ s.
    puts_handled c.args.ask c.args.rest c.args.tables.now.world c.args.journal.now.items c.args.costs.now (g.K.Committer.rows c.args.keeper.now)
    (g.K.Committer.faults c.args.keeper.now) c.course_of.new.tables c.course_of.ensures.world _ (ap length c.as_slice.ensures.value) c.enter.result s
    c.in-Ok-Puts.plan (subst (IsCourse _ s c.course_of.new.tables c.args.ask c.args.rest) c.in-Ok-Puts.field-0-is (c.in-Ok-Puts.ensures.course s)) _
    c.enter.ensures.entry

pub returns-in-Ok-Puts-clause-asked : goal.returns-in-Ok-Puts-clause-asked
returns-in-Ok-Puts-clause-asked g c = λ s.
    puts_asked c.args.ask c.args.rest c.args.tables.now.world c.args.journal.now.items c.args.costs.now (g.K.Committer.rows c.args.keeper.now)
    (g.K.Committer.faults c.args.keeper.now) c.course_of.new.tables c.course_of.ensures.world _ (ap length c.as_slice.ensures.value) c.enter.result s
    c.in-Ok-Puts.plan (subst (IsCourse _ s c.course_of.new.tables c.args.ask c.args.rest) c.in-Ok-Puts.field-0-is (c.in-Ok-Puts.ensures.course s)) _
    c.enter.ensures.unasked
