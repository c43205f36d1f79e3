use Rattle.std.proofs.Common.{Err, ap, arith, refl, subst, sym}
use Rattle.pocket_api.specs.Refusals.{because}
use Rattle.pocket_api.specs.declared.why.Why.TheVariants as why
use Rattle.pocket_core.specs.Answers.{call_outcome}
use Rattle.pocket_core.specs.Changing.{created_in, updated_in}
use Rattle.pocket_core.specs.Courses.{GivesPlan, state_in}
use Rattle.pocket_core.specs.Lists.{list_outcome}
use Rattle.pocket_core.specs.Views.{view_outcome}
use Rattle.pocket_core.proofs.CourseLemmas.{no_route, put_course, reply_course}
use Rattle.pocket_core.proofs.ReadingLemmas.{list_reads, view_reads}
use Rattle.pocket_core.proofs.courses.course_of.Goals as goal

pub returns-in-List-clause-course : goal.returns-in-List-clause-course
returns-in-List-clause-course g c =
    let w = c.args.tables.now.world in
    let ask = c.args.ask.now in
    let rest = c.args.rest.now in
    reply_course c.args.at c.args.tables.now ask rest (list_outcome w ask c.in-List.collection c.in-List.query)
    (λ s. ap (call_outcome (state_in s w) ask rest.draw.words) c.in-List.is) (list_reads w ask c.in-List.collection c.in-List.query)
    c.answer_list.result c.replies.result c.answer_list.ensures.reply c.replies.ensures

pub returns-in-View-clause-course : goal.returns-in-View-clause-course
returns-in-View-clause-course g c =
    let w = c.args.tables.now.world in
    let ask = c.args.ask.now in
    let rest = c.args.rest.now in
    reply_course c.args.at c.args.tables.now ask rest (view_outcome w ask c.in-View.target c.in-View.shown)
    (λ s. ap (call_outcome (state_in s w) ask rest.draw.words) c.in-View.is) (view_reads w ask c.in-View.target c.in-View.shown)
    c.answer_view.result c.replies-in-View.result c.answer_view.ensures.reply c.replies-in-View.ensures

pub returns-in-Create-clause-course : goal.returns-in-Create-clause-course
returns-in-Create-clause-course g c =
    let now = c.plan_creation-delta.new.tables in
    let ask = c.args.ask.now in
    let rest = c.args.rest.now in
    let plan =
    subst (λ w. GivesPlan now c.plan_creation-delta.result (created_in w ask c.in-Create.collection c.in-Create.body rest.draw.words))
    (sym c.plan_creation-delta.ensures.world) c.plan_creation-delta.ensures.plan in
    put_course c.args.at now ask rest c.in-Create.shown (created_in now.world ask c.in-Create.collection c.in-Create.body rest.draw.words)
    (λ s. ap (call_outcome (state_in s now.world) ask rest.draw.words) c.in-Create.is) c.plan_creation-delta.result plan c.planned.result c.planned.ensures

pub returns-in-Update-clause-course : goal.returns-in-Update-clause-course
returns-in-Update-clause-course g c =
    let now = c.plan_revision-delta.new.tables in
    let ask = c.args.ask.now in
    let rest = c.args.rest.now in
    let plan =
    subst (λ w. GivesPlan now c.plan_revision-delta.result (updated_in w ask c.in-Update.target c.in-Update.body))
    (sym c.plan_revision-delta.ensures.world) c.plan_revision-delta.ensures.plan in
    put_course c.args.at now ask rest c.in-Update.shown (updated_in now.world ask c.in-Update.target c.in-Update.body)
    (λ s. ap (call_outcome (state_in s now.world) ask rest.draw.words) c.in-Update.is) c.plan_revision-delta.result plan c.planned-in-Update.result
    c.planned-in-Update.ensures

pub returns-in_default : goal.returns-in_default
returns-in_default g c =
    let w = c.args.tables.now.world in
    let ask = c.args.ask.now in
    let rest = c.args.rest.now in
    record {
      course =
          reply_course c.args.at c.args.tables.now ask rest (Err (because why.NoRoute))
          (λ s. no_route (state_in s w) ask rest.draw.words rest.call c.in_default.not-List c.in_default.not-View c.in_default.not-Create c.in_default.not-Update)
          tt c.refuse.result c.replies-in_default.result c.refuse.ensures c.replies-in_default.ensures;
      world = refl;
      steps = omega arith;
    }
