-- An office may go to another thread where its keeper may.
use denote.RattleType.{RattleType}
use denote.Param.Send.{IsSend, sendable, view_send}
use denote.Param.SendFields.{declared_send, variants_send, as_row_send, array_field_send}
use Rattle.std.proofs.Crossing.{crosses}
use Rattle.pocket_types.proofs.json.Jv.TheLaws.TheKnot as tree
use Rattle.pocket_types.proofs.ids.Id.TheSendSync as id
use Rattle.pocket_types.proofs.moments.Moment.TheSendSync as moment
use Rattle.pocket_types.proofs.names.Name.TheSendSync as name
use Rattle.pocket_types.proofs.seq.Seq.TheSendSync as seq
use Rattle.pocket_types.proofs.text.Text.TheSendSync as text
use Rattle.pocket_types.proofs.boxed.Boxed.TheSendSync as boxed
use Rattle.pocket_types.proofs.records.Collection.TheSendSync as collection
use Rattle.pocket_types.proofs.requests.Method.TheSendSync as method
use Rattle.pocket_types.proofs.requests.Pair.TheSendSync as pair
use Rattle.pocket_types.proofs.resolved.Leaf.TheSendSync as leaf
use Rattle.pocket_types.proofs.resolved.Resolved.TheLaws.TheKnot as filter
use Rattle.pocket_types.specs.contracts.records.Cell as cell
use Rattle.pocket_types.specs.contracts.records.Rec as rec
use Rattle.pocket_tables.proofs.totals.Totals.TheSendSync as totals
use Rattle.pocket_tables.specs.contracts.drawers.Drawer as drawer
use Rattle.pocket_tables.specs.contracts.tables.Tables as tables
use Rattle.pocket_tables.specs.contracts.tables.Tables.TheInside as tables_inside
use Rattle.pocket_plan.specs.contracts.plan.Plan as plan
use Rattle.pocket_plan.specs.contracts.plan.Plan.TheInside as plan_inside
use Rattle.pocket_plan.specs.contracts.guard.ViewTest as view_test
use Rattle.pocket_plan.specs.contracts.guard.View as view
use Rattle.pocket_plan.specs.contracts.guard.Guard as guard
use Rattle.pocket_gate.specs.contracts.rules.Rules as rules
use Rattle.pocket_keeper.specs.declared.keeper.Committer as committer
use Rattle.pocket_keeper.proofs.tokens.Token.TheSendSync as token
use Rattle.pocket_api.proofs.call.ListQuery.TheSendSync as list_query
use Rattle.pocket_api.proofs.call.Shown.TheSendSync as shown
use Rattle.pocket_api.proofs.call.Target.TheSendSync as target
use Rattle.pocket_api.proofs.work.Draw.TheSendSync as draw
use Rattle.pocket_api.specs.contracts.body.Body as body
use Rattle.pocket_api.specs.contracts.body.Body.TheInside as body_inside
use Rattle.pocket_api.specs.contracts.call.Call as call
use Rattle.pocket_api.specs.contracts.work.Work as work
use Rattle.pocket_core.specs.contracts.state.State as state
use Rattle.pocket_core.specs.contracts.state.State.TheInside as state_inside
use Rattle.pocket_office.specs.contracts.office.Office as office
use Rattle.pocket_office.specs.contracts.office.Office.TheInside as office_inside

ruleset crossing = (sendable, crosses, declared_send, variants_send, as_row_send, array_field_send, view_send, id.the_send, moment.the_send, name.the_send, seq.the_send, text.the_send, tree.send-Jv)

cell_send : IsSend cell.the_row
cell_send = search crossing depth 40 fits 20000

rec_send : IsSend rec.the_row
rec_send = search (crossing, cell_send) depth 40 fits 20000

drawer_send : IsSend drawer.the_row
drawer_send = search (crossing, rec_send) depth 40 fits 20000

tables_inside_send : IsSend tables_inside.the_row
tables_inside_send = search (crossing, drawer_send, collection.the_send, totals.the_send) depth 40 fits 20000

tables_send : IsSend tables.the_row
tables_send = view_send tables_inside.the_row _ _ _ _ tables_inside_send

plan_inside_send : IsSend plan_inside.the_row
plan_inside_send = search (crossing, filter.send-Resolved, boxed.the_send, leaf.the_field_send) depth 40 fits 20000

plan_send : IsSend plan.the_row
plan_send = view_send plan_inside.the_row _ _ _ _ plan_inside_send

view_test_send : IsSend view_test.the_row
view_test_send = search (crossing, plan_send) depth 40 fits 20000

view_of_send : IsSend view.the_row
view_of_send = search (crossing, view_test_send) depth 40 fits 20000

guard_send : IsSend guard.the_row
guard_send = search (crossing, view_of_send) depth 40 fits 20000

rules_send : IsSend rules.the_row
rules_send = search (crossing, view_of_send, guard_send) depth 40 fits 20000

body_inside_send : IsSend body_inside.the_row
body_inside_send = search crossing depth 40 fits 20000

body_send : IsSend body.the_row
body_send = view_send body_inside.the_row _ _ _ _ body_inside_send

call_send : IsSend call.the_row
call_send = search (crossing, body_send, list_query.the_send, shown.the_send, target.the_send) depth 40 fits 20000

work_send : IsSend work.the_row
work_send = search (crossing, call_send, draw.the_send, method.the_send, pair.the_send) depth 40 fits 20000

state_inside_send : IsSend state_inside.the_row
state_inside_send = search (crossing, tables_send, rules_send, token.the_send, work_send) depth 40 fits 20000

state_send : IsSend state.the_row
state_send = view_send state_inside.the_row _ _ _ _ state_inside_send

office_inside_send : (K : RattleType) (g : committer.Ghosts K.Denot) → IsSend K → IsSend (office_inside.the_row K g)
office_inside_send K g keeper = search (crossing, state_send, keeper) depth 40 fits 20000

pub office_send : (K : RattleType) (g : committer.Ghosts K.Denot) → IsSend K → IsSend (office.the_row K g)
office_send K g keeper = view_send (office_inside.the_row K g) _ _ _ _ (office_inside_send K g keeper)
