-- What the tasks of a run hand to other threads may cross to them.
use denote.Param.Send.{IsSend, IsSync, sendable}
use Rattle.std.proofs.Crossing.{crosses}
use Rattle.mon_values.specs.contracts.value.Value as Value
use Rattle.mon_values.specs.contracts.value.Exc as Exc
use Rattle.mon_values.proofs.value.Value.TheLaws.TheKnot as knot
use Rattle.mon_values.proofs.text.Text.TheSendSync as text
use Rattle.mon_recorders.specs.contracts.report.Outcome as Outcome
use Rattle.mon_recorders.specs.contracts.report.ThreadReport as ThreadReport
use Rattle.mon_recorders.proofs.records.Records.TheSendSync as records
use Rattle.mon_recorders.proofs.record.Disabled.TheSendSync as disabled
use Rattle.sqlite_items.proofs.items.Items.TheSendSync as items
use Rattle.mon_code.specs.contracts.program.Code as Code
use Rattle.mon_code.specs.contracts.program.ModuleConstant as ModuleConstant
use Rattle.mon_code.specs.contracts.program.Program as Program
use Rattle.mon_code.proofs.program.Location.TheSendSync as location
use Rattle.mon_history.proofs.calls.ControlCall.TheSendSync as call
use Rattle.mon_forms.specs.contracts.plan.Start as Start
use Rattle.mon_forms.specs.contracts.plan.Workload as Workload

value_send : IsSend Value.the_field.row
value_send = search (sendable, crosses, knot.crosses_both) depth 20

value_sync : IsSync Value.the_field.row
value_sync = search (sendable, crosses, knot.crosses_both) depth 20

exc_send : IsSend Exc.the_field.row
exc_send = search (sendable, crosses, knot.crosses_both) depth 20

outcome_send : IsSend Outcome.the_field.row
outcome_send = let v = value_send in let e = exc_send in search sendable depth 20

pub report_send : IsSend ThreadReport.the_field.row
report_send = let o = outcome_send in search (sendable, text.the_send, items.the_send, records.the_send, disabled.the_field_send) depth 20

constant_sync : IsSync ModuleConstant.the_field.row
constant_sync = let v = value_sync in search (sendable, text.the_sync) depth 20

code_sync : IsSync Code.the_field.row
code_sync = let v = value_sync in search (sendable, text.the_sync, items.the_sync, location.the_field_sync) depth 20

pub program_sync : IsSync Program.the_field.row
program_sync = let c = constant_sync in let d = code_sync in search (sendable, text.the_sync, items.the_sync) depth 20

start_sync : IsSync Start.the_field.row
start_sync = let v = value_sync in search (sendable, items.the_sync) depth 20

pub workload_sync : IsSync Workload.the_field.row
workload_sync = let s = start_sync in search (sendable, items.the_sync, call.the_field_sync) depth 20
