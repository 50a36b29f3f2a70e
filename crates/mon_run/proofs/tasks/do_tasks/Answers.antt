use denote.Param.Send.{sendable}
use Rattle.std.proofs.Crossing.{crosses}
use Rattle.mon_control.proofs.control.Control.TheSendSync as control
use Rattle.mon_gate.proofs.gate.Gate.TheSendSync as gate
use Rattle.mon_gate.proofs.gate.Pass.TheSendSync as pass
use Rattle.mon_run.proofs.Crossing.{report_send, program_sync, workload_sync}
use Rattle.mon_run.proofs.tasks.do_tasks.Goals as goal

pub for_each_mut-requires-send-T : goal.for_each_mut-requires-send-T
for_each_mut-requires-send-T g c = let r = report_send in search (sendable, crosses, control.the_send, pass.the_field_send) depth 30

pub for_each_mut-requires-sync-F : goal.for_each_mut-requires-sync-F
for_each_mut-requires-sync-F g c = let r = c.type_bounds.sync-R in let b = c.type_bounds.sync-B in let p = program_sync in let w = workload_sync in search (sendable, crosses, gate.the_field_sync) depth 30
