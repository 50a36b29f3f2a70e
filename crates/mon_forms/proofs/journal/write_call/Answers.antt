use Rattle.std.proofs.Common.{ap, ◌∙◌}
use Rattle.mon_code.specs.Programs.{Parts}
use Rattle.mon_forms.specs.Reports.{call_text, parts_text, kind_of}
use Rattle.mon_forms.specs.declared.calls.CallKind.{CallKind}
use Rattle.mon_forms.specs.declared.calls.CallParts.{CallParts}
use Rattle.mon_forms.proofs.Written.{written_same}
use Rattle.mon_forms.proofs.journal.write_call.Goals as goal

pub returns : goal.returns
returns c =
    let call = c.args.call.now in
    written_same _ c.args.names.now _ _ (λ (p : Parts). parts_text p c.of-2.result c.in_ok-parts.parts) (λ (p : Parts). call_text p call)
    (λ (p : Parts). ap (λ (kind : CallKind). parts_text p kind c.in_ok-parts.parts) c.of-2.ensures ∙ ap (λ (parts : CallParts). parts_text p (kind_of call) parts) c.in_ok-parts.ensures)
    c.write_parts.ensures
