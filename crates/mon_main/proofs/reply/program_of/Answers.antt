use Rattle.std.proofs.Common.{ℕ, List, subst}
use Rattle.std.specs.Prelude.{Err}
use Rattle.mon_parser.specs.Texts.{ReadAs, Parsed}
use Rattle.mon_main.proofs.Told.{found_program, program_due, source_due}
use Rattle.mon_main.specs.Sources.{ModuleOf}
use Rattle.mon_main.proofs.reply.program_of.Goals as goal

pub returns-in-Ok-clause-due : goal.returns-in-Ok-clause-due
returns-in-Ok-clause-due g c = λ reading tells.
    let is : ReadAs c.in_ok-text.text.items (Parsed c.in-Ok.tree) = subst (λ (l : List ℕ). ReadAs l (Parsed c.in-Ok.tree)) c.as_slice.ensures.value c.in-Ok.ensures in
    program_due c.in-Ok.tree reading _ c.in_ok-text.text.items c.compile_module.result tells c.in_ok-text.ensures.bytes is c.compile_module.ensures.due

pub returns-in-Ok-clause-found : goal.returns-in-Ok-clause-found
returns-in-Ok-clause-found g c =
    let is : ReadAs c.in_ok-text.text.items (Parsed c.in-Ok.tree) = subst (λ (l : List ℕ). ReadAs l (Parsed c.in-Ok.tree)) c.as_slice.ensures.value c.in-Ok.ensures in
    found_program c.in-Ok.tree _ c.in_ok-text.text.items c.compile_module.result c.in_ok-text.ensures.bytes is c.compile_module.ensures.due

pub returns-clause-due : goal.returns-clause-due
returns-clause-due g c = λ reading tells.
    let is : ModuleOf (Err c.in-Err.fault) c.in_ok-text.text.items = subst (λ (l : List ℕ). ModuleOf (Err c.in-Err.fault) l) c.as_slice.ensures.value c.in-Err.ensures in
    source_due c.in-Err.fault _ c.in_ok-text.text.items _ reading is tells c.in_ok-text.ensures.bytes c.in_ok-source_line-in-Err.ensures
