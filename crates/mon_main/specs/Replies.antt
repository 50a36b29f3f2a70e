-- What is said to a request.
use Rattle.std.specs.Prelude.{◌≡◌, ℕ, List, Option, Result, Ok, Err, string_bytes}
use Rattle.mon_code.specs.Programs.{Parts}
use Rattle.mon_main.specs.Answers.{Answer, FailedRead, says}
use Rattle.mon_main.specs.Commands.{Request, usage_line}
use Rattle.mon_main.specs.declared.fault.ReplyFault.{ReplyFault}
use Rattle.mon_main.specs.declared.reply.Compiled.{Compiled}
use Rattle.mon_main.specs.declared.reply.Reply.{Reply}
use Rattle.mon_main.specs.declared.status.Status.{Status}
use Rattle.mon_outside.specs.Outside.{Rose}
use Rattle.mon_outside.specs.declared.store.StoreFault.{StoreFault}

abbrev pub answer_of : Reply → Answer
answer_of Reply.Usage = says Status.Usage usage_line
answer_of (Reply.Source line) = says Status.Source (string_bytes line)
answer_of (Reply.Plan line) = says Status.Plan (string_bytes line)
answer_of (Reply.Text text) = says Status.Done text.items

-- a file's program, or the reply to its fault
abbrev pub IsProgram : Result Parts Answer → Result Compiled Reply → Type 0
IsProgram due (Ok c) = due ≡ Ok c.program
IsProgram due (Err reply) = due ≡ Err (answer_of reply)

-- a request fails to read only where the store's count rises and the name is one that it has to read; else neither the count nor
-- the name changes
abbrev pub ReplyCause : {A : Type 0} → Option Request → (List ℕ → Option (List ℕ)) → ℕ → ℕ → Option (List ℕ) → Option (List ℕ) → Result A ReplyFault → Type 0
ReplyCause asked holds before now was is (Ok r) = (now ≡ before) × (is ≡ was)
ReplyCause asked holds before now was is (Err ReplyFault.Memory) = (now ≡ before) × (is ≡ was)
ReplyCause asked holds before now was is (Err ReplyFault.Read) = Rose before now × FailedRead asked holds is

abbrev pub of_store : StoreFault → ReplyFault
of_store StoreFault.Failed = ReplyFault.Read
of_store StoreFault.Memory = ReplyFault.Memory
