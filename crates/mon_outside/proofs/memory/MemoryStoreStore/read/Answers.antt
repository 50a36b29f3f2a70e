use Rattle.std.proofs.Common.{◌≡◌, ◌∙◌, ap, sym, List, min, length, ◌++◌, take, arith}
use Rattle.std.proofs.lemmas.Grind.{common_steps}
use Rattle.std.specs.Prelude.{Some}
use Rattle.mon_outside.specs.Memories.{contents_of}
use Rattle.mon_outside.specs.declared.memory.MemoryFile.{MemoryFile}
use Rattle.mon_outside.proofs.Contents.{reads_first}
use Rattle.mon_outside.proofs.memory.MemoryStoreStore.read.Goals as goal

pub returns-clause-bytes : goal.returns-clause-bytes
returns-clause-bytes c =
    let held : contents_of c.args.self.now.files.items c.args.name.now ≡ Some c.in-Some.bytes.now = ap (λ (l : List MemoryFile). contents_of l c.args.name.now) (sym c.as_slice.ensures.value) ∙ c.in-Some.ensures in
    let count : c.min.result ≡ min 262145 (length c.in-Some.bytes.now) = omega (arith, c.min.ensures) in
    let more : c.extend_from_slice.new.self.items ≡ c.args.into.now.items ++ take c.min.result c.in-Some.bytes.now = grind (arith, common_steps, c.in_ok-extend_from_slice.ensures.items) in
    reads_first _ c.in-Some.bytes.now _ _ c.min.result held count more
