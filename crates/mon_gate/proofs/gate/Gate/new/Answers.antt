use Rattle.std.proofs.Common.{arith, ap, sym, ◌≡◌, ◌∙◌, subst, ℕ, List, [], ◌+◌, ◌++◌, replicate}
use Rattle.atomic_table.specs.Table.{opening}
use Rattle.mon_gate.specs.Rule.{Kept, starting}
use Rattle.mon_gate.specs.declared.view.Plan.{Plan}
use Rattle.mon_gate.proofs.Starts.{starts}
use Rattle.mon_gate.proofs.gate.Gate.new.Goals as goal

pub of_words-requires : goal.of_words-requires
of_words-requires c =
    let about : Plan = record { threads = c.args.threads; words = c.of.result } in
    let words : c.in_ok-words.words.items ≡ replicate (2 + c.args.threads) 0 ++ c.args.first.now = c.in_ok-words.ensures in
    let there : about.words.value.items ≡ replicate (2 + c.args.threads) 0 ++ c.args.first.now = ap (λ v. v.items) c.of.ensures ∙ words in
    subst (λ (z : List ℕ). Kept about (opening z [] (starting about))) (sym (c.deref.ensures.value ∙ words)) (starts about c.args.first.now (omega arith) there c.requires)
