use Rattle.std.proofs.Common.{ap, sym, ◌≡◌, ◌∙◌, subst, ℕ, List, [], ◌++◌, replicate}
use Rattle.atomic_table.specs.Table.{opening}
use Rattle.mon_board.specs.Plain.{PlainKept, starting}
use Rattle.mon_board.specs.declared.plain_view.PlainPlan.{PlainPlan}
use Rattle.mon_board.proofs.Steps.{starts}
use Rattle.mon_board.proofs.plain.PlainBoard.new.Goals as goal

pub of_words-requires : goal.of_words-requires
of_words-requires c =
    let about : PlainPlan = record { threads = c.args.threads; words = c.of.result } in
    let words : c.in_ok-words.words.items ≡ replicate c.args.threads 0 ++ c.args.first.now = c.in_ok-words.ensures in
    let there : about.words.value.items ≡ replicate c.args.threads 0 ++ c.args.first.now = ap (λ v. v.items) c.of.ensures ∙ words in
    subst (λ (z : List ℕ). PlainKept about (opening z [] (starting about))) (sym (c.deref.ensures.value ∙ words)) (starts about c.args.first.now there c.requires)
