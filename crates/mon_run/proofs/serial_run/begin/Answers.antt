use Rattle.std.proofs.Common.{◌≡◌, ◌<◌, ◌∙◌, ℕ, List, length, get_or, map, ap, sym, subst, arith}
use Rattle.mon_words.specs.History.{base_in}
use Rattle.mon_words.specs.Standing.{board_of}
use Rattle.mon_words.specs.Words.{first_words}
use Rattle.mon_board.specs.Plain.{first_plain}
use Rattle.mon_instrument.proofs.Firsts.{first_stands}
use Rattle.mon_run.proofs.Lawfully.{first_holds}
use Rattle.mon_run.proofs.Starting.{proper_plan}
use Rattle.mon_run.proofs.Moving.{few_calls}
use Rattle.mon_run.proofs.serial_run.begin.Goals as goal

pub returns-clause-proper : goal.returns-clause-proper
returns-clause-proper c = proper_plan c.args.program.now c.args.plan.now c.locations.ensures.checked c.requires.plan

pub returns-clause-holds : goal.returns-clause-holds
returns-clause-holds c =
    let p = c.args.program.now in let plan = c.args.plan.now in
    let words : c.in_ok-words.words.items ≡ first_words p.bases = c.in_ok-words.ensures.words ∙ ap first_words c.requires.bases in
    let given : c.as_slice.result.now ≡ first_words p.bases = c.as_slice.ensures.value ∙ words in
    let bytes : (l : ℕ) → get_or p.bases l 0 < 256 = λ l. subst (λ (b : List ℕ). get_or b l 0 < 256) c.requires.bases (omega (arith, c.type_inv.bases l)) in
    let count : c.len-count.result ≡ length plan.threads = c.len-count.ensures in
    first_holds p plan _ _ _ _ (board_of (first_words p.bases))
    (c.in_ok-board.ensures.view ∙ (λ i. first_plain (count i) (board_of (given i))))
    (ap (λ (w : List ℕ). map base_in (board_of w).cells) (sym words) ∙ (c.in_ok-words.ensures.bases ∙ c.requires.bases))
    (first_stands p c.locations.ensures.checked bytes)
    c.in_ok-control.ensures.journal (c.in_ok-control.ensures.threads ∙ count) c.in_ok-control.ensures.codes c.in_ok-threads.ensures c.in_ok-made.ensures

pub returns-clause-few : goal.returns-clause-few
returns-clause-few c = few_calls c.args.plan.now _ _ c.in_ok-control.ensures.journal c.in_ok-made.ensures c.requires.plan.calls
