-- What is known of the first pass before the tasks of a run, and once their passes are home.
use Rattle.std.proofs.Common.{◌≡◌, ℕ, ◌+◌, ◌≤◌, List, [], ◌∷◌, length, Option, sym, refl, ap, ◌∙◌, subst, arith}
use mathlib.Core.Option.{some, some-ne-none}
use lib.ListN.{get_elem?}
use Rattle.mon_code.specs.Programs.{Parts}
use Rattle.mon_code.specs.Sites.{sites_of}
use Rattle.mon_words.specs.declared.history.Board.{Board}
use Rattle.mon_recorders.specs.declared.report.ThreadReport.{ThreadReport}
use Rattle.mon_gate.specs.Rule.{first_view}
use Rattle.mon_gate.specs.declared.view.Ended.{Ended}
use Rattle.mon_gate.specs.declared.view.Phase.TheVariants.{Idle}
use Rattle.mon_gate.specs.declared.view.View.{View}
use Rattle.mon_history.specs.Stands.{StandsFor}
use Rattle.mon_history.specs.declared.calls.ControlCall.{ControlCall}
use Rattle.mon_history.specs.declared.journal.JournalLine.{JournalLine}
use Rattle.mon_control.specs.View.{Shown}
use Rattle.mon_forms.specs.Fits.{calls_in}
use Rattle.mon_forms.specs.declared.limits.TheConstants.{MAX_CALLS}
use Rattle.mon_forms.specs.declared.plan.Workload.{Workload}
use Rattle.mon_run.specs.Turns.{asked, first_calls}
use Rattle.mon_run.specs.Controlling.{Governs, SameShares, calls_due}
use Rattle.mon_run.specs.Crowding.{Gathered, IsHome}
use Rattle.mon_run.proofs.Lawfully.{lawful_none}
use Rattle.mon_run.proofs.Turns.{asked_long, first_long}

-- no call was made
pub first_governs : (p : Parts) (c : Shown) (v : View) (threads : ℕ) (first : Board) → v ≡ first_view threads first → StandsFor (sites_of p) [] first [] → c.journal ≡ [] → c.threads ≡ threads → length p.codes ≡ c.codes → Governs p c v
first_governs p c v threads first is stands none few codes = record {
  threads = ap (λ (z : View). z.threads) is ∙ sym few;
  codes = codes;
  lawful = subst (λ (J : List JournalLine). Rattle.mon_history.specs.Journal.IsLawful c.threads J) (sym none) (lawful_none c.threads);
  stands = subst (λ (z : List JournalLine × View). StandsFor (sites_of p) z.0 z.1.first z.1.seen) (λ i. (sym none i, sym is i)) stands;
  own = ap (λ (z : View). Rattle.mon_words.specs.History.puts z.seen) is ∙ sym (ap (λ (z : View). z.mine) is);
}

-- passes were cut off from it
pub governs_still : (p : Parts) (c : Shown) (v w : View) (tickets : ℕ) → w ≡ record v { tickets = tickets } → Governs p c v → Governs p c w
governs_still p c v w tickets is g = subst (Governs p c) (sym is) record { threads = g.threads; codes = g.codes; lawful = g.lawful; stands = g.stands; own = g.own }

due_all : (scripts : List (List ControlCall)) → calls_due 0 0 scripts ≡ calls_in scripts
due_all [] = refl
due_all (x ∷ xs) = let r = due_all xs in omega (arith, r)

-- the calls before all threads and those of the scripts are few enough
pub few_due : (plan : Workload) (J : List JournalLine) → length plan.before + calls_in plan.scripts ≤ MAX_CALLS → asked J ≡ first_calls plan.before → length J + calls_due 0 0 plan.scripts ≤ 256
few_due plan J few is = let a : length J ≡ length plan.before = sym (asked_long J) ∙ (ap length is ∙ first_long plan.before) in let b = due_all plan.scripts in omega (arith, few, a, b)

no_ended : (j : ℕ) (e : Ended) → get_elem? [] j ≡ some e → ⊥
no_ended j e at = some-ne-none e (sym at)

-- no pass was taken in
pub none_gathered : (p : Parts) (plan : Workload) (c : Shown) (v : View) (slots : List (Option ThreadReport)) → v.phase ≡ Idle → v.threads ≡ length plan.threads → Governs p c v → length slots ≡ length plan.threads → v.ended ≡ [] → Gathered p plan c v slots
none_gathered p plan c v slots idle threads governs wide none = record {
  idle = idle;
  threads = threads;
  governs = governs;
  wide = wide;
  placed = λ j e r at there. absurd (no_ended j e (ap (λ (es : List Ended). get_elem? es j) (sym none) ∙ at));
}

-- it has as many tickets as there are threads
pub home_first : (plan : Workload) (v w : View) → SameShares v w → w.phase ≡ Idle → v.threads ≡ length plan.threads → v.tickets ≡ length plan.threads → v.ended ≡ [] → IsHome plan w
home_first plan v w same idle threads tickets none = record {
  idle = idle;
  threads = same.threads ∙ threads;
  all = let a = ap length (same.ended ∙ none) in omega (arith, same.tickets, tickets, a);
}
