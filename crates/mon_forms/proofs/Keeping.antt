-- One line more keeps the limits.
use Rattle.std.proofs.Common.{◌≡◌, ℕ, ℤ, ◌+◌, ◌*◌, ◌<◌, ◌≤◌, nat_lt, nat_le, Bool, true, false, ◌||◌, List, [], ◌∷◌, ◌++◌, length, drop, Option, Some, None, Result, Ok, Err, IfOk, IfSome, OnOk, refl, sym, subst, arith, rules, length-append}
use Rattle.std.specs.List.{All}
use Rattle.std.proofs.lemmas.Bool.Decides.{nat_tests}
use Rattle.std.proofs.lemmas.List.Elements.{All-nil, All-cons, All-head, All-tail, All-push}
use Rattle.mon_code.specs.Programs.{Parts}
use Rattle.mon_history.specs.declared.calls.ControlCall.{ControlCall}
use Rattle.mon_values.specs.declared.value.Value.{Value}
use Rattle.mon_values.specs.declared.value.Value.TheOpen.{Value-F}
use Rattle.mon_values.specs.declared.value.Value.TheViews.{out-Value, the_lemmas}
use Rattle.mon_forms.specs.Answers.{Leaves}
use Rattle.mon_forms.specs.Calls.{call_of}
use Rattle.mon_forms.specs.Fits.{KeepsLimits, FitsStart, FitsCall, FitsMove, FitsArgument, IsArgument}
use Rattle.mon_forms.specs.Heads.{section_number, may_follow, is_from_to}
use Rattle.mon_forms.specs.Lines.{word_at}
use Rattle.mon_forms.specs.Operands.{number_below, integer_of, quoted, argument_of, arguments_of, has_long_text, is_long, integer_or_text, and_arguments, report_of}
use Rattle.mon_forms.specs.Plans.{plan_in, no_lines, with_steps, with_script, with_move, with_start, with_report, with_call, with_line, onto_section, onto_last, turn_of, call_move, start_of, passes_limit, has_all_threads}
use Rattle.mon_forms.specs.declared.draft.Draft.{Draft}
use Rattle.mon_forms.specs.declared.draft.LineFault.{LineFault}
use Rattle.mon_forms.specs.declared.heads.Head.{Head}
use Rattle.mon_forms.specs.declared.heads.Section.{Section}
use Rattle.mon_forms.specs.declared.limits.TheConstants.{MAX_STEPS, MAX_ALL_STEPS, MAX_THREADS, MAX_SCRIPTS, MAX_CALLS, TOOLS}
use Rattle.mon_forms.specs.declared.plan.PlanKind.{PlanKind}
use Rattle.mon_forms.specs.declared.plan.Start.{Start}
use Rattle.mon_forms.specs.declared.plan.Move.{Move}
use Rattle.mon_forms.specs.declared.plan.ReportKind.{ReportKind}
use Rattle.mon_forms.proofs.Codes.{IsNamed, call_fits, start_fits}
use Rattle.mon_forms.proofs.Fitting.{below_some, moves_kept, one_more, as_many, none_more}

both_false : (a b : Bool) → (a || b) ≡ false → (a ≡ false) × (b ≡ false)
both_false false b h = (refl, h)
both_false true b h = absurd cc

test_lt : (a b : ℕ) → nat_le a b ≡ false → b < a
test_lt a b h = grind (arith, nat_tests)

test_le : (a b : ℕ) → nat_lt a b ≡ false → b ≤ a
test_le a b h = grind (arith, nat_tests)

-- nothing stands before the first line
pub none_keeps : (p : Parts) → KeepsLimits p no_lines
none_keeps p =
    record {
      fits = record {
        workload = record {
          steps = omega arith;
          all_steps = omega arith;
          threads = omega arith;
          scripts = omega arith;
          calls = omega arith;
          starts = All-nil (FitsStart p);
          before_fits = All-nil (FitsCall p);
          scripts_fit = All-nil (All (FitsCall p));
        };
        schedule = All-nil (FitsMove (plan_in no_lines).workload);
      };
      counted = omega arith;
      most = omega arith;
      begun = λ _. refl;
    }

to_section : (p : Parts) (d : Draft) (s : Section) → 1 < section_number s → KeepsLimits p d → KeepsLimits p (record d { section = s })
to_section p d s h k = record { fits = k.fits; counted = k.counted; most = k.most; begun = λ l. absurd (omega arith) }

steps_keep : (p : Parts) (d : Draft) (n : Option ℕ) → IfSome n (λ steps. steps < MAX_STEPS + 1) → section_number d.section ≤ 0 → KeepsLimits p d → IfOk (with_steps d n) (KeepsLimits p)
steps_keep p d None few first k = tt
steps_keep p d (Some steps) few first k =
    let w = k.fits.workload in
    let none : d.threads ≡ [] = k.begun (omega arith) in
    record {
      fits = record {
        workload = record {
          steps = omega arith;
          all_steps = rw none (omega arith);
          threads = w.threads;
          scripts = w.scripts;
          calls = w.calls;
          starts = w.starts;
          before_fits = w.before_fits;
          scripts_fit = w.scripts_fit;
        };
        schedule = moves_kept (plan_in d).workload (record { steps = steps; threads = d.threads; before = d.before; scripts = d.scripts }) d.schedule (omega arith) (omega arith) k.fits.schedule;
      };
      counted = k.counted;
      most = k.most;
      begun = λ _. none;
    }

script_keeps : (p : Parts) (d : Draft) → length d.scripts < MAX_SCRIPTS → KeepsLimits p d → KeepsLimits p (with_script d)
script_keeps p d h k =
    let w = k.fits.workload in
    let more : length (d.scripts ++ [] ∷ []) ≡ length d.scripts + 1 = length-append d.scripts ([] ∷ []) in
    record {
      fits = record {
        workload = record {
          steps = w.steps;
          all_steps = w.all_steps;
          threads = w.threads;
          scripts = omega arith;
          calls = omega (arith, w.calls, none_more d.scripts);
          starts = w.starts;
          before_fits = w.before_fits;
          scripts_fit = All-push (All (FitsCall p)) d.scripts [] w.scripts_fit (All-nil (FitsCall p));
        };
        schedule = moves_kept (plan_in d).workload (record { steps = d.steps; threads = d.threads; before = d.before; scripts = d.scripts ++ [] ∷ [] }) d.schedule (omega arith) (omega arith) k.fits.schedule;
      };
      counted = omega (arith, k.counted, none_more d.scripts);
      most = k.most;
      begun = λ l. absurd (omega arith);
    }

int_fits : (n : ℤ) → IsArgument (Value.Int n)
int_fits n = let e : out-Value (Value.Int n) ≡ Value-F.Int n = search (rules, the_lemmas) in subst FitsArgument (sym e) tt

text_fits : (text : List ℕ) → length text ≤ 255 → IsArgument (Value.Text text)
text_fits text h = let e : out-Value (Value.Text text) ≡ Value-F.Text text = search (rules, the_lemmas) in subst FitsArgument (sym e) h

argument_fits : (n : Option ℤ) (text : Option (List ℕ)) → is_long text ≡ false → IfSome (integer_or_text n text) IsArgument
argument_fits (Some n) text h = int_fits n
argument_fits None None h = tt
argument_fits None (Some text) h = text_fits text (grind (arith, nat_tests))

and_fit : (v : Option Value) (vs : Option (List Value)) → IfSome v IsArgument → IfSome vs (All IsArgument) → IfSome (and_arguments v vs) (All IsArgument)
and_fit None vs h k = tt
and_fit (Some v) None h k = tt
and_fit (Some v) (Some vs) h k = All-cons IsArgument v vs h k

arguments_fit : (words : List (List ℕ)) → has_long_text words ≡ false → IfSome (arguments_of words) (All IsArgument)
arguments_fit [] h = All-nil IsArgument
arguments_fit (word ∷ words) h =
    let parts = both_false (is_long (quoted word)) (has_long_text words) h in
    and_fit (argument_of word) (arguments_of words) (argument_fits (integer_of word) (quoted word) parts.0) (arguments_fit words parts.1)

start_keeps : (p : Parts) (d : Draft) (start : Start) → FitsStart p start → length d.threads < MAX_THREADS → d.steps * (length d.threads + 1) ≤ MAX_ALL_STEPS → KeepsLimits p d → KeepsLimits p (record d { section = Section.Threads; threads = d.threads ++ start ∷ [] })
start_keeps p d start fits few all k =
    let w = k.fits.workload in
    let more : length (d.threads ++ start ∷ []) ≡ length d.threads + 1 = length-append d.threads (start ∷ []) in
    record {
      fits = record {
        workload = record {
          steps = w.steps;
          all_steps = subst (λ (n : ℕ). d.steps * n ≤ MAX_ALL_STEPS) (sym more) all;
          threads = omega arith;
          scripts = w.scripts;
          calls = w.calls;
          starts = All-push (FitsStart p) d.threads start w.starts fits;
          before_fits = w.before_fits;
          scripts_fit = w.scripts_fit;
        };
        schedule = moves_kept (plan_in d).workload (record { steps = d.steps; threads = d.threads ++ start ∷ []; before = d.before; scripts = d.scripts }) d.schedule (omega arith) (omega arith) k.fits.schedule;
      };
      counted = k.counted;
      most = k.most;
      begun = λ l. absurd (omega arith);
    }

thread_keeps : (p : Parts) (d : Draft) (r : Result Start PlanKind) → IfOk r (FitsStart p) → has_all_threads d ≡ false → KeepsLimits p d → IfOk (with_start d r) (KeepsLimits p)
thread_keeps p d (Err kind) fits few k = tt
thread_keeps p d (Ok start) fits few k =
    let parts = both_false (nat_le MAX_THREADS (length d.threads)) (nat_lt MAX_ALL_STEPS (d.steps * (length d.threads + 1))) few in
    let fewer : nat_le MAX_THREADS (length d.threads) ≡ false = parts.0 in
    let within : nat_lt MAX_ALL_STEPS (d.steps * (length d.threads + 1)) ≡ false = parts.1 in
    start_keeps p d start fits (test_lt MAX_THREADS (length d.threads) fewer) (test_le MAX_ALL_STEPS (d.steps * (length d.threads + 1)) within) k

move_keeps : (p : Parts) (d : Draft) (m : Option Move) → IfSome m (FitsMove (plan_in d).workload) → KeepsLimits p d → IfOk (with_move d m) (KeepsLimits p)
move_keeps p d None fits k = tt
move_keeps p d (Some m) fits k =
    record { fits = record { workload = k.fits.workload; schedule = All-push (FitsMove (plan_in d).workload) d.schedule m k.fits.schedule fits }; counted = k.counted; most = k.most; begun = k.begun }

turn_fits : (d : Draft) (thread steps : Option ℕ) → IfSome thread (λ t. t < length d.threads) → IfSome (turn_of thread steps) (FitsMove (plan_in d).workload)
turn_fits d None steps h = tt
turn_fits d (Some t) None h = tt
turn_fits d (Some t) (Some n) h = h

script_fits : (d : Draft) (script : Option ℕ) → IfSome script (λ s. s < length d.scripts) → IfSome (call_move script) (FitsMove (plan_in d).workload)
script_fits d None h = tt
script_fits d (Some s) h = h

report_keeps : (p : Parts) (d : Draft) (tool : Option ℕ) (kind : Option ReportKind) → KeepsLimits p d → IfOk (with_report d tool kind) (KeepsLimits p)
report_keeps p d None kind k = tt
report_keeps p d (Some tool) None k = tt
report_keeps p d (Some tool) (Some kind) k = record { fits = record { workload = k.fits.workload; schedule = k.fits.schedule }; counted = k.counted; most = k.most; begun = λ l. absurd (omega arith) }

onto_fits : (p : Parts) (scripts : List (List ControlCall)) (call : ControlCall) → FitsCall p call → All (All (FitsCall p)) scripts → All (All (FitsCall p)) (onto_last scripts call)
onto_fits p [] call fits all = all
onto_fits p (script ∷ []) call fits all =
    All-cons (All (FitsCall p)) (script ++ call ∷ []) [] (All-push (FitsCall p) script call (All-head (All (FitsCall p)) script [] all) fits) (All-nil (All (FitsCall p)))
onto_fits p (script ∷ next ∷ scripts) call fits all =
    All-cons (All (FitsCall p)) script (onto_last (next ∷ scripts) call) (All-head (All (FitsCall p)) script (next ∷ scripts) all)
    (onto_fits p (next ∷ scripts) call fits (All-tail (All (FitsCall p)) script (next ∷ scripts) all))

before_keeps : (p : Parts) (d : Draft) (call : ControlCall) → FitsCall p call → d.calls < MAX_CALLS → KeepsLimits p d → KeepsLimits p (record d { calls = d.calls + 1; before = d.before ++ call ∷ [] })
before_keeps p d call fits few k =
    let w = k.fits.workload in
    let more : length (d.before ++ call ∷ []) ≡ length d.before + 1 = length-append d.before (call ∷ []) in
    record {
      fits = record {
        workload = record {
          steps = w.steps;
          all_steps = w.all_steps;
          threads = w.threads;
          scripts = w.scripts;
          calls = omega (arith, more, k.counted);
          starts = w.starts;
          before_fits = All-push (FitsCall p) d.before call w.before_fits fits;
          scripts_fit = w.scripts_fit;
        };
        schedule = moves_kept (plan_in d).workload (record { steps = d.steps; threads = d.threads; before = d.before ++ call ∷ []; scripts = d.scripts }) d.schedule (omega arith) (omega arith) k.fits.schedule;
      };
      counted = omega (arith, more, k.counted);
      most = omega (arith, few);
      begun = k.begun;
    }

onto_keeps : (p : Parts) (d : Draft) (call : ControlCall) → FitsCall p call → d.calls < MAX_CALLS → KeepsLimits p d → KeepsLimits p (record d { calls = d.calls + 1; scripts = onto_last d.scripts call })
onto_keeps p d call fits few k =
    let w = k.fits.workload in
    let same : length (onto_last d.scripts call) ≡ length d.scripts = as_many d.scripts call in
    record {
      fits = record {
        workload = record {
          steps = w.steps;
          all_steps = w.all_steps;
          threads = w.threads;
          scripts = omega (arith, same, w.scripts);
          calls = omega (arith, one_more d.scripts call, k.counted);
          starts = w.starts;
          before_fits = w.before_fits;
          scripts_fit = onto_fits p d.scripts call fits w.scripts_fit;
        };
        schedule = moves_kept (plan_in d).workload (record { steps = d.steps; threads = d.threads; before = d.before; scripts = onto_last d.scripts call }) d.schedule (omega arith) (omega (arith, same)) k.fits.schedule;
      };
      counted = omega (arith, one_more d.scripts call, k.counted);
      most = omega (arith, few);
      begun = k.begun;
    }

section_keeps : (p : Parts) (d : Draft) (call : ControlCall) (s : Section) → FitsCall p call → d.calls < MAX_CALLS → KeepsLimits p d → KeepsLimits p (onto_section d call s)
section_keeps p d call Section.Nothing fits few k = onto_keeps p d call fits few k
section_keeps p d call Section.Steps fits few k = onto_keeps p d call fits few k
section_keeps p d call Section.Threads fits few k = onto_keeps p d call fits few k
section_keeps p d call Section.Before fits few k = before_keeps p d call fits few k
section_keeps p d call Section.Scripts fits few k = onto_keeps p d call fits few k
section_keeps p d call Section.Schedule fits few k = onto_keeps p d call fits few k
section_keeps p d call Section.Reports fits few k = onto_keeps p d call fits few k

call_keeps : (p : Parts) (d : Draft) (r : Result ControlCall PlanKind) → IfOk r (FitsCall p) → d.calls < MAX_CALLS → KeepsLimits p d → IfOk (with_call d r) (KeepsLimits p)
call_keeps p d (Err kind) fits few k = tt
call_keeps p d (Ok call) fits few k = section_keeps p d call d.section fits few k

first_alone : (s : Section) → is_from_to 0 0 s ≡ true → section_number s ≤ 0
first_alone s h = grind (arith, nat_tests)

below_limit : (limit : ℕ) (word : List ℕ) → IfSome (number_below limit word) (λ n. n < limit)
below_limit limit word = below_some limit (integer_of word)

line_keeps : (p : Parts) (d : Draft) (head : Head) (words : List (List ℕ)) → IsNamed p → may_follow head d.section ≡ true → passes_limit d head words ≡ false → KeepsLimits p d → IfOk (with_line p d head words) (KeepsLimits p)
line_keeps p d Head.Steps words named follows few k =
    steps_keep p d (number_below (MAX_STEPS + 1) (word_at 0 words)) (below_limit (MAX_STEPS + 1) (word_at 0 words)) (first_alone d.section follows) k
line_keeps p d Head.Thread words named follows few k =
    let parts = both_false (has_all_threads d) (has_long_text (drop 1 words)) few in
    thread_keeps p d (start_of p (word_at 0 words) (arguments_of (drop 1 words))) (start_fits p (word_at 0 words) (arguments_of (drop 1 words)) (arguments_fit (drop 1 words) parts.1)) parts.0 k
line_keeps p d Head.Before words named follows few k = to_section p d Section.Before (omega arith) k
line_keeps p d Head.Script words named follows few k = script_keeps p d (test_lt MAX_SCRIPTS (length d.scripts) few) k
line_keeps p d Head.Schedule words named follows few k = to_section p d Section.Schedule (omega arith) k
line_keeps p d Head.Turn words named follows few k =
    move_keeps p d (turn_of (number_below (length d.threads) (word_at 0 words)) (number_below (MAX_STEPS + 1) (word_at 1 words)))
    (turn_fits d (number_below (length d.threads) (word_at 0 words)) (number_below (MAX_STEPS + 1) (word_at 1 words)) (below_limit (length d.threads) (word_at 0 words))) k
line_keeps p d Head.Call words named follows few k =
    move_keeps p d (call_move (number_below (length d.scripts) (word_at 0 words)))
    (script_fits d (number_below (length d.scripts) (word_at 0 words)) (below_limit (length d.scripts) (word_at 0 words))) k
line_keeps p d Head.Report words named follows few k = report_keeps p d (number_below TOOLS (word_at 1 words)) (report_of (word_at 0 words)) k
line_keeps p d (Head.Control kind) words named follows few k =
    call_keeps p d (call_of p kind words) (call_fits p kind words named) (test_lt MAX_CALLS d.calls few) k

left_keeps : (p : Parts) (result : Result (Unit {0}) LineFault) (new : Draft) (due : Result Draft PlanKind) → Leaves result new due → IfOk due (KeepsLimits p) → OnOk result (KeepsLimits p new)
left_keeps p (Ok done) new (Ok due) left keeps = subst (KeepsLimits p) (sym left) keeps
left_keeps p (Ok done) new (Err kind) left keeps = absurd left
left_keeps p (Err fault) new due left keeps = tt

-- what a line leaves keeps the limits
pub line_leaves : (p : Parts) (d : Draft) (head : Head) (words : List (List ℕ)) (result : Result (Unit {0}) LineFault) (new : Draft) → IsNamed p → may_follow head d.section ≡ true → passes_limit d head words ≡ false → KeepsLimits p d → Leaves result new (with_line p d head words) → OnOk result (KeepsLimits p new)
line_leaves p d head words result new named follows few k left =
    left_keeps p result new (with_line p d head words) left (line_keeps p d head words named follows few k)
