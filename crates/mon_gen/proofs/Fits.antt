-- The plan fits the program.
use Rattle.std.proofs.Common.{◌≡◌, ℕ, zero, suc, ◌+◌, ◌≤◌, ◌<◌, List, [], ◌∷◌, ◌++◌, Option, Some, None, length, slice_get, replicate, codes, pos, refl, sym, subst, ap, ◌∙◌, arith, rules}
use Rattle.std.specs.List.{All}
use Rattle.std.proofs.lemmas.List.{length-append}
use Rattle.std.proofs.lemmas.List.Elements.{All-cons, All-replicate}
use Rattle.mon_code.specs.Programs.{Parts}
use Rattle.mon_compile.specs.Functions.{function_code}
use Rattle.mon_compile.specs.Modules.{bases_of, codes_of, compiled, functions_of}
use Rattle.mon_forms.specs.Fits.{FitsArgument, FitsCall, FitsMove, FitsProgram, FitsStart, IsArgument}
use Rattle.mon_forms.specs.Plans.{parameters_of}
use Rattle.mon_history.specs.declared.calls.ControlCall.{ControlCall}
use Rattle.mon_history.specs.declared.calls.Policy.{Policy}
use Rattle.mon_trees.specs.declared.tree.Function.{Function}
use Rattle.mon_values.specs.declared.value.Value as value
use Rattle.mon_values.specs.declared.value.Value.TheOpen.{Value-F}
use Rattle.mon_values.specs.declared.value.Value.TheViews.{out-Value, the_lemmas}
use Rattle.mon_gen.specs.Generated.{generated, sum_function}
use Rattle.mon_gen.specs.Laws.{PlansFit}
use Rattle.mon_gen.specs.Plans.{calls, generated_plan, line_events, start}
use Rattle.mon_gen.proofs.Silent.{functions_are, loop_list}

as_many_codes : (bases : List ℕ) (first : ℕ) (fs : List Function) → length (codes_of bases first fs) ≡ length fs
as_many_codes bases first [] = refl
as_many_codes bases first (f ∷ fs) = ap suc (as_many_codes bases (first + length (function_code f)) fs)

-- the code behind others is that of the function behind theirs
last_code : (bases : List ℕ) (first : ℕ) (fs : List Function) (f : Function) → parameters_of (slice_get (codes_of bases first (fs ++ f ∷ [])) (length fs)) ≡ Some (length f.parameters)
last_code bases first [] f = refl
last_code bases first (g ∷ fs) f = last_code bases (first + length (function_code g)) fs f

loops_count : (n : ℕ) → length (loop_list n) ≡ n
loops_count zero = refl
loops_count (suc k) = length-append (loop_list k) _ ∙ omega (arith, loops_count k)

codes_are : (n : ℕ) → (compiled (generated n)).codes ≡ codes_of (compiled (generated n)).bases 0 (loop_list n ++ sum_function n ∷ [])
codes_are n = ap (codes_of (compiled (generated n)).bases 0) (functions_are n)

has_code : (n : ℕ) → n < length (compiled (generated n)).codes
has_code n =
    let same : length (compiled (generated n)).codes ≡ length (loop_list n ++ sum_function n ∷ []) =
    ap length (codes_are n) ∙ as_many_codes (compiled (generated n)).bases 0 (loop_list n ++ sum_function n ∷ []) in
    let count : length (loop_list n ++ sum_function n ∷ []) ≡ n + 1 = length-append (loop_list n) (sum_function n ∷ []) ∙ ap (λ k. k + 1) (loops_count n) in
    omega arith

has_parameter : (n : ℕ) → parameters_of (slice_get (compiled (generated n)).codes n) ≡ Some 1
has_parameter n =
    let at : n ≡ length (loop_list n) = sym (loops_count n) in
    ap (λ codes. parameters_of (slice_get codes n)) (codes_are n)
    ∙ (ap (λ k. parameters_of (slice_get (codes_of (compiled (generated n)).bases 0 (loop_list n ++ sum_function n ∷ [])) k)) at
    ∙ last_code (compiled (generated n)).bases 0 (loop_list n) (sum_function n))

nothing : {X : Type 0} (P : X → Type 0) → All P []
nothing P = λ k d below. absurd (omega arith)

is_integer : (k : ℕ) → IsArgument (value.Int (pos k))
is_integer k = let e : out-Value (value.Int (pos k)) ≡ Value-F.Int (pos k) = search (rules, the_lemmas) in subst FitsArgument (sym e) tt

start_fits : (n : ℕ) → FitsStart (compiled (generated n)) (start n)
start_fits n = record {
  code = has_code n;
  count = has_parameter n;
  args = All-cons IsArgument (value.Int (pos 20)) [] (is_integer 20) (nothing IsArgument);
}

abbrev use_call : ControlCall
use_call = ControlCall.UseToolId (pos 1) (codes "gen")

abbrev register_call : ControlCall
register_call = ControlCall.RegisterCallback (pos 1) line_events Policy.Keep

abbrev set_call : ControlCall
set_call = ControlCall.SetEvents (pos 1) line_events

calls_fit : (p : Parts) → All (FitsCall p) calls
calls_fit p =
    All-cons (FitsCall p) use_call (register_call ∷ set_call ∷ []) tt
    (All-cons (FitsCall p) register_call (set_call ∷ []) tt
    (All-cons (FitsCall p) set_call [] tt (nothing (FitsCall p))))

pub plans_fit : PlansFit
plans_fit n small = record {
  workload = record {
    steps = omega arith;
    all_steps = omega arith;
    threads = omega arith;
    scripts = omega arith;
    calls = omega arith;
    starts = All-replicate (FitsStart (compiled (generated n))) 4 (start n) (start_fits n);
    before_fits = calls_fit (compiled (generated n));
    scripts_fit = nothing (All (FitsCall (compiled (generated n))));
  };
  schedule = nothing (FitsMove (generated_plan n).workload);
}
