-- How the kinds of values with parts print.
use Rattle.std.proofs.Common.{◌≡◌, ℕ, List, [], ◌++◌, length, map, Option, Some, None, option_map, ap, sym, ◌∙◌, Result, Ok, Err, OnOk}
use Rattle.std.specs.Prelude.{codes}
use Rattle.std.proofs.lemmas.List.{length-map}
use Rattle.mon_values.specs.declared.value.Value.{Value, Tuple, Gen, Iter, Done}
use Rattle.mon_values.specs.declared.value.Exc.{Exc}
use Rattle.mon_values.specs.declared.value.Value.TheOpen.{Value-F, Exc-F}
use Rattle.mon_values.specs.declared.value.Value.TheVariants.{rolls-Tuple, rolls-Gen, rolls-Iter, rolls-Done}
use Rattle.mon_values.specs.declared.value.Value.TheFolds.{fold-roll-Value, fold_out-Exc}
use Rattle.mon_values.specs.declared.limited.LimitedBuffer.{LimitedBuffer}
use Rattle.mon_values.specs.Limits.{written}
use Rattle.mon_values.specs.Classes.{class_name}
use Rattle.mon_values.specs.Printing.{Printed, printed, repr_of, exc_repr_of, printed_step, exc_printed_step, tuple_repr, joined, tuple_end, arg_repr, generator_repr, iterator_repr}
use Rattle.mon_values.proofs.Limits.{written_none}
use Rattle.mon_values.proofs.Writing.{both}

pub tuple_prints : (names : List (List ℕ)) (items : List Value) → repr_of names (Tuple items) ≡ tuple_repr (map (printed names) items)
tuple_prints names items = ap (repr_of names) (sym (rolls-Tuple items)) ∙ ap (λ p. p.repr) (fold-roll-Value Printed Printed (printed_step names) exc_printed_step (Value-F.Tuple items))

pub generator_prints : (names : List (List ℕ)) (k : ℕ) → repr_of names (Gen k) ≡ generator_repr k
generator_prints names k = ap (repr_of names) (sym (rolls-Gen k)) ∙ ap (λ p. p.repr) (fold-roll-Value Printed Printed (printed_step names) exc_printed_step (Value-F.Gen k))

pub iterator_prints : (names : List (List ℕ)) (k : ℕ) → repr_of names (Iter k) ≡ iterator_repr k
iterator_prints names k = ap (repr_of names) (sym (rolls-Iter k)) ∙ ap (λ p. p.repr) (fold-roll-Value Printed Printed (printed_step names) exc_printed_step (Value-F.Iter k))

pub end_prints : (names : List (List ℕ)) (exc : Option Exc) → repr_of names (Done exc) ≡ []
end_prints names exc = ap (repr_of names) (sym (rolls-Done exc)) ∙ ap (λ p. p.repr) (fold-roll-Value Printed Printed (printed_step names) exc_printed_step (Value-F.Done exc))

pub exc_prints : (names : List (List ℕ)) (class : ℕ) (arg : Option Value) → exc_repr_of names (record { class = class; arg = arg }) ≡ class_name class ++ codes "(" ++ arg_repr (option_map (printed names) arg) ++ codes ")"
exc_prints names class None = ap (λ p. p.repr) (fold_out-Exc Printed Printed (printed_step names) exc_printed_step (record { class = class; arg = None }))
exc_prints names class (Some v) = ap (λ p. p.repr) (fold_out-Exc Printed Printed (printed_step names) exc_printed_step (record { class = class; arg = Some v }))

pub tuple_written : {T E : Type 0} (r : Result T E) (names : List (List ℕ)) (items inside : List Value) (count : ℕ) (v : Value) (old one two new : LimitedBuffer)
    → v ≡ Tuple items → inside ≡ items → count ≡ length items → one ≡ written old (codes "(") → two ≡ written one (joined (map (printed names) inside)) → OnOk r (new ≡ written two (tuple_end count))
    → OnOk r (new ≡ written old (repr_of names v))
tuple_written (Err x) names items inside count v old one two new e f g p q s = tt
tuple_written (Ok x) names items inside count v old one two new e f g p q s =
    let opened : two ≡ written old (codes "(" ++ joined (map (printed names) items)) = both old one two (codes "(") (joined (map (printed names) items)) p (q ∙ ap (λ vs. written one (joined (map (printed names) vs))) f) in
    let closed : new ≡ written two (tuple_end (length (map (printed names) items))) = s ∙ ap (λ n. written two (tuple_end n)) (g ∙ sym (length-map items (printed names))) in
    both old two new (codes "(" ++ joined (map (printed names) items)) (tuple_end (length (map (printed names) items))) opened closed ∙ ap (written old) (sym (ap (repr_of names) e ∙ tuple_prints names items))

pub arg_written : (names : List (List ℕ)) (arg : Option Value) (v : Value) (old new : LimitedBuffer) → arg ≡ Some v → new ≡ written old (repr_of names v) → new ≡ written old (arg_repr (option_map (printed names) arg))
arg_written names arg v old new e p = p ∙ ap (λ a. written old (arg_repr (option_map (printed names) a))) (sym e)

pub no_arg_written : (names : List (List ℕ)) (arg : Option Value) (old new : LimitedBuffer) → arg ≡ None → new ≡ old → new ≡ written old (arg_repr (option_map (printed names) arg))
no_arg_written names arg old new e p = p ∙ sym (written_none old) ∙ ap (λ a. written old (arg_repr (option_map (printed names) a))) (sym e)

pub exc_written : {T E : Type 0} (r : Result T E) (names : List (List ℕ)) (class : ℕ) (arg : Option Value) (old one two three new : LimitedBuffer)
    → one ≡ written old (class_name class) → two ≡ written one (codes "(") → three ≡ written two (arg_repr (option_map (printed names) arg)) → OnOk r (new ≡ written three (codes ")"))
    → OnOk r (new ≡ written old (exc_repr_of names (record { class = class; arg = arg })))
exc_written (Err x) names class arg old one two three new p q s u = tt
exc_written (Ok x) names class arg old one two three new p q s u =
    let opened : two ≡ written old (class_name class ++ codes "(") = both old one two (class_name class) (codes "(") p q in
    let filled : three ≡ written old (class_name class ++ codes "(" ++ arg_repr (option_map (printed names) arg)) = both old two three (class_name class ++ codes "(") (arg_repr (option_map (printed names) arg)) opened s in
    both old three new (class_name class ++ codes "(" ++ arg_repr (option_map (printed names) arg)) (codes ")") filled u ∙ ap (written old) (sym (exc_prints names class arg))
