-- A builtin leaves the call stack as it is.
use Rattle.std.proofs.Common.{◌≡◌, ℕ, ◌<◌, ◌==◌, Bool, true, false, List, [], ◌∷◌, refl, sym, ap, ◌∙◌, subst, arith}
use Rattle.std.specs.Prelude.{Some, Result, Ok, Err, nat_lt, drop, if◌then◌else◌}
use Rattle.mon_values.specs.declared.value.Value.{Value}
use Rattle.mon_values.specs.declared.value.Value.TheOpen.{Value-F}
use Rattle.mon_values.specs.declared.value.Value.TheViews.{out-Value}
use Rattle.mon_values.specs.declared.value.Exc.{Exc}
use Rattle.mon_values.specs.declared.fault.Trouble.{Trouble}
use Rattle.mon_values.specs.Troubles.{trouble}
use Rattle.mon_code.specs.Programs.{Parts}
use Rattle.mon_frames.specs.declared.frame.Frame.{Frame}
use Rattle.mon_frames.specs.declared.call.Call.{Call}
use Rattle.mon_frames.specs.Views.{FramesView, top_of}
use Rattle.mon_frames.specs.Iterating.{iterated}
use Rattle.mon_frames.specs.Answers.{AnswersIter}
use Rattle.mon_builtins.specs.declared.given.Given.{Given}
use Rattle.mon_builtins.specs.Builtins.{builtin_due, next_due, next_at, iter_due, iter_at}
use Rattle.mon_machine.specs.State.{Move}
use Rattle.mon_machine.specs.Moves.{given_move, calls_builtin, method_on, first_generator, throws_trouble}
use Rattle.mon_interp.specs.Moving.{Stands}
use Rattle.mon_interp.proofs.Iterated.{iterated_keeps}

abbrev Keeps : FramesView → Given × FramesView → Type 0
Keeps v due = due.1.calls ≡ v.calls

iter_at_keeps : (v : FramesView) (x : Value) (due : Result (Value × FramesView) Trouble) → iterated v x ≡ due → Keeps v (iter_at v due)
iter_at_keeps v x (Err t) e = refl
iter_at_keeps v x (Ok due) e = iterated_keeps v due.1 x due.0 (subst (λ (r : Result (Value × FramesView) Trouble). AnswersIter (Ok due.0) r v due.1) (sym e) (refl, refl))

iter_keeps : (v : FramesView) (args : List Value) → Keeps v (iter_due v args)
iter_keeps v [] = refl
iter_keeps v (x ∷ []) = iter_at_keeps v x (iterated v x) refl
iter_keeps v (x ∷ y ∷ args) = refl

next_at_keeps : (v : FramesView) (c : Value-F Value Exc) → Keeps v (next_at v c)
next_at_keeps v (Value-F.Iter number) = refl
next_at_keeps v (Value-F.Gen number) = refl
next_at_keeps v Value-F.None = refl
next_at_keeps v (Value-F.Bool b) = refl
next_at_keeps v (Value-F.Int n) = refl
next_at_keeps v (Value-F.Text t) = refl
next_at_keeps v (Value-F.Tuple t) = refl
next_at_keeps v (Value-F.Function n) = refl
next_at_keeps v (Value-F.Builtin n) = refl
next_at_keeps v (Value-F.ExcClass n) = refl
next_at_keeps v (Value-F.Exc e) = refl
next_at_keeps v (Value-F.Range a b s) = refl
next_at_keeps v (Value-F.Done e) = refl

next_keeps : (v : FramesView) (args : List Value) → Keeps v (next_due v args)
next_keeps v [] = refl
next_keeps v (x ∷ []) = next_at_keeps v (out-Value x)
next_keeps v (x ∷ y ∷ args) = refl

either_keeps : (b : Bool) (v : FramesView) (x y : Given × FramesView) → Keeps v x → Keeps v y → Keeps v (if b then x else y)
either_keeps true v x y h k = h
either_keeps false v x y h k = k

builtin_keeps : (number : ℕ) (args : List Value) (names : List (List ℕ)) (v : FramesView) → Keeps v (builtin_due number args names v)
builtin_keeps number args names v =
    either_keeps (number == 0) v _ _ refl
    (either_keeps (number == 1) v _ _ refl
    (either_keeps (number == 2) v _ _ refl
    (either_keeps (number == 3) v _ _ refl
    (either_keeps (number == 4) v _ _ refl
    (either_keeps (number == 5) v _ _ refl
    (either_keeps (number == 6) v _ _ refl
    (either_keeps (number == 7) v _ _ refl
    (either_keeps (number == 8) v _ _ refl
    (either_keeps (number == 9) v _ _ (next_keeps v args) (iter_keeps v args))))))))))

-- the frames after a builtin have the call stack that was
pub called_keeps : (number : ℕ) (args : List Value) (names : List (List ℕ)) (v w : FramesView) → w ≡ (builtin_due number args names v).1 → w.calls ≡ v.calls
called_keeps number args names v w e = ap (λ (z : FramesView). z.calls) e ∙ builtin_keeps number args names v

pub called_stands : (number : ℕ) (args : List Value) (names : List (List ℕ)) (v w : FramesView) → w ≡ (builtin_due number args names v).1 → Stands v.calls → Stands w.calls
called_stands number args names v w e h = subst (λ (calls : List Call). Stands calls) (sym (called_keeps number args names v w e)) h

below : (n : ℕ) → n < 11 → nat_lt n 11 ≡ true
below n h = grind arith

-- what a builtin gave is what is made of the frames
pub named_call : (p : Parts) (v w : FramesView) (number : ℕ) (args : List Value) (names : List (List ℕ)) (given : Given) (made : Move) (f : Frame) → number < 11 → names ≡ p.names → given ≡ (builtin_due number args names v).0
    → w ≡ (builtin_due number args names v).1 → ((g : Frame) → top_of w.calls ≡ Some g → given_move g given w ≡ made) → top_of v.calls ≡ Some f → calls_builtin p v f number args ≡ made
named_call p v w number args names given made f h named is after gives top =
    ap (λ (b : Bool). if b then given_move f (builtin_due number args p.names v).0 (builtin_due number args p.names v).1 else (if nat_lt number 14 then method_on v f number (first_generator v args) (drop 1 args) else throws_trouble v (trouble 4))) (below number h)
    ∙ ap (λ (n : List (List ℕ)). given_move f (builtin_due number args n v).0 (builtin_due number args n v).1) (sym named)
    ∙ ap (λ (g : Given). given_move f g (builtin_due number args names v).1) (sym is)
    ∙ ap (λ (z : FramesView). given_move f given z) (sym after)
    ∙ gives f (ap (λ (calls : List Call). top_of calls) (called_keeps number args names v w after) ∙ top)
