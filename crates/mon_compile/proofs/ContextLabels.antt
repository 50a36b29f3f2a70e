-- The code that leaves entries has the labels of its context and no others.
use Rattle.std.proofs.Common.{◌≡◌, ℕ, ◌+◌, Bool, true, false, if◌then◌else◌, List, [], ◌∷◌, ◌++◌, length, map, refl, ap}
use Rattle.std.proofs.lemmas.List.{map-append, length-map}
use Rattle.mon_compile.specs.declared.assembly.Instruction.{Instruction}
use Rattle.mon_compile.specs.declared.assembly.Label.{Label}
use Rattle.mon_compile.specs.Contexts.{FromAt, Entry, While, For, Try, Except, ExceptAs, Finally, Raised, Returning, Context, values, exceptions, handler_of, at_line, no_line, in_loop, left_by_return, left_by_break}
use Rattle.mon_compile.specs.Statements.{leave_all, leave_loop, next_turn, break_code, continue_code}
use Rattle.mon_compile.specs.Moved.{moved, moved_handler, moved_spot, moved_entry, moved_context, Fixes}

pub values_moved : (g : Label → Label) (context : Context) → values (moved_context g context) ≡ values context
values_moved g [] = refl
values_moved g (While x y ∷ context) = values_moved g context
values_moved g (For x y ∷ context) = ap (λ n. 1 + n) (values_moved g context)
values_moved g (Try h ∷ context) = values_moved g context
values_moved g (Except ∷ context) = values_moved g context
values_moved g (ExceptAs n c ∷ context) = values_moved g context
values_moved g (Finally r b h ∷ context) = values_moved g context
values_moved g (Raised ∷ context) = ap (λ n. 1 + n) (values_moved g context)
values_moved g (Returning ∷ context) = ap (λ n. 1 + n) (values_moved g context)

pub exceptions_moved : (g : Label → Label) (context : Context) → exceptions (moved_context g context) ≡ exceptions context
exceptions_moved g [] = refl
exceptions_moved g (While x y ∷ context) = exceptions_moved g context
exceptions_moved g (For x y ∷ context) = exceptions_moved g context
exceptions_moved g (Try h ∷ context) = exceptions_moved g context
exceptions_moved g (Except ∷ context) = ap (λ n. 1 + n) (exceptions_moved g context)
exceptions_moved g (ExceptAs n c ∷ context) = ap (λ n. 1 + n) (exceptions_moved g context)
exceptions_moved g (Finally r b h ∷ context) = exceptions_moved g context
exceptions_moved g (Raised ∷ context) = ap (λ n. 1 + n) (exceptions_moved g context)
exceptions_moved g (Returning ∷ context) = exceptions_moved g context

pub handler_moved : (g : Label → Label) (context : Context) → handler_of (moved_context g context) ≡ moved_handler g (handler_of context)
handler_moved g [] = refl
handler_moved g (While x y ∷ context) = handler_moved g context
handler_moved g (For x y ∷ context) = handler_moved g context
handler_moved g (Try h ∷ context) = rw (values_moved g context, exceptions_moved g context) refl
handler_moved g (Except ∷ context) = handler_moved g context
handler_moved g (ExceptAs n c ∷ context) = rw (values_moved g context, exceptions_moved g context) refl
handler_moved g (Finally r b h ∷ context) = rw (values_moved g context, exceptions_moved g context) refl
handler_moved g (Raised ∷ context) = handler_moved g context
handler_moved g (Returning ∷ context) = handler_moved g context

pub at_line_moved : (g : Label → Label) (line : ℕ) (context : Context) → at_line line (moved_context g context) ≡ moved_spot g (at_line line context)
at_line_moved g line context = rw (values_moved g context, exceptions_moved g context, handler_moved g context) refl

pub no_line_moved : (g : Label → Label) (context : Context) → no_line (moved_context g context) ≡ moved_spot g (no_line context)
no_line_moved g context = rw (values_moved g context, exceptions_moved g context, handler_moved g context) refl

return_moved : (g : Label → Label) (e : Entry) (outer : Context) (at : ℕ) → left_by_return (moved_entry g e) (moved_context g outer) at ≡ map (moved g) (left_by_return e outer at)
return_moved g (While x y) outer at = refl
return_moved g (For x y) outer at = rw (values_moved g outer, exceptions_moved g outer, handler_moved g outer) refl
return_moved g (Try h) outer at = refl
return_moved g Except outer at = rw (values_moved g outer, exceptions_moved g outer, handler_moved g outer) refl
return_moved g (ExceptAs n c) outer at = rw (values_moved g outer, exceptions_moved g outer, handler_moved g outer) refl
return_moved g (Finally r b h) outer at = refl
return_moved g Raised outer at = rw (values_moved g outer, exceptions_moved g outer, handler_moved g outer) refl
return_moved g Returning outer at = rw (values_moved g outer, exceptions_moved g outer, handler_moved g outer) refl

break_moved : (g : Label → Label) (e : Entry) (outer : Context) (at : ℕ) → left_by_break (moved_entry g e) (moved_context g outer) at ≡ map (moved g) (left_by_break e outer at)
break_moved g (While x y) outer at = refl
break_moved g (For x y) outer at = rw (values_moved g outer, exceptions_moved g outer, handler_moved g outer) refl
break_moved g (Try h) outer at = refl
break_moved g Except outer at = rw (values_moved g outer, exceptions_moved g outer, handler_moved g outer) refl
break_moved g (ExceptAs n c) outer at = rw (values_moved g outer, exceptions_moved g outer, handler_moved g outer) refl
break_moved g (Finally r b h) outer at = refl
break_moved g Raised outer at = rw (values_moved g outer, exceptions_moved g outer, handler_moved g outer) refl
break_moved g Returning outer at = rw (values_moved g outer, exceptions_moved g outer, handler_moved g outer) refl

pub leave_all_moved : (g : Label → Label) (context : Context) (at : ℕ) → leave_all (moved_context g context) at ≡ map (moved g) (leave_all context at)
leave_all_moved g [] at = refl
leave_all_moved g (e ∷ outer) at =
    let code = left_by_return e outer at in
    rw (return_moved g e outer at, length-map code (moved g), leave_all_moved g outer (at + length code), map-append (moved g) code (leave_all outer (at + length code))) refl

-- leaving one more entry, by break or continue
further : (g : Label → Label) (e : Entry) (outer : Context) (rest : FromAt) (rest' : FromAt) (at : ℕ) → ((n : ℕ) → rest' n ≡ map (moved g) (rest n))
    → left_by_break (moved_entry g e) (moved_context g outer) at ++ rest' (at + length (left_by_break (moved_entry g e) (moved_context g outer) at)) ≡ map (moved g) (left_by_break e outer at ++ rest (at + length (left_by_break e outer at)))
further g e outer rest rest' at same =
    let code = left_by_break e outer at in
    rw (break_moved g e outer at, length-map code (moved g), same (at + length code), map-append (moved g) code (rest (at + length code))) refl

leave_loop_moved : (g : Label → Label) (line : ℕ) (context : Context) (at : ℕ) → leave_loop line (moved_context g context) at ≡ map (moved g) (leave_loop line context at)
leave_loop_moved g line [] at = refl
leave_loop_moved g line (While x y ∷ outer) at = rw (values_moved g outer, exceptions_moved g outer, handler_moved g outer) refl
leave_loop_moved g line (For x y ∷ outer) at = rw (values_moved g outer, exceptions_moved g outer, handler_moved g outer) refl
leave_loop_moved g line (Try h ∷ outer) at = further g (Try h) outer (leave_loop line outer) (leave_loop line (moved_context g outer)) at (leave_loop_moved g line outer)
leave_loop_moved g line (Except ∷ outer) at = further g Except outer (leave_loop line outer) (leave_loop line (moved_context g outer)) at (leave_loop_moved g line outer)
leave_loop_moved g line (ExceptAs n c ∷ outer) at = further g (ExceptAs n c) outer (leave_loop line outer) (leave_loop line (moved_context g outer)) at (leave_loop_moved g line outer)
leave_loop_moved g line (Finally r b h ∷ outer) at = further g (Finally r b h) outer (leave_loop line outer) (leave_loop line (moved_context g outer)) at (leave_loop_moved g line outer)
leave_loop_moved g line (Raised ∷ outer) at = further g Raised outer (leave_loop line outer) (leave_loop line (moved_context g outer)) at (leave_loop_moved g line outer)
leave_loop_moved g line (Returning ∷ outer) at = further g Returning outer (leave_loop line outer) (leave_loop line (moved_context g outer)) at (leave_loop_moved g line outer)

next_turn_moved : (g : Label → Label) → Fixes g → (line : ℕ) (context : Context) (at : ℕ) → next_turn line (moved_context g context) at ≡ map (moved g) (next_turn line context at)
next_turn_moved g fix line [] at = refl
next_turn_moved g fix line (While x y ∷ outer) at = rw (values_moved g outer, exceptions_moved g outer, handler_moved g outer, fix x) refl
next_turn_moved g fix line (For x y ∷ outer) at = rw (values_moved g outer, exceptions_moved g outer, handler_moved g outer, fix x) refl
next_turn_moved g fix line (Try h ∷ outer) at = further g (Try h) outer (next_turn line outer) (next_turn line (moved_context g outer)) at (next_turn_moved g fix line outer)
next_turn_moved g fix line (Except ∷ outer) at = further g Except outer (next_turn line outer) (next_turn line (moved_context g outer)) at (next_turn_moved g fix line outer)
next_turn_moved g fix line (ExceptAs n c ∷ outer) at = further g (ExceptAs n c) outer (next_turn line outer) (next_turn line (moved_context g outer)) at (next_turn_moved g fix line outer)
next_turn_moved g fix line (Finally r b h ∷ outer) at = further g (Finally r b h) outer (next_turn line outer) (next_turn line (moved_context g outer)) at (next_turn_moved g fix line outer)
next_turn_moved g fix line (Raised ∷ outer) at = further g Raised outer (next_turn line outer) (next_turn line (moved_context g outer)) at (next_turn_moved g fix line outer)
next_turn_moved g fix line (Returning ∷ outer) at = further g Returning outer (next_turn line outer) (next_turn line (moved_context g outer)) at (next_turn_moved g fix line outer)

in_loop_moved : (g : Label → Label) (context : Context) → in_loop (moved_context g context) ≡ in_loop context
in_loop_moved g [] = refl
in_loop_moved g (While x y ∷ context) = refl
in_loop_moved g (For x y ∷ context) = refl
in_loop_moved g (Try h ∷ context) = in_loop_moved g context
in_loop_moved g (Except ∷ context) = in_loop_moved g context
in_loop_moved g (ExceptAs n c ∷ context) = in_loop_moved g context
in_loop_moved g (Finally r b h ∷ context) = in_loop_moved g context
in_loop_moved g (Raised ∷ context) = in_loop_moved g context
in_loop_moved g (Returning ∷ context) = in_loop_moved g context

pub chosen : (g : Label → Label) (b : Bool) (p q p' q' : List Instruction) → p' ≡ map (moved g) p → q' ≡ map (moved g) q → (if b then p' else q') ≡ map (moved g) (if b then p else q)
chosen g true p q p' q' h k = h
chosen g false p q p' q' h k = k

pub break_code_moved : (g : Label → Label) (line : ℕ) (context : Context) (at : ℕ) → break_code line (moved_context g context) at ≡ map (moved g) (break_code line context at)
break_code_moved g line context at = rw (in_loop_moved g context) (chosen g (in_loop context) (leave_loop line context at) [] (leave_loop line (moved_context g context) at) [] (leave_loop_moved g line context at) refl)

pub continue_code_moved : (g : Label → Label) → Fixes g → (line : ℕ) (context : Context) (at : ℕ) → continue_code line (moved_context g context) at ≡ map (moved g) (continue_code line context at)
continue_code_moved g fix line context at = rw (in_loop_moved g context) (chosen g (in_loop context) (next_turn line context at) [] (next_turn line (moved_context g context) at) [] (next_turn_moved g fix line context at) refl)
