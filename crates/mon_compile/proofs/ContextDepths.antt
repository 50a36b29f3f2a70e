-- Leaving entries keeps to the depths of what is left.
use Rattle.std.proofs.Common.{◌≡◌, ℕ, ◌+◌, ◌<◌, IsTrue, Bool, true, false, if◌then◌else◌, List, [], ◌∷◌, ◌++◌, length, refl, sym, ap, ◌∙◌, arith}
use Rattle.std.proofs.lemmas.List.{length-map}
use Rattle.mon_events.specs.declared.op.Op.{Op}
use Rattle.mon_code.specs.Effects.{effect_of}
use Rattle.mon_code.specs.Depths.{Table, Records}
use Rattle.mon_compile.specs.declared.assembly.Instruction.{Instruction}
use Rattle.mon_compile.specs.declared.assembly.Argument.TheVariants.{Number}
use Rattle.mon_compile.specs.declared.assembly.Label.{Label}
use Rattle.mon_compile.specs.declared.assembly.Label.TheVariants.{At, EndOf, HandlerOf}
use Rattle.mon_compile.specs.Contexts.{FromAt, Entry, While, For, Try, Except, ExceptAs, Finally, Raised, Returning, Context, Spot, put, none, above, beside, values, exceptions, handler_of, at_line, no_line, in_loop, drop_under, left_by_return, left_by_break}
use Rattle.mon_compile.specs.Statements.{Scheme, leave_all, leave_loop, next_turn, break_code, continue_code}
use Rattle.mon_compile.specs.Moved.{moved, moved_entry, Fixes}
pub use Rattle.mon_compile.specs.InnerContexts.{Closed}
use Rattle.mon_compile.proofs.Fit.{Lands, Catches, Stands, Good, FitsAs, records_as, behind, before, join, catches_more, fits, fits_plain, fits_jump, off}
use Rattle.mon_compile.proofs.StatementLabels.{Carrying}

-- code that begins and ends at these depths, wherever it stands
abbrev pub Kept : Table → ℕ → ℕ → FromAt → Type 0
Kept t stack handling code = (at : ℕ) → 0 < at → Stands t at (code at) stack handling → Good t at stack handling (code at)

abbrev pub Fine : Table → Context → Type 0
Fine t [] = Unit {0}
Fine t (While x y ∷ c) = Lands t (At x) (values c) (exceptions c) × Lands t y (values c) (exceptions c) × Fine t c
Fine t (For x y ∷ c) = Lands t (At x) (1 + values c) (exceptions c) × Lands t y (values c) (exceptions c) × Fine t c
Fine t (Try h ∷ c) = Lands t h (1 + values c) (exceptions c) × Fine t c
Fine t (Except ∷ c) = Fine t c
Fine t (ExceptAs n h ∷ c) = Lands t h (1 + values c) (exceptions c) × Fine t c
Fine t (Finally r b h ∷ c) = Lands t h (1 + values c) (exceptions c) × Kept t (1 + values c) (exceptions c) r × Kept t (values c) (exceptions c) b × Fine t c
Fine t (Raised ∷ c) = Fine t c
Fine t (Returning ∷ c) = Fine t c

pub fine_outer : (t : Table) (e : Entry) (c : Context) → Fine t (e ∷ c) → Fine t c
fine_outer t (While x y) c f = f.2
fine_outer t (For x y) c f = f.2
fine_outer t (Try h) c f = f.1
fine_outer t Except c f = f
fine_outer t (ExceptAs n h) c f = f.1
fine_outer t (Finally r b h) c f = f.3
fine_outer t Raised c f = f
fine_outer t Returning c f = f

pub fine_catches : (t : Table) (c : Context) → Fine t c → Catches t (handler_of c) (values c) (exceptions c)
fine_catches t [] f = tt
fine_catches t (While x y ∷ c) f = fine_catches t c f.2
fine_catches t (For x y ∷ c) f = catches_more t (handler_of c) (values c) (1 + values c) (exceptions c) (exceptions c) (fine_catches t c f.2) (omega arith) (omega arith)
fine_catches t (Try h ∷ c) f = (f.0, omega arith, omega arith)
fine_catches t (Except ∷ c) f = catches_more t (handler_of c) (values c) (values c) (exceptions c) (1 + exceptions c) (fine_catches t c f) (omega arith) (omega arith)
fine_catches t (ExceptAs n h ∷ c) f = (f.0, omega arith, omega arith)
fine_catches t (Finally r b h ∷ c) f = (f.0, omega arith, omega arith)
fine_catches t (Raised ∷ c) f = catches_more t (handler_of c) (values c) (1 + values c) (exceptions c) (1 + exceptions c) (fine_catches t c f) (omega arith) (omega arith)
fine_catches t (Returning ∷ c) f = catches_more t (handler_of c) (values c) (1 + values c) (exceptions c) (exceptions c) (fine_catches t c f) (omega arith) (omega arith)

-- the three instructions that leave
pub fits_pop_except : (t : Table) (at : ℕ) (s : Spot) (left : ℕ) → s.handling ≡ 1 + left → Records t (at + 1) s.stack left → Catches t s.handler s.stack left → FitsAs t at (effect_of Op.PopExcept 0) (put s Op.PopExcept none)
fits_pop_except t at s left h r c = fits t at (effect_of Op.PopExcept 0) s Op.PopExcept none s.stack left (omega arith) h (λ on. records_as t (at + 1) (at + 1) s.stack (0 + s.stack) left (0 + left) r refl (omega arith) (omega arith)) tt c

swap_pop : (t : Table) (c : Context) (at : ℕ) → Fine t c → Stands t at (drop_under c) (1 + values c) (exceptions c) → Good t at (1 + (1 + values c)) (exceptions c) (drop_under c)
swap_pop t c at f w =
    let k = fine_catches t c f in
    let v = values c in
    let n = exceptions c in
    record {
      fits = (
        fits_plain t at 2 2 (above 2 (no_line c)) Op.Swap (Number 2) v refl w.1.0 k,
        (fits_plain t (at + 1) 1 0 (above 2 (no_line c)) Op.PopTop none (1 + v) (omega arith) (records_as t (at + 1 + 1) (at + 1 + 1) (1 + v) (0 + (1 + v)) n n w.1.1 refl (omega arith) refl) (catches_more t (handler_of c) v (1 + v) n n k (omega arith) (omega arith)), tt),
      );
      start = records_as t at at (2 + v) (1 + (1 + v)) n n w.0 refl (omega arith) refl;
    }

pop_one : (t : Table) (c : Context) (at : ℕ) → Fine t c → Records t at (1 + values c) (exceptions c) → Records t (at + 1) (values c) (exceptions c) → FitsAs t at (effect_of Op.PopTop 0) (put (above 1 (no_line c)) Op.PopTop none)
pop_one t c at f r n = fits_plain t at 1 0 (above 1 (no_line c)) Op.PopTop none (values c) refl (records_as t (at + 1) (at + 1) (values c) (0 + values c) (exceptions c) (exceptions c) n refl (omega arith) refl) (fine_catches t c f)

return_sound : (t : Table) (e : Entry) (c : Context) (at : ℕ) → 0 < at → Fine t (e ∷ c) → Stands t at (left_by_return e c at) (1 + values c) (exceptions c) → Good t at (1 + values (e ∷ c)) (exceptions (e ∷ c)) (left_by_return e c at)
return_sound t (While x y) c at p f w = record { fits = tt; start = w }
return_sound t (For x y) c at p f w = swap_pop t c at f.2 w
return_sound t (Try h) c at p f w = record { fits = tt; start = w }
return_sound t Except c at p f w = record {
  fits = (fits_pop_except t at (above 1 (beside 1 (no_line c))) (exceptions c) refl w.1 (catches_more t (handler_of c) (values c) (1 + values c) (exceptions c) (exceptions c) (fine_catches t c f) (omega arith) (omega arith)), tt);
  start = w.0;
}
return_sound t (ExceptAs n h) c at p f w =
    let k = catches_more t (handler_of c) (values c) (1 + values c) (exceptions c) (exceptions c) (fine_catches t c f.1) (omega arith) (omega arith) in
    record {
      fits = (
        fits_pop_except t at (above 1 (beside 1 (no_line c))) (exceptions c) refl w.1.0 k,
        (fits_plain t (at + 1) 0 0 (above 1 (no_line c)) Op.DeleteFast (Number n) (1 + values c) (omega arith) (records_as t (at + 1 + 1) (at + 1 + 1) (1 + values c) (0 + (1 + values c)) (exceptions c) (exceptions c) w.1.1 refl (omega arith) refl) k, tt),
      );
      start = w.0;
    }
return_sound t (Finally r b h) c at p f w = f.1 at p w
return_sound t Raised c at p f w =
    let k = catches_more t (handler_of c) (values c) (2 + values c) (exceptions c) (exceptions c) (fine_catches t c f) (omega arith) (omega arith) in
    let g = swap_pop t c (at + 1) f w.1 in
    record {
      fits = (fits_pop_except t at (above 2 (beside 1 (no_line c))) (exceptions c) refl w.1.0 k, g.fits);
      start = records_as t at at (2 + values c) (1 + (1 + values c)) (1 + exceptions c) (1 + exceptions c) w.0 refl (omega arith) refl;
    }
return_sound t Returning c at p f w = swap_pop t c at f w

break_sound : (t : Table) (e : Entry) (c : Context) (at : ℕ) → 0 < at → Fine t (e ∷ c) → Stands t at (left_by_break e c at) (values c) (exceptions c) → Good t at (values (e ∷ c)) (exceptions (e ∷ c)) (left_by_break e c at)
break_sound t (While x y) c at p f w = record { fits = tt; start = w }
break_sound t (For x y) c at p f w = record { fits = (pop_one t c at f.2 w.0 w.1, tt); start = w.0 }
break_sound t (Try h) c at p f w = record { fits = tt; start = w }
break_sound t Except c at p f w = record { fits = (fits_pop_except t at (beside 1 (no_line c)) (exceptions c) refl w.1 (fine_catches t c f), tt); start = w.0 }
break_sound t (ExceptAs n h) c at p f w =
    let k = fine_catches t c f.1 in
    record {
      fits = (
        fits_pop_except t at (beside 1 (no_line c)) (exceptions c) refl w.1.0 k,
        (fits_plain t (at + 1) 0 0 (no_line c) Op.DeleteFast (Number n) (values c) (omega arith) (records_as t (at + 1 + 1) (at + 1 + 1) (values c) (0 + values c) (exceptions c) (exceptions c) w.1.1 refl (omega arith) refl) k, tt),
      );
      start = w.0;
    }
break_sound t (Finally r b h) c at p f w = f.2 at p w
break_sound t Raised c at p f w =
    let k = catches_more t (handler_of c) (values c) (1 + values c) (exceptions c) (exceptions c) (fine_catches t c f) (omega arith) (omega arith) in
    record { fits = (fits_pop_except t at (above 1 (beside 1 (no_line c))) (exceptions c) refl w.1.0 k, (pop_one t c (at + 1) f w.1.0 w.1.1, tt)); start = w.0 }
break_sound t Returning c at p f w = record { fits = (pop_one t c at f w.0 w.1, tt); start = w.0 }

pub leave_all_sound : (t : Table) (c : Context) (at : ℕ) → 0 < at → Fine t c → Stands t at (leave_all c at) 1 0 → Good t at (1 + values c) (exceptions c) (leave_all c at)
leave_all_sound t [] at p f w = record { fits = tt; start = w }
leave_all_sound t (e ∷ c) at p f w =
    let code = left_by_return e c at in
    let rest = leave_all c (at + length code) in
    let g2 = leave_all_sound t c (at + length code) (omega arith) (fine_outer t e c f) (behind t at code rest 1 0 w) in
    let g1 = return_sound t e c at p f (before t at code rest 1 0 (1 + values c) (exceptions c) w g2.start) in
    record { fits = join t at code rest g1.fits g2.fits; start = g1.start }

-- leaving one more entry by break or continue
one_more : (t : Table) (e : Entry) (c : Context) (at : ℕ) (rest : FromAt) (s h : ℕ) → 0 < at → Fine t (e ∷ c) → ((n : ℕ) → 0 < n → Stands t n (rest n) s h → Good t n (values c) (exceptions c) (rest n))
    → Stands t at (left_by_break e c at ++ rest (at + length (left_by_break e c at))) s h → Good t at (values (e ∷ c)) (exceptions (e ∷ c)) (left_by_break e c at ++ rest (at + length (left_by_break e c at)))
one_more t e c at rest s h p f more w =
    let code = left_by_break e c at in
    let from = at + length code in
    let g2 = more from (omega arith) (behind t at code (rest from) s h w) in
    let g1 = break_sound t e c at p f (before t at code (rest from) s h (values c) (exceptions c) w g2.start) in
    record { fits = join t at code (rest from) g1.fits g2.fits; start = g1.start }

leave_loop_sound : (t : Table) (line : ℕ) (c : Context) (s h : ℕ) → Fine t c → IsTrue (in_loop c) → (at : ℕ) → 0 < at → Stands t at (leave_loop line c at) s h → Good t at (values c) (exceptions c) (leave_loop line c at)
leave_loop_sound t line [] s h f i at p w = off i
leave_loop_sound t line (While x y ∷ c) s h f i at p w = record { fits = (fits_jump t at y (at_line line c) Op.JumpForward f.1 (fine_catches t c f.2), tt); start = w.0 }
leave_loop_sound t line (For x y ∷ c) s h f i at p w = record {
  fits = (pop_one t c at f.2 w.0 w.1.0, (fits_jump t (at + 1) y (at_line line c) Op.JumpForward f.1 (fine_catches t c f.2), tt));
  start = w.0;
}
leave_loop_sound t line (Try l ∷ c) s h f i at p w = one_more t (Try l) c at (leave_loop line c) s h p f (leave_loop_sound t line c s h (fine_outer t (Try l) c f) i) w
leave_loop_sound t line (Except ∷ c) s h f i at p w = one_more t Except c at (leave_loop line c) s h p f (leave_loop_sound t line c s h (fine_outer t Except c f) i) w
leave_loop_sound t line (ExceptAs n l ∷ c) s h f i at p w = one_more t (ExceptAs n l) c at (leave_loop line c) s h p f (leave_loop_sound t line c s h (fine_outer t (ExceptAs n l) c f) i) w
leave_loop_sound t line (Finally r b l ∷ c) s h f i at p w = one_more t (Finally r b l) c at (leave_loop line c) s h p f (leave_loop_sound t line c s h (fine_outer t (Finally r b l) c f) i) w
leave_loop_sound t line (Raised ∷ c) s h f i at p w = one_more t Raised c at (leave_loop line c) s h p f (leave_loop_sound t line c s h (fine_outer t Raised c f) i) w
leave_loop_sound t line (Returning ∷ c) s h f i at p w = one_more t Returning c at (leave_loop line c) s h p f (leave_loop_sound t line c s h (fine_outer t Returning c f) i) w

next_turn_sound : (t : Table) (line : ℕ) (c : Context) (s h : ℕ) → Fine t c → IsTrue (in_loop c) → (at : ℕ) → 0 < at → Stands t at (next_turn line c at) s h → Good t at (values c) (exceptions c) (next_turn line c at)
next_turn_sound t line [] s h f i at p w = off i
next_turn_sound t line (While x y ∷ c) s h f i at p w = record { fits = (fits_jump t at (At x) (at_line line (While x y ∷ c)) Op.JumpBackward f.0 (fine_catches t (While x y ∷ c) f), tt); start = w.0 }
next_turn_sound t line (For x y ∷ c) s h f i at p w = record { fits = (fits_jump t at (At x) (at_line line (For x y ∷ c)) Op.JumpBackward f.0 (fine_catches t (For x y ∷ c) f), tt); start = w.0 }
next_turn_sound t line (Try l ∷ c) s h f i at p w = one_more t (Try l) c at (next_turn line c) s h p f (next_turn_sound t line c s h (fine_outer t (Try l) c f) i) w
next_turn_sound t line (Except ∷ c) s h f i at p w = one_more t Except c at (next_turn line c) s h p f (next_turn_sound t line c s h (fine_outer t Except c f) i) w
next_turn_sound t line (ExceptAs n l ∷ c) s h f i at p w = one_more t (ExceptAs n l) c at (next_turn line c) s h p f (next_turn_sound t line c s h (fine_outer t (ExceptAs n l) c f) i) w
next_turn_sound t line (Finally r b l ∷ c) s h f i at p w = one_more t (Finally r b l) c at (next_turn line c) s h p f (next_turn_sound t line c s h (fine_outer t (Finally r b l) c f) i) w
next_turn_sound t line (Raised ∷ c) s h f i at p w = one_more t Raised c at (next_turn line c) s h p f (next_turn_sound t line c s h (fine_outer t Raised c f) i) w
next_turn_sound t line (Returning ∷ c) s h f i at p w = one_more t Returning c at (next_turn line c) s h p f (next_turn_sound t line c s h (fine_outer t Returning c f) i) w

either_way : (t : Table) (b : Bool) (at s h : ℕ) (code : List Instruction) → (IsTrue b → Stands t at code s h → Good t at s h code) → Stands t at (if b then code else []) s h → Good t at s h (if b then code else [])
either_way t true at s h code m w = m refl w
either_way t false at s h code m w = record { fits = tt; start = w }

-- a statement's code, in any context that is fine, begins and ends at the depths of the context
abbrev pub Keeps : Table → Scheme → Type 0
Keeps t a = (c : Context) → Fine t c → Closed c → Kept t (values c) (exceptions c) (a c)

pub break_keeps : (t : Table) (line : ℕ) → Keeps t (break_code line)
break_keeps t line c f k at p w = either_way t (in_loop c) at (values c) (exceptions c) (leave_loop line c at) (λ i. leave_loop_sound t line c (values c) (exceptions c) f i at p) w

pub continue_keeps : (t : Table) (line : ℕ) → Keeps t (continue_code line)
continue_keeps t line c f k at p w = either_way t (in_loop c) at (values c) (exceptions c) (next_turn line c at) (λ i. next_turn_sound t line c (values c) (exceptions c) f i at p) w

-- no length depends on a destination
abbrev pub to : ℕ → Label → Label
to n (At k) = At k
to n (EndOf d) = At n
to n (HandlerOf d) = At n

pub same_length : (a : Scheme) → ((g : Label → Label) → Carrying g a) → (c : Context) → Closed c → (entry : Label → Entry) → ((g : Label → Label) → Fixes g → (l : Label) → moved_entry g (entry l) ≡ entry (g l)) → (n at : ℕ)
    → length (a (entry (At 0) ∷ c) at) ≡ length (a (entry (At n) ∷ c) at)
same_length a carries c closed entry natural n at =
    let open_length : (k : ℕ) → length (a (entry (At k) ∷ c) at) ≡ length (a (entry (EndOf 0) ∷ c) at)
    = λ k.
    ap (λ (e : Entry). length (a (e ∷ c) at)) (sym (natural (to k) (λ n. refl) (EndOf 0)))
    ∙ ap (λ (x : Context). length (a (moved_entry (to k) (entry (EndOf 0)) ∷ x) at)) (sym (closed (to k) (λ n. refl)))
    ∙ ap length (carries (to k) (entry (EndOf 0) ∷ c) (λ n. refl) at)
    ∙ length-map (a (entry (EndOf 0) ∷ c) at) (moved (to k)) in
    open_length 0 ∙ sym (open_length n)
