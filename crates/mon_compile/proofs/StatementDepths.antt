-- The code of a statement keeps the depths of its context.
use Rattle.std.proofs.Common.{◌≡◌, ℕ, ◌+◌, ◌<◌, IsTrue, Bool, true, false, if◌then◌else◌, List, [], ◌∷◌, ◌++◌, length, None, refl, sym, ap, ◌∙◌, subst, arith}
use Rattle.std.proofs.lemmas.List.{length-map}
use Rattle.mon_events.specs.declared.op.Op.{Op}
use Rattle.mon_code.specs.Effects.{plain, effect_of}
use Rattle.mon_code.specs.Depths.{Table, Records}
use Rattle.mon_trees.specs.declared.tree.Targets.{Targets}
use Rattle.mon_trees.specs.declared.tree.Targets.TheVariants as targets
use Rattle.mon_compile.specs.declared.assembly.Instruction.{Instruction}
use Rattle.mon_compile.specs.declared.assembly.Argument.{Argument}
use Rattle.mon_compile.specs.declared.assembly.Argument.TheVariants.{Number, Destination}
use Rattle.mon_compile.specs.declared.assembly.Label.{Label}
use Rattle.mon_compile.specs.declared.assembly.Label.TheVariants.{At, EndOf}
use Rattle.mon_compile.specs.Contexts.{FromAt, Entry, While, For, Try, Except, ExceptAs, Finally, Raised, Returning, Context, Spot, put, none, above, beside, bare, values, exceptions, handler_of, at_line, no_line}
use Rattle.mon_compile.specs.Expressions.{Coder, Locals, number_of_local, store_names, store_code}
use Rattle.mon_compile.specs.Statements.{Scheme, ClauseScheme, block, leave_all, return_code, ending_code, assign_code, augmented_code, single_code, raise_code, if_code, if_else_code, branch_code, while_code, for_code, in_clause, except_body, except_code, except_as_body, except_as_code, bare_code, clauses_code, handlers_code, finally_code, guarded, try_code}
use Rattle.mon_compile.specs.Moved.{moved, moved_entry, moved_context, Fixes}
use Rattle.mon_compile.specs.Placed.{index_of, number_in}
use Rattle.mon_compile.proofs.Fit.{Lands, Stands, Good, FitsAs, records_as, stands_as, fits_as, behind, before, ends, join, catches_more, fits, fits_plain, fits_branch, fits_jump, fits_last, Catches}
use Rattle.mon_compile.proofs.ExpressionDepths.{Sound}
use Rattle.mon_compile.proofs.ContextDepths.{Fine, Closed, Keeps, fine_catches, fits_pop_except, leave_all_sound, same_length, to}
use Rattle.mon_compile.proofs.StatementLabels.{Carrying, AllCarrying, AllClauses, block_carrying, clauses_carrying, kept_entry, guarded_carrying}

abbrev pub AllKeep : Table → List Scheme → Type 0
AllKeep t [] = Unit {0}
AllKeep t (a ∷ more) = Keeps t a × AllKeep t more

pub block_keeps : (t : Table) (parts : List Scheme) → AllKeep t parts → Keeps t (block parts)
block_keeps t [] m c f k at p w = record { fits = tt; start = w }
block_keeps t (a ∷ parts) m c f k at p w =
    let code = a c at in
    let rest = block parts c (at + length code) in
    let g2 = block_keeps t parts m.1 c f k (at + length code) (omega arith) (behind t at code rest (values c) (exceptions c) w) in
    let g1 = m.0 c f k at p (before t at code rest (values c) (exceptions c) (values c) (exceptions c) w g2.start) in
    record { fits = join t at code rest g1.fits g2.fits; start = g1.start }

store_names_sound : (t : Table) (locals : Locals) (ns : List (List ℕ)) (s : Spot) (at : ℕ) → Catches t s.handler s.stack s.handling → Stands t at (store_names locals ns s) s.stack s.handling → Good t at (length ns + s.stack) s.handling (store_names locals ns s)
store_names_sound t locals [] s at c w = record { fits = tt; start = records_as t at at s.stack (0 + s.stack) s.handling s.handling w refl (omega arith) refl }
store_names_sound t locals (n ∷ ns) s at c w =
    let g = store_names_sound t locals ns s (at + 1) c w.1 in
    record {
      fits = (
        fits_plain t at 1 0 (above (1 + length ns) s) Op.StoreFast (Number (number_of_local locals n)) (length ns + s.stack) (omega arith)
            (records_as t (at + 1) (at + 1) (length ns + s.stack) (0 + (length ns + s.stack)) s.handling s.handling g.start refl (omega arith) refl)
            (catches_more t s.handler s.stack (length ns + s.stack) s.handling s.handling c (omega arith) (omega arith)),
        g.fits,
      );
      start = records_as t at at (1 + length ns + s.stack) (length (n ∷ ns) + s.stack) s.handling s.handling w.0 refl (omega arith) refl;
    }

pub store_sound : (t : Table) (locals : Locals) (target : Targets) (s : Spot) (at : ℕ) → Catches t s.handler s.stack s.handling → Stands t at (store_code locals target s) s.stack s.handling → Good t at (1 + s.stack) s.handling (store_code locals target s)
store_sound t locals (targets.Name n) s at c w = record {
  fits = (fits_plain t at 1 0 (above 1 s) Op.StoreFast (Number (number_of_local locals n)) s.stack refl (records_as t (at + 1) (at + 1) s.stack (0 + s.stack) s.handling s.handling w.1 refl (omega arith) refl) c, tt);
  start = w.0;
}
store_sound t locals (targets.Tuple ns) s at c w =
    let g = store_names_sound t locals ns s (at + 1) c w.1 in
    record { fits = (fits_plain t at 1 (length ns) (above 1 s) Op.UnpackSequence (Number (length ns)) s.stack refl g.start c, g.fits); start = w.0 }

pub return_keeps : (t : Table) (line : ℕ) (e : Coder) → Sound t e → Keeps t (return_code line e)
return_keeps t line e m c f k at p w =
    let s = at_line line c in
    let value = e s at in
    let from = at + length value in
    let leaving = leave_all c from in
    let end = put (above 1 (at_line line [])) Op.ReturnValue none ∷ [] in
    let w1 = behind t at value (leaving ++ end) (values c) (exceptions c) w in
    let w2 = behind t from leaving end (values c) (exceptions c) w1 in
    let g2 = leave_all_sound t c from (omega arith) f (before t from leaving end (values c) (exceptions c) 1 0 w1 w2.0) in
    let g1 = m s at (fine_catches t c f) (before t at value (leaving ++ end) (values c) (exceptions c) (1 + values c) (exceptions c) w g2.start) in
    record {
      fits = join t at value (leaving ++ end) g1.fits (join t from leaving end g2.fits (fits_last t (from + length leaving) 1 0 (above 1 (at_line line [])) Op.ReturnValue none 0 0 refl refl tt, tt));
      start = g1.start;
    }

-- the test of a statement: it leads on, and to x
test_fits : (t : Table) (line : ℕ) (c : Context) (middle x : ℕ) → Fine t c → Records t (middle + 1) (values c) (exceptions c) → 0 < x → Records t x (values c) (exceptions c) → FitsAs t middle (effect_of Op.PopJumpIfFalse x) (put (above 1 (at_line line c)) Op.PopJumpIfFalse (Destination (At x)))
test_fits t line c middle x f next p there =
    fits_branch t middle 1 0 0 (At x) (above 1 (at_line line c)) Op.PopJumpIfFalse (values c) refl (records_as t (middle + 1) (middle + 1) (values c) (0 + values c) (exceptions c) (exceptions c) next refl (omega arith) refl)
    (p, records_as t x x (values c) (0 + values c) (exceptions c) (exceptions c) there refl (omega arith) refl) (fine_catches t c f)

-- a jump at the depths of the context
jump_fits : (t : Table) (c : Context) (at : ℕ) (l : Label) → Fine t c → Lands t l (values c) (exceptions c) → FitsAs t at (effect_of Op.JumpForward (index_of l)) (put (no_line c) Op.JumpForward (Destination l))
jump_fits t c at l f there = fits_jump t at l (no_line c) Op.JumpForward there (fine_catches t c f)

pub if_keeps : (t : Table) (line : ℕ) (e : Coder) (a : Scheme) → Sound t e → Keeps t a → Keeps t (if_code line e a)
if_keeps t line e a me ma c f k at p w =
    let s = at_line line c in
    let v = values c in
    let h = exceptions c in
    let test = e s at in
    let middle = at + length test in
    let from = middle + 1 in
    let body = a c from in
    let x = from + length body in
    let tail = put (above 1 s) Op.PopJumpIfFalse (Destination (At x)) ∷ body in
    let w1 = behind t at test tail v h w in
    let g2 = ma c f k from (omega arith) w1.1 in
    let g1 = me s at (fine_catches t c f) (before t at test tail v h (1 + v) h w w1.0) in
    record { fits = join t at test tail g1.fits (test_fits t line c middle x f g2.start (omega arith) (ends t from body v h w1.1), g2.fits); start = g1.start }

pub if_else_keeps : (t : Table) (line : ℕ) (e : Coder) (a b : Scheme) → Sound t e → Keeps t a → Keeps t b → Keeps t (if_else_code line e a b)
if_else_keeps t line e a b me ma mb c f k at p w =
    let s = at_line line c in
    let v = values c in
    let h = exceptions c in
    let test = e s at in
    let middle = at + length test in
    let from = middle + 1 in
    let body = a c from in
    let x = from + length body + 1 in
    let other = b c x in
    let y = x + length other in
    let go = put (no_line c) Op.JumpForward (Destination (At y)) ∷ other in
    let tail = put (above 1 s) Op.PopJumpIfFalse (Destination (At x)) ∷ (body ++ go) in
    let w1 = behind t at test tail v h w in
    let w2 = behind t from body go v h w1.1 in
    let g3 = mb c f k x (omega arith) w2.1 in
    let g2 = ma c f k from (omega arith) (before t from body go v h v h w1.1 w2.0) in
    let g1 = me s at (fine_catches t c f) (before t at test tail v h (1 + v) h w w1.0) in
    record {
      fits = join t at test tail g1.fits (test_fits t line c middle x f g2.start (omega arith) g3.start, join t from body go g2.fits (jump_fits t c (from + length body) (At y) f (omega arith, ends t x other v h w2.1), g3.fits));
      start = g1.start;
    }

pub while_keeps : (t : Table) (line : ℕ) (e : Coder) (a : Scheme) → Sound t e → ((g : Label → Label) → Carrying g a) → Keeps t a → Keeps t (while_code line e a)
while_keeps t line e a me carries ma c f k x p w =
    let s = at_line line c in
    let v = values c in
    let h = exceptions c in
    let test = e s x in
    let middle = x + length test in
    let from = middle + 1 in
    let y = from + length (a (While x (At 0) ∷ c) from) + 1 in
    let body = a (While x (At y) ∷ c) from in
    let back = put (no_line c) Op.JumpBackward (Destination (At x)) ∷ [] in
    let tail = put (above 1 s) Op.PopJumpIfFalse (Destination (At y)) ∷ (body ++ back) in
    let same : length (a (While x (At 0) ∷ c) from) ≡ length body = same_length a carries c k (λ l. While x l) (λ g fix l. refl) y from in
    let w1 = behind t x test tail v h w in
    let w2 = behind t from body back v h w1.1 in
    let end : Records t y v h = records_as t (from + length body + 1) y v v h h w2.1 (omega (arith, same)) refl refl in
    let g1 = me s x (fine_catches t c f) (before t x test tail v h (1 + v) h w w1.0) in
    let inside : Fine t (While x (At y) ∷ c) = ((p, g1.start), (omega arith, end), f) in
    let g2 = ma (While x (At y) ∷ c) inside (λ g fix. rw (fix y, k g fix) refl) from (omega arith) (before t from body back v h v h w1.1 w2.0) in
    record {
      fits = join t x test tail g1.fits (
        test_fits t line c middle y f g2.start (omega arith) end,
        join t from body back g2.fits (fits_jump t (from + length body) (At x) (no_line c) Op.JumpBackward (p, g1.start) (fine_catches t c f), tt),
      );
      start = g1.start;
    }

pub for_keeps : (t : Table) (locals : Locals) (line : ℕ) (target : Targets) (e : Coder) (a : Scheme) → Sound t e → ((g : Label → Label) → Carrying g a) → Keeps t a → Keeps t (for_code locals line target e a)
for_keeps t locals line target e a me carries ma c f k at p w =
    let s = at_line line c in
    let v = values c in
    let h = exceptions c in
    let whole = e s at in
    let middle = at + length whole in
    let x = middle + 1 in
    let store = store_code locals target (above 1 s) in
    let from = x + 2 + length store in
    let z = from + length (a (For x (At 0) ∷ c) from) + 1 in
    let y = z + 1 in
    let body = a (For x (At y) ∷ c) from in
    let back = put (above 1 (bare s)) Op.JumpBackward (Destination (At x)) ∷ (put (above 1 (bare s)) Op.EndFor none ∷ []) in
    let tail = put (above 1 s) Op.GetIter none ∷ (put (above 1 s) Op.ForIter none ∷ (put (above 2 s) Op.PopJumpIfDone (Destination (At z)) ∷ (store ++ (body ++ back)))) in
    let same : length (a (For x (At 0) ∷ c) from) ≡ length body = same_length a carries c k (λ l. For x l) (λ g fix l. refl) y from in
    let here = fine_catches t c f in
    let higher = catches_more t (handler_of c) v (1 + v) h h here (omega arith) (omega arith) in
    let w1 = behind t at whole tail v h w in
    let w2 = behind t (x + 1 + 1) store (body ++ back) v h w1.1.1.1 in
    let w3 : Stands t from (body ++ back) v h = stands_as t (x + 1 + 1 + length store) from (body ++ back) v v h h w2 (omega arith) refl refl in
    let w4 = behind t from body back v h w3 in
    let end : Records t y v h = records_as t (from + length body + 1 + 1) y v v h h w4.1.1 (omega (arith, same)) refl refl in
    let done : Records t z (1 + v) h = records_as t (from + length body + 1) z (1 + v) (1 + v) h h w4.1.0 (omega (arith, same)) refl refl in
    let g1 = me s at here (before t at whole tail v h (1 + v) h w w1.0) in
    let inside : Fine t (For x (At y) ∷ c) = ((omega arith, w1.1.0), (omega arith, end), f) in
    let g3 = ma (For x (At y) ∷ c) inside (λ g fix. rw (fix y, k g fix) refl) from (omega arith) (before t from body back v h (1 + v) h w3 w4.0) in
    let g2 = store_sound t locals target (above 1 s) (x + 1 + 1) higher (before t (x + 1 + 1) store (body ++ back) v h (1 + v) h w1.1.1.1 (records_as t from (x + 1 + 1 + length store) (1 + v) (1 + v) h h g3.start (omega arith) refl refl)) in
    record {
      fits = join t at whole tail g1.fits (
        fits_plain t middle 1 1 (above 1 s) Op.GetIter none v refl w1.1.0 here,
        (
          fits_plain t x 1 2 (above 1 s) Op.ForIter none v refl w1.1.1.0 here,
          (
            fits_branch t (x + 1) 2 2 1 (At z) (above 2 s) Op.PopJumpIfDone v refl (records_as t (x + 1 + 1) (x + 1 + 1) (1 + (1 + v)) (2 + v) h h g2.start refl (omega arith) refl) (omega arith, done) here,
            join t (x + 1 + 1) store (body ++ back) g2.fits (fits_as t from (x + 1 + 1 + length store) (body ++ back)
                (join t from body back g3.fits (
                  fits_jump t (from + length body) (At x) (above 1 (bare s)) Op.JumpBackward (omega arith, w1.1.0) higher,
                  (fits_plain t (from + length body + 1) 1 0 (above 1 (bare s)) Op.EndFor none v refl (records_as t (from + length body + 1 + 1) (from + length body + 1 + 1) v (0 + v) h h w4.1.1 refl (omega arith) refl) here, tt),
                )) (omega arith)),
          ),
        ),
      );
      start = g1.start;
    }

-- the exception is noted, and raised again
fits_push : (t : Table) (c : Context) (at : ℕ) → Fine t c → Records t (at + 1) (1 + values c) (1 + exceptions c) → FitsAs t at (effect_of Op.PushExcInfo 0) (put (above 1 (no_line c)) Op.PushExcInfo none)
fits_push t c at f next = fits t at (effect_of Op.PushExcInfo 0) (above 1 (no_line c)) Op.PushExcInfo none (values c) (exceptions c) refl (omega arith) (λ on. next) tt (fine_catches t c f)

fits_reraise : (t : Table) (c : Context) (at : ℕ) → Fine t c → FitsAs t at (effect_of Op.Reraise 0) (put (in_clause (no_line c)) Op.Reraise none)
fits_reraise t c at f = fits_last t at 1 1 (in_clause (no_line c)) Op.Reraise none (values c) (exceptions c) refl refl (fine_catches t c f)

-- a clause, in which the statement's end is known: what is behind it is the next clause, but for a bare one
abbrev pub Ending : Bool → ℕ → ℕ → ℕ → ℕ → Type 0
Ending true s h s' h' = Unit {0}
Ending false s h s' h' = (s ≡ s') × (h ≡ h')

abbrev pub ClauseKeeps : Table → Bool → (Label → Scheme) → Type 0
ClauseKeeps t last code = (y : Label) (c : Context) → Fine t c → Closed c → Lands t y (values c) (exceptions c) → (s h at : ℕ) → 0 < at → Ending last s h (1 + values c) (1 + exceptions c) → Stands t at (code y c at) s h → Good t at (1 + values c) (1 + exceptions c) (code y c at)

abbrev pub AllClausesKeep : Table → List ClauseScheme → Type 0
AllClausesKeep t [] = Unit {0}
AllClausesKeep t (c ∷ cs) = ClauseKeeps t c.is_bare c.code × AllClausesKeep t cs

except_body_keeps : (t : Table) (b : Scheme) → Keeps t b → (y : Label) (c : Context) → Fine t c → Closed c → Lands t y (values c) (exceptions c) → (s h at : ℕ) → 0 < at → Stands t at (except_body b y c at) s h → Good t at (values c) (1 + exceptions c) (except_body b y c at)
except_body_keeps t b m y c f k l s h at p w =
    let body = b (Except ∷ c) at in
    let tail = put (beside 1 (no_line c)) Op.PopExcept none ∷ (put (no_line c) Op.JumpForward (Destination y) ∷ []) in
    let w1 = behind t at body tail s h w in
    let g = m (Except ∷ c) f (λ g fix. rw (k g fix) refl) at p (before t at body tail s h (values c) (1 + exceptions c) w w1.0) in
    record {
      fits = join t at body tail g.fits (fits_pop_except t (at + length body) (beside 1 (no_line c)) (exceptions c) refl w1.1.0 (fine_catches t c f), (jump_fits t c (at + length body + 1) y f l, tt));
      start = g.start;
    }

pub bare_keeps : (t : Table) (line : ℕ) (b : Scheme) → Keeps t b → ClauseKeeps t true (bare_code line b)
bare_keeps t line b m y c f k l s h at p e w =
    let g = except_body_keeps t b m y c f k l s h (at + 1) (omega arith) w.1 in
    let higher = catches_more t (handler_of c) (values c) (values c) (exceptions c) (1 + exceptions c) (fine_catches t c f) (omega arith) (omega arith) in
    record {
      fits = (fits_plain t at 1 0 (in_clause (at_line line c)) Op.PopTop none (values c) refl (records_as t (at + 1) (at + 1) (values c) (0 + values c) (1 + exceptions c) (1 + exceptions c) g.start refl (omega arith) refl) higher, g.fits);
      start = w.0;
    }

-- the head of a clause: E(T); CHECK_EXC_MATCH; POP_JUMP_IF_FALSE z; the instruction that takes the exception away; the body up to z
head_keeps : (t : Table) (line : ℕ) (e : Coder) (op : Op) (a : Argument) (body : FromAt) → Sound t e → effect_of op (number_in a) ≡ plain 1 0 → (c : Context) → Fine t c
    → ((n : ℕ) → 0 < n → Stands t n (body n) (1 + values c) (1 + exceptions c) → Good t n (values c) (1 + exceptions c) (body n)) → (at : ℕ) → 0 < at
    → (code : List Instruction) → code ≡ (let s = in_clause (at_line line c) in let class = e s at in let from = at + length class + 3 in
    class ++ (put (above 1 s) Op.CheckExcMatch none ∷ (put (above 1 s) Op.PopJumpIfFalse (Destination (At (from + length (body from)))) ∷ (put s op a ∷ body from))))
    → Stands t at code (1 + values c) (1 + exceptions c) → Good t at (1 + values c) (1 + exceptions c) code
head_keeps t line e op a body me o c f mb at p code is w0 =
    let s = in_clause (at_line line c) in
    let v = values c in
    let h = exceptions c in
    let class = e s at in
    let middle = at + length class in
    let from = middle + 3 in
    let rest = body from in
    let z = from + length rest in
    let tail = put (above 1 s) Op.CheckExcMatch none ∷ (put (above 1 s) Op.PopJumpIfFalse (Destination (At z)) ∷ (put s op a ∷ rest)) in
    let w : Stands t at (class ++ tail) (1 + v) (1 + h) = subst (λ l. Stands t at l (1 + v) (1 + h)) is w0 in
    let here = catches_more t (handler_of c) v v h (1 + h) (fine_catches t c f) (omega arith) (omega arith) in
    let higher = catches_more t (handler_of c) v (1 + v) h (1 + h) (fine_catches t c f) (omega arith) (omega arith) in
    let w1 = behind t at class tail (1 + v) (1 + h) w in
    let w2 : Stands t from rest (1 + v) (1 + h) = stands_as t (middle + 1 + 1 + 1) from rest (1 + v) (1 + v) (1 + h) (1 + h) w1.1.1.1 (omega arith) refl refl in
    let g2 = mb from (omega arith) w2 in
    let g1 = me s at higher (before t at class tail (1 + v) (1 + h) (1 + (1 + v)) (1 + h) w w1.0) in
    let good : Good t at (1 + v) (1 + h) (class ++ tail) = record {
      fits = join t at class tail g1.fits (
        fits_plain t middle 2 2 (above 1 s) Op.CheckExcMatch none v (omega arith) (records_as t (middle + 1) (middle + 1) (1 + (1 + v)) (2 + v) (1 + h) (1 + h) w1.1.0 refl (omega arith) refl) here,
        (
          fits_branch t (middle + 1) 1 0 0 (At z) (above 1 s) Op.PopJumpIfFalse (1 + v) refl (records_as t (middle + 1 + 1) (middle + 1 + 1) (1 + v) (0 + (1 + v)) (1 + h) (1 + h) w1.1.1.0 refl (omega arith) refl)
              (omega arith, records_as t z z (1 + v) (0 + (1 + v)) (1 + h) (1 + h) (ends t from rest (1 + v) (1 + h) w2) refl (omega arith) refl) higher,
          (
            rw o (fits_plain t (middle + 1 + 1) 1 0 s op a v refl (records_as t from (middle + 1 + 1 + 1) v (0 + v) (1 + h) (1 + h) g2.start (omega arith) (omega arith) refl) here),
            fits_as t from (middle + 1 + 1 + 1) rest g2.fits (omega arith),
          ),
        ),
      );
      start = g1.start;
    } in
    subst (λ l. Good t at (1 + v) (1 + h) l) (sym is) good

pub except_keeps : (t : Table) (line : ℕ) (e : Coder) (b : Scheme) → Sound t e → Keeps t b → ClauseKeeps t false (except_code line e b)
except_keeps t line e b me mb y c f k l s h at p same w =
    head_keeps t line e Op.PopTop none (except_body b y c) me refl c f (λ n q v. except_body_keeps t b mb y c f k l (1 + values c) (1 + exceptions c) n q v) at p (except_code line e b y c at) refl
    (stands_as t at at (except_code line e b y c at) s (1 + values c) h (1 + exceptions c) w refl same.0 same.1)

except_as_body_keeps : (t : Table) (n : ℕ) (b : Scheme) → ((g : Label → Label) → Carrying g b) → Keeps t b → (y : Label) (c : Context) → Fine t c → Closed c → Lands t y (values c) (exceptions c) → (s h at : ℕ) → 0 < at
    → Stands t at (except_as_body n b y c at) s h → Good t at (values c) (1 + exceptions c) (except_as_body n b y c at)
except_as_body_keeps t n b carries m y c f k l s h at p w =
    let o = no_line c in
    let v = values c in
    let q = exceptions c in
    let cleanup = at + length (b (ExceptAs n (At 0) ∷ c) at) + 3 in
    let body = b (ExceptAs n (At cleanup) ∷ c) at in
    let after = at + length body in
    let tail = put (beside 1 o) Op.PopExcept none ∷ (put o Op.DeleteFast (Number n) ∷ (put o Op.JumpForward (Destination y) ∷ (put (above 1 o) Op.PushExcInfo none ∷ (put (in_clause o) Op.DeleteFast (Number n) ∷ (put (in_clause o) Op.Reraise none ∷ []))))) in
    let same : length (b (ExceptAs n (At 0) ∷ c) at) ≡ length body = same_length b carries c k (λ l. ExceptAs n l) (λ g fix l. refl) cleanup at in
    let w1 = behind t at body tail s h w in
    let here = fine_catches t c f in
    let there : Records t cleanup (1 + v) q = records_as t (after + 1 + 1 + 1) cleanup (1 + v) (1 + v) q q w1.1.1.1.0 (omega (arith, same)) refl refl in
    let inside : Fine t (ExceptAs n (At cleanup) ∷ c) = ((omega arith, there), f) in
    let g = m (ExceptAs n (At cleanup) ∷ c) inside (λ g fix. rw (fix cleanup, k g fix) refl) at p (before t at body tail s h v (1 + q) w w1.0) in
    record {
      fits = join t at body tail g.fits (
        fits_pop_except t after (beside 1 o) q refl w1.1.0 here,
        (
          fits_plain t (after + 1) 0 0 o Op.DeleteFast (Number n) v (omega arith) (records_as t (after + 1 + 1) (after + 1 + 1) v (0 + v) q q w1.1.1.0 refl (omega arith) refl) here,
          (
            jump_fits t c (after + 1 + 1) y f l,
            (
              fits_push t c (after + 1 + 1 + 1) f w1.1.1.1.1.0,
              (
                fits_plain t (after + 1 + 1 + 1 + 1) 0 0 (in_clause o) Op.DeleteFast (Number n) (1 + v) (omega arith) (records_as t (after + 1 + 1 + 1 + 1 + 1) (after + 1 + 1 + 1 + 1 + 1) (1 + v) (0 + (1 + v)) (1 + q) (1 + q) w1.1.1.1.1.1.0 refl (omega arith) refl)
                    (catches_more t (handler_of c) v (1 + v) q (1 + q) here (omega arith) (omega arith)),
                (fits_reraise t c (after + 1 + 1 + 1 + 1 + 1) f, tt),
              ),
            ),
          ),
        ),
      );
      start = g.start;
    }

pub except_as_keeps : (t : Table) (line : ℕ) (e : Coder) (n : ℕ) (b : Scheme) → Sound t e → ((g : Label → Label) → Carrying g b) → Keeps t b → ClauseKeeps t false (except_as_code line e n b)
except_as_keeps t line e n b me carries mb y c f k l s h at p same w =
    head_keeps t line e Op.StoreFast (Number n) (except_as_body n b y c) me refl c f (λ j q v. except_as_body_keeps t n b carries mb y c f k l (1 + values c) (1 + exceptions c) j q v) at p (except_as_code line e n b y c at) refl
    (stands_as t at at (except_as_code line e n b y c at) s (1 + values c) h (1 + exceptions c) w refl same.0 same.1)

-- the clauses in turn
either_end : (t : Table) (last : Bool) (at s h a b : ℕ) (code more : List Instruction) → (IsTrue last → Stands t at code s h → Good t at a b code) → (last ≡ false → Stands t at (code ++ more) s h → Good t at a b (code ++ more))
    → Stands t at (if last then code else code ++ more) s h → Good t at a b (if last then code else code ++ more)
either_end t true at s h a b code more m n w = m refl w
either_end t false at s h a b code more m n w = n refl w

ending_true : (b : Bool) (s h s' h' : ℕ) → IsTrue b → Ending b s h s' h'
ending_true true s h s' h' i = tt
ending_true false s h s' h' i = absurd cc

ending_false : (b : Bool) (s h s' h' : ℕ) → s ≡ s' → h ≡ h' → Ending b s h s' h'
ending_false true s h s' h' i j = tt
ending_false false s h s' h' i j = (i, j)

clauses_keep : (t : Table) (cs : List ClauseScheme) → AllClausesKeep t cs → (y : Label) (c : Context) → Fine t c → Closed c → Lands t y (values c) (exceptions c) → (s h at : ℕ) → 0 < at → Stands t at (clauses_code cs y c at) s h → Good t at (1 + values c) (1 + exceptions c) (clauses_code cs y c at)
clauses_keep t [] m y c f k l s h at p w = record { fits = (fits_reraise t c at f, tt); start = w.0 }
clauses_keep t (e ∷ cs) m y c f k l s h at p w =
    let code = e.code y c at in
    let from = at + length code in
    let more = clauses_code cs y c from in
    let v = values c in
    let q = exceptions c in
    either_end t e.is_bare at s h (1 + v) (1 + q) code more
    (λ i x. m.0 y c f k l s h at p (ending_true e.is_bare s h (1 + v) (1 + q) i) x)
    (λ i x.
    let g2 = clauses_keep t cs m.1 y c f k l s h from (omega arith) (behind t at code more s h x) in
    let g1 = m.0 y c f k l (1 + v) (1 + q) at p (ending_false e.is_bare (1 + v) (1 + q) (1 + v) (1 + q) refl refl) (before t at code more s h (1 + v) (1 + q) x g2.start) in
    record { fits = join t at code more g1.fits g2.fits; start = g1.start }) w

-- no length of a clause depends on where the statement ends
pub clauses_length : (cs : List ClauseScheme) → ((g : Label → Label) → AllClauses g cs) → (c : Context) → Closed c → (n at : ℕ) → length (clauses_code cs (At 0) c at) ≡ length (clauses_code cs (At n) c at)
clauses_length cs carries c closed n at =
    let open_length : (k : ℕ) → length (clauses_code cs (At k) c at) ≡ length (clauses_code cs (EndOf 0) c at)
    = λ k.
    ap (λ (x : Context). length (clauses_code cs (At k) x at)) (sym (closed (to k) (λ n. refl)))
    ∙ ap length (clauses_carrying (to k) cs (carries (to k)) (EndOf 0) c (λ n. refl) at)
    ∙ length-map (clauses_code cs (EndOf 0) c at) (moved (to k)) in
    open_length 0 ∙ sym (open_length n)

pub handlers_keep : (t : Table) (a : Scheme) (cs : List ClauseScheme) → ((g : Label → Label) → Carrying g a) → ((g : Label → Label) → AllClauses g cs) → Keeps t a → AllClausesKeep t cs → Keeps t (handlers_code a cs)
handlers_keep t a cs carries clauses_carry ma mcs c f k at p w =
    let v = values c in
    let q = exceptions c in
    let h = at + length (a (Try (At 0) ∷ c) at) + 1 in
    let y = h + 1 + length (clauses_code cs (At 0) c (h + 1)) in
    let body = a (Try (At h) ∷ c) at in
    let after = at + length body in
    let clauses = clauses_code cs (At y) c (h + 1) in
    let tail = put (no_line c) Op.JumpForward (Destination (At y)) ∷ (put (above 1 (no_line c)) Op.PushExcInfo none ∷ clauses) in
    let same : length (a (Try (At 0) ∷ c) at) ≡ length body = same_length a carries c k (λ l. Try l) (λ g fix l. refl) h at in
    let same2 = clauses_length cs clauses_carry c k y (h + 1) in
    let w1 = behind t at body tail v q w in
    let there : Records t h (1 + v) q = records_as t (after + 1) h (1 + v) (1 + v) q q w1.1.0 (omega (arith, same)) refl refl in
    let w2 : Stands t (h + 1) clauses v q = stands_as t (after + 1 + 1) (h + 1) clauses v v q q w1.1.1 (omega (arith, same)) refl refl in
    let end : Records t y v q = records_as t (h + 1 + length clauses) y v v q q (ends t (h + 1) clauses v q w2) (omega (arith, same2)) refl refl in
    let g2 = clauses_keep t cs mcs (At y) c f k (omega arith, end) v q (h + 1) (omega arith) w2 in
    let inside : Fine t (Try (At h) ∷ c) = ((omega arith, there), f) in
    let g1 = ma (Try (At h) ∷ c) inside (λ g fix. rw (fix h, k g fix) refl) at p (before t at body tail v q v q w w1.0) in
    record {
      fits = join t at body tail g1.fits (
        jump_fits t c after (At y) f (omega arith, end),
        (
          fits_push t c (after + 1) f (records_as t (h + 1) (after + 1 + 1) (1 + v) (1 + v) (1 + q) (1 + q) g2.start (omega (arith, same)) refl refl),
          fits_as t (h + 1) (after + 1 + 1) clauses g2.fits (omega (arith, same)),
        ),
      );
      start = g1.start;
    }

-- the entry of a `finally` in a closed context
pub closed_entry : (f : Scheme) → ((g : Label → Label) → Carrying g f) → (c : Context) → Closed c → (g : Label → Label) → Fixes g → (l : Label) → moved_entry g (Finally (f (Returning ∷ c)) (f c) l) ≡ Finally (f (Returning ∷ c)) (f c) (g l)
closed_entry f carries c k g fix l = kept_entry g f (carries g) c fix (k g fix) l

pub finally_keeps : (t : Table) (body f : Scheme) → ((g : Label → Label) → Carrying g body) → ((g : Label → Label) → Carrying g f) → Keeps t body → Keeps t f → Keeps t (finally_code body f)
finally_keeps t body f carries f_carries mb mf c fine k at p w =
    let v = values c in
    let q = exceptions c in
    let entry : Label → Entry = λ l. Finally (f (Returning ∷ c)) (f c) l in
    let from = at + length (body (entry (At 0) ∷ c) at) in
    let usual = f c from in
    let h = from + length usual + 1 in
    let raised = f (Raised ∷ c) (h + 1) in
    let y = h + 1 + length raised + 1 in
    let inner = body (entry (At h) ∷ c) at in
    let after = at + length inner in
    let reraise = put (in_clause (no_line c)) Op.Reraise none ∷ [] in
    let tail2 = put (no_line c) Op.JumpForward (Destination (At y)) ∷ (put (above 1 (no_line c)) Op.PushExcInfo none ∷ (raised ++ reraise)) in
    let same : length (body (entry (At 0) ∷ c) at) ≡ length inner = same_length body carries c k entry (λ g fix l. closed_entry f f_carries c k g fix l) h at in
    let here : after ≡ from = omega (arith, same) in
    let w1 : Stands t from (usual ++ tail2) v q = stands_as t after from (usual ++ tail2) v v q q (behind t at inner (usual ++ tail2) v q w) here refl refl in
    let w2 = behind t from usual tail2 v q w1 in
    let w3 = behind t (h + 1) raised reraise v q w2.1.1 in
    let end : Records t y v q = w3.1 in
    let there : Records t h (1 + v) q = w2.1.0 in
    let value_closed : Closed (Returning ∷ c) = λ g fix. rw (k g fix) refl in
    let raised_closed : Closed (Raised ∷ c) = λ g fix. rw (k g fix) refl in
    let inside : Fine t (entry (At h) ∷ c) = ((omega arith, there), mf (Returning ∷ c) fine value_closed, mf c fine k, fine) in
    let g3 = mf (Raised ∷ c) fine raised_closed (h + 1) (omega arith) (before t (h + 1) raised reraise v q (1 + v) (1 + q) w2.1.1 w3.0) in
    let g2 = mf c fine k from (omega arith) (before t from usual tail2 v q v q w1 w2.0) in
    let inner_closed : Closed (entry (At h) ∷ c) = λ g fix. ap (λ (e : Entry). e ∷ moved_context g c) (closed_entry f f_carries c k g fix (At h) ∙ ap entry (fix h)) ∙ ap (λ (x : Context). entry (At h) ∷ x) (k g fix) in
    let g1 = mb (entry (At h) ∷ c) inside inner_closed at p (before t at inner (usual ++ tail2) v q v q w (records_as t from after v v q q g2.start (sym here) refl refl)) in
    record {
      fits = join t at inner (usual ++ tail2) g1.fits (fits_as t from after (usual ++ tail2)
          (join t from usual tail2 g2.fits (
            jump_fits t c (from + length usual) (At y) fine (omega arith, end),
            (fits_push t c h fine g3.start, join t (h + 1) raised reraise g3.fits (fits_reraise t c (h + 1 + length raised) fine, tt)),
          )) (sym here));
      start = g1.start;
    }

pub guarded_keeps : (t : Table) (a : Scheme) (cs : List ClauseScheme) → ((g : Label → Label) → Carrying g a) → ((g : Label → Label) → AllClauses g cs) → Keeps t a → AllClausesKeep t cs → Keeps t (guarded a cs)
guarded_keeps t a [] carries cc' ma mcs c f k at p w = ma c f k at p w
guarded_keeps t a (e ∷ cs) carries cc' ma mcs c f k at p w = handlers_keep t a (e ∷ cs) carries cc' ma mcs c f k at p w

pub ending_keeps : (t : Table) (line : ℕ) (e : Coder) (op : Op) (number : ℕ) → effect_of op number ≡ plain 1 0 → Sound t e → Keeps t (ending_code line e op number)
ending_keeps t line e op number o m c f k at p w =
    let s = at_line line c in
    let v = values c in
    let h = exceptions c in
    let code = e s at in
    let tail = put (above 1 s) op (Number number) ∷ [] in
    let w1 = behind t at code tail v h w in
    let here = fine_catches t c f in
    let g = m s at here (before t at code tail v h (1 + v) h w w1.0) in
    record {
      fits = join t at code tail g.fits (rw o (fits_plain t (at + length code) 1 0 (above 1 s) op (Number number) v refl (records_as t (at + length code + 1) (at + length code + 1) v (0 + v) h h w1.1 refl (omega arith) refl) here), tt);
      start = g.start;
    }

pub raise_keeps : (t : Table) (line : ℕ) (e : Coder) → Sound t e → Keeps t (ending_code line e Op.RaiseVarargs 1)
raise_keeps t line e m c f k at p w =
    let s = at_line line c in
    let v = values c in
    let h = exceptions c in
    let code = e s at in
    let tail = put (above 1 s) Op.RaiseVarargs (Number 1) ∷ [] in
    let w1 = behind t at code tail v h w in
    let here = fine_catches t c f in
    let g = m s at here (before t at code tail v h (1 + v) h w w1.0) in
    record {
      fits = join t at code tail g.fits (fits_last t (at + length code) 1 0 (above 1 s) Op.RaiseVarargs (Number 1) v h refl (omega arith) here, tt);
      start = g.start;
    }

pub raise_again_keeps : (t : Table) (line : ℕ) → Keeps t (raise_code line None)
raise_again_keeps t line c f k at p w = record {
  fits = (fits_last t at 0 0 (at_line line c) Op.RaiseVarargs (Number 0) (values c) (exceptions c) (omega arith) (omega arith) (fine_catches t c f), tt);
  start = w.0;
}

pub assign_keeps : (t : Table) (locals : Locals) (line : ℕ) (target : Targets) (e : Coder) → Sound t e → Keeps t (assign_code locals line target e)
assign_keeps t locals line target e m c f k at p w =
    let s = at_line line c in
    let code = e s at in
    let tail = store_code locals target s in
    let g2 = store_sound t locals target s (at + length code) (fine_catches t c f) (behind t at code tail (values c) (exceptions c) w) in
    let g = m s at (fine_catches t c f) (before t at code tail (values c) (exceptions c) (1 + values c) (exceptions c) w g2.start) in
    record { fits = join t at code tail g.fits g2.fits; start = g.start }

pub augmented_keeps : (t : Table) (line n op : ℕ) (e : Coder) → Sound t e → Keeps t (augmented_code line n op e)
augmented_keeps t line n op e m c f k at p w =
    let s = at_line line c in
    let v = values c in
    let h = exceptions c in
    let code = e (above 1 s) (at + 1) in
    let after = at + 1 + length code in
    let tail = put (above 2 s) Op.BinaryOp (Number op) ∷ (put (above 1 s) Op.StoreFast (Number n) ∷ []) in
    let here = fine_catches t c f in
    let w1 = behind t (at + 1) code tail v h w.1 in
    let g = m (above 1 s) (at + 1) (catches_more t (handler_of c) v (1 + v) h h here (omega arith) (omega arith))
    (before t (at + 1) code tail v h (1 + (1 + v)) h w.1 (records_as t after after (2 + v) (1 + (1 + v)) h h w1.0 refl (omega arith) refl)) in
    record {
      fits = (
        fits_plain t at 0 1 s Op.LoadFast (Number n) v (omega arith) g.start here,
        join t (at + 1) code tail g.fits (
          fits_plain t after 2 1 (above 2 s) Op.BinaryOp (Number op) v refl w1.1.0 here,
          (fits_plain t (after + 1) 1 0 (above 1 s) Op.StoreFast (Number n) v refl (records_as t (after + 1 + 1) (after + 1 + 1) v (0 + v) h h w1.1.1 refl (omega arith) refl) here, tt),
        ),
      );
      start = w.0;
    }

pub pass_keeps : (t : Table) (line : ℕ) → Keeps t (single_code line Op.Nop)
pass_keeps t line c f k at p w = record {
  fits = (fits_plain t at 0 0 (at_line line c) Op.Nop none (values c) (omega arith) (records_as t (at + 1) (at + 1) (values c) (0 + values c) (exceptions c) (exceptions c) w.1 refl (omega arith) refl) (fine_catches t c f), tt);
  start = w.0;
}

pub branch_keeps : (t : Table) (line : ℕ) (e : Coder) (a : Scheme) (b : List Scheme) → Sound t e → Keeps t a → AllKeep t b → Keeps t (branch_code line e a b)
branch_keeps t line e a [] me ma mb c f k at p w = if_keeps t line e a me ma c f k at p w
branch_keeps t line e a (b ∷ bs) me ma mb c f k at p w = if_else_keeps t line e a (block (b ∷ bs)) me ma (block_keeps t (b ∷ bs) mb) c f k at p w

nop_first : (t : Table) (line : ℕ) (a : Scheme) → Keeps t a → Keeps t (λ c at. put (at_line line c) Op.Nop none ∷ a c (at + 1))
nop_first t line a m c f k at p w =
    let g = m c f k (at + 1) (omega arith) w.1 in
    record { fits = (fits_plain t at 0 0 (at_line line c) Op.Nop none (values c) (omega arith) (records_as t (at + 1) (at + 1) (values c) (0 + values c) (exceptions c) (exceptions c) g.start refl (omega arith) refl) (fine_catches t c f), g.fits); start = w.0 }

pub try_keeps : (t : Table) (line : ℕ) (a : Scheme) (cs : List ClauseScheme) (fs : List Scheme) → ((g : Label → Label) → Carrying g a) → ((g : Label → Label) → AllClauses g cs) → ((g : Label → Label) → AllCarrying g fs)
    → Keeps t a → AllClausesKeep t cs → AllKeep t fs → Keeps t (try_code line a cs fs)
try_keeps t line a cs [] carries clauses_carry f_carry ma mcs mf c f k at p w = nop_first t line (handlers_code a cs) (handlers_keep t a cs carries clauses_carry ma mcs) c f k at p w
try_keeps t line a cs (s ∷ fs) carries clauses_carry f_carry ma mcs mf c f k at p w =
    let body = guarded a cs in
    let end = block (s ∷ fs) in
    nop_first t line (finally_code body end)
    (finally_keeps t body end (λ g. guarded_carrying g a cs (carries g) (clauses_carry g)) (λ g. block_carrying g (s ∷ fs) (f_carry g)) (guarded_keeps t a cs carries clauses_carry ma mcs) (block_keeps t (s ∷ fs) mf)) c f k at p w
