-- An expression's code takes nothing from below it and leaves one value.
use Rattle.std.proofs.Common.{◌≡◌, ℕ, suc, ◌+◌, Bool, true, false, List, [], ◌∷◌, ◌++◌, length, map, refl, sym, ap, subst, arith}
use Rattle.std.specs.Prelude.{Some, None, if◌then◌else◌}
use Rattle.mon_events.specs.declared.op.Op.{Op}
use Rattle.mon_code.specs.Effects.{plain, branch, effect_of}
use Rattle.mon_code.specs.Depths.{Table, Records}
use Rattle.mon_values.specs.declared.value.Value.{Value}
use Rattle.mon_values.specs.declared.value.Value as value
use Rattle.mon_trees.specs.declared.tree.Comparison.{Comparison}
use Rattle.mon_trees.specs.declared.tree.Expression.{Expression}
use Rattle.mon_trees.specs.declared.tree.Expression.TheOpen.{Expression-F}
use Rattle.mon_trees.specs.declared.tree.Expression.TheFolds.{fold-roll-Expression, ind-Expression, map-Expression}
use Rattle.mon_trees.specs.declared.tree.Expression.TheViews.{roll-Expression}
use Rattle.mon_compile.specs.declared.assembly.Instruction.{Instruction}
use Rattle.mon_compile.specs.declared.assembly.Argument.{Argument}
use Rattle.mon_compile.specs.declared.assembly.Argument.TheVariants.{Number, Constant, Name, Destination}
use Rattle.mon_compile.specs.declared.assembly.Label.TheVariants.{At}
use Rattle.mon_compile.specs.Contexts.{Spot, put, none, above, bare}
use Rattle.mon_compile.specs.Expressions.{Coder, Locals, is_local, number_of_local, name_code, constant_code, single_value, binary_number, comparison_op, comparison_number, method_number, in_turn, one_code, two_code, short_code, conditional_code, tuple_code, call_code, method_code, yield_code, expression_step, expression_code}
use Rattle.mon_compile.specs.Placed.{number_in}
use Rattle.mon_compile.proofs.Fit.{Catches, Stands, Good, records_as, stands_as, fits_as, behind, before, ends, join, catches_more, fits_plain, fits_branch, fits_jump}

abbrev pub Sound : Table → Coder → Type 0
Sound t e = (s : Spot) (at : ℕ) → Catches t s.handler s.stack s.handling → Stands t at (e s at) (1 + s.stack) s.handling → Good t at s.stack s.handling (e s at)

-- the same, a number of values further up
abbrev pub SoundUp : Table → Coder → Type 0
SoundUp t e = (k : ℕ) (s : Spot) (at : ℕ) → Catches t s.handler s.stack s.handling → Stands t at (e (above k s) at) (suc k + s.stack) s.handling → Good t at (k + s.stack) s.handling (e (above k s) at)

sound_up : (t : Table) (e : Coder) → Sound t e → SoundUp t e
sound_up t e m k s at c w =
    m (above k s) at (catches_more t s.handler s.stack (k + s.stack) s.handling s.handling c (omega arith) (omega arith))
    (stands_as t at at (e (above k s) at) (suc k + s.stack) (1 + (k + s.stack)) s.handling s.handling w refl (omega arith) refl)

one_sound : (t : Table) (a : Coder) (op : Op) → effect_of op 0 ≡ plain 1 1 → Sound t a → Sound t (one_code a op)
one_sound t a op o m s at c w =
    let code = a s at in
    let tail = put (above 1 s) op none ∷ [] in
    let b = behind t at code tail (1 + s.stack) s.handling w in
    let g = m s at c (before t at code tail (1 + s.stack) s.handling (1 + s.stack) s.handling w b.0) in
    record {
      fits = join t at code tail g.fits (rw o (fits_plain t (at + length code) 1 1 (above 1 s) op none s.stack refl b.1 c), tt);
      start = g.start;
    }

two_sound : (t : Table) (a b : Coder) (op : Op) (number : ℕ) → effect_of op number ≡ plain 2 1 → Sound t a → Sound t b → Sound t (two_code a b op number)
two_sound t a b op number o m n s at c w =
    let left = a s at in
    let middle = at + length left in
    let right = b (above 1 s) middle in
    let tail = put (above 2 s) op (Number number) ∷ [] in
    let w1 = behind t at left (right ++ tail) (1 + s.stack) s.handling w in
    let w2 = behind t middle right tail (1 + s.stack) s.handling w1 in
    let g2 = sound_up t b n 1 s middle c (before t middle right tail (1 + s.stack) s.handling (2 + s.stack) s.handling w1 w2.0) in
    let g1 = m s at c (before t at left (right ++ tail) (1 + s.stack) s.handling (1 + s.stack) s.handling w g2.start) in
    record {
      fits = join t at left (right ++ tail) g1.fits (join t middle right tail g2.fits (rw o (fits_plain t (middle + length right) 2 1 (above 2 s) op (Number number) s.stack refl w2.1 c), tt));
      start = g1.start;
    }

short_sound : (t : Table) (a b : Coder) (jump : Op) → ((n : ℕ) → effect_of jump n ≡ branch 1 0 0) → Sound t a → Sound t b → Sound t (short_code a b jump)
short_sound t a b jump o m n s at c w =
    let left = a s at in
    let middle = at + length left in
    let from = middle + 3 in
    let right = b s from in
    let x = from + length right in
    let tail = put (above 1 s) Op.Copy (Number 1) ∷ (put (above 2 s) jump (Destination (At x)) ∷ (put (above 1 s) Op.PopTop none ∷ right)) in
    let w1 = behind t at left tail (1 + s.stack) s.handling w in
    let w2 : Stands t from right (1 + s.stack) s.handling = stands_as t (middle + 1 + 1 + 1) from right (1 + s.stack) (1 + s.stack) s.handling s.handling w1.1.1.1 (omega arith) refl refl in
    let end : Records t (from + length right) (1 + s.stack) s.handling = ends t from right (1 + s.stack) s.handling w2 in
    let g2 = n s from c w2 in
    let g1 = m s at c (before t at left tail (1 + s.stack) s.handling (1 + s.stack) s.handling w w1.0) in
    record {
      fits = join t at left tail g1.fits (
        fits_plain t middle 1 2 (above 1 s) Op.Copy (Number 1) s.stack refl w1.1.0 c,
        (
          rw (o x) (fits_branch t (middle + 1) 1 0 0 (At x) (above 2 s) jump (1 + s.stack) (omega arith) (records_as t (middle + 1 + 1) (middle + 1 + 1) (1 + s.stack) (0 + (1 + s.stack)) s.handling s.handling w1.1.1.0 refl (omega arith) refl)
              (omega arith, records_as t x x (1 + s.stack) (0 + (1 + s.stack)) s.handling s.handling end refl (omega arith) refl) (catches_more t s.handler s.stack (1 + s.stack) s.handling s.handling c (omega arith) (omega arith))),
          (
            fits_plain t (middle + 1 + 1) 1 0 (above 1 s) Op.PopTop none s.stack refl (records_as t from (middle + 1 + 1 + 1) s.stack (0 + s.stack) s.handling s.handling g2.start (omega arith) (omega arith) refl) c,
            fits_as t from (middle + 1 + 1 + 1) right g2.fits (omega arith),
          ),
        ),
      );
      start = g1.start;
    }

conditional_sound : (t : Table) (a c b : Coder) → Sound t a → Sound t c → Sound t b → Sound t (conditional_code a c b)
conditional_sound t a c b ma mc mb s at caught w =
    let test = c s at in
    let middle = at + length test in
    let from = middle + 1 in
    let left = a s from in
    let behind_left = from + length left in
    let x = behind_left + 1 in
    let right = b s x in
    let y = x + length right in
    let go = put (above 1 (bare s)) Op.JumpForward (Destination (At y)) ∷ right in
    let tail = put (above 1 s) Op.PopJumpIfFalse (Destination (At x)) ∷ (left ++ go) in
    let w1 = behind t at test tail (1 + s.stack) s.handling w in
    let w2 = behind t from left go (1 + s.stack) s.handling w1.1 in
    let end : Records t y (1 + s.stack) s.handling = ends t x right (1 + s.stack) s.handling w2.1 in
    let g3 = mb s x caught w2.1 in
    let g2 = ma s from caught (before t from left go (1 + s.stack) s.handling (1 + s.stack) s.handling w1.1 w2.0) in
    let g1 = mc s at caught (before t at test tail (1 + s.stack) s.handling (1 + s.stack) s.handling w w1.0) in
    record {
      fits = join t at test tail g1.fits (
        fits_branch t middle 1 0 0 (At x) (above 1 s) Op.PopJumpIfFalse s.stack refl (records_as t from from s.stack (0 + s.stack) s.handling s.handling g2.start refl (omega arith) refl)
            (omega arith, records_as t x x s.stack (0 + s.stack) s.handling s.handling g3.start refl (omega arith) refl) caught,
        join t from left go g2.fits (fits_jump t behind_left (At y) (above 1 (bare s)) Op.JumpForward (omega arith, end) (catches_more t s.handler s.stack (1 + s.stack) s.handling s.handling caught (omega arith) (omega arith)), g3.fits),
      );
      start = g1.start;
    }

abbrev pub AllSound : Table → List Coder → Type 0
AllSound t [] = Unit {0}
AllSound t (e ∷ es) = Sound t e × AllSound t es

in_turn_sound : (t : Table) (es : List Coder) → AllSound t es → (k : ℕ) (s : Spot) (at : ℕ) → Catches t s.handler s.stack s.handling → Stands t at (in_turn es (above k s) at) (length es + (k + s.stack)) s.handling → Good t at (k + s.stack) s.handling (in_turn es (above k s) at)
in_turn_sound t [] m k s at c w = record { fits = tt; start = records_as t at at (0 + (k + s.stack)) (k + s.stack) s.handling s.handling w refl (omega arith) refl }
in_turn_sound t (e ∷ es) m k s at c w =
    let code = e (above k s) at in
    let from = at + length code in
    let up : Spot = above k s in
    let more = in_turn es (above 1 up) from in
    let w1 = behind t at code more (length (e ∷ es) + (k + s.stack)) s.handling w in
    let g2 = in_turn_sound t es m.1 1 up from (catches_more t s.handler s.stack (k + s.stack) s.handling s.handling c (omega arith) (omega arith))
    (stands_as t from from more (length (e ∷ es) + (k + s.stack)) (length es + (1 + (k + s.stack))) s.handling s.handling w1 refl (omega arith) refl) in
    let g1 = m.0 up at (catches_more t s.handler s.stack (k + s.stack) s.handling s.handling c (omega arith) (omega arith)) (before t at code more (length (e ∷ es) + (k + s.stack)) s.handling (1 + (k + s.stack)) s.handling w g2.start) in
    record { fits = join t at code more g1.fits g2.fits; start = g1.start }

tuple_sound : (t : Table) (es : List Coder) → AllSound t es → Sound t (tuple_code es)
tuple_sound t es m s at c w =
    let code = in_turn es s at in
    let tail = put (above (length es) s) Op.BuildTuple (Number (length es)) ∷ [] in
    let zero_up : s.stack ≡ 0 + s.stack = omega arith in
    let same : in_turn es (above 0 s) at ≡ code = ap (λ (n : ℕ). in_turn es (record s { stack = n }) at) (sym zero_up) in
    let w1 = behind t at code tail (1 + s.stack) s.handling w in
    let wc : Stands t at code (length es + (0 + s.stack)) s.handling
    = before t at code tail (1 + s.stack) s.handling (length es + (0 + s.stack)) s.handling w (records_as t (at + length code) (at + length code) (length es + s.stack) (length es + (0 + s.stack)) s.handling s.handling w1.0 refl (omega arith) refl) in
    let g : Good t at (0 + s.stack) s.handling (in_turn es (above 0 s) at) = in_turn_sound t es m 0 s at c (subst (λ l. Stands t at l (length es + (0 + s.stack)) s.handling) (sym same) wc) in
    let h : Good t at (0 + s.stack) s.handling code = subst (λ l. Good t at (0 + s.stack) s.handling l) same g in
    record {
      fits = join t at code tail h.fits (fits_plain t (at + length code) (length es) 1 (above (length es) s) Op.BuildTuple (Number (length es)) s.stack refl w1.1 c, tt);
      start = records_as t at at (0 + s.stack) s.stack s.handling s.handling h.start refl (omega arith) refl;
    }

call_sound : (t : Table) (f : Coder) (args : List Coder) → Sound t f → AllSound t args → Sound t (call_code f args)
call_sound t f args m ms s at c w =
    let callee = f s at in
    let from = at + length callee in
    let code = in_turn args (above 1 s) from in
    let tail = put (above (1 + length args) s) Op.Call (Number (length args)) ∷ [] in
    let w1 = behind t at callee (code ++ tail) (1 + s.stack) s.handling w in
    let w2 = behind t from code tail (1 + s.stack) s.handling w1 in
    let g2 = in_turn_sound t args ms 1 s from c (before t from code tail (1 + s.stack) s.handling (length args + (1 + s.stack)) s.handling w1 (records_as t (from + length code) (from + length code) (1 + length args + s.stack) (length args + (1 + s.stack)) s.handling s.handling w2.0 refl (omega arith) refl)) in
    let g1 = m s at c (before t at callee (code ++ tail) (1 + s.stack) s.handling (1 + s.stack) s.handling w g2.start) in
    record {
      fits = join t at callee (code ++ tail) g1.fits (join t from code tail g2.fits (fits_plain t (from + length code) (1 + length args) 1 (above (1 + length args) s) Op.Call (Number (length args)) s.stack refl w2.1 c, tt));
      start = g1.start;
    }

method_sound : (t : Table) (o : Coder) (name : ℕ) (args : List Coder) → Sound t o → AllSound t args → Sound t (method_code o name args)
method_sound t o name args m ms s at c w =
    let object = o s at in
    let middle = at + length object in
    let from = middle + 1 in
    let code = in_turn args (above 2 s) from in
    let tail = put (above (2 + length args) s) Op.Call (Number (length args + 1)) ∷ [] in
    let rest = put (above 1 s) Op.LoadMethod (Number name) ∷ (code ++ tail) in
    let w1 = behind t at object rest (1 + s.stack) s.handling w in
    let w2 = behind t from code tail (1 + s.stack) s.handling w1.1 in
    let g2 = in_turn_sound t args ms 2 s from c (before t from code tail (1 + s.stack) s.handling (length args + (2 + s.stack)) s.handling w1.1 (records_as t (from + length code) (from + length code) (2 + length args + s.stack) (length args + (2 + s.stack)) s.handling s.handling w2.0 refl (omega arith) refl)) in
    let g1 = m s at c (before t at object rest (1 + s.stack) s.handling (1 + s.stack) s.handling w w1.0) in
    record {
      fits = join t at object rest g1.fits (
        fits_plain t middle 1 2 (above 1 s) Op.LoadMethod (Number name) s.stack refl g2.start c,
        join t from code tail g2.fits (fits_plain t (from + length code) (1 + (length args + 1)) 1 (above (2 + length args) s) Op.Call (Number (length args + 1)) s.stack (omega arith) w2.1 c, tt),
      );
      start = g1.start;
    }

yield_sound : (t : Table) (a : Coder) → Sound t a → Sound t (yield_code a)
yield_sound t a m s at c w =
    let code = a s at in
    let tail = put (above 1 s) Op.YieldValue none ∷ (put (above 1 (bare s)) Op.Resume (Number 1) ∷ []) in
    let w1 = behind t at code tail (1 + s.stack) s.handling w in
    let g = m s at c (before t at code tail (1 + s.stack) s.handling (1 + s.stack) s.handling w w1.0) in
    record {
      fits = join t at code tail g.fits (
        fits_plain t (at + length code) 1 1 (above 1 s) Op.YieldValue none s.stack refl w1.1.0 c,
        (fits_plain t (at + length code + 1) 0 0 (above 1 (bare s)) Op.Resume (Number 1) (1 + s.stack) (omega arith) (records_as t (at + length code + 1 + 1) (at + length code + 1 + 1) (1 + s.stack) (0 + (1 + s.stack)) s.handling s.handling w1.1.1 refl (omega arith) refl) (catches_more t s.handler s.stack (1 + s.stack) s.handling s.handling c (omega arith) (omega arith)), tt),
      );
      start = g.start;
    }

load_sound : (t : Table) (op : Op) (a : Argument) → effect_of op (number_in a) ≡ plain 0 1 → Sound t (λ s at. put s op a ∷ [])
load_sound t op a o s at c w = record { fits = (rw o (fits_plain t at 0 1 s op a s.stack (omega arith) w.1 c), tt); start = w.0 }

name_sound : (t : Table) (locals : Locals) (name : List ℕ) → Sound t (name_code locals name)
name_sound t locals name s at = pick (is_local locals name)
  where
    chosen : Bool → List Instruction
    chosen b = (if b then put s Op.LoadFast (Number (number_of_local locals name)) else put s Op.LoadGlobal (Name name)) ∷ []

    pick : (b : Bool) → Catches t s.handler s.stack s.handling → Stands t at (chosen b) (1 + s.stack) s.handling → Good t at s.stack s.handling (chosen b)
    pick true c w = load_sound t Op.LoadFast (Number (number_of_local locals name)) refl s at c w
    pick false c w = load_sound t Op.LoadGlobal (Name name) refl s at c w

pub constant_sound : (t : Table) (v : Value) → Sound t (constant_code v)
constant_sound t v s at c w = load_sound t Op.LoadConst (Constant v) refl s at c w

compare_effect : (op : Comparison) → effect_of (comparison_op op) (comparison_number op) ≡ plain 2 1
compare_effect Comparison.In = refl
compare_effect Comparison.NotIn = refl
compare_effect _ = refl

abbrev Part : Table → Locals → Type 0
Part t locals = (e : Expression) × Sound t (expression_code locals e)

abbrev codes : (t : Table) (locals : Locals) → List (Part t locals) → List Coder
codes t locals es = map (expression_code locals) (map (λ e. e.0) es)

codes_sound : (t : Table) (locals : Locals) (es : List (Part t locals)) → AllSound t (codes t locals es)
codes_sound t locals [] = tt
codes_sound t locals (e ∷ es) = (e.1, codes_sound t locals es)

abbrev opened : (t : Table) (locals : Locals) → Expression-F (Part t locals) → Expression-F Coder
opened t locals y = map-Expression Expression Coder (expression_code locals) (map-Expression (Part t locals) Expression (λ e. e.0) y)

layer : (t : Table) (locals : Locals) (y : Expression-F (Part t locals)) → Sound t (expression_step locals (opened t locals y))
layer t locals (Expression-F.Name name) s at c w = name_sound t locals name s at c w
layer t locals (Expression-F.Integer n) s at c w = constant_sound t (value.Int n) s at c w
layer t locals (Expression-F.Text text) s at c w = constant_sound t (value.Text text) s at c w
layer t locals (Expression-F.Single single) s at c w = constant_sound t (single_value single) s at c w
layer t locals Expression-F.Empty s at c w = constant_sound t (value.Tuple []) s at c w
layer t locals (Expression-F.Tuple es) s at c w = tuple_sound t (codes t locals es) (codes_sound t locals es) s at c w
layer t locals (Expression-F.Yield line None) s at c w = yield_sound t (constant_code value.None) (constant_sound t value.None) s at c w
layer t locals (Expression-F.Yield line (Some a)) s at c w = yield_sound t (expression_code locals a.0) a.1 s at c w
layer t locals (Expression-F.If a x b) s at c w = conditional_sound t (expression_code locals a.0) (expression_code locals x.0) (expression_code locals b.0) a.1 x.1 b.1 s at c w
layer t locals (Expression-F.Or a b) s at c w = short_sound t (expression_code locals a.0) (expression_code locals b.0) Op.PopJumpIfTrue (λ n. refl) a.1 b.1 s at c w
layer t locals (Expression-F.And a b) s at c w = short_sound t (expression_code locals a.0) (expression_code locals b.0) Op.PopJumpIfFalse (λ n. refl) a.1 b.1 s at c w
layer t locals (Expression-F.Not a) s at c w = one_sound t (expression_code locals a.0) Op.UnaryNot refl a.1 s at c w
layer t locals (Expression-F.Compare op a b) s at c w = two_sound t (expression_code locals a.0) (expression_code locals b.0) (comparison_op op) (comparison_number op) (compare_effect op) a.1 b.1 s at c w
layer t locals (Expression-F.Is a single) s at c w = two_sound t (expression_code locals a.0) (constant_code (single_value single)) Op.IsOp 0 refl a.1 (constant_sound t (single_value single)) s at c w
layer t locals (Expression-F.IsNot a single) s at c w = two_sound t (expression_code locals a.0) (constant_code (single_value single)) Op.IsOp 1 refl a.1 (constant_sound t (single_value single)) s at c w
layer t locals (Expression-F.Binary op a b) s at c w = two_sound t (expression_code locals a.0) (expression_code locals b.0) Op.BinaryOp (binary_number op) refl a.1 b.1 s at c w
layer t locals (Expression-F.Negative a) s at c w = one_sound t (expression_code locals a.0) Op.UnaryNegative refl a.1 s at c w
layer t locals (Expression-F.Call f args) s at c w = call_sound t (expression_code locals f.0) (codes t locals args) f.1 (codes_sound t locals args) s at c w
layer t locals (Expression-F.Method o m args) s at c w = method_sound t (expression_code locals o.0) (method_number m) (codes t locals args) o.1 (codes_sound t locals args) s at c w
layer t locals (Expression-F.Subscript a b) s at c w = two_sound t (expression_code locals a.0) (expression_code locals b.0) Op.BinarySubscr 0 refl a.1 b.1 s at c w

pub expression_sound : (t : Table) (locals : Locals) (e : Expression) → Sound t (expression_code locals e)
expression_sound t locals = ind-Expression (λ e. Sound t (expression_code locals e)) (λ x y is.
    let unrolled : expression_code locals (roll-Expression x) ≡ expression_step locals (map-Expression Expression Coder (expression_code locals) x) = fold-roll-Expression Coder (expression_step locals) x in
    let inner : Sound t (expression_step locals (map-Expression Expression Coder (expression_code locals) x))
    = subst (λ (z : Expression-F Expression). Sound t (expression_step locals (map-Expression Expression Coder (expression_code locals) z))) is (layer t locals y) in
    subst (λ (f : Coder). Sound t f) (sym unrolled) inner)
