-- The code of an expression has no label but that of its handler.
use Rattle.std.proofs.Common.{◌≡◌, ℕ, ◌+◌, Bool, true, false, List, [], ◌∷◌, length, map, refl, sym, subst}
use Rattle.std.specs.Prelude.{Some, None, if◌then◌else◌}
use Rattle.std.proofs.lemmas.List.{map-append, length-map}
use Rattle.mon_events.specs.declared.op.Op.{Op}
use Rattle.mon_values.specs.declared.value.Value as value
use Rattle.mon_trees.specs.declared.tree.Expression.{Expression}
use Rattle.mon_trees.specs.declared.tree.Expression.TheOpen.{Expression-F}
use Rattle.mon_trees.specs.declared.tree.Expression.TheFolds.{fold-roll-Expression, ind-Expression, map-Expression}
use Rattle.mon_trees.specs.declared.tree.Expression.TheViews.{roll-Expression}
use Rattle.mon_compile.specs.declared.assembly.Label.{Label}
use Rattle.mon_compile.specs.declared.assembly.Label.TheVariants.{At}
use Rattle.mon_compile.specs.declared.assembly.Argument.TheVariants.{Number, Name, Destination}
use Rattle.mon_compile.specs.Contexts.{Spot, put, above, bare}
use Rattle.mon_compile.specs.Expressions.{Coder, Locals, is_local, number_of_local, name_code, constant_code, single_value, binary_number, comparison_op, comparison_number, method_number, in_turn, one_code, two_code, short_code, conditional_code, tuple_code, call_code, method_code, yield_code, expression_step, expression_code}
use Rattle.mon_compile.specs.Moved.{moved, moved_spot, Fixes}

abbrev pub Moving : (Label → Label) → Coder → Type 0
Moving g a = (s : Spot) (at : ℕ) → a (moved_spot g s) at ≡ map (moved g) (a s at)

abbrev pub AllMoving : (Label → Label) → List Coder → Type 0
AllMoving g [] = Unit {0}
AllMoving g (a ∷ es) = Moving g a × AllMoving g es

name_moving : (g : Label → Label) (locals : Locals) (name : List ℕ) → Moving g (name_code locals name)
name_moving g locals name s at = pick (is_local locals name)
  where
    pick : (b : Bool) → (if b then put (moved_spot g s) Op.LoadFast (Number (number_of_local locals name)) else put (moved_spot g s) Op.LoadGlobal (Name name)) ∷ []
        ≡ map (moved g) ((if b then put s Op.LoadFast (Number (number_of_local locals name)) else put s Op.LoadGlobal (Name name)) ∷ [])
    pick true = refl
    pick false = refl

in_turn_moving : (g : Label → Label) (es : List Coder) → AllMoving g es → Moving g (in_turn es)
in_turn_moving g [] m s at = refl
in_turn_moving g (a ∷ es) m s at = rw (m.0 s at, length-map, in_turn_moving g es m.1 (above 1 s) (at + length (a s at)), map-append) refl

one_moving : (g : Label → Label) (a : Coder) (op : Op) → Moving g a → Moving g (one_code a op)
one_moving g a op m s at = rw (m s at, map-append) refl

two_moving : (g : Label → Label) (a b : Coder) (op : Op) (number : ℕ) → Moving g a → Moving g b → Moving g (two_code a b op number)
two_moving g a b op number m n s at = rw (m s at, length-map, n (above 1 s) (at + length (a s at)), map-append, map-append) refl

short_moving : (g : Label → Label) → Fixes g → (a b : Coder) (jump : Op) → Moving g a → Moving g b → Moving g (short_code a b jump)
short_moving g fix a b jump m n s at =
    let from = at + length (a s at) + 3 in
    rw (m s at, length-map, n s from, length-map, map-append, fix (from + length (b s from))) refl

conditional_moving : (g : Label → Label) → Fixes g → (a c b : Coder) → Moving g a → Moving g c → Moving g b → Moving g (conditional_code a c b)
conditional_moving g fix a c b ma mc mb s at =
    let from = at + length (c s at) + 1 in
    let x = from + length (a s from) + 1 in
    rw (
      mc s at,
      length-map,
      ma s from,
      length-map,
      mb s x,
      length-map,
      map-append,
      map-append (moved g) (a s from) (put (above 1 (bare s)) Op.JumpForward (Destination (At (x + length (b s x)))) ∷ b s x),
      fix x,
      fix (x + length (b s x)),
    ) refl

tuple_moving : (g : Label → Label) (parts : List Coder) → AllMoving g parts → Moving g (tuple_code parts)
tuple_moving g parts ms s at = rw (in_turn_moving g parts ms s at, map-append) refl

call_moving : (g : Label → Label) (f : Coder) (args : List Coder) → Moving g f → AllMoving g args → Moving g (call_code f args)
call_moving g f args m ms s at = rw (m s at, length-map, in_turn_moving g args ms (above 1 s) (at + length (f s at)), map-append, map-append) refl

method_moving : (g : Label → Label) (o : Coder) (method : ℕ) (args : List Coder) → Moving g o → AllMoving g args → Moving g (method_code o method args)
method_moving g o method args m ms s at =
    rw (
      m s at,
      length-map,
      in_turn_moving g args ms (above 2 s) (at + length (o s at) + 1),
      map-append,
      map-append (moved g) (in_turn args (above 2 s) (at + length (o s at) + 1)) (put (above (2 + length args) s) Op.Call (Number (length args + 1)) ∷ []),
    ) refl

yield_moving : (g : Label → Label) (a : Coder) → Moving g a → Moving g (yield_code a)
yield_moving g a m s at = rw (m s at, map-append) refl

-- what the induction keeps of a part
abbrev Part : (Label → Label) → Locals → Type 0
Part g locals = (e : Expression) × Moving g (expression_code locals e)

abbrev codes : (g : Label → Label) (locals : Locals) → List (Part g locals) → List Coder
codes g locals es = map (expression_code locals) (map (λ e. e.0) es)

codes_moving : (g : Label → Label) (locals : Locals) (es : List (Part g locals)) → AllMoving g (codes g locals es)
codes_moving g locals [] = tt
codes_moving g locals (e ∷ es) = (e.1, codes_moving g locals es)

abbrev opened : (g : Label → Label) (locals : Locals) → Expression-F (Part g locals) → Expression-F Coder
opened g locals y = map-Expression Expression Coder (expression_code locals) (map-Expression (Part g locals) Expression (λ e. e.0) y)

layer : (g : Label → Label) → Fixes g → (locals : Locals) (y : Expression-F (Part g locals)) → Moving g (expression_step locals (opened g locals y))
layer g fix locals (Expression-F.Name name) s at = name_moving g locals name s at
layer g fix locals (Expression-F.Integer n) s at = refl
layer g fix locals (Expression-F.Text t) s at = refl
layer g fix locals (Expression-F.Single single) s at = refl
layer g fix locals Expression-F.Empty s at = refl
layer g fix locals (Expression-F.Tuple es) s at = tuple_moving g (codes g locals es) (codes_moving g locals es) s at
layer g fix locals (Expression-F.Yield line None) s at = yield_moving g (constant_code value.None) (λ s at. refl) s at
layer g fix locals (Expression-F.Yield line (Some a)) s at = yield_moving g (expression_code locals a.0) a.1 s at
layer g fix locals (Expression-F.If a c b) s at = conditional_moving g fix (expression_code locals a.0) (expression_code locals c.0) (expression_code locals b.0) a.1 c.1 b.1 s at
layer g fix locals (Expression-F.Or a b) s at = short_moving g fix (expression_code locals a.0) (expression_code locals b.0) Op.PopJumpIfTrue a.1 b.1 s at
layer g fix locals (Expression-F.And a b) s at = short_moving g fix (expression_code locals a.0) (expression_code locals b.0) Op.PopJumpIfFalse a.1 b.1 s at
layer g fix locals (Expression-F.Not a) s at = one_moving g (expression_code locals a.0) Op.UnaryNot a.1 s at
layer g fix locals (Expression-F.Compare op a b) s at = two_moving g (expression_code locals a.0) (expression_code locals b.0) (comparison_op op) (comparison_number op) a.1 b.1 s at
layer g fix locals (Expression-F.Is a single) s at = two_moving g (expression_code locals a.0) (constant_code (single_value single)) Op.IsOp 0 a.1 (λ s at. refl) s at
layer g fix locals (Expression-F.IsNot a single) s at = two_moving g (expression_code locals a.0) (constant_code (single_value single)) Op.IsOp 1 a.1 (λ s at. refl) s at
layer g fix locals (Expression-F.Binary op a b) s at = two_moving g (expression_code locals a.0) (expression_code locals b.0) Op.BinaryOp (binary_number op) a.1 b.1 s at
layer g fix locals (Expression-F.Negative a) s at = one_moving g (expression_code locals a.0) Op.UnaryNegative a.1 s at
layer g fix locals (Expression-F.Call f args) s at = call_moving g (expression_code locals f.0) (codes g locals args) f.1 (codes_moving g locals args) s at
layer g fix locals (Expression-F.Method o m args) s at = method_moving g (expression_code locals o.0) (method_number m) (codes g locals args) o.1 (codes_moving g locals args) s at
layer g fix locals (Expression-F.Subscript a b) s at = two_moving g (expression_code locals a.0) (expression_code locals b.0) Op.BinarySubscr 0 a.1 b.1 s at

pub expression_moving : (g : Label → Label) → Fixes g → (locals : Locals) (e : Expression) → Moving g (expression_code locals e)
expression_moving g fix locals = ind-Expression (λ e. Moving g (expression_code locals e)) (λ x y is.
    let unrolled : expression_code locals (roll-Expression x) ≡ expression_step locals (map-Expression Expression Coder (expression_code locals) x) = fold-roll-Expression Coder (expression_step locals) x in
    let inner : Moving g (expression_step locals (map-Expression Expression Coder (expression_code locals) x))
    = subst (λ (z : Expression-F Expression). Moving g (expression_step locals (map-Expression Expression Coder (expression_code locals) z))) is (layer g fix locals y) in
    subst (λ (f : Coder). Moving g f) (sym unrolled) inner)
