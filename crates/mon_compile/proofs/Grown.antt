-- Code grows, and that of an expression has one instruction at least.
use Rattle.std.proofs.Common.{◌≡◌, ℕ, ◌+◌, ◌<◌, ◌≤◌, List, [], ◌∷◌, ◌++◌, length, map, refl, sym, ap, ◌∙◌, subst, arith, length-append}
use Rattle.std.specs.Prelude.{Result, Ok, Err}
use Rattle.std.specs.Result.{IsErrAnd}
use Rattle.mon_trees.specs.declared.tree.Expression.{Expression}
use Rattle.mon_trees.specs.declared.tree.Expression.TheOpen.{Expression-F}
use Rattle.mon_trees.specs.declared.tree.Expression.TheFolds.{fold-roll-Expression, ind-Expression, map-Expression}
use Rattle.mon_trees.specs.declared.tree.Expression.TheViews.{roll-Expression}
use Rattle.mon_trees.specs.declared.tree.Targets.{Targets}
use Rattle.mon_trees.specs.declared.tree.Targets.TheVariants as targets
use Rattle.mon_compile.specs.declared.assembly.Instruction.{Instruction}
use Rattle.mon_compile.specs.declared.emitter.EmitFault.{EmitFault}
use Rattle.mon_compile.specs.declared.emitter.EmitFault.TheVariants.{TooManyLocations, Memory}
use Rattle.mon_compile.specs.Contexts.{FromAt, Spot, above}
use Rattle.mon_compile.specs.Emission.{Counts, Emission, Emits, emitted}
use Rattle.mon_compile.specs.Expressions.{Coder, Locals, in_turn, or_none, store_names, store_code, expression_step, expression_code}

-- what stands behind something
behind : (a c : List Instruction) → 0 < length c → 0 < length (a ++ c)
behind [] c h = h
behind (x ∷ a) c h = omega arith

abbrev Positive : Coder → Type 0
Positive e = (s : Spot) (at : ℕ) → 0 < length (e s at)

step_positive : (locals : Locals) (y : Expression-F Coder) → Positive (expression_step locals y)
step_positive locals (Expression-F.Name name) s at = omega arith
step_positive locals (Expression-F.Integer n) s at = omega arith
step_positive locals (Expression-F.Text t) s at = omega arith
step_positive locals (Expression-F.Single single) s at = omega arith
step_positive locals Expression-F.Empty s at = omega arith
step_positive locals (Expression-F.Tuple parts) s at = behind (in_turn parts s at) _ (omega arith)
step_positive locals (Expression-F.Yield line e) s at = behind (or_none e s at) _ (omega arith)
step_positive locals (Expression-F.If a test b) s at = behind (test s at) _ (omega arith)
step_positive locals (Expression-F.Or a b) s at = behind (a s at) _ (omega arith)
step_positive locals (Expression-F.And a b) s at = behind (a s at) _ (omega arith)
step_positive locals (Expression-F.Not a) s at = behind (a s at) _ (omega arith)
step_positive locals (Expression-F.Compare op a b) s at = behind (a s at) _ (behind (b (above 1 s) (at + length (a s at))) _ (omega arith))
step_positive locals (Expression-F.Is a single) s at = behind (a s at) _ (omega arith)
step_positive locals (Expression-F.IsNot a single) s at = behind (a s at) _ (omega arith)
step_positive locals (Expression-F.Binary op a b) s at = behind (a s at) _ (behind (b (above 1 s) (at + length (a s at))) _ (omega arith))
step_positive locals (Expression-F.Negative a) s at = behind (a s at) _ (omega arith)
step_positive locals (Expression-F.Call f args) s at = behind (f s at) _ (behind (in_turn args (above 1 s) (at + length (f s at))) _ (omega arith))
step_positive locals (Expression-F.Method o method args) s at = behind (o s at) _ (omega arith)
step_positive locals (Expression-F.Subscript a i) s at = behind (a s at) _ (behind (i (above 1 s) (at + length (a s at))) _ (omega arith))

positive : (locals : Locals) (e : Expression) → Positive (expression_code locals e)
positive locals = ind-Expression (λ e. Positive (expression_code locals e)) (λ x y is.
    let unrolled : expression_code locals (roll-Expression x) ≡ expression_step locals (map-Expression Expression Coder (expression_code locals) x) = fold-roll-Expression Coder (expression_step locals) x in
    subst (λ (f : Coder). Positive f) (sym unrolled) (step_positive locals (map-Expression Expression Coder (expression_code locals) x)))

-- expressions one after another
turn_size : (locals : Locals) (es : List Expression) (s : Spot) (at : ℕ) → length es ≤ length (in_turn (map (expression_code locals) es) s at)
turn_size locals [] s at = omega arith
turn_size locals (e ∷ es) s at =
    let code = expression_code locals e s at in
    let rest = in_turn (map (expression_code locals) es) (above 1 s) (at + length code) in
    omega (arith, positive locals e s at, turn_size locals es (above 1 s) (at + length code), length-append code rest)

size_of : (e e' : Emission) (more : FromAt) → e' ≡ emitted e more → length e'.code ≡ length e.code + length (more (length e.code))
size_of e e' more is = ap (λ (z : Emission). length z.code) is ∙ length-append e.code (more (length e.code))

pub grown : (e e' : Emission) (more : FromAt) → e' ≡ emitted e more → length e.code ≤ length e'.code
grown e e' more is = omega (arith, size_of e e' more is)

pub grown_one : (e e' : Emission) (locals : Locals) (x : Expression) (s : Spot) → e' ≡ emitted e (expression_code locals x s) → length e.code < length e'.code
grown_one e e' locals x s is = omega (arith, size_of e e' (expression_code locals x s) is, positive locals x s (length e.code))

pub grown_all : (e e' : Emission) (locals : Locals) (es : List Expression) (s : Spot) → e' ≡ emitted e (in_turn (map (expression_code locals) es) s) → length e.code + length es ≤ length e'.code
grown_all e e' locals es s is = omega (arith, size_of e e' (in_turn (map (expression_code locals) es) s) is, turn_size locals es s (length e.code))

-- the names of a tuple
names_size : (locals : Locals) (ns : List (List ℕ)) (s : Spot) → length (store_names locals ns s) ≡ length ns
names_size locals [] s = refl
names_size locals (n ∷ ns) s = omega (arith, names_size locals ns s)

tuple_size : (locals : Locals) (t : Targets) (ns : List (List ℕ)) (s : Spot) → t ≡ targets.Tuple ns → length ns < length (store_code locals t s)
tuple_size locals t ns s is = rw is (omega (arith, names_size locals ns s))

-- names that are more than the limit make the code too long
pub names_stop : (r : Result (Unit {0}) EmitFault) (fault : EmitFault) (e e' : Emission) (t : Targets) (ns : List (List ℕ)) (n : ℕ) (s : Spot) → IsErrAnd r (λ f. f ≡ fault) → t ≡ targets.Tuple ns → n ≡ length ns → Counts (Err fault) e.limit n → Emits r e e' (λ at. store_code e.locals t s)
names_stop (Ok done) fault e e' t ns n s is of size full = absurd is
names_stop (Err f) fault e e' t ns n s is of size full = let P : EmitFault → Type 0 = λ x. Emits (Err x) e e' (λ at. store_code e.locals t s) in subst P (sym is) (stopped fault full)
  where
    stopped : (fault : EmitFault) → Counts (Err fault) e.limit n → Emits (Err fault) e e' (λ at. store_code e.locals t s)
    stopped TooManyLocations full = omega (arith, full, size, tuple_size e.locals t ns s of, length-append e.code (store_code e.locals t s))
    stopped Memory full = tt
