-- Pieces of code that stand in a code, and what is recorded there.
use Rattle.std.proofs.Common.{◌≡◌, ℕ, ◌+◌, ◌-◌, ◌≤◌, IsTrue, Bool, true, false, List, [], ◌∷◌, ◌++◌, length, Option, Some, None, refl, ap, arith}
use Rattle.mon_events.specs.declared.op.Op.{Op}
use Rattle.mon_code.specs.Effects.{Effect, plain, branch, jump, last}
use Rattle.mon_code.specs.Depths.{Table, Records, LandsIf, Fits}
use Rattle.mon_code.specs.Depths as depths
use Rattle.mon_compile.specs.declared.assembly.Instruction.{Instruction}
use Rattle.mon_compile.specs.declared.assembly.Argument.{Argument}
use Rattle.mon_compile.specs.declared.assembly.Argument.TheVariants.{Destination}
use Rattle.mon_compile.specs.declared.assembly.Handler.{Handler}
use Rattle.mon_compile.specs.declared.assembly.Label.{Label}
use Rattle.mon_compile.specs.Contexts.{Spot, put}
use Rattle.mon_compile.specs.Placed.{index_of, number_in, placed_handler, AllFit}

abbrev pub Lands : Table → Label → ℕ → ℕ → Type 0
Lands t l stack handling = depths.Lands t (index_of l) stack handling

abbrev pub Catches : Table → Option Handler → ℕ → ℕ → Type 0
Catches t h stack handling = depths.Catches t (placed_handler h) stack handling

-- a piece stands at an index, and behind it this is recorded
abbrev pub Stands : Table → ℕ → List Instruction → ℕ → ℕ → Type 0
Stands t at [] stack handling = Records t at stack handling
Stands t at (i ∷ code) stack handling = Records t at i.spot.stack i.spot.handling × Stands t (at + 1) code stack handling

-- each instruction of a piece fits, and before it this is recorded
pub record Good (t : Table) (at stack handling : ℕ) (code : List Instruction) : Type 0 where
  pub fits : AllFit t at code
  pub start : Records t at stack handling

pub records_as : (t : Table) (n n' s s' h h' : ℕ) → Records t n s h → n ≡ n' → s ≡ s' → h ≡ h' → Records t n' s' h'
records_as t n n' s s' h h' r a b c = rw (← a, ← b, ← c) r

pub stands_as : (t : Table) (n n' : ℕ) (code : List Instruction) (s s' h h' : ℕ) → Stands t n code s h → n ≡ n' → s ≡ s' → h ≡ h' → Stands t n' code s' h'
stands_as t n n' code s s' h h' r a b c = rw (← a, ← b, ← c) r

pub good_as : (t : Table) (n n' : ℕ) (code : List Instruction) (s s' h h' : ℕ) → Good t n s h code → n ≡ n' → s ≡ s' → h ≡ h' → Good t n' s' h' code
good_as t n n' code s s' h h' r a b c = rw (← a, ← b, ← c) r

pub fits_as : (t : Table) (n n' : ℕ) (code : List Instruction) → AllFit t n code → n ≡ n' → AllFit t n' code
fits_as t n n' code r a = rw (← a) r

-- a piece of two parts: the second stands behind the first, and the first wherever the record behind it is known
pub behind : (t : Table) (at : ℕ) (a b : List Instruction) (stack handling : ℕ) → Stands t at (a ++ b) stack handling → Stands t (at + length a) b stack handling
behind t at [] b stack handling w = stands_as t at (at + 0) b stack stack handling handling w (omega arith) refl refl
behind t at (i ∷ a) b stack handling w = stands_as t (at + 1 + length a) (at + length (i ∷ a)) b stack stack handling handling (behind t (at + 1) a b stack handling w.1) (omega arith) refl refl

pub before : (t : Table) (at : ℕ) (a b : List Instruction) (stack handling s h : ℕ) → Stands t at (a ++ b) stack handling → Records t (at + length a) s h → Stands t at a s h
before t at [] b stack handling s h w r = records_as t (at + 0) at s s h h r (omega arith) refl refl
before t at (i ∷ a) b stack handling s h w r = (w.0, before t (at + 1) a b stack handling s h w.1 (records_as t (at + length (i ∷ a)) (at + 1 + length a) s s h h r (omega arith) refl refl))

pub ends : (t : Table) (at : ℕ) (a : List Instruction) (stack handling : ℕ) → Stands t at a stack handling → Records t (at + length a) stack handling
ends t at [] stack handling w = records_as t at (at + 0) stack stack handling handling w (omega arith) refl refl
ends t at (i ∷ a) stack handling w = records_as t (at + 1 + length a) (at + length (i ∷ a)) stack stack handling handling (ends t (at + 1) a stack handling w.1) (omega arith) refl refl

pub join : (t : Table) (at : ℕ) (a b : List Instruction) → AllFit t at a → AllFit t (at + length a) b → AllFit t at (a ++ b)
join t at [] b f g = fits_as t (at + 0) at b g (omega arith)
join t at (i ∷ a) b f g = (f.0, join t (at + 1) a b f.1 (fits_as t (at + length (i ∷ a)) (at + 1 + length a) b g (omega arith)))

-- a handler that serves a depth serves any above it
pub catches_more : (t : Table) (h : Option Handler) (s s' n n' : ℕ) → Catches t h s n → s ≤ s' → n ≤ n' → Catches t h s' n'
catches_more t None s s' n n' c a b = tt
catches_more t (Some h) s s' n n' c a b = (c.0, omega (arith, c.1), omega (arith, c.2))

pub catches_as : (t : Table) (h : Option Handler) (s s' n n' : ℕ) → Catches t h s n → s ≡ s' → n ≡ n' → Catches t h s' n'
catches_as t h s s' n n' c a b = rw (← a, ← b) c

-- an instruction fits, by what it leaves on the stack and on the handling list
abbrev pub FitsAs : Table → ℕ → Effect → Instruction → Type 0
FitsAs t at e i = Fits t at (record { effect = e; to = number_in i.argument; handler = placed_handler i.spot.handler; stack = i.spot.stack; handling = i.spot.handling })

lands_as : (t : Table) (jumps : Bool) (to s s' n n' : ℕ) → LandsIf t jumps to s n → s ≡ s' → n ≡ n' → LandsIf t jumps to s' n'
lands_as t jumps to s s' n n' c a b = rw (← a, ← b) c

pub fits : (t : Table) (at : ℕ) (e : Effect) (s : Spot) (op : Op) (a : Argument) (rest left : ℕ) → s.stack ≡ e.takes + rest → s.handling ≡ e.drops + left
    → (IsTrue e.goes_on → Records t (at + 1) (e.puts + rest) (e.adds + left)) → LandsIf t e.jumps (number_in a) (e.carries + rest) (e.adds + left) → Catches t s.handler rest left → FitsAs t at e (put s op a)
fits t at e s op a rest left p q next jumps caught =
    let r : rest ≡ s.stack - e.takes = omega (arith, p) in
    let l : left ≡ s.handling - e.drops = omega (arith, q) in
    record {
      has = omega (arith, p);
      holds = omega (arith, q);
      next = λ on. records_as t (at + 1) (at + 1) (e.puts + rest) (e.puts + (s.stack - e.takes)) (e.adds + left) (e.adds + (s.handling - e.drops)) (next on) refl (ap (λ n. e.puts + n) r) (ap (λ n. e.adds + n) l);
      jumps = lands_as t e.jumps (number_in a) (e.carries + rest) (e.carries + (s.stack - e.takes)) (e.adds + left) (e.adds + (s.handling - e.drops)) jumps (ap (λ n. e.carries + n) r) (ap (λ n. e.adds + n) l);
      caught = catches_as t s.handler rest (s.stack - e.takes) left (s.handling - e.drops) caught r l;
    }

pub fits_plain : (t : Table) (at takes puts : ℕ) (s : Spot) (op : Op) (a : Argument) (rest : ℕ) → s.stack ≡ takes + rest → Records t (at + 1) (puts + rest) s.handling → Catches t s.handler rest s.handling → FitsAs t at (plain takes puts) (put s op a)
fits_plain t at takes puts s op a rest p next caught =
    fits t at (plain takes puts) s op a rest s.handling p (omega arith) (λ on. records_as t (at + 1) (at + 1) (puts + rest) (puts + rest) s.handling (0 + s.handling) next refl refl (omega arith)) tt caught

pub fits_branch : (t : Table) (at takes puts carries : ℕ) (l : Label) (s : Spot) (op : Op) (rest : ℕ) → s.stack ≡ takes + rest → Records t (at + 1) (puts + rest) s.handling → Lands t l (carries + rest) s.handling → Catches t s.handler rest s.handling
    → FitsAs t at (branch takes puts carries) (put s op (Destination l))
fits_branch t at takes puts carries l s op rest p next lands caught =
    fits t at (branch takes puts carries) s op (Destination l) rest s.handling p (omega arith) (λ on. records_as t (at + 1) (at + 1) (puts + rest) (puts + rest) s.handling (0 + s.handling) next refl refl (omega arith))
    (lands_as t true (index_of l) (carries + rest) (carries + rest) s.handling (0 + s.handling) lands refl (omega arith)) caught

pub off : {A : Type 0} → IsTrue false → A
off h = absurd cc

pub fits_jump : (t : Table) (at : ℕ) (l : Label) (s : Spot) (op : Op) → Lands t l s.stack s.handling → Catches t s.handler s.stack s.handling → FitsAs t at jump (put s op (Destination l))
fits_jump t at l s op lands caught =
    fits t at jump s op (Destination l) s.stack s.handling (omega arith) (omega arith) (λ on. off on) (lands_as t true (index_of l) s.stack (0 + s.stack) s.handling (0 + s.handling) lands (omega arith) (omega arith)) caught

pub fits_last : (t : Table) (at takes drops : ℕ) (s : Spot) (op : Op) (a : Argument) (rest left : ℕ) → s.stack ≡ takes + rest → s.handling ≡ drops + left → Catches t s.handler rest left → FitsAs t at (last takes drops) (put s op a)
fits_last t at takes drops s op a rest left p q caught = fits t at (last takes drops) s op a rest left p q (λ on. off on) tt caught
