-- The steps of an emitter, by its frame (its locals and its limit) and its code.
use Rattle.std.proofs.Common.{◌≡◌, ℕ, ◌+◌, ◌≤◌, List, [], ◌∷◌, ◌++◌, length, ap, sym, ◌∙◌, subst, arith, append_assoc, length-append}
use Rattle.std.specs.Prelude.{Result, Ok, Err}
use Rattle.std.specs.Result.{IsErrAnd}
use Rattle.mon_compile.specs.declared.assembly.Instruction.{Instruction}
use Rattle.mon_compile.specs.declared.emitter.EmitFault.{EmitFault}
use Rattle.mon_compile.specs.declared.emitter.EmitFault.TheVariants.{TooManyLocations, Memory}
use Rattle.mon_compile.specs.Contexts.{FromAt}
use Rattle.mon_compile.specs.Emission.{Emission, emitted, one, Emits}
use Rattle.mon_compile.specs.Expressions.{Locals}

abbrev pub Frame : Type 0
Frame = Locals × ℕ

abbrev pub frame_of : Emission → Frame
frame_of e = (e.locals, e.limit)

abbrev pub code_of : Emission → List Instruction
code_of e = e.code

abbrev emission : Frame → List Instruction → Emission
emission f code = record { locals = f.0; limit = f.1; code = code }

-- a part that is made with the locals stands behind the code, and the frame stays
pub step : (part : Locals → FromAt) (f : Frame) (e e' : Emission) → frame_of e ≡ f → e' ≡ emitted e (part e.locals) → (frame_of e' ≡ f) × (e'.code ≡ e.code ++ part f.0 (length e.code))
step part f e e' same is = (ap frame_of is ∙ same, ap code_of is ∙ ap (λ (g : Frame). e.code ++ part g.0 (length e.code)) same)

-- an emission by its parts
pub whole : (e e' : Emission) (code : List Instruction) → frame_of e' ≡ frame_of e → e'.code ≡ code → e' ≡ record e { code = code }
whole e e' code same is = ap (λ (g : Frame). emission g e'.code) same ∙ ap (λ (k : List Instruction). emission (frame_of e) k) is

stopped : (fault : EmitFault) (e0 e0' e e' : Emission) (part more : FromAt) → frame_of e ≡ frame_of e0 → length (emitted e part).code ≤ length (emitted e0 more).code → Emits (Err fault) e e' part → Emits (Err fault) e0 e0' more
stopped TooManyLocations e0 e0' e e' part more same h full = omega (arith, h, full, ap (λ (g : Frame). g.1) same)
stopped Memory e0 e0' e e' part more same h full = tt

-- a part that is too long makes what it is a part of too long
pub stop : (r : Result (Unit {0}) EmitFault) (fault : EmitFault) (e0 e0' e e' : Emission) (part more : FromAt) → IsErrAnd r (λ f. f ≡ fault) → frame_of e ≡ frame_of e0 → length (emitted e part).code ≤ length (emitted e0 more).code → Emits (Err fault) e e' part → Emits r e0 e0' more
stop (Ok done) fault e0 e0' e e' part more is same h full = absurd is
stop (Err f) fault e0 e0' e e' part more is same h full = let P : EmitFault → Type 0 = λ x. Emits (Err x) e0 e0' more in subst P (sym is) (stopped fault e0 e0' e e' part more same h full)

-- one instruction
pub stop_one : (r : Result (Unit {0}) EmitFault) (fault : EmitFault) (e0 e0' e e' : Emission) (i : Instruction) (more : FromAt) → IsErrAnd r (λ f. f ≡ fault) → frame_of e ≡ frame_of e0 → length e.code + 1 ≤ length (emitted e0 more).code → Emits (Err fault) e e' (one i) → Emits r e0 e0' more
stop_one r fault e0 e0' e e' i more is same h full = stop r fault e0 e0' e e' (one i) more is same (omega (arith, h, length-append e.code (i ∷ []))) full

-- what is left of a part, behind its beginning
pub emits_as : (r : Result (Unit {0}) EmitFault) (e0 e e' : Emission) (part more : FromAt) → frame_of e ≡ frame_of e0 → e.code ++ part (length e.code) ≡ e0.code ++ more (length e0.code) → Emits r e e' part → Emits r e0 e' more
emits_as (Ok done) e0 e e' part more same is h = h ∙ whole e0 (emitted e part) (e0.code ++ more (length e0.code)) same is
emits_as (Err TooManyLocations) e0 e e' part more same is h = omega (arith, h, ap length is, ap (λ (g : Frame). g.1) same)
emits_as (Err Memory) e0 e e' part more same is h = tt

pub left_more : (rest : FromAt) (all front c0 c1 : List Instruction) → all ≡ front ++ rest (length c0 + length front) → c1 ≡ c0 ++ front → c1 ++ rest (length c1) ≡ c0 ++ all
left_more rest all front c0 c1 is e =
    ap (λ (l : List Instruction). l ++ rest (length l)) e
    ∙ ap (λ n. (c0 ++ front) ++ rest n) (length-append c0 front)
    ∙ append_assoc c0 front (rest (length c0 + length front))
    ∙ ap (λ l. c0 ++ l) (sym is)

pub one_more : (e e' : Emission) (i : Instruction) → e' ≡ emitted e (one i) → length e'.code ≡ length e.code + 1
one_more e e' i is = ap (λ (z : Emission). length z.code) is ∙ length-append e.code (i ∷ [])
