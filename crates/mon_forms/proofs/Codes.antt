-- The codes that a call and a thread name are there.
use Rattle.std.proofs.Common.{◌≡◌, ℕ, ◌+◌, ◌<◌, ◌==◌, Bool, true, false, List, [], ◌∷◌, length, slice_get, Option, Some, None, Result, Ok, Err, IfOk, IfSome, if◌then◌else◌, refl, sym, ap, ◌∙◌, inl, inr, arith}
use Rattle.std.specs.List.{All}
use Rattle.std.proofs.lemmas.Bool.{cases_lt}
use Rattle.std.proofs.lemmas.Bool.Decides.{nat_tests}
use Rattle.std.proofs.lemmas.Option.{IfSome_then, slice_get_past}
use Rattle.mon_code.specs.Programs.{Parts, code_named, first_named, is_text}
use Rattle.mon_code.specs.declared.program.Code.{Code}
use Rattle.mon_values.specs.declared.value.Value.{Value}
use Rattle.mon_forms.specs.Calls.{with_operands, with_id, with_code, with_set, call_if, call_with, call_of, no_parts, operands_of}
use Rattle.mon_forms.specs.Fits.{FitsCall, FitsStart, IsArgument}
use Rattle.mon_forms.specs.Operands.{integer_of, set_of}
use Rattle.mon_forms.specs.Plans.{start_of, start_in, start_if, parameters_of}
use Rattle.mon_forms.specs.declared.calls.CallKind.{CallKind}
use Rattle.mon_forms.specs.declared.calls.CallParts.{CallParts}
use Rattle.mon_forms.specs.declared.calls.Operand.{Operand}
use Rattle.mon_forms.specs.declared.plan.PlanKind.{PlanKind}
use Rattle.mon_forms.specs.declared.plan.Start.{Start}

-- there is a code for each name
abbrev pub IsNamed : Parts → Type 0
IsNamed p = length p.names ≡ length p.codes

some_if : (b : Bool) (P : ℕ → Type 0) (x y : Option ℕ) → IfSome x P → IfSome y P → IfSome (if b then x else y) P
some_if true P x y h k = h
some_if false P x y h k = k

below_names : (k : ℕ) (names : List (List ℕ)) (name : List ℕ) → IfSome (first_named k names name) (λ c. c < k + length names)
below_names k [] name = tt
below_names k (n ∷ ns) name =
    some_if (is_text n name) (λ c. c < k + length (n ∷ ns)) (Some k) (first_named (k + 1) ns name) (omega arith)
    (IfSome_then (first_named (k + 1) ns name) (below_names (k + 1) ns name) (λ c h. omega arith))

-- a code that is named is there
pub named_code : (p : Parts) (name : List ℕ) → IsNamed p → IfSome (code_named p name) (λ c. c < length p.codes)
named_code p name named = IfSome_then (code_named p name) (below_names 0 p.names name) (λ c h. omega arith)

abbrev HasCode : Parts → CallParts → Type 0
HasCode p parts = parts.code < length p.codes

code_has : (p : Parts) (parts : CallParts) (r : Option ℕ) → IfSome r (λ c. c < length p.codes) → IfOk (with_code parts r) (HasCode p)
code_has p parts None h = tt
code_has p parts (Some code) h = h

-- and the set behind it leaves it
last_set : (p : Parts) (r : Result CallParts PlanKind) (words : List (List ℕ)) → IfOk r (HasCode p) → IfOk (with_operands p r (Operand.Set ∷ []) words) (HasCode p)
last_set p (Err kind) words h = tt
last_set p (Ok parts) [] h = tt
last_set p (Ok parts) (word ∷ words) h =
    elim (set_of word) as (λ r. IfOk (with_operands p (with_set parts r) [] words) (HasCode p)) [ None ↦ tt | Some set ↦ h ]

no_more : (p : Parts) (r : Result CallParts PlanKind) (words : List (List ℕ)) → IfOk r (HasCode p) → IfOk (with_operands p r [] words) (HasCode p)
no_more p (Err kind) words h = tt
no_more p (Ok parts) words h = h

set_behind : (p : Parts) (r : Result CallParts PlanKind) (words : List (List ℕ)) → IsNamed p → IfOk (with_operands p r (Operand.Code ∷ Operand.Set ∷ []) words) (HasCode p)
set_behind p (Err kind) words named = tt
set_behind p (Ok parts) [] named = tt
set_behind p (Ok parts) (word ∷ words) named =
    last_set p (with_code parts (code_named p word)) words (code_has p parts (code_named p word) (named_code p word named))

code_behind : (p : Parts) (r : Result CallParts PlanKind) (words : List (List ℕ)) → IsNamed p → IfOk (with_operands p r (Operand.Code ∷ []) words) (HasCode p)
code_behind p (Err kind) words named = tt
code_behind p (Ok parts) [] named = tt
code_behind p (Ok parts) (word ∷ words) named =
    no_more p (with_code parts (code_named p word)) words (code_has p parts (code_named p word) (named_code p word named))

set_local : (p : Parts) (words : List (List ℕ)) → IsNamed p → IfOk (with_operands p (Ok no_parts) (operands_of CallKind.SetLocalEvents) words) (HasCode p)
set_local p [] named = tt
set_local p (word ∷ words) named = set_behind p (with_id no_parts (integer_of word)) words named

get_local : (p : Parts) (words : List (List ℕ)) → IsNamed p → IfOk (with_operands p (Ok no_parts) (operands_of CallKind.GetLocalEvents) words) (HasCode p)
get_local p [] named = tt
get_local p (word ∷ words) named = code_behind p (with_id no_parts (integer_of word)) words named

if_call : (p : Parts) (kind : CallKind) (r : Result CallParts PlanKind) → IfOk r (λ parts. FitsCall p (call_with kind parts)) → IfOk (call_if kind r) (FitsCall p)
if_call p kind (Err fault) h = tt
if_call p kind (Ok parts) h = h

any_call : (p : Parts) (kind : CallKind) (r : Result CallParts PlanKind) → ((parts : CallParts) → FitsCall p (call_with kind parts)) → IfOk (call_if kind r) (FitsCall p)
any_call p kind (Err fault) h = tt
any_call p kind (Ok parts) h = h parts

-- a call that is read fits
pub call_fits : (p : Parts) (kind : CallKind) (words : List (List ℕ)) → IsNamed p → IfOk (call_of p kind words) (FitsCall p)
call_fits p CallKind.UseToolId words named = any_call p CallKind.UseToolId (with_operands p (Ok no_parts) (operands_of CallKind.UseToolId) words) (λ parts. tt)
call_fits p CallKind.FreeToolId words named = any_call p CallKind.FreeToolId (with_operands p (Ok no_parts) (operands_of CallKind.FreeToolId) words) (λ parts. tt)
call_fits p CallKind.GetTool words named = any_call p CallKind.GetTool (with_operands p (Ok no_parts) (operands_of CallKind.GetTool) words) (λ parts. tt)
call_fits p CallKind.SetEvents words named = any_call p CallKind.SetEvents (with_operands p (Ok no_parts) (operands_of CallKind.SetEvents) words) (λ parts. tt)
call_fits p CallKind.GetEvents words named = any_call p CallKind.GetEvents (with_operands p (Ok no_parts) (operands_of CallKind.GetEvents) words) (λ parts. tt)
call_fits p CallKind.SetLocalEvents words named = if_call p CallKind.SetLocalEvents (with_operands p (Ok no_parts) (operands_of CallKind.SetLocalEvents) words) (set_local p words named)
call_fits p CallKind.GetLocalEvents words named = if_call p CallKind.GetLocalEvents (with_operands p (Ok no_parts) (operands_of CallKind.GetLocalEvents) words) (get_local p words named)
call_fits p CallKind.RegisterCallback words named = any_call p CallKind.RegisterCallback (with_operands p (Ok no_parts) (operands_of CallKind.RegisterCallback) words) (λ parts. tt)
call_fits p CallKind.RestartEvents words named = any_call p CallKind.RestartEvents (with_operands p (Ok no_parts) (operands_of CallKind.RestartEvents) words) (λ parts. tt)

found_code : (codes : List Code) (k count : ℕ) → parameters_of (slice_get codes k) ≡ Some count → k < length codes
found_code codes k count h =
    elim (cases_lt k (length codes)) [
      | inl lt ↦ lt
      | inr ge ↦ let e : None ≡ Some count = sym (ap parameters_of (slice_get_past codes k ge)) ∙ h in absurd cc
    ]

start_test : (p : Parts) (b : Bool) (start : Start) → (b ≡ true → FitsStart p start) → IfOk (if b then Ok start else Err PlanKind.Number) (FitsStart p)
start_test p true start h = h refl
start_test p false start h = tt

start_counted : (p : Parts) (r : Option ℕ) (code : ℕ) (args : List Value) → parameters_of (slice_get p.codes code) ≡ r → All IsArgument args → IfOk (start_if r code args) (FitsStart p)
start_counted p None code args e all = tt
start_counted p (Some count) code args e all =
    start_test p (count == length args) (record { code = code; args = args }) (λ h.
    let same : count ≡ length args = grind (arith, nat_tests) in
    record { code = found_code p.codes code count e; count = e ∙ ap Some same; args = all })

start_found : (p : Parts) (r : Option ℕ) (args : List Value) → All IsArgument args → IfOk (start_in p.codes r args) (FitsStart p)
start_found p None args all = tt
start_found p (Some code) args all = start_counted p (parameters_of (slice_get p.codes code)) code args refl all

-- a thread that is read fits
pub start_fits : (p : Parts) (name : List ℕ) (r : Option (List Value)) → IfSome r (All IsArgument) → IfOk (start_of p name r) (FitsStart p)
start_fits p name None all = tt
start_fits p name (Some args) all = start_found p (code_named p name) args all
