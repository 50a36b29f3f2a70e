-- Records as they are kept: what is added at the end changes none before it.
use Rattle.std.proofs.Common.{◌≡◌, ℕ, zero, suc, ◌≤◌, Bool, cond, List, [], ◌∷◌, ◌++◌, map, length, refl, sym, ap, ◌∙◌, subst, arith, length-append, append-nil, true, false, eqb, ◌<◌, ◌/◌, ◌%◌, ◌^◌}
use Rattle.std.specs.Int.{bit_at}
use Rattle.std.proofs.lemmas.Nat.{div-add-mod'}
use Rattle.std.proofs.lemmas.Nat.Bits.{bit_at_cat_low, bit_at-zero}
use Rattle.std.proofs.lemmas.List.{map-append, get_or_append_left}
use Rattle.mon_recorders.specs.declared.happening.Happening.{Happening}
use Rattle.mon_recorders.specs.declared.record.Record.{Record}
use Rattle.mon_recorders.specs.declared.records.Entry.{Entry}
use Rattle.mon_recorders.specs.declared.records.Values.{Values}
use Rattle.mon_recorders.specs.Happenings.{for_tools, record_of}
use Rattle.mon_words.specs.Words.{is_bit}
use Rattle.mon_recorders.proofs.Folds.{for_tools_never}
use Rattle.mon_recorders.specs.Kept.{absent, values_at, kept, AreKept, for_tool, Grown, Placed}

values_same : (vs more : List Values) (n : ℕ) → n ≤ length vs → values_at (vs ++ more) n ≡ values_at vs n
values_same vs more zero h = refl
values_same vs more (suc n) h = get_or_append_left vs more absent n (omega (arith, h))

kept_one : (vs more : List Values) (e : Entry) → e.values ≤ length vs → kept (vs ++ more) e ≡ kept vs e
kept_one vs more e h = ap (λ (v : Values). record { step = e.step; tool = e.tool; event = e.event; code = e.code; at = e.at; dest = e.dest; first = v.first; second = v.second }) (values_same vs more e.values h)

-- the records stay
kept_all : (vs more : List Values) (es : List Entry) → AreKept vs es → map (kept (vs ++ more)) es ≡ map (kept vs) es
kept_all vs more [] h = refl
kept_all vs more (e ∷ es) h = let x = kept_one vs more e h.0 in let y = kept_all vs more es h.1 in λ i. x i ∷ y i

pub kept_same : (vs ws : List Values) (es : List Entry) → Grown vs ws → AreKept vs es → map (kept ws) es ≡ map (kept vs) es
kept_same vs ws es g h = ap (λ w. map (kept w) es) g.is ∙ kept_all vs g.more es h

kept_within : (vs more : List Values) (es : List Entry) → AreKept vs es → AreKept (vs ++ more) es
kept_within vs more [] h = tt
kept_within vs more (e ∷ es) h = (omega (arith, h.0, length-append vs more), kept_within vs more es h.1)

pub still_kept : (vs ws : List Values) (es : List Entry) → Grown vs ws → AreKept vs es → AreKept ws es
still_kept vs ws es g h = subst (λ w. AreKept w es) (sym g.is) (kept_within vs g.more es h)

-- an entry for some tools
tools_of : (P : Bool) (vs : List Values) (es : List Entry) (x : Entry) → AreKept vs es → x.values ≤ length vs → AreKept vs (es ++ cond P (x ∷ []) [])
tools_of true vs [] x h l = (l, tt)
tools_of false vs [] x h l = tt
tools_of P vs (e ∷ es) x h l = (h.0, tools_of P vs es x h.1 l)

all_append : (vs : List Values) (es fs : List Entry) → AreKept vs es → AreKept vs fs → AreKept vs (es ++ fs)
all_append vs [] fs h k = k
all_append vs (e ∷ es) fs h k = (h.0, all_append vs es fs h.1 k)

for_tools_kept : (vs : List Values) (e : Entry) (test : ℕ → Bool) (n : ℕ) → e.values ≤ length vs → AreKept vs (for_tools test (for_tool e) n)
unfolding for_tools
for_tools_kept vs e test zero h = tt
for_tools_kept vs e test (suc n) h = tools_of (test n) vs (for_tools test (for_tool e) n) (for_tool e n) (for_tools_kept vs e test n h) h

pub entries_kept : (vs : List Values) (es : List Entry) (e : Entry) (test : ℕ → Bool) → AreKept vs es → e.values ≤ length vs → AreKept vs (es ++ for_tools test (for_tool e) 6)
entries_kept vs es e test h l = all_append vs es (for_tools test (for_tool e) 6) h (for_tools_kept vs e test 6 l)

one_tool : (b : Bool) (vs : List Values) (x : Entry) (y : Record) → kept vs x ≡ y → map (kept vs) (cond b (x ∷ []) []) ≡ cond b (y ∷ []) []
one_tool true vs x y h = ap (λ z. z ∷ []) h
one_tool false vs x y h = refl

for_tools_records : (vs : List Values) (e : Entry) (make : ℕ → Record) (test : ℕ → Bool) (n : ℕ) → ((t : ℕ) → kept vs (for_tool e t) ≡ make t) → map (kept vs) (for_tools test (for_tool e) n) ≡ for_tools test make n
unfolding for_tools
for_tools_records vs e make test zero h = refl
for_tools_records vs e make test (suc n) h =
    let x = for_tools_records vs e make test n h in let y = one_tool (test n) vs (for_tool e n) (make n) (h n) in
    map-append (kept vs) (for_tools test (for_tool e) n) (cond (test n) (for_tool e n ∷ []) []) ∙ (λ i. x i ++ y i)

pub records_pushed : (vs ws : List Values) (es : List Entry) (step place : ℕ) (event : Happening) (test : ℕ → Bool) → Grown vs ws → AreKept vs es → Placed place ws event.first event.second
    → map (kept ws) (es ++ for_tools test (for_tool (record { step = step; at = event.at; dest = event.dest; values = place; code = event.code; tool = 0; event = event.event })) 6) ≡ map (kept vs) es ++ for_tools test (record_of step event) 6
records_pushed vs ws es step place event test g h p =
    let e : Entry = record { step = step; at = event.at; dest = event.dest; values = place; code = event.code; tool = 0; event = event.event } in
    let x = kept_same vs ws es g h in
    let y = for_tools_records ws e (record_of step event) test 6 (λ t. ap (λ (v : Values). record { step = step; tool = t; event = event.event; code = event.code; at = event.at; dest = event.dest; first = v.first; second = v.second }) p.are) in
    map-append (kept ws) es (for_tools test (for_tool e) 6) ∙ (λ i. x i ++ y i)

-- where no bit of a tool is set
bit_of_rest : (n t : ℕ) → t < 6 → bit_at (n % 2 ^ 6) t ≡ bit_at n t
bit_of_rest n t h = sym (bit_at_cat_low (n / 2 ^ 6) 6 (n % 2 ^ 6) t h) ∙ ap (λ (z : ℕ). bit_at z t) (div-add-mod' n (2 ^ 6))

no_tool : (n t : ℕ) → n % 64 ≡ 0 → t < 6 → is_bit n t ≡ false
no_tool n t e h = ap (λ (z : ℕ). eqb z 1) (sym (bit_of_rest n t h) ∙ (ap (λ (z : ℕ). bit_at z t) e ∙ bit_at-zero t))

pub none_pushed : (rs : List Record) (tools : ℕ) (make : ℕ → Record) → tools % 64 ≡ 0 → rs ≡ rs ++ for_tools (is_bit tools) make 6
none_pushed rs tools make e = sym (ap (λ z. rs ++ z) (for_tools_never (is_bit tools) make 6 (λ t h. no_tool tools t e h)) ∙ append-nil rs)
