-- The least and the greatest of a range.
use Rattle.std.proofs.Common.{◌≡◌, ◌≢◌, ℕ, zero, suc, ◌+◌, ◌-◌, ◌<◌, ◌≤◌, List, ◌∷◌, length, drop, get_or, Bool, true, false, refl, ap, sym, ◌∙◌, arith, rules}
use Rattle.std.specs.Prelude.{Result, Ok, Err, ℤ, pos, negsuc, int_lt, ◌<ℤ◌, ◌≤ℤ◌, ◌&&◌, if◌then◌else◌}
use Rattle.std.specs.Cmp.{int_ranks}
use Rattle.std.specs.Ordering.{int_cmp, MatchOrdering}
use Rattle.std.specs.declared.cmp.Ordering.{Ordering}
use Rattle.std.specs.declared.cmp.Ordering.TheVariants as order
use Rattle.std.proofs.lemmas.Int.{ints}
use Rattle.std.proofs.lemmas.Bool.Decides.{nat_tests}
use Rattle.std.proofs.lemmas.List.{drop_more, drop_all}
use Rattle.std.proofs.Math.Nat.{suc-mul}
use Rattle.mon_values.specs.declared.value.Value.{Value, Int}
use Rattle.mon_values.specs.declared.value.Value.TheOpen.{Value-F}
use Rattle.mon_values.specs.declared.value.Value.TheVariants.{rolls-Int}
use Rattle.mon_values.specs.declared.value.Value.TheViews.{out-Value, the_lemmas}
use Rattle.mon_values.specs.declared.value.Value.TheFolds.{fold-roll-Value}
use Rattle.mon_values.specs.declared.operator.CmpOp.{CmpOp}
use Rattle.mon_values.specs.declared.value.Exc.{Exc}
use Rattle.mon_values.specs.declared.fault.Trouble.{Trouble}
use Rattle.mon_values.specs.Comparing.{compare_of, verdict, verdict_at, verdict_step, exc_verdict_step, by_order, by_verdict, has_order, has_order_at, ordered, Beside, ExcBeside}
use Rattle.mon_values.specs.Arithmetic.{operand_at}
use Rattle.mon_values.specs.Ranges.{range_item, range_length}
use Rattle.mon_values.specs.Troubles.{trouble, not_comparable}
use Rattle.mon_frames.specs.Items.{range_items}
use Rattle.mon_builtins.specs.declared.extreme.Wanted.{Wanted}
use Rattle.mon_builtins.specs.declared.extreme.Wanted.TheVariants.{Least, Greatest}
use Rattle.mon_builtins.specs.Extremes.{best_of, best_among, better, and_on, asked, is_first}

-- a value that each further item leaves in its place is the best
abbrev pub Stays : CmpOp → ℤ → ℤ → ℤ → Type 0
Stays op best start step = (place : ℕ) → 0 < place → compare_of op (Int (range_item start step place)) (Int best) ≡ Ok false

-- each further item takes the place of the one before it
abbrev pub Moves : CmpOp → ℤ → ℤ → Type 0
Moves op start step = (place : ℕ) → compare_of op (Int (range_item start step (place + 1))) (Int (range_item start step place)) ≡ Ok true

pub stays_best : (op : CmpOp) (best start step : ℤ) (place count : ℕ) → Stays op best start step → 0 < place → best_of op (Int best) (range_items start step place count) ≡ Ok (Int best)
unfolding range_items
stays_best op best start step place zero h p = refl
stays_best op best start step place (suc count) h p =
    ap (λ (r : Result Bool Trouble). and_on (better r (Int (range_item start step place)) (Int best)) (λ next. best_of op next (range_items start step (place + 1) count))) (h place p)
    ∙ stays_best op best start step (place + 1) count h (omega arith)

pub moves_best : (op : CmpOp) (start step : ℤ) (place count : ℕ) → Moves op start step → best_of op (Int (range_item start step place)) (range_items start step (place + 1) count) ≡ Ok (Int (range_item start step (place + count)))
unfolding range_items
moves_best op start step place zero h = let e : place ≡ place + 0 = omega arith in ap (λ k. Ok (Int (range_item start step k))) e
moves_best op start step place (suc count) h =
    let e : place + 1 + count ≡ place + suc count = omega arith in
    ap (λ (r : Result Bool Trouble). and_on (better r (Int (range_item start step (place + 1))) (Int (range_item start step place))) (λ next. best_of op next (range_items start step (place + 1 + 1) count))) (h place)
    ∙ moves_best op start step (place + 1) count h
    ∙ ap (λ k. Ok (Int (range_item start step k))) e

-- a turn of the loop over the further values
split : (xs : List Value) (i : ℕ) (x : Value) → i < length xs → x ≡ get_or xs i x → drop i xs ≡ x ∷ drop (i + 1) xs
split xs i x h e = drop_more xs i x h ∙ ap (λ y. y ∷ drop (i + 1) xs) (sym e)

pub best_next : (op : CmpOp) (best x : Value) (xs : List Value) (i : ℕ) (r : Result Bool Trouble) → i < length xs → x ≡ get_or xs i x → r ≡ compare_of op x best → best_of op best (drop i xs) ≡ and_on (better r x best) (λ next. best_of op next (drop (i + 1) xs))
best_next op best x xs i r h e c =
    ap (λ l. best_of op best l) (split xs i x h e)
    ∙ ap (λ (q : Result Bool Trouble). and_on (better q x best) (λ next. best_of op next (drop (i + 1) xs))) (sym c)

pub best_end : (op : CmpOp) (best : Value) (xs : List Value) (i : ℕ) → length xs ≤ i → best_of op best (drop i xs) ≡ Ok best
best_end op best xs i h = ap (λ l. best_of op best l) (drop_all i xs h)

-- integers beside each other
out_int : (a : ℤ) → out-Value (Int a) ≡ Value-F.Int a
out_int a = search (rules, the_lemmas)

verdict_ints : (a b : ℤ) → verdict (Int a) (Int b) ≡ by_order (int_cmp a b)
verdict_ints a b =
    ap (λ v. verdict v (Int b)) (sym (rolls-Int a))
    ∙ ap (λ (f : Beside). f (Int b)) (fold-roll-Value Beside ExcBeside verdict_step exc_verdict_step (Value-F.Int a))
    ∙ ap (λ (o : Value-F Value Exc). verdict_at (Value-F.Int a) o) (out_int b)

has_order_int : (a : ℤ) → has_order (Int a) ≡ true
has_order_int a = ap (λ (o : Value-F Value Exc). has_order_at (operand_at o)) (out_int a)

ordered_ints : (a b : ℤ) (answer : Result Bool Trouble) → ordered (Int a) (Int b) answer ≡ answer
ordered_ints a b answer =
    ap (λ (x : Bool). if x && has_order (Int b) then answer else Err not_comparable) (has_order_int a)
    ∙ ap (λ (x : Bool). if x then answer else Err not_comparable) (has_order_int b)

less : (r : Ordering) (a b : ℤ) → MatchOrdering r (a <ℤ b) (a ≡ b) (b <ℤ a) → a <ℤ b → r ≡ order.Less
less order.Less a b m h = refl
less order.Equal a b m h = absurd (omega (arith, ints, m, h))
less order.Greater a b m h = absurd (omega (arith, ints, m, h))

not_less : (r : Ordering) (a b : ℤ) → MatchOrdering r (a <ℤ b) (a ≡ b) (b <ℤ a) → b ≤ℤ a → by_verdict true false false (by_order r) ≡ Ok false
not_less order.Less a b m h = absurd (omega (arith, ints, m, h))
not_less order.Equal a b m h = refl
not_less order.Greater a b m h = refl

greater : (r : Ordering) (a b : ℤ) → MatchOrdering r (a <ℤ b) (a ≡ b) (b <ℤ a) → b <ℤ a → r ≡ order.Greater
greater order.Less a b m h = absurd (omega (arith, ints, m, h))
greater order.Equal a b m h = absurd (omega (arith, ints, m, h))
greater order.Greater a b m h = refl

not_greater : (r : Ordering) (a b : ℤ) → MatchOrdering r (a <ℤ b) (a ≡ b) (b <ℤ a) → a ≤ℤ b → by_verdict false false true (by_order r) ≡ Ok false
not_greater order.Less a b m h = refl
not_greater order.Equal a b m h = refl
not_greater order.Greater a b m h = absurd (omega (arith, ints, m, h))

below : (a b : ℤ) → a <ℤ b → compare_of CmpOp.Lt (Int a) (Int b) ≡ Ok true
below a b h = ordered_ints a b (by_verdict true false false (verdict (Int a) (Int b))) ∙ ap (λ v. by_verdict true false false v) (verdict_ints a b ∙ ap by_order (less (int_cmp a b) a b (int_ranks a b) h))

not_below : (a b : ℤ) → b ≤ℤ a → compare_of CmpOp.Lt (Int a) (Int b) ≡ Ok false
not_below a b h = ordered_ints a b (by_verdict true false false (verdict (Int a) (Int b))) ∙ ap (λ v. by_verdict true false false v) (verdict_ints a b) ∙ not_less (int_cmp a b) a b (int_ranks a b) h

above : (a b : ℤ) → b <ℤ a → compare_of CmpOp.Gt (Int a) (Int b) ≡ Ok true
above a b h = ordered_ints a b (by_verdict false false true (verdict (Int a) (Int b))) ∙ ap (λ v. by_verdict false false true v) (verdict_ints a b ∙ ap by_order (greater (int_cmp a b) a b (int_ranks a b) h))

not_above : (a b : ℤ) → a ≤ℤ b → compare_of CmpOp.Gt (Int a) (Int b) ≡ Ok false
not_above a b h = ordered_ints a b (by_verdict false false true (verdict (Int a) (Int b))) ∙ ap (λ v. by_verdict false false true v) (verdict_ints a b) ∙ not_greater (int_cmp a b) a b (int_ranks a b) h

-- the integers of a range rise or fall
item_zero : (start step : ℤ) → range_item start step 0 ≡ start
item_zero start (pos n) = omega (arith, ints)
item_zero start (negsuc n) = omega (arith, ints)

rises : (start step : ℤ) (place : ℕ) → pos 0 <ℤ step → range_item start step place <ℤ range_item start step (place + 1)
rises start (pos n) place h = omega (arith, ints, suc-mul place n)
rises start (negsuc n) place h = absurd (omega (arith, ints))

falls : (start step : ℤ) (place : ℕ) → step <ℤ pos 0 → range_item start step (place + 1) <ℤ range_item start step place
falls start (pos n) place h = absurd (omega (arith, ints))
falls start (negsuc n) place h = omega (arith, ints, suc-mul place (suc n))

not_under : (start step : ℤ) (place : ℕ) → pos 0 <ℤ step → start ≤ℤ range_item start step place
not_under start (pos n) place h = omega (arith, ints)
not_under start (negsuc n) place h = absurd (omega (arith, ints))

not_over : (start step : ℤ) (place : ℕ) → step ≤ℤ pos 0 → range_item start step place ≤ℤ start
not_over start (pos zero) place h = omega (arith, ints)
not_over start (pos (suc n)) place h = absurd (omega (arith, ints))
not_over start (negsuc n) place h = omega (arith, ints)

positive : (step : ℤ) → int_lt (pos 0) step ≡ true → pos 0 <ℤ step
positive (pos zero) e = absurd cc
positive (pos (suc n)) e = omega (arith, ints)
positive (negsuc n) e = absurd cc

first_rising : (n : ℕ) → is_first Greatest (pos (suc n)) ≡ true → ⊥
first_rising n e = grind (arith, nat_tests)

last_rising : (n : ℕ) → is_first Least (pos (suc n)) ≡ false → ⊥
last_rising n e = grind (arith, nat_tests)

stays : (wanted : Wanted) (start step : ℤ) → is_first wanted step ≡ true → Stays (asked wanted) start start step
stays Least start (pos zero) e place p = absurd cc
stays Least start (pos (suc n)) e place p = not_below (range_item start (pos (suc n)) place) start (not_under start (pos (suc n)) place (omega (arith, ints)))
stays Least start (negsuc n) e place p = absurd cc
stays Greatest start (pos zero) e place p = not_above (range_item start (pos zero) place) start (not_over start (pos zero) place (omega (arith, ints)))
stays Greatest start (pos (suc n)) e place p = absurd (first_rising n e)
stays Greatest start (negsuc n) e place p = not_above (range_item start (negsuc n) place) start (not_over start (negsuc n) place (omega (arith, ints)))

moves : (wanted : Wanted) (start step : ℤ) → step ≢ pos 0 → is_first wanted step ≡ false → Moves (asked wanted) start step
moves Least start (pos zero) z e place = absurd (z refl)
moves Least start (pos (suc n)) z e place = absurd (last_rising n e)
moves Least start (negsuc n) z e place = below (range_item start (negsuc n) (place + 1)) (range_item start (negsuc n) place) (falls start (negsuc n) place (omega (arith, ints)))
moves Greatest start (pos zero) z e place = absurd (z refl)
moves Greatest start (pos (suc n)) z e place = above (range_item start (pos (suc n)) (place + 1)) (range_item start (pos (suc n)) place) (rises start (pos (suc n)) place (omega (arith, ints)))
moves Greatest start (negsuc n) z e place = absurd cc

pub best_first : (wanted : Wanted) (start step : ℤ) (count : ℕ) → 0 < count → is_first wanted step ≡ true → best_among (asked wanted) (range_items start step 0 count) ≡ Ok (Int start)
unfolding range_items
best_first wanted start step zero h e = absurd (omega arith)
best_first wanted start step (suc n) h e =
    ap (λ z. best_of (asked wanted) (Int z) (range_items start step 1 n)) (item_zero start step)
    ∙ stays_best (asked wanted) start start step 1 n (stays wanted start step e) (omega arith)

pub best_last : (wanted : Wanted) (start step : ℤ) (count : ℕ) → 0 < count → step ≢ pos 0 → is_first wanted step ≡ false → best_among (asked wanted) (range_items start step 0 count) ≡ Ok (Int (range_item start step (count - 1)))
unfolding range_items
best_last wanted start step zero h z e = absurd (omega arith)
best_last wanted start step (suc n) h z e =
    let at : 0 + n ≡ suc n - 1 = omega arith in
    moves_best (asked wanted) start step 0 n (moves wanted start step z e) ∙ ap (λ k. Ok (Int (range_item start step k))) at

-- a range that has an integer has a step
pub has_step : (start stop step : ℤ) → 0 < range_length start stop step → step ≢ pos 0
has_step start stop step h e = let none : range_length start stop step ≡ 0 = ap (λ s. range_length start stop s) e in absurd (omega arith)

pub best_none : (wanted : Wanted) (start stop step : ℤ) → range_length start stop step ≡ 0 → best_among (asked wanted) (range_items start step 0 (range_length start stop step)) ≡ Err (trouble 13)
unfolding range_items
best_none wanted start stop step e = ap (λ n. best_among (asked wanted) (range_items start step 0 n)) e
