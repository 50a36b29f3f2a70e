-- What answers a text or a tuple that is made.
use Rattle.std.proofs.Common.{◌≡◌, ℕ, ◌+◌, ◌-◌, ◌*◌, ◌<◌, ◌≤◌, List, [], ◌++◌, length, map, max, Bool, true, false, Option, Some, None, Result, Ok, Err, refl, ap, sym, subst, ◌∙◌, arith}
use Rattle.std.specs.Prelude.{sum, nat_le}
use Rattle.std.specs.List.{repeat}
use Rattle.std.proofs.lemmas.Bool.Decides.{nat_tests}
use Rattle.mon_values.specs.declared.fault.ArithFault.TheVariants as arith_fault
use Rattle.mon_values.specs.declared.fault.Trouble.{Trouble}
use Rattle.mon_values.specs.declared.value.Value.{Value, Text, Tuple}
use Rattle.mon_values.specs.declared.value.Value.TheOpen.{Value-F}
use Rattle.mon_values.specs.declared.value.Value.TheVariants.{rolls-Text, rolls-Tuple}
use Rattle.mon_values.specs.declared.value.Value.TheFolds.{fold-roll-Value}
use Rattle.mon_values.specs.Answers.{AnswersArith}
use Rattle.mon_values.specs.Troubles.{too_large, nested_too_deeply}
use Rattle.mon_values.specs.Weights.{weight, depth, weight_step, exc_weight_step, depth_step, exc_depth_step, greatest, made, within_limits, left_of}
use Rattle.mon_values.proofs.Weighing.{length_repeat, sum_repeat, greatest_repeat, greatest_map_append, product_above, sum_append}

pub weight_text : (t : List ℕ) → weight (Text t) ≡ max 1 (length t)
weight_text t = ap weight (sym (rolls-Text t)) ∙ fold-roll-Value ℕ ℕ weight_step exc_weight_step (Value-F.Text t)

pub depth_text : (t : List ℕ) → depth (Text t) ≡ 0
depth_text t = ap depth (sym (rolls-Text t)) ∙ fold-roll-Value ℕ ℕ depth_step exc_depth_step (Value-F.Text t)

pub weight_tuple : (items : List Value) → weight (Tuple items) ≡ 1 + sum (map weight items)
weight_tuple items = ap weight (sym (rolls-Tuple items)) ∙ fold-roll-Value ℕ ℕ weight_step exc_weight_step (Value-F.Tuple items)

pub depth_tuple : (items : List Value) → depth (Tuple items) ≡ 1 + greatest (map depth items)
depth_tuple items = ap depth (sym (rolls-Tuple items)) ∙ fold-roll-Value ℕ ℕ depth_step exc_depth_step (Value-F.Tuple items)

pub within : {A : Type 0} (w d : ℕ) (x : A) → w ≤ 4096 → d ≤ 64 → within_limits w d x ≡ Ok x
within w d x h k = grind (arith, nat_tests)

pub heavy : {A : Type 0} (w d : ℕ) (x : A) → 4096 < w → within_limits w d x ≡ Err too_large
heavy w d x h = grind (arith, nat_tests)

pub deep : {A : Type 0} (w d : ℕ) (x : A) → w ≤ 4096 → 64 < d → within_limits w d x ≡ Err nested_too_deeply
deep w d x h k = grind (arith, nat_tests)

pub text_made : (t : List ℕ) → length t ≤ 4096 → made (Text t) ≡ Ok (Text t)
text_made t h = within (weight (Text t)) (depth (Text t)) (Text t) (omega (arith, weight_text t)) (omega (arith, depth_text t))

pub text_heavy : (t : List ℕ) → 4096 < length t → made (Text t) ≡ Err too_large
text_heavy t h = heavy (weight (Text t)) (depth (Text t)) (Text t) (omega (arith, weight_text t))

pub tuple_made : (items : List Value) → sum (map weight items) ≤ 4095 → greatest (map depth items) ≤ 63 → made (Tuple items) ≡ Ok (Tuple items)
tuple_made items h k = within (weight (Tuple items)) (depth (Tuple items)) (Tuple items) (omega (arith, weight_tuple items)) (omega (arith, depth_tuple items))

pub tuple_heavy : (items : List Value) → 4095 < sum (map weight items) → made (Tuple items) ≡ Err too_large
tuple_heavy items h = heavy (weight (Tuple items)) (depth (Tuple items)) (Tuple items) (omega (arith, weight_tuple items))

pub tuple_deep : (items : List Value) → sum (map weight items) ≤ 4095 → 63 < greatest (map depth items) → made (Tuple items) ≡ Err nested_too_deeply
tuple_deep items h k = deep (weight (Tuple items)) (depth (Tuple items)) (Tuple items) (omega (arith, weight_tuple items)) (omega (arith, depth_tuple items))

-- the answer where the due one is known
pub refused : {due : Result Value Trouble} {t : Trouble} → due ≡ Err t → AnswersArith (Err (arith_fault.Trouble t)) due
refused {due} {t} e = subst (λ d. AnswersArith (Err (arith_fault.Trouble t)) d) (sym e) refl

pub given : {due : Result Value Trouble} {v w : Value} → due ≡ Ok w → v ≡ w → AnswersArith (Ok v) due
given {due} {v} {w} e h = subst (λ d. AnswersArith (Ok v) d) (sym e) h

pub test_true : (a b : ℕ) (t : Bool) → t ≡ nat_le a b → t ≡ true → a ≤ b
test_true a b t e h = grind (arith, nat_tests)

pub test_false : (a b : ℕ) (t : Bool) → t ≡ nat_le a b → t ≡ false → b < a
test_false a b t e h = grind (arith, nat_tests)

pub left_some : (budget w left : ℕ) (r : Option ℕ) → r ≡ left_of budget w → r ≡ Some left → budget ≡ w + left
left_some budget w left r e h = grind (arith, nat_tests)

pub left_none : (budget w : ℕ) (r : Option ℕ) → r ≡ left_of budget w → r ≡ None → budget < w
left_none budget w r e h = grind (arith, nat_tests)

pub tuple_empty : (items : List Value) → items ≡ [] → made (Tuple items) ≡ Ok (Tuple items)
tuple_empty items e =
    let w : sum (map weight items) ≡ 0 = ap (λ l. sum (map weight l)) e in
    let d : greatest (map depth items) ≡ 0 = ap (λ l. greatest (map depth l)) e in
    tuple_made items (omega arith) (omega arith)

pub text_repeated : (n k : ℕ) (t : List ℕ) (fits : Bool) → k ≡ length t → fits ≡ nat_le (n * k) 4096 → fits ≡ true → made (Text (repeat n t)) ≡ Ok (Text (repeat n t))
text_repeated n k t fits e r h =
    let same : n * k ≡ n * length t = ap (λ m. n * m) e in
    text_made (repeat n t) (omega (arith, length_repeat n t, test_true (n * k) 4096 fits r h))

pub text_too_large : (n k : ℕ) (t : List ℕ) (fits : Bool) → k ≡ length t → fits ≡ nat_le (n * k) 4096 → fits ≡ false → made (Text (repeat n t)) ≡ Err too_large
text_too_large n k t fits e r h =
    let same : n * k ≡ n * length t = ap (λ m. n * m) e in
    text_heavy (repeat n t) (omega (arith, length_repeat n t, test_false (n * k) 4096 fits r h))

pub items_too_large : (n : ℕ) (items : List Value) (left : Option ℕ) → 0 < n → left ≡ left_of 4095 (sum (map weight items)) → left ≡ None → made (Tuple (repeat n items)) ≡ Err too_large
items_too_large n items left p l h =
    tuple_heavy (repeat n items) (omega (arith, sum_repeat weight n items, left_none 4095 (sum (map weight items)) left l h, product_above n (sum (map weight items)) p))

-- the weight of the items, as what their budget has less
spent : (items : List Value) (r : Option ℕ) (left : ℕ) → r ≡ left_of 4095 (sum (map weight items)) → r ≡ Some left → 4095 - left ≡ sum (map weight items)
spent items r left l h = omega (arith, left_some 4095 (sum (map weight items)) left r l h)

pub product_too_large : (n : ℕ) (items : List Value) (r : Option ℕ) (left : ℕ) (fits : Bool) → r ≡ left_of 4095 (sum (map weight items)) → r ≡ Some left → fits ≡ nat_le (n * (4095 - left)) 4095 → fits ≡ false → made (Tuple (repeat n items)) ≡ Err too_large
product_too_large n items r left fits l h f k =
    let same : n * (4095 - left) ≡ n * sum (map weight items) = ap (λ m. n * m) (spent items r left l h) in
    tuple_heavy (repeat n items) (omega (arith, sum_repeat weight n items, test_false (n * (4095 - left)) 4095 fits f k))

-- a tuple that is made, by the tests of its weight and its depth
pub items_heavy : (items : List Value) (r : Option ℕ) → r ≡ left_of 4095 (sum (map weight items)) → r ≡ None → made (Tuple items) ≡ Err too_large
items_heavy items r l h = tuple_heavy items (left_none 4095 (sum (map weight items)) r l h)

pub items_deep : (items : List Value) (r : Option ℕ) (left : ℕ) (s : Bool) → r ≡ left_of 4095 (sum (map weight items)) → r ≡ Some left → s ≡ nat_le (greatest (map depth items)) 63 → s ≡ false → made (Tuple items) ≡ Err nested_too_deeply
items_deep items r left s l h d e = tuple_deep items (omega (arith, left_some 4095 (sum (map weight items)) left r l h)) (test_false (greatest (map depth items)) 63 s d e)

pub items_made : (items : List Value) (r : Option ℕ) (left : ℕ) (s : Bool) → r ≡ left_of 4095 (sum (map weight items)) → r ≡ Some left → s ≡ nat_le (greatest (map depth items)) 63 → s ≡ true → made (Tuple items) ≡ Ok (Tuple items)
items_made items r left s l h d e = tuple_made items (omega (arith, left_some 4095 (sum (map weight items)) left r l h)) (test_true (greatest (map depth items)) 63 s d e)
