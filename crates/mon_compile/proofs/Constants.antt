-- The nodes of constants, what they weigh and how deep they are.
use Rattle.std.specs.Option.{SomeIff}
use Rattle.std.proofs.Common.{◌⊎◌, inl, inr, ◌≡◌, ℕ, ◌+◌, List, map, true, false, sym, ap, ◌∙◌, max, arith, length}
use Rattle.std.specs.Prelude.{ℤ, [], ◌||◌, ◌≤◌, ◌-◌, ◌<◌, Bool, Option, nat_le, nat_lt, sum, Some, None}
use Rattle.std.proofs.lemmas.Bool.Decides.{nat_tests}
use Rattle.mon_values.specs.Weights.{weight, depth, weight_step, exc_weight_step, depth_step, exc_depth_step, greatest, left_of}
use Rattle.mon_values.specs.declared.value.Value.{Value}
use Rattle.mon_values.specs.declared.value.Value as value
use Rattle.mon_values.specs.declared.value.Value.TheOpen.{Value-F}
use Rattle.mon_values.specs.declared.value.Value.TheFolds.{fold-roll-Value}
use Rattle.mon_values.specs.declared.value.Value.TheViews as views
use Rattle.mon_trees.specs.declared.tree.Constant.{Constant}
use Rattle.mon_trees.specs.declared.tree.Constant as plain
use Rattle.mon_trees.specs.declared.tree.Constant.TheOpen.{Constant-F}
use Rattle.mon_trees.specs.declared.tree.Constant.TheFolds.{fold-Constant, fold-roll-Constant}
use Rattle.mon_trees.specs.declared.tree.Constant.TheViews as written
use Rattle.mon_trees.specs.declared.tree.Expression.{Expression}
use Rattle.mon_trees.specs.declared.tree.Expression as leaf
use Rattle.mon_trees.specs.declared.tree.Expression.TheOpen.{Expression-F}
use Rattle.mon_trees.specs.declared.tree.Expression.TheFolds.{fold-roll-Expression, map-Expression}
use Rattle.mon_trees.specs.declared.tree.Expression.TheViews.{roll-Expression}
use Rattle.mon_trees.specs.declared.tree.Expression.TheViews as leaves
use Rattle.mon_trees.specs.declared.tree.Single.{Single}
use Rattle.mon_compile.specs.Expressions.{single_value}
use Rattle.mon_compile.specs.Faults.{is_large, large_step, has_large}
use Rattle.mon_compile.specs.Modules.{constant_value, constant_value_step}
use Rattle.mon_compile.specs.Nodes.{total}

abbrev nodes_step : Constant-F ℕ → ℕ
nodes_step (Constant-F.Tuple parts) = 1 + total parts
nodes_step _ = 1

abbrev pub constant_nodes : Constant → ℕ
constant_nodes = fold-Constant ℕ nodes_step

weight_tuple : (vs : List Value) → weight (value.Tuple vs) ≡ 1 + sum (map weight vs)
weight_tuple vs = ap weight (sym (views.rolls-Tuple vs)) ∙ fold-roll-Value ℕ ℕ weight_step exc_weight_step (Value-F.Tuple vs)

pub weight_text : (t : List ℕ) → weight (value.Text t) ≡ max 1 (length t)
weight_text t = ap weight (sym (views.rolls-Text t)) ∙ fold-roll-Value ℕ ℕ weight_step exc_weight_step (Value-F.Text t)

pub weight_int : (n : ℤ) → weight (value.Int n) ≡ 1
weight_int n = ap weight (sym (views.rolls-Int n)) ∙ fold-roll-Value ℕ ℕ weight_step exc_weight_step (Value-F.Int n)

pub weight_bool : (b : Bool) → weight (value.Bool b) ≡ 1
weight_bool b = ap weight (sym (views.rolls-Bool b)) ∙ fold-roll-Value ℕ ℕ weight_step exc_weight_step (Value-F.Bool b)

pub weight_none : weight value.None ≡ 1
weight_none = ap weight (sym views.rolls-None) ∙ fold-roll-Value ℕ ℕ weight_step exc_weight_step Value-F.None

pub weight_single : (single : Single) → weight (single_value single) ≡ 1
weight_single Single.None = weight_none
weight_single Single.True = weight_bool true
weight_single Single.False = weight_bool false

pub weight_empty : weight (value.Tuple []) ≡ 1
weight_empty = weight_tuple []

pub integer_weight : (n : ℤ) → weight (constant_value (plain.Integer n)) ≡ 1
integer_weight n = ap weight (ap constant_value (sym (written.rolls-Integer n)) ∙ fold-roll-Constant Value constant_value_step (Constant-F.Integer n)) ∙ weight_int n

pub text_weight : (t : List ℕ) → weight (constant_value (plain.Text t)) ≡ max 1 (length t)
text_weight t = ap weight (ap constant_value (sym (written.rolls-Text t)) ∙ fold-roll-Constant Value constant_value_step (Constant-F.Text t)) ∙ weight_text t

pub single_weight : (single : Single) → weight (constant_value (plain.Single single)) ≡ 1
single_weight single = ap weight (ap constant_value (sym (written.rolls-Single single)) ∙ fold-roll-Constant Value constant_value_step (Constant-F.Single single)) ∙ weight_single single

pub empty_weight : weight (constant_value plain.Empty) ≡ 1
empty_weight = ap weight (ap constant_value (sym written.rolls-Empty) ∙ fold-roll-Constant Value constant_value_step Constant-F.Empty) ∙ weight_empty

pub tuple_weight : (parts : List Constant) → weight (constant_value (written.Tuple parts)) ≡ 1 + sum (map weight (map constant_value parts))
tuple_weight parts = ap weight (ap constant_value (sym (written.rolls-Tuple parts)) ∙ fold-roll-Constant Value constant_value_step (Constant-F.Tuple parts)) ∙ weight_tuple (map constant_value parts)

depth_tuple : (vs : List Value) → depth (value.Tuple vs) ≡ 1 + greatest (map depth vs)
depth_tuple vs = ap depth (sym (views.rolls-Tuple vs)) ∙ fold-roll-Value ℕ ℕ depth_step exc_depth_step (Value-F.Tuple vs)

pub depth_text : (t : List ℕ) → depth (value.Text t) ≡ 0
depth_text t = ap depth (sym (views.rolls-Text t)) ∙ fold-roll-Value ℕ ℕ depth_step exc_depth_step (Value-F.Text t)

pub depth_int : (n : ℤ) → depth (value.Int n) ≡ 0
depth_int n = ap depth (sym (views.rolls-Int n)) ∙ fold-roll-Value ℕ ℕ depth_step exc_depth_step (Value-F.Int n)

pub depth_bool : (b : Bool) → depth (value.Bool b) ≡ 0
depth_bool b = ap depth (sym (views.rolls-Bool b)) ∙ fold-roll-Value ℕ ℕ depth_step exc_depth_step (Value-F.Bool b)

pub depth_none : depth value.None ≡ 0
depth_none = ap depth (sym views.rolls-None) ∙ fold-roll-Value ℕ ℕ depth_step exc_depth_step Value-F.None

pub depth_single : (single : Single) → depth (single_value single) ≡ 0
depth_single Single.None = depth_none
depth_single Single.True = depth_bool true
depth_single Single.False = depth_bool false

pub depth_empty : depth (value.Tuple []) ≡ 1
depth_empty = depth_tuple []

pub integer_depth : (n : ℤ) → depth (constant_value (plain.Integer n)) ≡ 0
integer_depth n = ap depth (ap constant_value (sym (written.rolls-Integer n)) ∙ fold-roll-Constant Value constant_value_step (Constant-F.Integer n)) ∙ depth_int n

pub text_depth : (t : List ℕ) → depth (constant_value (plain.Text t)) ≡ 0
text_depth t = ap depth (ap constant_value (sym (written.rolls-Text t)) ∙ fold-roll-Constant Value constant_value_step (Constant-F.Text t)) ∙ depth_text t

pub single_depth : (single : Single) → depth (constant_value (plain.Single single)) ≡ 0
single_depth single = ap depth (ap constant_value (sym (written.rolls-Single single)) ∙ fold-roll-Constant Value constant_value_step (Constant-F.Single single)) ∙ depth_single single

pub empty_depth : depth (constant_value plain.Empty) ≡ 1
empty_depth = ap depth (ap constant_value (sym written.rolls-Empty) ∙ fold-roll-Constant Value constant_value_step Constant-F.Empty) ∙ depth_empty

pub tuple_depth : (parts : List Constant) → depth (constant_value (written.Tuple parts)) ≡ 1 + greatest (map depth (map constant_value parts))
tuple_depth parts = ap depth (ap constant_value (sym (written.rolls-Tuple parts)) ∙ fold-roll-Constant Value constant_value_step (Constant-F.Tuple parts)) ∙ depth_tuple (map constant_value parts)

pub left_then : (budget w v left : ℕ) → left_of budget w ≡ Some left → left_of budget (w + v) ≡ left_of left v
left_then budget w v left e = grind (arith, nat_tests)

pub none_left : (budget w v : ℕ) → left_of budget w ≡ None → left_of budget (w + v) ≡ None
none_left budget w v e = grind (arith, nat_tests)

-- the greatest of a list within a limit
pub greatest_then : (d rest limit : ℕ) → nat_le d limit ≡ true → nat_le (max d rest) limit ≡ nat_le rest limit
greatest_then d rest limit h = grind (arith, nat_tests)

pub greatest_above : (d rest limit : ℕ) → nat_le d limit ≡ false → nat_le (max d rest) limit ≡ false
greatest_above d rest limit h = grind (arith, nat_tests)

-- whether a weight and a depth are over the limits
abbrev pub over : ℕ → ℕ → Bool
over w d = nat_lt 4096 w || nat_lt 64 d

over_text : (n : ℕ) → nat_lt 4096 n ≡ over (max 1 n) 0
over_text n = grind (arith, nat_tests)

-- a text by its length
pub large_text : (t : List ℕ) → nat_lt 4096 (length t) ≡ is_large (value.Text t)
large_text t = over_text (length t) ∙ ap (λ w. over w 0) (sym (weight_text t)) ∙ ap (λ d. over (weight (value.Text t)) d) (sym (depth_text t))

-- constants that are small
small : (v : Value) (w d : ℕ) → weight v ≡ w → depth v ≡ d → w ≤ 1 → d ≤ 1 → false ≡ is_large v
small v w d ew ed hw hd = let e : false ≡ over w d = grind (arith, nat_tests) in e ∙ ap (λ n. over n d) (sym ew) ∙ ap (λ n. over (weight v) n) (sym ed)

pub small_int : (n : ℤ) → false ≡ is_large (value.Int n)
small_int n = small (value.Int n) 1 0 (weight_int n) (depth_int n) (omega arith) (omega arith)

pub small_single : (single : Single) → false ≡ is_large (single_value single)
small_single single = small (single_value single) 1 0 (weight_single single) (depth_single single) (omega arith) (omega arith)

pub small_empty : false ≡ is_large (value.Tuple [])
small_empty = small (value.Tuple []) 1 1 weight_empty depth_empty (omega arith) (omega arith)

-- what has no parts and is no text
abbrev Small : Constant → Type 0
Small c = ((n : ℤ) × (c ≡ plain.Integer n)) ⊎ (((s : Single) × (c ≡ plain.Single s)) ⊎ (c ≡ plain.Empty))

pub light : (c : Constant) → Small c → weight (constant_value c) ≡ 1
light c (inl p) = ap (λ (x : Constant). weight (constant_value x)) p.1 ∙ integer_weight p.0
light c (inr (inl p)) = ap (λ (x : Constant). weight (constant_value x)) p.1 ∙ single_weight p.0
light c (inr (inr e)) = ap (λ (x : Constant). weight (constant_value x)) e ∙ empty_weight

pub spent : (r : Option ℕ) (budget w : ℕ) → SomeIff r (w ≤ budget) (budget - w) → r ≡ left_of budget w
spent None budget w h = grind (arith, nat_tests)
spent (Some n) budget w h = grind (arith, nat_tests)

pub spent_one : (budget left s : ℕ) → 1 ≤ budget → left ≡ budget - 1 → left_of left s ≡ left_of budget (1 + s)
spent_one budget left s h e = grind (arith, nat_tests)

pub spent_none : (budget s : ℕ) → (1 ≤ budget → ⊥) → None ≡ left_of budget (1 + s)
spent_none budget s h = grind (arith, nat_tests)

-- depths
pub flat_none : (limit : ℕ) → true ≡ nat_le 0 limit
flat_none limit = grind (arith, nat_tests)

pub deep_one : (d limit : ℕ) → 0 < limit → nat_le d (limit - 1) ≡ nat_le (1 + d) limit
deep_one d limit h = grind (arith, nat_tests)

pub deep_none : (d limit : ℕ) → limit ≤ 0 → nat_lt 0 limit ≡ nat_le (1 + d) limit
deep_none d limit h = grind (arith, nat_tests)

pub deep_all : (limit : ℕ) → nat_lt 0 limit ≡ nat_le 1 limit
deep_all limit = grind (arith, nat_tests)

-- what is neither a tuple nor empty
abbrev Flat : Constant → Type 0
Flat c = ((n : ℤ) × (c ≡ plain.Integer n)) ⊎ (((t : List ℕ) × (c ≡ plain.Text t)) ⊎ ((s : Single) × (c ≡ plain.Single s)))

pub flat : (c : Constant) → Flat c → depth (constant_value c) ≡ 0
flat c (inl p) = ap (λ (x : Constant). depth (constant_value x)) p.1 ∙ integer_depth p.0
flat c (inr (inl p)) = ap (λ (x : Constant). depth (constant_value x)) p.1 ∙ text_depth p.0
flat c (inr (inr p)) = ap (λ (x : Constant). depth (constant_value x)) p.1 ∙ single_depth p.0

-- expressions that are small

at_leaf : (z : Expression-F Expression) (e x : Expression) → e ≡ x → x ≡ roll-Expression z → has_large e ≡ large_step (map-Expression Expression Bool has_large z)
at_leaf z e x is rolled = ap has_large (is ∙ rolled) ∙ fold-roll-Expression Bool large_step z

abbrev IsNamed : Expression → Type 0
IsNamed e = ((name : List ℕ) × (e ≡ leaf.Name name)) ⊎ ((n : ℤ) × (e ≡ leaf.Integer n))

pub small_named : (e : Expression) → IsNamed e → false ≡ has_large e
small_named e (inl p) = sym (at_leaf (Expression-F.Name p.0) e (leaf.Name p.0) p.1 (sym (leaves.rolls-Name p.0)))
small_named e (inr p) = small_int p.0 ∙ sym (at_leaf (Expression-F.Integer p.0) e (leaf.Integer p.0) p.1 (sym (leaves.rolls-Integer p.0)))

abbrev IsFixed : Expression → Type 0
IsFixed e = ((single : Single) × (e ≡ leaf.Single single)) ⊎ (e ≡ leaf.Empty)

pub small_fixed : (e : Expression) → IsFixed e → false ≡ has_large e
small_fixed e (inl p) = small_single p.0 ∙ sym (at_leaf (Expression-F.Single p.0) e (leaf.Single p.0) p.1 (sym (leaves.rolls-Single p.0)))
small_fixed e (inr is) = small_empty ∙ sym (at_leaf Expression-F.Empty e leaf.Empty is (sym leaves.rolls-Empty))
