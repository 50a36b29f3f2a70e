-- Items bind names in turn.
use Rattle.std.proofs.Common.{◌≡◌, ℕ, ◌+◌, ◌<◌, ◌||◌, Bool, true, false, List, [], ◌∷◌, ◌++◌, length, take, drop, get_or, refl, ap, sym, ◌∙◌}
use Rattle.std.specs.Prelude.{Option, Some, None, if◌then◌else◌}
use Rattle.std.proofs.lemmas.List.{take_more}
use Rattle.mon_trees.specs.declared.tree.ModuleItem.{ModuleItem}
use Rattle.mon_trees.specs.declared.tree.ModuleItem.TheVariants as item
use Rattle.mon_compile.specs.BoundNames.{item_binds, binds, duplicate_at}
use Rattle.mon_compile.specs.Expressions.{is_local}
use Rattle.mon_compile.specs.Faults.{has_twin, duplicate}
use Rattle.mon_compile.proofs.Parts.{part_next}

-- the names of an item before others
abbrev pub bind : List (List ℕ) → ModuleItem → List (List ℕ)
bind bound (item.Function f) = f.name ∷ bound
bind bound (item.Constant line name c) = name ∷ bound
bind bound (item.Text t) = bound

abbrev pub bind_all : List (List ℕ) → List ModuleItem → List (List ℕ)
bind_all bound [] = bound
bind_all bound (x ∷ items) = bind_all (bind bound x) items

or_apart : (a b c : Bool) → ((a || b) || c) ≡ (b || (a || c))
or_apart true true c = refl
or_apart true false c = refl
or_apart false b c = refl

or_none : (a : Bool) → (a || false) ≡ a
or_none true = refl
or_none false = refl

bind_local : (bound : List (List ℕ)) (x : ModuleItem) (name : List ℕ) → is_local (bind bound x) name ≡ (item_binds x name || is_local bound name)
bind_local bound (item.Function f) name = refl
bind_local bound (item.Constant line n c) name = refl
bind_local bound (item.Text t) name = refl

all_local : (bound : List (List ℕ)) (items : List ModuleItem) (name : List ℕ) → is_local (bind_all bound items) name ≡ (is_local bound name || binds items name)
all_local bound [] name = sym (or_none (is_local bound name))
all_local bound (x ∷ items) name =
    all_local (bind bound x) items name
    ∙ ap (λ b. b || binds items name) (bind_local bound x name)
    ∙ or_apart (item_binds x name) (is_local bound name) (binds items name)

bind_push : (bound : List (List ℕ)) (items : List ModuleItem) (x : ModuleItem) → bind_all bound (items ++ x ∷ []) ≡ bind (bind_all bound items) x
bind_push bound [] x = refl
bind_push bound (y ∷ items) x = bind_push (bind bound y) items x

abbrev or_else : {A : Type 0} → Option A → Option A → Option A
or_else (Some a) b = Some a
or_else None b = b

-- an item behind others
one_more : (before rest : List ModuleItem) (x : ModuleItem) → duplicate (bind_all [] before) (x ∷ rest) ≡ or_else (duplicate_at before x) (duplicate (bind_all [] (before ++ x ∷ [])) rest)
one_more before rest (item.Function f) =
    ap (λ b. if b || has_twin f.parameters then Some f.line else duplicate (f.name ∷ bind_all [] before) rest) (all_local [] before f.name)
    ∙ pick (binds before f.name || has_twin f.parameters) (ap (λ l. duplicate l rest) (sym (bind_push [] before (item.Function f))))
  where
    pick : (b : Bool) {p q : Option ℕ} → p ≡ q → (if b then Some f.line else p) ≡ or_else (if b then Some f.line else None) q
    pick true e = refl
    pick false e = e
one_more before rest (item.Constant line name c) =
    ap (λ b. if b then Some line else duplicate (name ∷ bind_all [] before) rest) (all_local [] before name)
    ∙ pick (binds before name) (ap (λ l. duplicate l rest) (sym (bind_push [] before (item.Constant line name c))))
  where
    pick : (b : Bool) {p q : Option ℕ} → p ≡ q → (if b then Some line else p) ≡ or_else (if b then Some line else None) q
    pick true e = refl
    pick false e = e
one_more before rest (item.Text t) = ap (λ l. duplicate l rest) (sym (bind_push [] before (item.Text t)))

at_next : (items : List ModuleItem) (k : ℕ) (x : ModuleItem) → k < length items → x ≡ get_or items k x
    → duplicate (bind_all [] (take k items)) (drop k items) ≡ or_else (duplicate_at (take k items) x) (duplicate (bind_all [] (take (k + 1) items)) (drop (k + 1) items))
at_next items k x h is =
    ap (λ l. duplicate (bind_all [] (take k items)) l) (part_next items k x h is)
    ∙ one_more (take k items) (drop (k + 1) items) x
    ∙ ap (λ l. or_else (duplicate_at (take k items) x) (duplicate (bind_all [] l) (drop (k + 1) items))) (sym (take_more items k x h ∙ ap (λ y. take k items ++ y ∷ []) (sym is)))

-- an item that binds nothing again
pub no_twin : (items : List ModuleItem) (k : ℕ) (x : ModuleItem) (found : Option ℕ) → k < length items → x ≡ get_or items k x → found ≡ duplicate_at (take k items) x → found ≡ None → duplicate [] items ≡ duplicate (bind_all [] (take k items)) (drop k items)
    → duplicate [] items ≡ duplicate (bind_all [] (take (k + 1) items)) (drop (k + 1) items)
no_twin items k x found h is e none so_far =
    so_far ∙ at_next items k x h is ∙ ap (λ o. or_else o (duplicate (bind_all [] (take (k + 1) items)) (drop (k + 1) items))) (sym e ∙ none)

-- the first that does
pub first_twin : (items : List ModuleItem) (k : ℕ) (x : ModuleItem) (found : Option ℕ) (line : ℕ) → k < length items → x ≡ get_or items k x → found ≡ duplicate_at (take k items) x → found ≡ Some line → duplicate [] items ≡ duplicate (bind_all [] (take k items)) (drop k items)
    → Some line ≡ duplicate [] items
first_twin items k x found line h is e one so_far =
    sym (so_far ∙ at_next items k x h is ∙ ap (λ o. or_else o (duplicate (bind_all [] (take (k + 1) items)) (drop (k + 1) items))) (sym e ∙ one))
