-- The items of a module, and the first of them without a tree.
use Rattle.std.proofs.Common.{◌≡◌, ℕ, ◌+◌, ◌<◌, ◌≤◌, List, [], ◌∷◌, ◌++◌, length, get_or, take, drop, refl, sym, ap, ◌∙◌, append_assoc, subst}
use Rattle.std.specs.Prelude.{Result, Ok, Err, IsErrAnd}
use Rattle.std.proofs.lemmas.List.{take_more, take_all, take-append-drop}
use Rattle.mon_lexer.specs.declared.token.Token.{Token}
use Rattle.mon_lexer.specs.declared.token.Item.{Item}
use Rattle.mon_parser.specs.declared.parser.SyntaxFault.{SyntaxFault}
use Rattle.mon_parser.specs.declared.parser.SyntaxFault.TheVariants as fault
use Rattle.mon_trees.specs.declared.tree.Module.{Module}
use Rattle.mon_trees.specs.declared.tree.ModuleItem.{ModuleItem}
use Rattle.mon_parser.specs.Tokens.{first_line}
use Rattle.mon_parser.specs.Derives.{Derives, HasTree, DeriveAll, FirstWithout, ParsedAs}
use Rattle.mon_parser.proofs.Trees.{derives_once}

pub all_more : (items : List Item) (trees : List ModuleItem) (item : Item) (tree : ModuleItem) → DeriveAll items trees → Derives item.tokens tree → DeriveAll (items ++ item ∷ []) (trees ++ tree ∷ [])
all_more [] [] item tree all d = (d, tt)
all_more (i ∷ items) (t ∷ trees) item tree all d = (all.0, all_more items trees item tree all.1 d)
all_more [] (t ∷ trees) item tree all d = absurd all
all_more (i ∷ items) [] item tree all d = absurd all

all_once : (items : List Item) (trees others : List ModuleItem) → DeriveAll items trees → DeriveAll items others → trees ≡ others
all_once [] [] [] x y = refl
all_once [] [] (o ∷ others) x y = absurd y
all_once [] (t ∷ trees) others x y = absurd x
all_once (i ∷ items) [] others x y = absurd x
all_once (i ∷ items) (t ∷ trees) [] x y = absurd y
all_once (i ∷ items) (t ∷ trees) (o ∷ others) x y = ap (λ z. z ∷ trees) (derives_once i.tokens t o x.0 y.0) ∙ ap (λ z. o ∷ z) (all_once items trees others x.1 y.1)

-- each item of a list that derives has a tree
one_of_all : (before : List Item) (item : Item) (after : List Item) (trees : List ModuleItem) → DeriveAll (before ++ item ∷ after) trees → HasTree item.tokens
one_of_all [] item after [] x = absurd x
one_of_all [] item after (t ∷ trees) x = (t, x.0)
one_of_all (i ∷ before) item after [] x = absurd x
one_of_all (i ∷ before) item after (t ∷ trees) x = one_of_all before item after trees x.1

not_both : (items : List Item) (trees : List ModuleItem) (line : ℕ) → DeriveAll items trees → FirstWithout items line → ⊥
not_both items trees line x f = f.none (one_of_all f.before f.item f.after trees (subst (λ z. DeriveAll z trees) f.place x))

same_head : {i j : Item} {is js : List Item} → i ∷ is ≡ j ∷ js → i ≡ j
same_head e = cc

same_tail : {i j : Item} {is js : List Item} → i ∷ is ≡ j ∷ js → is ≡ js
same_tail e = cc

-- the first without a tree is the same one
same_first : (before others : List Item) (item another : Item) (after rest : List Item) (trees more : List ModuleItem) → before ++ item ∷ after ≡ others ++ another ∷ rest → DeriveAll before trees → DeriveAll others more → ¬ HasTree item.tokens → ¬ HasTree another.tokens → item ≡ another
same_first [] [] item another after rest trees more e x y n m = same_head e
same_first [] (o ∷ others) item another after rest trees [] e x y n m = absurd y
same_first [] (o ∷ others) item another after rest trees (t ∷ more) e x y n m = absurd (n (subst (λ z. HasTree z.tokens) (sym (same_head e)) (t, y.0)))
same_first (b ∷ before) [] item another after rest [] more e x y n m = absurd x
same_first (b ∷ before) [] item another after rest (t ∷ trees) more e x y n m = absurd (m (subst (λ z. HasTree z.tokens) (same_head e) (t, x.0)))
same_first (b ∷ before) (o ∷ others) item another after rest [] more e x y n m = absurd x
same_first (b ∷ before) (o ∷ others) item another after rest (t ∷ trees) [] e x y n m = absurd y
same_first (b ∷ before) (o ∷ others) item another after rest (t ∷ trees) (u ∷ more) e x y n m = same_first before others item another after rest trees more (same_tail e) x.1 y.1 n m

same_line : (items : List Item) (line other : ℕ) → FirstWithout items line → FirstWithout items other → line ≡ other
same_line items line other f g = f.begins ∙ ap (λ (z : Item). first_line z.tokens) (same_first f.before g.before f.item g.item f.after g.after f.trees g.trees (sym f.place ∙ g.place) f.derive g.derive f.none g.none) ∙ sym g.begins

module_of : (one other : Module) → one.items ≡ other.items → one ≡ other
module_of one other e = ap (λ (z : List ModuleItem). record { items = z }) e

pub parsed_once : (items : List Item) (one other : Result Module SyntaxFault) → ParsedAs items one → ParsedAs items other → ¬ (one ≡ Err fault.Memory) → ¬ (other ≡ Err fault.Memory) → one ≡ other
parsed_once items (Ok a) (Ok b) x y n m = ap (λ (z : Module). Ok z) (module_of a b (all_once items a.items b.items x y))
parsed_once items (Ok a) (Err (fault.Syntax l)) x y n m = absurd (not_both items a.items l x y)
parsed_once items (Ok a) (Err fault.Memory) x y n m = absurd (m refl)
parsed_once items (Err (fault.Syntax l)) (Ok b) x y n m = absurd (not_both items b.items l y x)
parsed_once items (Err (fault.Syntax l)) (Err (fault.Syntax k)) x y n m = ap (λ (z : ℕ). Err (fault.Syntax z)) (same_line items l k x y)
parsed_once items (Err (fault.Syntax l)) (Err fault.Memory) x y n m = absurd (m refl)
parsed_once items (Err fault.Memory) other x y n m = absurd (n refl)

-- the loop over the items: none yet, one more, the first without a tree, and all
pub module_none : (items : List Item) (trees : List ModuleItem) → trees ≡ [] → DeriveAll (take 0 items) trees
module_none items trees e = subst (λ z. DeriveAll (take 0 items) z) (sym e) (nothing items)
  where
    nothing : (items : List Item) → DeriveAll (take 0 items) []
    nothing [] = tt
    nothing (i ∷ items) = tt

pub module_more : (items : List Item) (i : ℕ) (item : Item) (tokens : List Token) (trees new : List ModuleItem) (tree : ModuleItem) → i < length items → item ≡ get_or items i item → tokens ≡ item.tokens → DeriveAll (take i items) trees → Derives tokens tree → new ≡ trees ++ tree ∷ [] → DeriveAll (take (i + 1) items) new
module_more items i item tokens trees new tree h e t all d n =
    let here : take (i + 1) items ≡ take i items ++ item ∷ [] = take_more items i item h ∙ ap (λ z. take i items ++ z ∷ []) (sym e) in
    let own : Derives item.tokens tree = subst (λ z. Derives z tree) t d in
    subst (λ z. DeriveAll z new) (sym here) (subst (λ z. DeriveAll (take i items ++ item ∷ []) z) (sym n) (all_more (take i items) trees item tree all own))

pub module_stops : (items : List Item) (i line : ℕ) (item : Item) (tokens : List Token) (trees : List ModuleItem) → i < length items → item ≡ get_or items i item → tokens ≡ item.tokens → DeriveAll (take i items) trees → ¬ HasTree tokens → line ≡ first_line tokens → FirstWithout items line
module_stops items i line item tokens trees h e t all none l =
    let here : take (i + 1) items ≡ take i items ++ item ∷ [] = take_more items i item h ∙ ap (λ z. take i items ++ z ∷ []) (sym e) in
    let split : items ≡ take i items ++ item ∷ drop (i + 1) items = sym (take-append-drop (i + 1) items) ∙ ap (λ z. z ++ drop (i + 1) items) here ∙ append_assoc (take i items) (item ∷ []) (drop (i + 1) items) in
    record {
      before = take i items;
      item = item;
      after = drop (i + 1) items;
      place = split;
      trees = trees;
      derive = all;
      none = subst (λ z. ¬ HasTree z) t none;
      begins = l ∙ ap first_line t;
    }

pub module_ends : (items : List Item) (i : ℕ) (trees : List ModuleItem) → length items ≤ i → DeriveAll (take i items) trees → DeriveAll items trees
module_ends items i trees h all = subst (λ z. DeriveAll z trees) (take_all i items h) all

pub module_fails : (items : List Item) (result : Result Module SyntaxFault) → IsErrAnd result (λ e. e ≡ fault.Memory) → ParsedAs items result
module_fails items (Ok found) h = absurd h
module_fails items (Err (fault.Syntax line)) h = cc
module_fails items (Err fault.Memory) h = tt
