-- What the reader of items gives is what the code answers.
use Rattle.std.proofs.Common.{◌≡◌, ℕ, ◌≤◌, List, [], length, sym, ap, ◌∙◌}
use Rattle.std.specs.Prelude.{Some, None, Result, Ok, Err, IsErrAnd}
use Rattle.mon_lexer.specs.declared.token.Token.{Token}
use Rattle.mon_parser.specs.declared.refusal.Refusal.{Refusal}
use Rattle.mon_parser.specs.declared.refusal.Refusal.TheVariants.{Syntax, Memory}
use Rattle.mon_trees.specs.declared.tree.ModuleItem.{ModuleItem}
use Rattle.mon_parser.specs.Tokens.{most_open}
use Rattle.mon_parser.specs.Statements.{read_item}
use Rattle.mon_parser.specs.ItemReadings.{at_item}
use Rattle.mon_parser.specs.Derives.{Derives, HasTree, TreeOf}
use Rattle.mon_parser.proofs.Left.{some_pair}
use Rattle.mon_parser.proofs.Trees.{tree_read, read_derives, no_reading}

at_item_is : (tokens start : List Token) (b : ℕ) → b ≡ length tokens → start ≡ tokens → at_item b start ≡ read_item (length tokens) tokens
unfolding at_item
at_item_is tokens start b e s = ap (λ n. read_item n start) e ∙ ap (λ z. read_item (length tokens) z) s

pub tree_refused : (tokens start : List Token) (b : ℕ) (result : Result ModuleItem Refusal) (f : Refusal) → b ≡ length tokens → start ≡ tokens → IsErrAnd result (λ e. e ≡ f) → (f ≡ Syntax → at_item b start ≡ None) → TreeOf tokens result
tree_refused tokens start b (Ok tree) f e s h n = absurd h
tree_refused tokens start b (Err Syntax) f e s h n = no_reading tokens (sym (at_item_is tokens start b e s) ∙ n (sym h))
tree_refused tokens start b (Err Memory) f e s h n = tt

pub tree_whole : (tokens start rest : List Token) (b : ℕ) (tree : ModuleItem) → b ≡ length tokens → start ≡ tokens → most_open 0 tokens ≤ 100 → at_item b start ≡ Some (tree, rest) → rest ≡ [] → Derives tokens tree
tree_whole tokens start rest b tree e s h r n = read_derives tokens tree h (sym (at_item_is tokens start b e s) ∙ r ∙ ap (λ z. Some (tree, z)) n)

pub tree_left : (tokens start rest : List Token) (b : ℕ) (tree : ModuleItem) → b ≡ length tokens → start ≡ tokens → at_item b start ≡ Some (tree, rest) → (rest ≡ [] → ⊥) → ¬ HasTree tokens
tree_left tokens start rest b tree e s r n has = n (some_pair tree has.0 rest [] (sym r ∙ at_item_is tokens start b e s ∙ tree_read tokens has.0 has.1)).1
