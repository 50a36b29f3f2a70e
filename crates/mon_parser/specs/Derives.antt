-- What has a tree: tokens that derive from `item`, with at most 100 brackets open at once, and a tree of at most 256 nodes in depth.
use Rattle.std.specs.Prelude.{◌≡◌, ℕ, ◌≤◌, List, [], ◌∷◌, ◌++◌, Result, Ok, Err}
use Rattle.mon_lexer.specs.declared.token.Token.{Token}
use Rattle.mon_lexer.specs.declared.token.Item.{Item}
use Rattle.mon_parser.specs.declared.refusal.Refusal.{Refusal}
use Rattle.mon_parser.specs.declared.refusal.Refusal.TheVariants as refusal
use Rattle.mon_parser.specs.declared.parser.SyntaxFault.{SyntaxFault}
use Rattle.mon_parser.specs.declared.parser.SyntaxFault.TheVariants as fault
use Rattle.mon_trees.specs.declared.tree.Module.{Module}
use Rattle.mon_trees.specs.declared.tree.ModuleItem.{ModuleItem}
use Rattle.mon_parser.specs.Tokens.{most_open, first_line}
use Rattle.mon_parser.specs.Depth.{item_depth}
use Rattle.mon_parser.specs.Grammar.{IsItem}

pub record Derives (tokens : List Token) (tree : ModuleItem) : Type 0 where
  pub derivation : IsItem tokens tree
  pub brackets : most_open 0 tokens ≤ 100
  pub nodes : item_depth tree ≤ 256

abbrev pub HasTree : List Token → Type 0
HasTree tokens = (tree : ModuleItem) × Derives tokens tree

-- the trees of a module, item by item
abbrev pub DeriveAll : List Item → List ModuleItem → Type 0
DeriveAll [] [] = Unit {0}
DeriveAll (item ∷ items) (tree ∷ trees) = Derives item.tokens tree × DeriveAll items trees
DeriveAll [] (tree ∷ trees) = ⊥
DeriveAll (item ∷ items) [] = ⊥

-- the first item without a tree begins on this line
pub record FirstWithout (items : List Item) (line : ℕ) : Type 0 where
  pub before : List Item
  pub item : Item
  pub after : List Item
  pub place : items ≡ before ++ item ∷ after
  pub trees : List ModuleItem
  pub derive : DeriveAll before trees
  pub none : ¬ HasTree item.tokens
  pub begins : line ≡ first_line item.tokens

-- what `parse` answers: the tree of each item, or the line of the first item that derives none
abbrev pub ParsedAs : List Item → Result Module SyntaxFault → Type 0
ParsedAs items (Ok found) = DeriveAll items found.items
ParsedAs items (Err (fault.Syntax line)) = FirstWithout items line
ParsedAs items (Err fault.Memory) = Unit {0}

-- the same for one item
abbrev pub TreeOf : List Token → Result ModuleItem Refusal → Type 0
TreeOf tokens (Ok tree) = Derives tokens tree
TreeOf tokens (Err refusal.Syntax) = ¬ HasTree tokens
TreeOf tokens (Err refusal.Memory) = Unit {0}
