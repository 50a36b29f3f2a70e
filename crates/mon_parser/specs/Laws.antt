-- Laws of the grammar.
use Rattle.std.specs.Prelude.{◌≡◌, ◌≤◌, ℕ, List, Result, Err}
use Rattle.mon_lexer.specs.declared.token.Token.{Token}
use Rattle.mon_lexer.specs.declared.token.Item.{Item}
use Rattle.mon_parser.specs.declared.parser.SyntaxFault.{SyntaxFault}
use Rattle.mon_parser.specs.declared.parser.SyntaxFault.TheVariants.{Memory}
use Rattle.mon_trees.specs.declared.tree.Expression.{Expression}
use Rattle.mon_trees.specs.declared.tree.Module.{Module}
use Rattle.mon_trees.specs.declared.tree.ModuleItem.{ModuleItem}
use Rattle.mon_parser.specs.Depth.{expr_depth, item_depth}
use Rattle.mon_parser.specs.Grammar.{IsExpr, IsItem}
use Rattle.mon_parser.specs.Nesting.{item_nest}
use Rattle.mon_parser.specs.Derives.{Derives, ParsedAs}
use Rattle.mon_parser.specs.Texts.{Reading, ReadAs}

-- an expression has at most one tree of at most 256 nodes in depth
abbrev pub ExpressionOnce : Type 0
ExpressionOnce = (tokens : List Token) (tree other : Expression) → IsExpr tokens tree → IsExpr tokens other → expr_depth tree ≤ 256 → expr_depth other ≤ 256 → tree ≡ other

-- an item derives at most one tree
abbrev pub ItemOnce : Type 0
ItemOnce = (tokens : List Token) (tree other : ModuleItem) → Derives tokens tree → Derives tokens other → tree ≡ other

-- what the symbol of items derives is a tree of the item exactly where no more than 100 of its brackets stand within each other, and no more than 256 of its nodes
abbrev pub ItemLimits : Type 0
ItemLimits = (tokens : List Token) (tree : ModuleItem) (derivation : IsItem tokens tree) → (Derives tokens tree → (item_nest derivation ≤ 100) × (item_depth tree ≤ 256)) × ((item_nest derivation ≤ 100) × (item_depth tree ≤ 256) → Derives tokens tree)

-- what a text's items are parsed as is determined by the items, unless memory runs out
abbrev pub ParsedOnce : Type 0
ParsedOnce = (items : List Item) (one other : Result Module SyntaxFault) → ParsedAs items one → ParsedAs items other → ¬ (one ≡ Err Memory) → ¬ (other ≡ Err Memory) → one ≡ other

-- every text is read as something
abbrev pub EveryTextRead : Type 0
EveryTextRead = (bytes : List ℕ) → (reading : Reading) × ReadAs bytes reading

-- and as one thing alone
abbrev pub TextsReadOnce : Type 0
TextsReadOnce = (bytes : List ℕ) (one other : Reading) → ReadAs bytes one → ReadAs bytes other → one ≡ other
