-- What a text is read as: a module, or why it has none.
use Rattle.std.specs.Prelude.{◌≡◌, ℕ, List, Some, None}
use Rattle.mon_lexer.specs.Top.{lexfault, spelled}
use Rattle.mon_lexer.specs.declared.token.LexFault.{LexFault}
use Rattle.mon_parser.specs.Derives.{DeriveAll, FirstWithout}
use Rattle.mon_trees.specs.declared.tree.Module.{Module}

pub data Reading : Type 0 where
  -- it spells no items
  Misspelled : LexFault → Reading
  -- an item derives no tree: the line of the first token of the first such item
  Underived : ℕ → Reading
  -- each item has its tree
  Parsed : Module → Reading

abbrev pub ReadAs : List ℕ → Reading → Type 0
ReadAs bytes (Misspelled f) = lexfault bytes ≡ Some f
ReadAs bytes (Underived line) = (lexfault bytes ≡ None) × FirstWithout (spelled bytes) line
ReadAs bytes (Parsed m) = (lexfault bytes ≡ None) × DeriveAll (spelled bytes) m.items
