-- The faults of FILE, of its module and of PLAN, and the lines that name them.
use Rattle.std.specs.Prelude.{ℕ, List, [], ◌++◌, Option, Some, None, Result, Ok, Err, codes}
use Rattle.std.specs.Fmt.{decimal}
use Rattle.mon_lexer.specs.declared.token.LexFault.{LexFault}
use Rattle.mon_lexer.specs.declared.token.LexFault.TheVariants as lexical
use Rattle.mon_forms.specs.declared.plan.PlanKind.{PlanKind}
use Rattle.mon_compile.specs.declared.fault.CompileFault.{CompileFault}
use Rattle.mon_compile.specs.declared.fault.CompileFault.TheVariants as compile
use Rattle.mon_parser.specs.Texts.{ReadAs, Misspelled, Underived, Parsed}
use Rattle.mon_parser.specs.declared.parser.SyntaxFault.{SyntaxFault}
use Rattle.mon_parser.specs.declared.parser.SyntaxFault.TheVariants as syntax
use Rattle.mon_trees.specs.declared.tree.Module.{Module}
use Rattle.mon_main.specs.declared.source.SourceFault.{SourceFault}
use Rattle.mon_main.specs.declared.source.SourceFault.TheVariants as fault

-- the offset of a byte counts from 0, a line from 1; no text has want of memory for its fault
abbrev pub misspelled_line : LexFault → List ℕ
misspelled_line (lexical.NotUtf8 offset) = codes "source NotUtf8 " ++ decimal offset ++ codes "\n"
misspelled_line (lexical.BadChar line) = codes "source BadChar " ++ decimal line ++ codes "\n"
misspelled_line (lexical.BadIndent line) = codes "source BadIndent " ++ decimal line ++ codes "\n"
misspelled_line (lexical.BadNumber line) = codes "source BadNumber " ++ decimal line ++ codes "\n"
misspelled_line (lexical.BadText line) = codes "source BadText " ++ decimal line ++ codes "\n"
misspelled_line lexical.TooLong = codes "source TooLong\n"
misspelled_line lexical.Memory = []

abbrev pub underived_line : ℕ → List ℕ
underived_line line = codes "source Syntax " ++ decimal line ++ codes "\n"

-- a module's fault; want of memory has no line
abbrev pub uncompiled_line : CompileFault → List ℕ
uncompiled_line (compile.DuplicateName line) = codes "source DuplicateName " ++ decimal line ++ codes "\n"
uncompiled_line (compile.Misplaced line) = codes "source Misplaced " ++ decimal line ++ codes "\n"
uncompiled_line (compile.TooLarge line) = codes "source TooLarge " ++ decimal line ++ codes "\n"
uncompiled_line compile.TooManyLocations = codes "source TooManyLocations\n"
uncompiled_line compile.Memory = []

abbrev pub kind_word : PlanKind → List ℕ
kind_word PlanKind.Word = codes "Word"
kind_word PlanKind.Order = codes "Order"
kind_word PlanKind.TooMany = codes "TooMany"
kind_word PlanKind.Number = codes "Number"
kind_word PlanKind.Name = codes "Name"

-- the first faulty line of PLAN
abbrev pub plan_line : ℕ → PlanKind → List ℕ
plan_line line kind = codes "plan " ++ decimal line ++ codes " " ++ kind_word kind ++ codes "\n"

-- want of memory has no line
abbrev pub fault_line : SourceFault → Option (List ℕ)
fault_line (fault.Misspelled f) = Some (misspelled_line f)
fault_line (fault.Underived line) = Some (underived_line line)
fault_line fault.Memory = None

-- what the faults of the lexer and of the parser are for a file
abbrev pub of_lexer : LexFault → SourceFault
of_lexer lexical.Memory = fault.Memory
of_lexer f = fault.Misspelled f

abbrev pub of_parser : SyntaxFault → SourceFault
of_parser (syntax.Syntax line) = fault.Underived line
of_parser syntax.Memory = fault.Memory

-- a text is read so; or memory is wanting
abbrev pub ModuleOf : Result Module SourceFault → List ℕ → Type 0
ModuleOf (Ok m) text = ReadAs text (Parsed m)
ModuleOf (Err (fault.Misspelled f)) text = ReadAs text (Misspelled f)
ModuleOf (Err (fault.Underived line)) text = ReadAs text (Underived line)
ModuleOf (Err fault.Memory) text = Unit {0}
