-- The lines of the reports that a plan asks for, as bytes.
use Rattle.std.specs.Prelude.{ℕ, List, [], ◌∷◌, ◌++◌, codes, encode_utf8_all}
use Rattle.std.specs.List.{flat_map}
use Rattle.mon_code.specs.Programs.{Parts}
use Rattle.mon_recorders.specs.Rows.{coverage, rows}
use Rattle.mon_recorders.specs.declared.report.ThreadReport.{ThreadReport}
use Rattle.mon_recorders.specs.declared.rows.Counting.{Counting}
use Rattle.mon_recorders.specs.declared.rows.Row.{Row}
use Rattle.mon_forms.specs.Operands.{report_word}
use Rattle.mon_forms.specs.Texts.{code_text, number_text, numbers_text}
use Rattle.mon_forms.specs.declared.plan.ReportLine.{ReportLine}
use Rattle.mon_forms.specs.declared.plan.ReportKind.{ReportKind}

-- what a report is of: its kind and the tool
abbrev pub asked_text : ReportLine → List ℕ
asked_text line = report_word line.kind ++ number_text line.tool ++ codes " "

-- what is called, behind a space, if a row has it
abbrev pub callable_text : List ℕ → List ℕ
callable_text [] = []
callable_text (c ∷ cs) = codes " " ++ encode_utf8_all (c ∷ cs)

-- what a row has behind its code
abbrev pub counted_text : Row → List ℕ
counted_text row = callable_text row.name ++ numbers_text row.numbers ++ codes "\n"

abbrev pub row_line : Parts → ReportLine → Row → List ℕ
row_line p line row = asked_text line ++ code_text p row.code ++ counted_text row

abbrev pub rows_text : Parts → ReportLine → List Row → List ℕ
rows_text p line all = flat_map (row_line p line) all

-- the rows of a kind of report, of a tool, over all threads
abbrev pub rows_by : ReportKind → ℕ → List ThreadReport → List Row
rows_by ReportKind.Coverage = coverage
rows_by ReportKind.Lines = rows Counting.Lines
rows_by ReportKind.Calls = rows Counting.Calls
rows_by ReportKind.Branches = rows Counting.Branches

abbrev pub rows_of : ReportLine → List ThreadReport → List Row
rows_of line threads = rows_by line.kind line.tool threads

abbrev pub report_rows : Parts → List ThreadReport → ReportLine → List ℕ
report_rows p threads line = rows_text p line (rows_of line threads)

abbrev pub reports_text : Parts → List ThreadReport → List ReportLine → List ℕ
reports_text p threads asked = flat_map (report_rows p threads) asked
