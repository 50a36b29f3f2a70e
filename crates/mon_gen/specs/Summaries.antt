-- The text of a run's summary, as bytes.
use Rattle.std.specs.Prelude.{ℕ, List, ◌++◌, codes, length}
use Rattle.std.specs.Fmt.{decimal}
use Rattle.mon_code.specs.Programs.{Parts}
use Rattle.mon_forms.specs.Reports.{outcome_text}
use Rattle.mon_forms.specs.Texts.{each_from}
use Rattle.mon_recorders.specs.declared.report.ThreadReport.{ThreadReport}

-- the counts of a thread, and how it ended
abbrev pub summary_line : Parts → ℕ → ThreadReport → List ℕ
summary_line p number r = codes "thread " ++ decimal number ++ codes " steps " ++ decimal r.steps ++ codes " records " ++ decimal (length r.records) ++ codes " " ++ outcome_text p r.outcome ++ codes "\n"

-- the threads by their numbers
abbrev pub summary_text : Parts → List ThreadReport → List ℕ
summary_text p threads = each_from (summary_line p) 0 threads
