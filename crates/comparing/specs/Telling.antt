-- The three lines of a report.
use Rattle.std.specs.Prelude.{ℕ, List, ◌++◌, Ok, Err, codes, decimal, Result}
use Rattle.backing.specs.Faults.{number}
use Rattle.backing.specs.declared.fault.Fault.{Fault}
use Rattle.chip.specs.declared.sameness.Comparison.{Comparison}
use Rattle.chip.specs.declared.sameness.Comparison.TheVariants.{Selected, Running, Same, Different}
use Rattle.comparing.specs.declared.Report.{Report}

-- a capture's line: how many records it took, or the refusal and the record that was refused
abbrev pub capture_line : (whose : List ℕ) → Result ℕ Fault → List ℕ
capture_line whose (Ok n) = whose ++ decimal n ++ codes " records\n"
capture_line whose (Err e) = whose ++ codes "refused " ++ decimal (number e.refusal) ++ codes " at " ++ decimal e.«record» ++ codes "\n"

abbrev pub words_of : Comparison → List ℕ
words_of Selected = codes "not compared: selected\n"
words_of Running = codes "not compared: cycle running\n"
words_of Same = codes "same\n"
words_of Different = codes "different\n"

-- the comparison's line; a fault there is one of making, and has no record
abbrev pub comparison_line : Result Comparison Fault → List ℕ
comparison_line (Ok c) = words_of c
comparison_line (Err e) = codes "not compared: refused " ++ decimal (number e.refusal) ++ codes "\n"

abbrev pub told : Report → List ℕ
told r = capture_line (codes "first: ") r.first ++ capture_line (codes "second: ") r.second ++ comparison_line r.comparison
