-- The lines of a report.
use Rattle.std.proofs.Common.{◌≡◌, ℕ, ◌+◌, ◌^◌, ◌<◌, ◌≤◌, List, ◌++◌, length, Ok, Err, codes, decimal, Result, append_assoc, arith, lit<}
use Rattle.std.proofs.lemmas.Fmt.{length-decimal-le}
use Rattle.std.proofs.lemmas.List.{length-append}
use Rattle.text.specs.Writers.{Holds}
use Rattle.text.specs.declared.writer.Writer.{Writer}
use Rattle.backing.specs.Faults.{number}
use Rattle.backing.specs.declared.refusal.Refusal.{Refusal}
use Rattle.backing.specs.declared.refusal.Refusal.TheVariants.{ShortBacking}
use Rattle.backing.specs.declared.fault.Fault.{Fault}
use Rattle.chip.specs.declared.sameness.Comparison.{Comparison}
use Rattle.chip.specs.declared.sameness.Comparison.TheVariants.{Selected}
use Rattle.comparing.specs.declared.Report.{Report}
use Rattle.comparing.specs.Telling.{capture_line, comparison_line, words_of, told}

pub taken_line : (b t whose : List ℕ) (n : ℕ) (answer : Result ℕ Fault) (w : Writer) → answer ≡ Ok n → Holds b (((t ++ whose) ++ decimal n) ++ codes " records\n") w → Holds b (t ++ capture_line whose answer) w
taken_line b t whose n answer w e h = rw e (simp append_assoc (simp append_assoc at h))

pub refused_line : (b t whose : List ℕ) (k : ℕ) (f : Fault) (answer : Result ℕ Fault) (w : Writer) → answer ≡ Err f → k ≡ number f.refusal → Holds b ((((((t ++ whose) ++ codes "refused ") ++ decimal k) ++ codes " at ") ++ decimal f.«record») ++ codes "\n") w → Holds b (t ++ capture_line whose answer) w
refused_line b t whose k f answer w e n h = rw (e, ← n) (simp append_assoc (simp append_assoc at h))

pub faulty_line : (b t : List ℕ) (k : ℕ) (f : Fault) (answer : Result Comparison Fault) (w : Writer) → answer ≡ Err f → k ≡ number f.refusal → Holds b (((t ++ codes "not compared: refused ") ++ decimal k) ++ codes "\n") w → Holds b (t ++ comparison_line answer) w
faulty_line b t k f answer w e n h = rw (e, ← n) (simp append_assoc at h)

-- a number of 64 bits has at most twenty digits
decimal_short : (n : ℕ) → n < 2 ^ 64 → length (decimal n) ≤ 20
decimal_short n h = length-decimal-le 20 n (omega arith) (omega arith) h

number_small : (r : Refusal) → number r < 100
number_small ShortBacking = lit< tt
number_small r = lit< tt

number_short : (r : Refusal) → length (decimal (number r)) ≤ 2
number_short r =
    let h = number_small r in
    length-decimal-le 2 (number r) (omega arith) h (omega arith)

pub taken_short : (whose : List ℕ) (n : ℕ) (answer : Result ℕ Fault) → answer ≡ Ok n → n < 2 ^ 64 → length (capture_line whose answer) ≤ length whose + 53
taken_short whose n answer e h = let d = decimal_short n h in rw e (simp length-append (omega arith))

pub refused_short : (whose : List ℕ) (f : Fault) (answer : Result ℕ Fault) → answer ≡ Err f → f.«record» < 2 ^ 64 → length (capture_line whose answer) ≤ length whose + 53
refused_short whose f answer e h =
    let d = decimal_short f.«record» h in
    let n = number_short f.refusal in
    rw e (simp length-append (omega arith))

words_short : (c : Comparison) → length (words_of c) ≤ 28
words_short Selected = omega arith
words_short c = omega arith

comparison_short : (answer : Result Comparison Fault) → length (comparison_line answer) ≤ 28
comparison_short (Ok c) = words_short c
comparison_short (Err f) =
    let n = number_short f.refusal in
    simp length-append (omega arith)

pub told_short : (r : Report) → length (capture_line (codes "first: ") r.first) ≤ 60 → length (capture_line (codes "second: ") r.second) ≤ 61 → length (told r) ≤ 192
told_short r h k =
    let l = comparison_short r.comparison in
    simp length-append (omega arith)
