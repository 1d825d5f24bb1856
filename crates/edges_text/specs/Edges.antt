-- The text of a capture run on a delivered bench part.
use Rattle.std.specs.Prelude.{ℕ, true, false, List, [], ◌++◌, map, length, Ok, Err, codes, decimal, Result, nat_lt}
use Rattle.backing.specs.Faults.{number, raised}
use Rattle.backing.specs.declared.refusal.Refusal.TheVariants.{LongInput}
use Rattle.backing.specs.declared.fault.Fault.{Fault}
use Rattle.rules.specs.declared.state.Level.{Level}
use Rattle.rules.specs.declared.state.Level.TheVariants.{Low, High, Float}
use Rattle.rules.specs.Calls.{capture, Outcome, outcome}
use Rattle.laws.specs.Bench.{bench, fresh}

-- a level's character: 0, 1 or z
abbrev pub letter : Level → ℕ
letter Low = 48
letter High = 49
letter Float = 122

-- the line that says what was refused, and where
abbrev pub refused_line : Fault → List ℕ
refused_line e = codes "refused " ++ decimal (number e.refusal) ++ codes " at " ++ decimal e.«record» ++ codes "\n"

abbrev pub fault_text : Result ℕ Fault → List ℕ
fault_text (Ok n) = []
fault_text (Err e) = refused_line e

-- line one, and a fault's line
abbrev pub lines : List ℕ → Result ℕ Fault → List ℕ
lines letters says = letters ++ codes "\n" ++ fault_text says

-- line one has a character for each level
abbrev pub told : Outcome → List ℕ
told o = lines (map letter o.levels) o.says

-- the records taken: all, or those ahead of the fault's
abbrev pub taken_of : Result ℕ Fault → ℕ
taken_of (Ok n) = n
taken_of (Err e) = e.«record»

-- the capture on a delivered bench part, with room for 30,000 answers
unfoldable pub ran : List ℕ → Outcome
ran input = outcome bench fresh (capture input 30000)

-- an input above 60,000 bytes is refused ahead of all else
unfoldable pub edges_of : List ℕ → List ℕ
edges_of input =
    elim (nat_lt 60000 (length input)) as (λ _. List ℕ)
    [ true ↦ lines [] (Err (raised LongInput 0)) | false ↦ told (ran input) ]
