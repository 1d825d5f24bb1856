-- The text of a refusal, and the text by the length of the input.
use Rattle.std.proofs.Common.{◌≡◌, ℕ, ◌<◌, ◌≤◌, List, [], ◌++◌, map, length, Err, codes, decimal, Result, append_assoc, le-ltb, lt-ltb}
use Rattle.backing.specs.Faults.{raised, number}
use Rattle.backing.specs.declared.refusal.Refusal.TheVariants.{LongInput}
use Rattle.backing.specs.declared.fault.Fault.{Fault}
use Rattle.text.specs.Writers.{Holds}
use Rattle.text.specs.declared.writer.Writer.{Writer}
use Rattle.edges_text.specs.Edges.{letter, fault_text, lines, ran, edges_of}

pub long_text : (input : List ℕ) → 60000 < length input → lines [] (Err (raised LongInput 0)) ≡ edges_of input
unfolding edges_of
long_text input h = rw (lt-ltb 60000 (length input) h, edges_of)

pub ran_text : (input letters : List ℕ) (says : Result ℕ Fault) → length input ≤ 60000 → letters ≡ map letter (ran input).levels → says ≡ (ran input).says → lines letters says ≡ edges_of input
unfolding edges_of
ran_text input letters says h e f = rw (e, f, le-ltb 60000 (length input) h, edges_of)

-- a fault's line, piece by piece
pub faulty : (b t : List ℕ) (k : ℕ) (f : Fault) (says : Result ℕ Fault) (w : Writer) → says ≡ Err f → k ≡ number f.refusal →
    Holds b (((((t ++ codes "refused ") ++ decimal k) ++ codes " at ") ++ decimal f.«record») ++ codes "\n") w → Holds b (t ++ fault_text says) w
faulty b t k f says w e n h =
    let G : t ++ fault_text (Err f) ≡ ((((t ++ codes "refused ") ++ decimal (number f.refusal)) ++ codes " at ") ++ decimal f.«record») ++ codes "\n" = simp append_assoc in
    rw (e, G, ← n) h
