use Rattle.std.proofs.Common.{◌≡◌, ℕ, ◌<◌, get_or}
use Rattle.chip.proofs.cells.Cells.same.Given as goal

-- the cells so far are the same
abbrev pub invariant-loop-place : goal.invariant-loop-place
invariant-loop-place g l =
    let p = g.P.Part.shape in
    (k : ℕ) → k < l.place → get_or l.self k 0 ≡ get_or l.other k 0
