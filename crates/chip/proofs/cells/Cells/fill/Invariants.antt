use Rattle.chip.proofs.Filling.{Filled}
use Rattle.chip.proofs.cells.Cells.fill.Given as goal

abbrev pub invariant-loop-i : goal.invariant-loop-i
invariant-loop-i g l = Filled l.self l.from l.out l.i
