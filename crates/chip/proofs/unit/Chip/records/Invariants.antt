use Rattle.std.proofs.Common.{◌≡◌}
use Rattle.chip.specs.Shows.{view_of, Kept}
use Rattle.chip.proofs.Capturing.{Midway}
use Rattle.chip.proofs.unit.Chip.records.Given as goal

abbrev pub invariant-loop-i : goal.invariant-loop-i
invariant-loop-i g l =
    Midway g.P.Part.shape (view_of g.P.Part.shape g.B.Backing.row l.initial.self) (view_of g.P.Part.shape g.B.Backing.row l.self) l.records l.initial.answers l.answers l.i
    × (l.self.backing.ghost_name ≡ l.initial.self.backing.ghost_name)
    × Kept g.P.Part.shape g.B.Backing.row g.B.Backing.past g.B.Backing.held l.initial.self.backing.now l.self.backing.now
