use Rattle.std.proofs.Common.{◌≡◌, take}
use Rattle.rules.specs.Rules.{laid}
use Rattle.chip.proofs.cells.lay.Given as goal

-- the bytes so far are put
abbrev pub invariant-loop-i : goal.invariant-loop-i
invariant-loop-i g l =
    (g.B.Backing.row l.backing ≡ laid (g.B.Backing.row l.initial.backing) l.base (take l.i l.bytes))
    × (g.B.Backing.held l.backing ≡ g.B.Backing.held l.initial.backing)
    × (g.B.Backing.past l.backing ≡ g.B.Backing.past l.initial.backing)
