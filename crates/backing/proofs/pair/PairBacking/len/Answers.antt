use Rattle.std.proofs.Common.{arith}
use Rattle.backing.proofs.Rows.{length_paired}
use Rattle.backing.proofs.pair.PairBacking.len.Goals as goal

pub returns-then-n-lt-PLACES : goal.returns-then-n-lt-PLACES
returns-then-n-lt-PLACES g c =
    omega (arith, length_paired (g.A.Backing.row c.args.self.now.a) (g.B.Backing.row c.args.self.now.b))

pub returns-else-n-lt-PLACES : goal.returns-else-n-lt-PLACES
returns-else-n-lt-PLACES g c =
    omega (arith, length_paired (g.A.Backing.row c.args.self.now.a) (g.B.Backing.row c.args.self.now.b))
