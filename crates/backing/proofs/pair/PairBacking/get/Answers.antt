use Rattle.std.proofs.Common.{sym, arith}
use Rattle.backing.proofs.Rows.{reads_left, reads_right, past_paired, past_shows}
use Rattle.backing.proofs.pair.PairBacking.get.Goals as goal

pub returns-then-place-ge-PLACES : goal.returns-then-place-ge-PLACES
returns-then-place-ge-PLACES g c =
    (past_paired (g.A.Backing.row c.args.self.now.a) (g.B.Backing.row c.args.self.now.b) _ c.if-place-ge-PLACES.true, past_shows c.from.result c.from.ensures)

pub returns-then-place-n : goal.returns-then-place-n
returns-then-place-n g c = reads_left _ _ _ c.get.result (omega arith) (omega arith) c.get.ensures

pub returns-else-place-n : goal.returns-else-place-n
returns-else-place-n g c =
    reads_right _ _ _ _ c.get-else-place-n.result (omega arith) (sym c.len-n.ensures) c.if-place-n.false c.get-else-place-n.ensures
