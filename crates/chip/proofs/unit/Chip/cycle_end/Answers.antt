use Rattle.std.proofs.Common.{take, refl, arith}
use Rattle.std.proofs.lemmas.List.{length-take}
use Rattle.chip.specs.Shows.{view_of}
use Rattle.chip.proofs.Rows.{ended_view, laid_kept}
use Rattle.chip.proofs.unit.Chip.cycle_end.Goals as goal

pub returns-in_ok-lay : goal.returns-in_ok-lay
returns-in_ok-lay g c =
    let p = g.P.Part.shape in
    let row = g.B.Backing.row in
    let x = c.args.self.now.backing.now in
    let y = c.lay.new.backing in
    let w = c.in-Some.write in
    let at = c.base_of-base.result in
    let len = c.reach_of-reach.result in
    let e = c.in_ok-lay.ensures in
    record {
      made = refl;
      view = ended_view p (view_of p row c.args.self.now) w (row x) (row y) at len refl c.in-Some.is c.base_of-base.ensures.value c.reach_of-reach.ensures.0 e.row;
      lent = refl;
      kept = laid_kept p row g.B.Backing.past g.B.Backing.held x y at (take len w.bytes) (omega (arith, length-take len w.bytes, c.base_of-base.ensures.within.0, c.reach_of-reach.ensures.0)) e.row e.held e.past;
    }
