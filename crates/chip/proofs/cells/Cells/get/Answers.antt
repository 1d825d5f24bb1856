use Rattle.std.proofs.Common.{length, get_or, Ok, sym, ap, ◌∙◌}
use Rattle.chip.proofs.Rows.{read_is}
use Rattle.chip.proofs.Filling.{long_cells}
use Rattle.chip.proofs.cells.Cells.get.Goals as goal

pub returns : goal.returns
returns g c =
    let p = g.P.Part.shape in
    let row = g.B.Backing.row c.self.inside.backing.now in
    record {
      value = read_is p row c.args.place c.get.result c.requires c.self.invariant c.get.ensures ∙ ap (λ cells. Ok (get_or cells c.args.place 0)) c.self.view_is;
      whole = sym (ap length c.self.view_is) ∙ long_cells p row c.self.invariant;
    }
