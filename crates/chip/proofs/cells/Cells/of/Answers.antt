use Rattle.std.proofs.Common.{◌≤◌, length, Err, sym, refl, ap, ◌∙◌, arith, rules}
use Rattle.rules.specs.Shape.{cell_count}
use Rattle.chip.proofs.Rows.{short_row, judged_fit, judged_unfit}
use Rattle.chip.proofs.cells.Cells.of.Goals as goal

pub returns-then-len-cell_count : goal.returns-then-len-cell_count
returns-then-len-cell_count g c =
    short_row g.P.Part.shape (g.B.Backing.row c.args.backing.now) c.len.result c.len.ensures (omega arith) ∙ sym (ap Err c.from.ensures)

pub returns-in_err-judge_cells : goal.returns-in_err-judge_cells
returns-in_err-judge_cells g c =
    let p = g.P.Part.shape in
    let row = g.B.Backing.row c.args.backing.now in
    let long : cell_count p ≤ length row = omega arith in
    let j = judged_unfit p row c.in_ok-status.status c.in_ok-lock.lock _ long c.in_ok-status.ensures c.in_ok-lock.ensures c.in_err-judge_cells.ensures in
    search rules

pub returns : goal.returns
returns g c =
    let p = g.P.Part.shape in
    let row = g.B.Backing.row c.args.backing.now in
    let long : cell_count p ≤ length row = omega arith in
    record {
      fit = judged_fit p row c.in_ok-status.status c.in_ok-lock.lock long c.in_ok-status.ensures c.in_ok-lock.ensures c.in_ok-judge_cells.ensures;
      long = long;
      is_front = refl;
    }
