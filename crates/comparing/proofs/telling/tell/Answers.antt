use Rattle.std.proofs.Common.{rules}
use Rattle.comparing.proofs.Lines.{told_short}
use Rattle.comparing.proofs.telling.tell.Goals as goal

pub returns : goal.returns
returns c =
    record {
      fills = search rules;
      short = told_short c.args.report.now c.capture_line.ensures.short c.capture_line-2.ensures.short;
    }
