use Rattle.std.proofs.Common.{rules}
use Rattle.comparing.proofs.Lines.{faulty_line}
use Rattle.comparing.proofs.telling.comparison_line.Goals as goal

pub returns-in-Err : goal.returns-in-Err
returns-in-Err c =
    record {
      holds = λ b t h.
          faulty_line b t c.from-in-Err.result c.in-Err.fault c.args.answer c.bytes-in-Err-2.new.self c.in-Err.is
          (search rules)
          (c.bytes-in-Err-2.ensures.holds b _ (c.number.ensures.holds b _ (c.bytes-in-Err.ensures.holds b t h)));
      kept = search rules;
    }
