use Rattle.std.proofs.Common.{arith, rules}
use Rattle.comparing.proofs.Lines.{taken_line, refused_line, taken_short, refused_short}
use Rattle.comparing.proofs.telling.capture_line.Goals as goal

pub returns-in-Ok : goal.returns-in-Ok
returns-in-Ok c =
    record {
      holds = λ b t h.
          taken_line b t c.args.whose.now c.in-Ok.count c.args.answer c.bytes-in-Ok.new.self c.in-Ok.is
          (c.bytes-in-Ok.ensures.holds b _ (c.number.ensures.holds b _ (c.bytes.ensures.holds b t h)));
      kept = search rules;
      short = taken_short c.args.whose.now c.in-Ok.count c.args.answer c.in-Ok.is (omega arith);
    }

pub returns-in-Err : goal.returns-in-Err
returns-in-Err c =
    record {
      holds = λ b t h.
          refused_line b t c.args.whose.now c.from-in-Err.result c.in-Err.fault c.args.answer c.bytes-in-Err-3.new.self c.in-Err.is
          (search rules)
          (c.bytes-in-Err-3.ensures.holds b _ (c.number-in-Err-2.ensures.holds b _ (c.bytes-in-Err-2.ensures.holds b _ (c.number-in-Err.ensures.holds b _ (c.bytes-in-Err.ensures.holds b _ (c.bytes.ensures.holds b t h))))));
      kept = search rules;
      short = refused_short c.args.whose.now c.in-Err.fault c.args.answer c.in-Err.is (omega arith);
    }
