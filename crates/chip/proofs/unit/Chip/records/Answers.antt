use Rattle.std.proofs.Common.{◌≡◌, [], length, get_or, Ok, Err, sym, ap, ◌∙◌, arith}
use Rattle.rules.specs.Rules.{step}
use Rattle.chip.specs.Shows.{view_of}
use Rattle.chip.proofs.Capturing.{midway_more, ended_refused, ended_all, kept_on, pair_step}
use Rattle.chip.proofs.unit.Chip.records.Goals as goal

pub loop-i-preserved : goal.loop-i-preserved
loop-i-preserved g c =
    let p = g.P.Part.shape in
    let v = view_of p g.B.Backing.row c.loop-i.self in
    let i = c.loop-i.i in
    let pairs = c.as_chunks.result.0.now in (
      midway_more p
          (view_of p g.B.Backing.row c.args.self.now) v (view_of p g.B.Backing.row c.step.new.self)
          c.args.records.now c.args.answers.now c.loop-i.answers i c.from.result c.in-Ok.q
          (step p v (get_or (get_or pairs i []) 0 0) (get_or (get_or pairs i []) 1 0))
          (omega arith) (omega arith) (pair_step p v c.args.records.now pairs i c.as_chunks.ensures.front (omega arith)) c.in-Ok.ensures.answer c.in-Ok.ensures.view c.from.ensures c.loop-i.invariant.0,
      c.in-Ok.ensures.lent ∙ c.loop-i.invariant.1,
      kept_on p g.B.Backing.row g.B.Backing.past g.B.Backing.held c.args.self.now.backing.now c.loop-i.self.backing.now c.step.new.self.backing.now
          c.loop-i.invariant.2 c.in-Ok.ensures.kept,
    )

pub returns-in-Err : goal.returns-in-Err
returns-in-Err g c =
    let p = g.P.Part.shape in
    let v = view_of p g.B.Backing.row c.loop-i.self in
    let i = c.loop-i.i in
    let pairs = c.as_chunks.result.0.now in
    let d =
    ended_refused p
    (view_of p g.B.Backing.row c.args.self.now) v (view_of p g.B.Backing.row c.step.new.self)
    c.args.records.now c.args.answers.now c.loop-i.answers i c.in-Err.fault
    (step p v (get_or (get_or pairs i []) 0 0) (get_or (get_or pairs i []) 1 0))
    (omega arith) (omega arith) (pair_step p v c.args.records.now pairs i c.as_chunks.ensures.front (omega arith)) c.in-Err.ensures.answer c.in-Err.ensures.view c.loop-i.invariant.0 in
    record {
      view = d.view;
      says = ap Err c.at.ensures ∙ d.says;
      answers = d.answers;
      lent = c.in-Err.ensures.lent ∙ c.loop-i.invariant.1;
      kept =
          kept_on p g.B.Backing.row g.B.Backing.past g.B.Backing.held c.args.self.now.backing.now c.loop-i.self.backing.now c.step.new.self.backing.now
          c.loop-i.invariant.2 c.in-Err.ensures.kept;
    }

pub returns : goal.returns
returns g c =
    let p = g.P.Part.shape in
    let n : c.loop-i.i ≡ length c.as_chunks.result.0.now = omega arith in
    let d =
    ended_all p (view_of p g.B.Backing.row c.args.self.now) (view_of p g.B.Backing.row c.loop-i.self)
    c.args.records.now c.args.answers.now c.loop-i.answers c.loop-i.i (omega arith) (omega arith) c.loop-i.invariant.0 in
    record { view = d.view; says = ap Ok (sym n) ∙ d.says; answers = d.answers; lent = c.loop-i.invariant.1; kept = c.loop-i.invariant.2 }
