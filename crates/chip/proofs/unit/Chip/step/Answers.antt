use Rattle.std.proofs.Common.{◌≡◌, Err, sym, refl, ap, ◌∙◌, rules}
use Rattle.rules.specs.Tables.{decoded}
use Rattle.rules.specs.Rules.{taken, step, after}
use Rattle.chip.specs.Shows.{view_of}
use Rattle.chip.proofs.Steps.{does_taken, does_refused, answer_taken}
use Rattle.chip.proofs.unit.Chip.step.Goals as goal

pub returns-in_err-event : goal.returns-in_err-event
returns-in_err-event g c =
    let p = g.P.Part.shape in
    let v = view_of p g.B.Backing.row c.args.self.now in
    let t = does_refused p v c.in_err-event.field-0.0 (decoded c.args.kind c.args.level) c.in_err-event.ensures in
    let e : c.from_residual.result ≡ Err c.in_err-event.field-0.0 = search rules in
    record {
      answer = e ∙ t.0;
      view = t.1;
      lent = refl;
      kept = record { same_held = refl; same_past = refl; same_length = refl; same_rest = refl };
    }

pub returns : goal.returns
returns g c =
    let p = g.P.Part.shape in
    let v = view_of p g.B.Backing.row c.args.self.now in
    let w = view_of p g.B.Backing.row c.apply.new.self in
    let t = does_taken p v c.in_ok-event.event (decoded c.args.kind c.args.level) c.in_ok-event.ensures in
    let a = c.apply.ensures.view in
    record {
      answer = answer_taken w (step p v c.args.kind c.args.level) c.seen.result (t ∙ ap taken (sym a)) c.seen.ensures;
      view = a ∙ ap (after v) (sym t);
      lent = c.apply.ensures.lent;
      kept = c.apply.ensures.kept;
    }
