use Rattle.std.proofs.Common.{◌≡◌, Err, sym, refl, ap, ◌∙◌, rules}
use Rattle.rules.specs.Calls.{event}
use Rattle.chip.specs.Shows.{view_of}
use Rattle.chip.specs.Answers.{numbered}
use Rattle.chip.proofs.Steps.{outcome_says, outcome_view, unfit_outcome}
use Rattle.chip.proofs.Told.{event_law}
use Rattle.chip.proofs.unit.Chip.event.Goals as goal

pub returns-in_err-of : goal.returns-in_err-of
returns-in_err-of g c =
    let p = g.P.Part.shape in
    let v = view_of p g.B.Backing.row c.args.self.now in
    let e : c.from_residual.result ≡ Err c.in_err-of.field-0.0 = search rules in
    let o = unfit_outcome p v c.in_err-of.field-0.0 (event c.args.kind c.args.level) c.in_err-of.ensures in
    let s = ap numbered e ∙ sym (ap (λ x. x.says) o) in
    let u = sym (ap (λ x. x.view) o) in
    record {
      says = s;
      view = u;
      lent = refl;
      kept = record { same_held = refl; same_past = refl; same_length = refl; same_rest = refl };
      law = event_law p g.P.Part.lawful v v c.args.kind c.args.level c.from_residual.result s u;
    }

pub returns : goal.returns
returns g c =
    let p = g.P.Part.shape in
    let v = view_of p g.B.Backing.row c.args.self.now in
    let w = view_of p g.B.Backing.row c.step.new.self in
    let s = outcome_says p v c.args.kind c.args.level c.step.result c.in_ok-of.ensures.fit c.step.ensures.answer in
    let u = outcome_view p v w c.args.kind c.args.level c.in_ok-of.ensures.fit c.step.ensures.view in
    record {
      says = s;
      view = u;
      lent = c.step.ensures.lent;
      kept = c.step.ensures.kept;
      law = event_law p g.P.Part.lawful v w c.args.kind c.args.level c.step.result s u;
    }
