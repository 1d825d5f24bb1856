use Rattle.std.proofs.Common.{◌≡◌, Err, ap, ◌∙◌, rules}
use Rattle.backing.specs.Faults.{raised}
use Rattle.rules.specs.Tables.{decoded}
use Rattle.rules.specs.Rules.{is_off}
use Rattle.chip.specs.Answers.{admitted}
use Rattle.chip.proofs.Steps.{admitted_refusal}
use Rattle.chip.proofs.unit.Unit.admit.Goals as goal

pub returns-in_err-refuse : goal.returns-in_err-refuse
returns-in_err-refuse c =
    let x = c.args.self.now.pins in
    let d = decoded c.args.kind c.args.level in
    let e : c.from_residual-in_err-refuse.result ≡ Err (raised c.in_err-refuse.field-0.0 0) = search rules in
    e
    ∙ admitted_refusal c.is_off.result x c.runs.result d c.in_ok-event.event c.in_err-refuse.field-0.0 c.in_ok-event.ensures c.in_err-refuse.ensures
    ∙ ap (λ s. admitted s x c.runs.result d) c.is_off.ensures
    ∙ ap (λ r. admitted (is_off c.args.self.now.stretch) x r d) c.runs.ensures
