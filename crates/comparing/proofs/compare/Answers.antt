use Rattle.std.proofs.Common.{length, refl, ap, ◌∙◌}
use Rattle.backing.specs.declared.image.Image.{Image}
use Rattle.rules.specs.Calls.{Outcome}
use Rattle.comparing.proofs.Fitness.{ran_compared}
use Rattle.comparing.proofs.Rows.{ran_image, ran_pair, halves}
use Rattle.comparing.proofs.Runs.{compared_at, written_both}
use Rattle.comparing.proofs.compare.Goals as goal

pub returns : goal.returns
returns c =
    let room = length c.args.answers.now in
    let o = ran_image c.new-image.result.bytes.now c.args.first.now room (c.new-image.ensures.value ∙ c.deliver.ensures) in
    let low = ap (λ (i : Image). i.bytes.now) c.new-pair.ensures.first ∙ c.new.ensures.value in
    let high = ap (λ (i : Image). i.bytes.now) c.new-pair.ensures.second ∙ c.new-2.ensures.value in
    let q = ran_pair c.new-pair.result.a.bytes.now c.new-pair.result.b.bytes.now c.args.second.now room
    (halves c.deliver.new.cells _ _ _ _ c.deliver.ensures c.split_at_mut-low.ensures.value low high) in
    let compared = compared_at _ _ _ _ c.run.result.comparison (ap (λ (p : Outcome). p.view) o) (ap (λ (p : Outcome). p.view) q) c.run.ensures.comparison in
    record {
      first = rw (← o) c.run.ensures.first;
      second = rw (← q) c.run.ensures.second;
      comparison = compared;
      made = ran_compared c.args.first.now c.args.second.now room c.run.result.comparison compared;
      answers = written_both _ _ _ _ c.args.answers.now _ c.run.new.answers o q refl c.run.ensures.answers;
    }
