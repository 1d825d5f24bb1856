use Rattle.std.proofs.Common.{◌≡◌, length, refl, rules}
use Rattle.edges_text.proofs.Delivering.{born_fresh, outcome_ran}
use Rattle.edges_text.proofs.run.Goals as goal

pub returns : goal.returns
returns c =
    let room : length c.args.answers.now ≡ 30000 = search rules in
    let new = born_fresh _ _ refl c.deliver.ensures in
    let same = outcome_ran _ c.args.input.now (length c.args.answers.now) new room in
    record {
      says = rw (← same) c.run_on_bytes.ensures.says;
      answers = rw (← same) c.run_on_bytes.ensures.answers;
    }
