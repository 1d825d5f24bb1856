use Rattle.std.proofs.Common.{length, refl, ap, ◌∙◌, arith}
use Rattle.rules.specs.Calls.{Outcome}
use Rattle.laws.specs.Bench.{bench}
use Rattle.chip.specs.Shows.{view_of}
use Rattle.comparing.proofs.Runs.{ran_new, compared_at, written_both}
use Rattle.comparing.proofs.run.Goals as goal

pub returns : goal.returns
returns g c =
    let room = length c.args.answers.now in
    let o = ran_new (view_of bench g.A.Backing.row c.new-one.result) (g.A.Backing.row c.args.a.now) c.args.first.now room room c.new-one.ensures.view refl in
    let q = ran_new (view_of bench g.B.Backing.row c.new-other.result) (g.B.Backing.row c.args.b.now) c.args.second.now room (length c.capture-first.new.answers) c.new-other.ensures.view (omega arith) in
    record {
      first = rw (← o) c.capture-first.ensures.says;
      second = rw (← q) c.capture-second.ensures.says;
      comparison =
          compared_at _ _ _ _ c.same-comparison.result
          (c.capture-first.ensures.view ∙ ap (λ (p : Outcome). p.view) o)
          (c.capture-second.ensures.view ∙ ap (λ (p : Outcome). p.view) q)
          c.same-comparison.ensures;
      answers = written_both _ _ _ _ c.args.answers.now c.capture-first.new.answers c.capture-second.new.answers o q c.capture-first.ensures.answers c.capture-second.ensures.answers;
    }
