use Rattle.std.proofs.Common.{length, Err, rules}
use Rattle.chip.specs.Shows.{view_of}
use Rattle.chip.proofs.Told.{capture_law}
use Rattle.chip.proofs.unit.Chip.capture.Goals as goal

pub returns-in_err-of-clause-law : goal.returns-in_err-of-clause-law
returns-in_err-of-clause-law g c =
    let v = view_of g.P.Part.shape g.B.Backing.row c.args.self.now in
    capture_law g.P.Part.shape g.P.Part.lawful v v c.args.records.now c.args.answers.now c.args.answers.now (length c.args.answers.now) c.from_residual.result (search rules) (search rules) (search rules)

pub returns-then-records-ne0-clause-law : goal.returns-then-records-ne0-clause-law
returns-then-records-ne0-clause-law g c =
    let v = view_of g.P.Part.shape g.B.Backing.row c.args.self.now in
    capture_law g.P.Part.shape g.P.Part.lawful v v c.args.records.now c.args.answers.now c.args.answers.now (length c.args.answers.now) (Err c.from.result) (search rules) (search rules) (search rules)

pub returns-then-answers-records-clause-law : goal.returns-then-answers-records-clause-law
returns-then-answers-records-clause-law g c =
    let v = view_of g.P.Part.shape g.B.Backing.row c.args.self.now in
    capture_law g.P.Part.shape g.P.Part.lawful v v c.args.records.now c.args.answers.now c.args.answers.now (length c.args.answers.now) (Err c.from-then-answers-records.result) (search rules) (search rules) (search rules)

pub returns-clause-law : goal.returns-clause-law
returns-clause-law g c =
    let v = view_of g.P.Part.shape g.B.Backing.row c.args.self.now in
    capture_law g.P.Part.shape g.P.Part.lawful v (view_of g.P.Part.shape g.B.Backing.row c.records.new.self) c.args.records.now c.args.answers.now c.records.new.answers (length c.args.answers.now) c.records.result (search rules) (search rules) (search rules)
