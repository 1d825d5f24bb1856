use Rattle.std.proofs.Common.{rules}
use Rattle.chip.specs.Shows.{view_of}
use Rattle.chip.proofs.Histories.{compared_same, compared_different}
use Rattle.chip.proofs.sameness.same.Goals as goal

pub returns-then-branch : goal.returns-then-branch
returns-then-branch g c =
    let p = g.P.Part.shape in
    compared_same p g.P.Part.lawful
    (view_of p g.A.Backing.row c.args.a.now) (view_of p g.B.Backing.row c.args.b.now)
    c.in_ok-first.ensures.fit c.in_ok-second.ensures.fit
    (search rules) (search rules) (search rules) (search rules)
    (search rules)

pub returns-else-eq : goal.returns-else-eq
returns-else-eq g c =
    let p = g.P.Part.shape in
    compared_different p g.P.Part.lawful
    (view_of p g.A.Backing.row c.args.a.now) (view_of p g.B.Backing.row c.args.b.now)
    c.in_ok-first.ensures.fit c.in_ok-second.ensures.fit
    (search rules) (search rules) (search rules) (search rules)
    (λ q. search rules)
