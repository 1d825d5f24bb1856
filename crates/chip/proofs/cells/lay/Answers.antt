use Rattle.std.proofs.Common.{◌≡◌, ◌+◌, length, take, set, sym, refl, ap, ◌∙◌, arith}
use Rattle.chip.proofs.Laying.{laid_nil, laid_some, laid_none, length_laid}
use Rattle.chip.proofs.cells.lay.Goals as goal
use Rattle.chip.proofs.cells.lay.Goals.{in-Some+in_ok-put, in_default}

pub loop-i-init : goal.loop-i-init
loop-i-init g c = (sym (laid_nil (g.B.Backing.row c.args.backing.now) c.args.base), refl, refl)

pub returns-in_err-put : goal.returns-in_err-put
returns-in_err-put g c =
    let row = g.B.Backing.row c.args.backing.now in
    let l : length (g.B.Backing.row c.loop-i.backing) ≡ length row = ap length c.loop-i.invariant.0 ∙ length_laid row c.args.base (take c.loop-i.i c.args.bytes.now) in
    let q = c.in_err-put.ensures.row.0 in
    absurd (omega (arith, l, q))

pub loop-i-preserved : goal.loop-i-preserved
loop-i-preserved g c =
    let row = g.B.Backing.row c.args.backing.now in
    let page = c.args.bytes.now in
    let i = c.loop-i.i in
    let at = c.args.base in
    elim c.match-byte.branch [
      | in-Some+in_ok-put w ↦ (
        ap g.B.Backing.row w.backing-is
            ∙ w.in_ok-put.ensures.row.1
            ∙ ap (λ xs. set xs (at + i) w.in-Some.byte) c.loop-i.invariant.0
            ∙ sym (laid_some row at page i w.in-Some.byte (omega arith) w.in-Some.is),
        ap g.B.Backing.held w.backing-is ∙ w.in_ok-put.ensures.held ∙ c.loop-i.invariant.1,
        ap g.B.Backing.past w.backing-is ∙ w.in_ok-put.ensures.past ∙ c.loop-i.invariant.2,
      )
      | in_default w ↦ (
        ap g.B.Backing.row w.backing-is ∙ c.loop-i.invariant.0 ∙ sym (laid_none row at page i w.in_default.is),
        ap g.B.Backing.held w.backing-is ∙ c.loop-i.invariant.1,
        ap g.B.Backing.past w.backing-is ∙ c.loop-i.invariant.2,
      )
    ]
