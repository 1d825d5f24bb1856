use Rattle.std.proofs.Common.{◌≡◌, ◌*◌, ◌/◌, ◌%◌, ◌^◌, ◌<◌, sym, ap, ◌∙◌, mod-lt, arith}
use Rattle.rules.specs.Rules.{base, reach}
use Rattle.chip.proofs.Sizes.{pow_high, page_within}
use Rattle.chip.proofs.places.base_of.Goals as goal

pub returns-in-Array : goal.returns-in-Array
returns-in-Array g c =
    let p = g.P.Part.shape in
    let w = g.P.Part.lawful in
    let e = c.array_len.ensures.value in
    let m = c.in-Array.is in
    let x = c.args.start % c.array_len.result in
    let lt : x < 2 ^ p.bits = omega (arith, mod-lt c.args.start {m = c.array_len.result} (omega arith)) in
    let k = page_within x p.bits w.low lt in
    let r : reach p c.args.target ≡ 256 = ap (reach p) m in
    let hi = pow_high p.bits w.high in
    record {
      value = ap (λ n. c.args.start % n / 256 * 256) e ∙ ap (λ t. base p t c.args.start) (sym m);
      within = (omega (arith, r, k), omega (arith, k, hi));
    }
