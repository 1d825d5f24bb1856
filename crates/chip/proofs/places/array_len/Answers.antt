use Rattle.std.proofs.Common.{◌≡◌, sym, ap, ◌∙◌, arith}
use Rattle.chip.proofs.Sizes.{pow_low, pow_high, shifted_one}
use Rattle.chip.proofs.places.array_len.Goals as goal

pub returns : goal.returns
returns g c =
    let w = g.P.Part.lawful in
    let b = g.P.Part.shape.bits in
    let is : c.ADDRESS_BITS.result ≡ b = c.ADDRESS_BITS.ensures ∙ sym (ap (λ p. p.bits) g.P.Part.is_shape) in
    let e = shifted_one c.ADDRESS_BITS.result b is w.high in
    let lo = pow_low b w.low in
    let hi = pow_high b w.high in
    record { value = e; bounds = (omega arith, omega arith) }
