-- How many parts there are.
use Rattle.std.proofs.Common.{ℕ, ◌≤◌, List, [], ◌∷◌, length, ap, arith, length-append}
use Rattle.std.specs.List.{flat_map}
use Rattle.stretch.specs.Parts.{Part}
use Rattle.stretch.specs.Laws.{Filled, Cut}

-- there are no more parts than bytes
parts_few : (ps : List Part) → Filled ps → length ps ≤ length (flat_map (λ (p : Part). p.bytes) ps)
parts_few [] h = omega arith
parts_few (p ∷ ps) h =
    let l = length-append p.bytes (flat_map (λ (p : Part). p.bytes) ps) in
    omega (arith, h.0, parts_few ps h.1, l)

pub few : (place : ℕ) (xs : List ℕ) (ps : List Part) → Cut place xs ps → length ps ≤ length xs
few place xs ps c = omega (arith, parts_few ps c.filled, ap length c.whole)
