-- A capture on a delivered part over an image.
use Rattle.std.proofs.Common.{◌≡◌, ℕ, List, refl}
use Rattle.backing.specs.Rows.{imaged}
use Rattle.rules.specs.Rules.{View, born}
use Rattle.rules.specs.Calls.{outcome, capture}
use Rattle.laws.specs.Bench.{bench, delivered, fresh}
use Rattle.edges_text.specs.Edges.{ran}

born_imaged : born bench (imaged delivered) ≡ fresh
unfolding imaged
born_imaged = refl

pub born_fresh : (v : View) (cells : List ℕ) → v ≡ born bench (imaged cells) → cells ≡ delivered → v ≡ fresh
born_fresh v cells e f = rw (e, f) born_imaged

pub outcome_ran : (v : View) (input : List ℕ) (room : ℕ) → v ≡ fresh → room ≡ 30000 → outcome bench v (capture input room) ≡ ran input
unfolding ran
outcome_ran v input room e f = rw (e, f)
