-- From a chip's view to what its capture comes to.
use Rattle.std.proofs.Common.{◌≡◌, ℕ, List, Result}
use Rattle.backing.specs.declared.fault.Fault.{Fault}
use Rattle.rules.specs.Rules.{View, born}
use Rattle.rules.specs.Calls.{Outcome, outcome, capture, written}
use Rattle.laws.specs.Bench.{bench}
use Rattle.chip.specs.Sameness.{Compared}
use Rattle.chip.specs.declared.sameness.Comparison.{Comparison}
use Rattle.comparing.specs.Running.{ran_on}

-- a capture on a new chip
pub ran_new : (v : View) (row records : List ℕ) (room room' : ℕ) → v ≡ born bench row → room' ≡ room → outcome bench v (capture records room') ≡ ran_on row records room
unfolding ran_on
ran_new v row records room room' e l = rw (e, l)

pub compared_at : (u u' v v' : View) (r : Result Comparison Fault) → u ≡ u' → v ≡ v' → Compared bench u v r → Compared bench u' v' r
compared_at u u' v v' r e f h = rw (← e, ← f) h

-- a buffer that two captures wrote to
pub written_both : (o o' q q' : Outcome) (xs ys zs : List ℕ) → o ≡ o' → q ≡ q' → ys ≡ written o.levels xs → zs ≡ written q.levels ys → zs ≡ written q'.levels (written o'.levels xs)
written_both o o' q q' xs ys zs e f h k = rw (← e, ← f, ← h) k
