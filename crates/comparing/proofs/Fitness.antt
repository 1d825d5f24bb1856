-- A capture leaves a delivered part fit, so the comparison is made.
use Rattle.std.proofs.Common.{◌≡◌, ℕ, true, List, [], ◌∷◌, take, is_ok, None, Ok, Err, Result, refl, ◌∙◌, inr, lit≤}
use Rattle.std.specs.Result.{result_err}
use Rattle.backing.specs.declared.fault.Fault.{Fault}
use Rattle.rules.specs.Shape.{Lawful, cell_count}
use Rattle.rules.specs.Tables.{unfit}
use Rattle.rules.specs.Calls.{capture}
use Rattle.laws.specs.Bench.{bench, delivered}
use Rattle.laws.proofs.Main.{cells_stand}
use Rattle.chip.specs.Sameness.{Compared}
use Rattle.chip.specs.declared.sameness.Comparison.{Comparison}
use Rattle.comparing.specs.Running.{ran}

bench_lawful : Lawful bench
bench_lawful = record { low = lit≤ tt; high = lit≤ tt; page = inr refl }

delivered_fit : unfit bench (take (cell_count bench) delivered) ≡ None
delivered_fit = refl

ran_fit : (records : List ℕ) (room : ℕ) → unfit bench (ran records room).view.cells ≡ None
unfolding ran
ran_fit records room = (cells_stand bench bench_lawful delivered (capture records room ∷ [])).fitness ∙ delivered_fit

ok_of : (r : Result Comparison Fault) → result_err r ≡ None → is_ok r ≡ true
ok_of (Ok x) e = refl
ok_of (Err f) e = cc

pub ran_compared : (first second : List ℕ) (room : ℕ) (r : Result Comparison Fault) → Compared bench (ran first room).view (ran second room).view r → is_ok r ≡ true
ran_compared first second room r h = ok_of r (h.faults ∙ rw (ran_fit first room, ran_fit second room))
