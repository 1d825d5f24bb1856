use Rattle.std.proofs.Common.{refl}
use Rattle.chip.specs.Shows.{cells_of}
use Rattle.chip.proofs.unit.Chip.new.Goals as goal

pub returns : goal.returns
unfolding cells_of
returns g c = record { view = refl; row = refl; lent = refl; held = refl; past = refl }
