use Rattle.laws.proofs.Main.{cells_stand}
use Rattle.laws.proofs.cells_stand.Goals as goal

pub returns : goal.returns
returns c = cells_stand
