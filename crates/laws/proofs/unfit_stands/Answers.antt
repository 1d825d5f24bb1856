use Rattle.laws.proofs.Main.{unfit_stand}
use Rattle.laws.proofs.unfit_stands.Goals as goal

pub returns : goal.returns
returns c = unfit_stand
