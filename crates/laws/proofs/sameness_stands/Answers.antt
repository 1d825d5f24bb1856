use Rattle.laws.proofs.Main.{sameness_stands}
use Rattle.laws.proofs.sameness_stands.Goals as goal

pub returns : goal.returns
returns c = sameness_stands
