use Rattle.laws.proofs.Main.{captures_stand}
use Rattle.laws.proofs.captures_stand.Goals as goal

pub returns : goal.returns
returns c = captures_stand
