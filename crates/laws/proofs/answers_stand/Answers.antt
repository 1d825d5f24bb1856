use Rattle.laws.proofs.Main.{answers_stand}
use Rattle.laws.proofs.answers_stand.Goals as goal

pub returns : goal.returns
returns c = answers_stand
