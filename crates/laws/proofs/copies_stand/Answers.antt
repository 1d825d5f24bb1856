use Rattle.laws.proofs.Main.{copies_stand}
use Rattle.laws.proofs.copies_stand.Goals as goal

pub returns : goal.returns
returns c = copies_stand
