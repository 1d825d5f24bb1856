use Rattle.laws.proofs.Main.{refused_capture_stands}
use Rattle.laws.proofs.refused_capture_stands.Goals as goal

pub returns : goal.returns
returns c = refused_capture_stands
