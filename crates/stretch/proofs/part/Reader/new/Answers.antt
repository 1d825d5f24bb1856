use Rattle.stretch.proofs.Cuts.{cut_from}
use Rattle.stretch.proofs.part.Reader.new.Goals as goal

pub returns-clause-cut : goal.returns-clause-cut
returns-clause-cut c = cut_from 0 c.args.capture.now
