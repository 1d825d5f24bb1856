use Rattle.stretch.proofs.Fronts.{leads_lone}
use Rattle.stretch.proofs.reader.first_part.Goals as goal

pub returns-then-rest-lt2 : goal.returns-then-rest-lt2
returns-then-rest-lt2 c = leads_lone c.args.rest.now c.if-rest-lt2.true
