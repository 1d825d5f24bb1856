use Rattle.std.proofs.Common.{refl}
use Rattle.text.proofs.Writing.{wrote_laid}
use Rattle.text.proofs.writer.Writer.number.Goals as goal

pub returns : goal.returns
returns c = wrote_laid _ _ _ _ c.decimal.ensures.lays refl refl
