use Rattle.std.proofs.Common.{arith}
use Rattle.backing.proofs.Rows.{length_imaged}
use Rattle.backing.proofs.image.ImageBacking.len.Goals as goal

pub returns : goal.returns
returns c = omega (arith, length_imaged c.args.self.now.bytes.now)
