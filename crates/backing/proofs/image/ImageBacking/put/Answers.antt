use Rattle.std.proofs.Common.{refl, arith}
use Rattle.backing.proofs.Rows.{length_imaged, set_imaged, set_beyond, past_shows}
use Rattle.backing.proofs.image.ImageBacking.put.Goals as goal

pub returns-then-place-self : goal.returns-then-place-self
returns-then-place-self c =
    record {
      row = (
        omega (arith, length_imaged c.args.self.now.bytes.now),
        set_imaged c.args.self.now.bytes.now c.args.place c.args.byte (omega arith) (omega arith),
      );
      past = set_beyond c.args.self.now.bytes.now c.args.place c.args.byte (omega arith);
      held = refl;
    }

pub returns-else-place-lt-PLACES : goal.returns-else-place-lt-PLACES
returns-else-place-lt-PLACES c =
    record {
      row = (omega (arith, length_imaged c.args.self.now.bytes.now), past_shows c.from.result c.from.ensures, refl);
      past = refl;
      held = refl;
    }
