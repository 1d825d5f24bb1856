use Rattle.std.proofs.Common.{refl, arith}
use Rattle.backing.proofs.Rows.{length_imaged, get_or_imaged, past_shows}
use Rattle.backing.proofs.image.byte_at.Goals as goal

pub returns-then-place-bytes : goal.returns-then-place-bytes
returns-then-place-bytes c = (
  omega (arith, length_imaged c.args.bytes.now),
  get_or_imaged c.args.bytes.now c.args.place _ (omega arith) (omega arith) refl (omega (arith, c.type_inv.bytes c.args.place)),
)

pub returns-else-place-lt-PLACES : goal.returns-else-place-lt-PLACES
returns-else-place-lt-PLACES c =
    (omega (arith, length_imaged c.args.bytes.now), past_shows c.from.result c.from.ensures)
