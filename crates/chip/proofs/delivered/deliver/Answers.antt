use Rattle.std.proofs.Common.{set, replicate, ap}
use borrow.Rule.Slice.PartMut.{put_mid}
use Rattle.chip.proofs.delivered.deliver.Goals as goal

pub returns : goal.returns
returns c = ap (λ xs. set (set (put_mid 4352 16 (replicate 4370 255) xs) 4368 0) 4369 0) c.copy_from_slice.ensures.after
