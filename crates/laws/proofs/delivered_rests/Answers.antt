use Rattle.std.proofs.Common.{refl, inr, arith}
use Rattle.laws.proofs.Delivered.{delivered_bytes}
use Rattle.std.proofs.lemmas.Bool.{false≢true}
use Rattle.laws.proofs.delivered_rests.Goals as goal

pub returns : goal.returns
returns c =
    record {
      lawful = record { low = omega arith; high = omega arith; page = inr refl };
      bytes = delivered_bytes;
      fit = refl;
      rests = record { deselected = refl; idle = refl };
      still_fit = refl;
      still_rests = record { deselected = refl; idle = refl };
      not_enabled = refl;
      is_enabled = refl;
      apart = λ a. false≢true a.same_enabled;
    }
