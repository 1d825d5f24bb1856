-- BP1 BP0 by what they protect.
use Rattle.std.specs.Prelude.{ℕ}
use Rattle.rules.specs.declared.close.Protected.{Protected}
use Rattle.rules.specs.declared.close.Protected.TheVariants.{Nothing, Quarter, Half, Whole}

-- the two bits as a number
abbrev pub field : Protected → ℕ
field Nothing = 0
field Quarter = 1
field Half = 2
field Whole = 3
