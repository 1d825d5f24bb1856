-- A delivered part's row is a row of bytes.
use Rattle.std.proofs.Common.{◌≡◌, ℕ, zero, suc, Bool, true, ◌&&◌, ltb, List, [], ◌∷◌, refl, lit<, ltb-true}
use Rattle.backing.specs.Rows.{Bytes}
use Rattle.std.proofs.lemmas.Bool.{and_parts}
use Rattle.laws.specs.Bench.{delivered}

abbrev all_small : List ℕ → Bool
all_small [] = true
all_small (x ∷ xs) = ltb x 256 && all_small xs

small_bytes : (xs : List ℕ) → all_small xs ≡ true → Bytes xs
small_bytes [] e i = lit< tt
small_bytes (x ∷ xs) e zero = ltb-true x 256 (and_parts _ _ e).0
small_bytes (x ∷ xs) e (suc i) = small_bytes xs (and_parts _ _ e).1 i

pub delivered_bytes : Bytes delivered
delivered_bytes = small_bytes delivered refl
