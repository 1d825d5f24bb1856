-- The rows of an image and of a pair are rows of bytes: what their ghost members show.
use Rattle.std.specs.Prelude.{ℕ, zero, suc, ◌%◌, List, [], ◌∷◌, ◌++◌, map, take}
use Rattle.std.proofs.Common.{mod-lt, lit<}
use Rattle.backing.specs.Rows.{Bytes, capped, imaged, paired}

bytes_take : (n : ℕ) (xs : List ℕ) → Bytes xs → Bytes (take n xs)
bytes_take zero xs h i = lit< tt
bytes_take (suc n) [] h i = lit< tt
bytes_take (suc n) (x ∷ xs) h zero = h 0
bytes_take (suc n) (x ∷ xs) h (suc i) = bytes_take n xs (λ j. h (suc j)) i

bytes_append : (xs ys : List ℕ) → Bytes xs → Bytes ys → Bytes (xs ++ ys)
bytes_append [] ys h k i = k i
bytes_append (x ∷ xs) ys h k zero = h 0
bytes_append (x ∷ xs) ys h k (suc i) = bytes_append xs ys (λ j. h (suc j)) k i

bytes_mod : (xs : List ℕ) → Bytes (map (λ b. b % 256) xs)
bytes_mod [] i = lit< tt
bytes_mod (x ∷ xs) zero = mod-lt x (lit< tt)
bytes_mod (x ∷ xs) (suc i) = bytes_mod xs i

pub imaged_bytes : (xs : List ℕ) → Bytes (imaged xs)
unfolding imaged
imaged_bytes xs = bytes_mod (take 1048576 xs)

pub paired_bytes : (xs ys : List ℕ) → Bytes xs → Bytes ys → Bytes (paired xs ys)
unfolding capped
paired_bytes xs ys h k = bytes_take 1048576 (xs ++ ys) (bytes_append xs ys h k)
