-- What a backing means: a row of bytes, read and put place by place.
use Rattle.std.specs.Prelude.{◌≡◌, ℕ, ◌%◌, ◌<◌, ◌≤◌, List, ◌++◌, map, length, take, drop, Result, MatchResult, slice_index, slice_set}
use Rattle.backing.specs.Faults.{Shows}
use Rattle.backing.specs.declared.fault.Fault.{Fault}

-- every entry is a byte
abbrev pub Bytes : List ℕ → Type 0
Bytes xs = (i : ℕ) → slice_index xs i < 256

-- the places that an image and a pair count
unfoldable pub capped : List ℕ → List ℕ
capped xs = take 1048576 xs

-- the row of an image: the remainder is the byte itself wherever one is read
unfoldable pub imaged : List ℕ → List ℕ
imaged xs = map (λ b. b % 256) (take 1048576 xs)

-- the places past them
unfoldable pub beyond : List ℕ → List ℕ
beyond xs = drop 1048576 xs

-- the row of a pair: its two rows end to end
abbrev pub paired : List ℕ → List ℕ → List ℕ
paired xs ys = capped (xs ++ ys)

-- what asking for a place answers
abbrev pub Reads : List ℕ → ℕ → Result ℕ Fault → Type 0
Reads xs place r =
    MatchResult r (λ b. (place < length xs) × (b ≡ slice_index xs place)) (λ e. (length xs ≤ place) × Shows 15 5 0 e)

-- what putting a byte at a place of xs answers, and the row ys after it
abbrev pub Writes : List ℕ → List ℕ → ℕ → ℕ → Result (Unit {0}) Fault → Type 0
Writes xs ys place byte r =
    MatchResult r (λ _. (place < length xs) × (ys ≡ slice_set xs place byte))
    (λ e. (length xs ≤ place) × Shows 15 5 0 e × (ys ≡ xs))
