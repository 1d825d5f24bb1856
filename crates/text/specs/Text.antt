-- What the contracts of this crate say of a buffer that text is laid into.
use Rattle.std.specs.Prelude.{◌≡◌, ℕ, ◌+◌, ◌-◌, ◌/◌, ◌%◌, ◌^◌, ◌<◌, ◌≤◌, min, List, ◌++◌, length, take, drop, slice_index}

-- a buffer once a text is laid from its front on: cut off at its end, the rest as it was
abbrev pub overlaid : List ℕ → List ℕ → List ℕ
overlaid out text = take (length out) text ++ drop (length text) out

-- the same from a place on; past the end nothing changes
abbrev pub laid : List ℕ → ℕ → List ℕ → List ℕ
laid out at text = take at out ++ overlaid (drop at out) text

-- how many bytes of a text find room from a place on
abbrev pub fitted : List ℕ → ℕ → List ℕ → ℕ
fitted out at text = min (length text) (length out - at)

-- a text laid from a place on: what the buffer holds then, and how many bytes were written
pub record Lays (out : List ℕ) (at : ℕ) (text : List ℕ) (n : ℕ) (now : List ℕ) : Type 0 where
  pub buffer : now ≡ laid out at text
  pub wrote : n ≡ fitted out at text

-- the same from the buffer's front on
pub record Fills (out text : List ℕ) (n : ℕ) (now : List ℕ) : Type 0 where
  pub buffer : now ≡ overlaid out text
  pub wrote : n ≡ min (length text) (length out)

-- the digits of a number, the first one first, in plain arithmetic
pub record DigitRule (n : ℕ) (bs : List ℕ) : Type 0 where
  -- there is a digit
  pub some : 0 < length bs
  -- the digits suffice
  pub room : n < 10 ^ length bs
  -- no zero leads, but for 0 itself
  pub lead : 1 < length bs → 10 ^ (length bs - 1) ≤ n
  -- the digit at each place, in ASCII
  pub digit : (k : ℕ) → k < length bs → slice_index bs k ≡ 48 + n / 10 ^ (length bs - 1 - k) % 10
