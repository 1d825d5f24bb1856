-- Which parts a capture has.
use Rattle.std.specs.Prelude.{ℕ, zero, suc, ◌+◌, ◌/◌, Bool, cond, ◌&&◌, List, [], ◌∷◌, length, take, drop, ◌==◌, nat_lt, slice_index}

-- quiet: S is high; selected: from a fall of S to its next rise; open: selected and never raised;
-- lone: the last byte of an odd length
pub data Kind : Type 0 where
  quiet : Kind
  selected : Kind
  opened : Kind
  lone : Kind

-- a part of a capture
pub record Part : Type 0 where
  pub kind : Kind
  pub first : ℕ
  pub bytes : List ℕ

-- kind k with level l is the record 0, level: pin S goes to that level
abbrev pub moves : ℕ → ℕ → ℕ → Bool
moves level k l = k == 0 && l == level

-- the same of a record's two bytes
abbrev pub is_move : ℕ → List ℕ → Bool
is_move level r = moves level (slice_index r 0) (slice_index r 1)

-- the bytes ahead of the first record that moves S to the level, or of all whole records where none does
unfoldable pub ahead : ℕ → List ℕ → ℕ
ahead level [] = 0
ahead level (b ∷ []) = 0
ahead level (k ∷ l ∷ xs) = cond (moves level k l) 0 (2 + ahead level xs)

-- the kind and the length of the first part of what is left: fewer than two bytes are a lone byte, a quiet part ends
-- ahead of the next fall of S, and at a fall a part begins that ends with the next rise, or with the last record
unfoldable pub front : List ℕ → Kind × ℕ
front xs =
    cond (nat_lt (length xs) 2) (lone, length xs)
    (cond (nat_lt 0 (ahead 0 xs)) (quiet, ahead 0 xs)
    (cond (nat_lt (ahead 1 xs + 1) (length xs)) (selected, ahead 1 xs + 2) (opened, ahead 1 xs)))

-- the first part of what is left, under a number
abbrev pub first_part : ℕ → List ℕ → Part
first_part n xs = record { kind = (front xs).0; first = n; bytes = take (front xs).1 xs }

-- the parts of what is left from byte place on, of which there are at most so many
unfoldable pub parts_in : ℕ → ℕ → List ℕ → List Part
parts_in zero place xs = []
parts_in (suc most) place [] = []
parts_in (suc most) place (x ∷ xs) =
    first_part (place / 2) (x ∷ xs)
    ∷ parts_in most (place + (front (x ∷ xs)).1) (drop (front (x ∷ xs)).1 (x ∷ xs))

-- the parts of what is left of a capture from a byte place on: no part is empty, so there are at most as many as bytes
unfoldable pub parts_from : ℕ → List ℕ → List Part
parts_from place xs = parts_in (length xs) place xs

-- the parts of a capture
abbrev pub parts : List ℕ → List Part
parts capture = parts_from 0 capture
