-- A part of a buffer filled from a row, byte by byte.
use Rattle.std.proofs.Common.{◌≡◌, ℕ, ◌≤◌, List, length, take, drop}
use Rattle.std.proofs.lemmas.List.{length-take-le}
use Rattle.rules.specs.Shape.{Shape, cell_count}
use Rattle.chip.specs.Shows.{cells_of}

pub long_cells : (p : Shape) (row : List ℕ) → cell_count p ≤ length row → length (cells_of p row) ≡ cell_count p
unfolding cells_of
long_cells p row h = length-take-le (cell_count p) row h

-- the bytes of out up to i are those of a row from a place on
pub record Filled (row : List ℕ) (from : ℕ) (out : List ℕ) (i : ℕ) : Type 0 where
  pub so_far : take i out ≡ take i (drop from row)
