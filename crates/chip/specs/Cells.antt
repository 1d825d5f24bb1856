-- A part's cells: in a backing, and in two chips.
use Rattle.std.specs.Prelude.{◌≡◌, ℕ, ◌<◌, ◌≤◌, List, length, None, slice_index}
use Rattle.rules.specs.Shape.{Shape, cell_count}
use Rattle.rules.specs.Tables.{unfit}
use Rattle.chip.specs.Shows.{cells_of}

-- a row that a chip of the part can use, and its cells
pub record Usable (p : Shape) (row cells : List ℕ) : Type 0 where
  pub fit : unfit p (cells_of p row) ≡ None
  pub long : cell_count p ≤ length row
  pub is_front : cells ≡ cells_of p row

-- the part's cells hold the same bytes
abbrev pub EqualCells : Shape → List ℕ → List ℕ → Type 0
EqualCells p xs ys = (i : ℕ) → i < cell_count p → slice_index xs i ≡ slice_index ys i
