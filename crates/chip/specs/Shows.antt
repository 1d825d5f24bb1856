-- What a chip shows.
use Rattle.std.specs.Prelude.{◌≡◌, ℕ, List, length, take, drop}
use Rattle.std.specs.Borrow.{GName}
use Rattle.rules.specs.Shape.{Shape, cell_count}
use Rattle.rules.specs.declared.state.Phase.TheVariants.{Deselected}
use Rattle.rules.specs.Rules.{View, at_rest}
use Rattle.chip.specs.declared.unit.Chip.{Chip}
use Rattle.chip.specs.declared.unit.Unit.{Unit}

-- the part's cells in a row
unfoldable pub cells_of : Shape → List ℕ → List ℕ
cells_of p row = take (cell_count p) row

-- a unit with these cells
abbrev pub shown : Unit → List ℕ → View
shown u cells = record { pins = u.pins; wel = u.wel; cycle = u.cycle; stretch = u.stretch; shift = u.shift; cells = cells }

-- the same unit, deselected
abbrev pub resting : Unit → Unit
resting u = record { pins = u.pins; wel = u.wel; cycle = u.cycle; stretch = Deselected; shift = at_rest }

-- row gives the row of a backing
abbrev pub view_of : {P B : Type 0} → Shape → (B → List ℕ) → Chip P B → View
view_of p row c = shown c.unit (cells_of p (row c.backing.now))

-- what stays of a backing under a chip's calls: the references that it holds, what lies past its cap, its length, and the
-- row past the part's cells
pub record Kept {B : Type 0} (p : Shape) (row past : B → List ℕ) (held : B → List GName) (x y : B) : Type 0 where
  pub same_held : held y ≡ held x
  pub same_past : past y ≡ past x
  pub same_length : length (row y) ≡ length (row x)
  pub same_rest : drop (cell_count p) (row y) ≡ drop (cell_count p) (row x)
