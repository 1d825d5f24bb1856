-- Parts, and the places of their cells.
use Rattle.std.specs.Prelude.{◌≡◌, ℕ, ◌+◌, ◌^◌, ◌≤◌, ◌⊎◌}

-- a part: its address bits and the length of its identification page
pub record Shape : Type 0 where
  pub bits : ℕ
  pub ident : ℕ

-- what a part may be
pub record Lawful (p : Shape) : Type 0 where
  pub low : 12 ≤ p.bits
  pub high : p.bits ≤ 18
  pub page : (p.ident ≡ 128) ⊎ (p.ident ≡ 256)

-- the array's cells, then the identification page, 16 of unique ID, one status cell, one lock cell
abbrev pub array_len : Shape → ℕ
array_len p = 2 ^ p.bits

abbrev pub ident_at : Shape → ℕ
ident_at p = array_len p

abbrev pub unique_at : Shape → ℕ
unique_at p = array_len p + p.ident

abbrev pub status_at : Shape → ℕ
status_at p = unique_at p + 16

abbrev pub lock_at : Shape → ℕ
lock_at p = unique_at p + 17

abbrev pub cell_count : Shape → ℕ
cell_count p = unique_at p + 18
