-- What holds of the parts of every capture.
use Rattle.std.specs.Prelude.{◌≡◌, ℕ, ◌+◌, ◌/◌, ◌<◌, true, List, [], ◌∷◌, length, slice_index}
use Rattle.std.specs.List.{flat_map}
use Rattle.stretch.specs.Parts.{Kind, Part, quiet, selected, opened, lone, moves}

-- record number i moves S to the level
abbrev pub At : ℕ → List ℕ → ℕ → Type 0
At level bs i = moves level (slice_index bs (i + i)) (slice_index bs (i + i + 1)) ≡ true

-- no record of the first n moves S to the level
abbrev pub Lacks : ℕ → List ℕ → ℕ → Type 0
Lacks level bs n = (i : ℕ) → i < n → At level bs i → ⊥

-- a part holds n records, which are what its kind says; a lone byte is one byte
abbrev pub Formed : Kind → List ℕ → Type 0
Formed quiet bs = (n : ℕ) × (length bs ≡ n + n) × Lacks 0 bs n
Formed selected bs = (n : ℕ) × (length bs ≡ n + n + 2) × At 0 bs 0 × Lacks 1 bs n × At 1 bs n
Formed opened bs = (n : ℕ) × (length bs ≡ n + n) × At 0 bs 0 × Lacks 1 bs n
Formed lone bs = length bs ≡ 1

-- the part that may come next: after a quiet one no quiet one, after an open one only the lone byte, after that none
abbrev pub MayFollow : Kind → Kind → Type 0
MayFollow quiet k = k ≡ quiet → ⊥
MayFollow selected k = Unit {0}
MayFollow opened k = k ≡ lone
MayFollow lone k = ⊥

abbrev pub Ordered : List Part → Type 0
Ordered [] = Unit {0}
Ordered (p ∷ []) = Unit {0}
Ordered (p ∷ q ∷ ps) = MayFollow p.kind q.kind × Ordered (q ∷ ps)

-- each part is as its kind says
abbrev pub AllFormed : List Part → Type 0
AllFormed [] = Unit {0}
AllFormed (p ∷ ps) = Formed p.kind p.bytes × AllFormed ps

-- each part's number is that of the record that its first byte belongs to
abbrev pub Numbered : ℕ → List Part → Type 0
Numbered place [] = Unit {0}
Numbered place (p ∷ ps) = (p.first ≡ place / 2) × Numbered (place + length p.bytes) ps

-- no part is empty
abbrev pub Filled : List Part → Type 0
Filled [] = Unit {0}
Filled (p ∷ ps) = (0 < length p.bytes) × Filled ps

-- ps cuts the capture from a byte place on
pub record Cut (place : ℕ) (capture : List ℕ) (ps : List Part) : Type 0 where
  pub whole : flat_map (λ (p : Part). p.bytes) ps ≡ capture
  pub filled : Filled ps
  pub numbered : Numbered place ps
  pub formed : AllFormed ps
  pub ordered : Ordered ps
