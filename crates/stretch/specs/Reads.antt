-- What a reader has still to hand out.
use Rattle.std.specs.Prelude.{◌≡◌, ℕ, ◌-◌, List, [], ◌∷◌, length, drop, Option, MatchOption}
use Rattle.stretch.specs.Parts.{Part, quiet, selected, opened, lone, first_part, parts_from}
use Rattle.stretch.specs.declared.part.Stretch.{Stretch}
use Rattle.stretch.specs.declared.part.Stretch.TheVariants.{Quiet, Selected, Open, LoneByte}
use Rattle.stretch.specs.declared.part.Placed.{Placed}
use Rattle.stretch.specs.declared.part.Reader.{Reader}

-- a stretch with its number, as a part
abbrev pub shown_as : ℕ → Stretch → Part
shown_as n (Quiet s) = record { kind = quiet; first = n; bytes = s.now }
shown_as n (Selected s) = record { kind = selected; first = n; bytes = s.now }
shown_as n (Open s) = record { kind = opened; first = n; bytes = s.now }
shown_as n (LoneByte s) = record { kind = lone; first = n; bytes = s.now }

abbrev pub shown : Placed → Part
shown p = shown_as p.first p.stretch

abbrev pub bytes_of : Stretch → List ℕ
bytes_of (Quiet s) = s.now
bytes_of (Selected s) = s.now
bytes_of (Open s) = s.now
bytes_of (LoneByte s) = s.now

-- a stretch is the first part of what is left, under any number
abbrev pub Leads : List ℕ → Stretch → Type 0
Leads xs s = (n : ℕ) → shown_as n s ≡ first_part n xs

-- the parts to come
abbrev pub coming : Reader → List Part
coming r = parts_from r.place (drop r.place r.capture.now)

-- the bytes to come
abbrev pub left : Reader → ℕ
left r = length r.capture.now - r.place

-- a call of next at a reader s, what it hands out, and the reader t after it
abbrev pub Handed : Reader → Option Placed → Reader → Type 0
Handed s r t = MatchOption r ((coming s ≡ []) × (t ≡ s)) (λ p. coming s ≡ shown p ∷ coming t)
