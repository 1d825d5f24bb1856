-- What the bits of a reading stretch come to: the bit of the output byte, its address and its cell.
use Rattle.std.proofs.Common.{◌≡◌, ℕ, suc, ◌+◌, ◌-◌, ◌/◌, ◌%◌, ◌^◌, ◌<◌, ◌≤◌, Bool, false, List, [], ◌∷◌, length, refl, ap, ◌∙◌, inl, inr, arith}
use Rattle.std.proofs.Math.Pow.{mod-mod-pow}
use Rattle.std.proofs.lemmas.Bool.{lt-ltb, le-ltb, cases_lt}
use Rattle.std.proofs.lemmas.Nat.{mod_below}
use Rattle.rules.specs.declared.state.Region.{Region}
use Rattle.rules.specs.declared.state.Region.TheVariants as region
use Rattle.rules.specs.declared.state.Phase.{Phase}
use Rattle.rules.specs.declared.state.Phase.TheVariants.{Status, Output}
use Rattle.rules.specs.Shape.{Shape, Lawful, array_len, ident_at, unique_at}
use Rattle.rules.specs.Rules.{rolled, latched, place}
use Rattle.laws.proofs.Bits.{goes_on, rolled_is}

status_from : (ident : ℕ) (bs : List Bool) (k : ℕ) → k < 8 → goes_on ident (Status k) bs ≡ Status ((k + length bs) % 8)
status_from ident [] k lt = ap Status (omega arith)
status_from ident (b ∷ bs) k lt =
    let r : rolled k 7 ≡ (k + 1) % 8 = rolled_is k 7 8 refl lt in
    status_from ident bs (rolled k 7) (omega arith) ∙ ap Status (omega arith)

-- the bit of the status byte
pub status_phase : (ident : ℕ) (rest : List Bool) → goes_on ident (Status 0) rest ≡ Status (length rest % 8)
status_phase ident rest = status_from ident rest 0 (omega arith) ∙ ap Status (omega arith)

-- the address and the bit of an output byte
abbrev output_after : Region → (a n : ℕ) → Phase
output_after r a n = Output r ((a + n / 8) % 4294967296) (n % 8)

output_here : (r : Region) (a k : ℕ) → a < 4294967296 → k < 8 → Output r a k ≡ output_after r a (k + 0)
output_here r a k small lt =
    let bit : k ≡ (k + 0) % 8 = omega arith in
    let address : a ≡ (a + (k + 0) / 8) % 4294967296 = omega arith in
    cc

output_more : (ident : ℕ) (r : Region) (b : Bool) (a k : ℕ) → k < 7 → latched ident false false b (Output r a k) ≡ Output r a (k + 1)
output_more ident r b a k lt = rw (lt-ltb k 7 lt, latched)

output_next : (ident : ℕ) (r : Region) (b : Bool) (a k : ℕ) → 7 ≤ k → latched ident false false b (Output r a k) ≡ Output r ((a + 1) % 4294967296) 0
output_next ident r b a k ge = rw (le-ltb k 7 ge, latched)

output_from : (ident : ℕ) (r : Region) (bs : List Bool) (a k : ℕ) → a < 4294967296 → k < 8 → goes_on ident (Output r a k) bs ≡ output_after r a (k + length bs)
output_from ident r [] a k small lt = output_here r a k small lt
output_from ident r (b ∷ bs) a k small lt =
    elim (cases_lt k 7) [
      | inl l ↦
          ap (λ ph. goes_on ident ph bs) (output_more ident r b a k l)
          ∙ (output_from ident r bs a (k + 1) small (omega arith) ∙ ap (output_after r a) (omega arith))
      | inr g ↦
          let bit : (0 + length bs) % 8 ≡ (k + suc (length bs)) % 8 = omega arith in
          let address : ((a + 1) % 4294967296 + (0 + length bs) / 8) % 4294967296 ≡ (a + (k + suc (length bs)) / 8) % 4294967296 = omega arith in
          ap (λ ph. goes_on ident ph bs) (output_next ident r b a k g)
          ∙ (output_from ident r bs ((a + 1) % 4294967296) 0 (mod_below (a + 1) 4294967296 (omega arith)) (omega arith) ∙ cc)
    ]

pub output_phase : (ident : ℕ) (r : Region) (a : ℕ) (ds : List Bool) → a < 4294967296 →
    goes_on ident (Output r a 0) ds ≡ Output r ((a + length ds / 8) % 4294967296) (length ds % 8)
output_phase ident r a ds small = output_from ident r ds a 0 small (omega arith) ∙ ap (output_after r a) (omega arith)

-- an address of 32 bits, within what a power of two divides
mod_within : (n k : ℕ) → k ≤ 32 → n % 4294967296 % 2 ^ k ≡ n % 2 ^ k
mod_within n k le =
    let e : 32 ≡ 32 - k + k = omega arith in
    ap (λ m. n % 2 ^ m % 2 ^ k) e ∙ mod-mod-pow n (32 - k) k

mod_ident : (p : Shape) → Lawful p → (n : ℕ) → n % 4294967296 % p.ident ≡ n % p.ident
mod_ident p law n =
    elim law.page [
      | inl e ↦ rw e (mod_within n 7 (omega arith))
      | inr e ↦ rw e (mod_within n 8 (omega arith))
    ]

-- the rules' cell of output byte j is the journal's
pub read_place_is : (p : Shape) → Lawful p → (a j : ℕ) →
    (place p region.Array ((a + j) % 4294967296) ≡ (a + j) % array_len p) ×
    (place p region.Ident ((a + j) % 4294967296) ≡ ident_at p + (a + j) % p.ident) ×
    (place p region.Unique ((a + j) % 4294967296) ≡ unique_at p + (a + j) % 16)
read_place_is p law a j =
    let few : p.bits ≤ 18 = law.high in
    (mod_within (a + j) p.bits (omega arith), ap (λ x. ident_at p + x) (mod_ident p law (a + j)), ap (λ x. unique_at p + x) (mod_within (a + j) 4 (omega arith)))
