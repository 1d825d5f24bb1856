-- Writes put bytes, and lawful ones into the status and the lock cell: so a chip that is born fit stays fit.
use Rattle.std.proofs.Common.{◌≡◌, ℕ, zero, suc, ◌+◌, ◌-◌, ◌*◌, ◌/◌, ◌%◌, ◌^◌, ◌<◌, ◌≤◌, Bool, true, false, cond, not, ◌&&◌, ◌||◌, leb, List, [], ◌∷◌, ◌++◌, length, get_or, take, drop, set, replicate, Some, None, Option, inl, inr, refl, ap, ◌∙◌, mod-lt, arith, lit<, lit≤, length-set}
use Rattle.std.proofs.lemmas.Bool.{cases_lt, leb-true, eqb-true, and_parts}
use Rattle.std.proofs.lemmas.List.{get_or_past, length-replicate}
use Rattle.std.proofs.lemmas.Nat.{pow_pos, pow-add}
use Rattle.rules.specs.declared.state.Event.{Event}
use Rattle.rules.specs.declared.state.Event.TheVariants.{Select, Clock, CycleEnd, Power}
use Rattle.rules.specs.declared.state.Instruction.{Instruction}
use Rattle.rules.specs.declared.state.Instruction.TheVariants as name
use Rattle.rules.specs.Shape.{Shape, Lawful, array_len, ident_at, status_at, lock_at}
use Rattle.rules.specs.Tables.{kept, named, a10, page_of, or}
use Rattle.laws.specs.Journal.{Entry, cycle_end, wrote, if_so, put_at, byte_of, number, bytes_in, placed, address, data_bits, wrsr, write, wrid, lid, lists, Noted, noted, closes, Journal, latches, noting, shifts, falls, cell}
use Rattle.laws.proofs.Bits.{number_lt, number_below}

-- what may be put at a place
pub record Sound (p : Shape) (i x : ℕ) : Type 0 where
  pub byte : x < 256
  pub status : i ≡ status_at p → kept x ≡ x
  pub lock : i ≡ lock_at p → x ≤ 1

abbrev pub SoundEntry : Shape → Entry → Type 0
SoundEntry p (wrote place bytes) = (i y : ℕ) → put_at place bytes i ≡ Some y → Sound p i y
SoundEntry p e = Unit {0}

abbrev pub SoundList : Shape → List Entry → Type 0
SoundList p [] = Unit {0}
SoundList p (e ∷ es) = SoundEntry p e × SoundList p es

or_by : (P : ℕ → Type 0) (o : Option ℕ) (x : ℕ) → ((y : ℕ) → o ≡ Some y → P y) → P x → P (or o x)
or_by P None x f g = g
or_by P (Some y) x f g = f y refl

-- what holds of birth bytes and of what is put holds of every cell's byte
pub byte_by : (p : Shape) (P : ℕ → ℕ → Type 0) → ((i x : ℕ) → Sound p i x → P i x) → (birth : List ℕ) → ((i : ℕ) → P i (get_or birth i 0)) → (es : List Entry) → SoundList p es → (i : ℕ) (b : Bool) → P i (byte_of birth i b es)
byte_by p P k birth g [] s i b = g i
byte_by p P k birth g (cycle_end ∷ es) s i b = byte_by p P k birth g es s.1 i true
byte_by p P k birth g (wrote place bytes ∷ es) s i true = or_by (P i) (put_at place bytes i) (byte_of birth i true es) (λ y e. k i y (s.0 i y e)) (byte_by p P k birth g es s.1 i true)
byte_by p P k birth g (e ∷ es) s i b = byte_by p P k birth g es s.1 i b

-- a put lies from its place on
put_in : (place : ℕ) (ps : List (Option ℕ)) (i y : ℕ) → put_at place ps i ≡ Some y → (place ≤ i) × (get_or ps (i - place) None ≡ Some y)
put_in place ps i y e = at (leb place i) refl e
  where
    at : (t : Bool) → leb place i ≡ t → (elim t as (λ _. Option ℕ) [ true ↦ get_or ps (i - place) None | false ↦ None ]) ≡ Some y → (place ≤ i) × (get_or ps (i - place) None ≡ Some y)
    at true q f = (leb-true place i q, f)
    at false q f = cc

inside : (ps : List (Option ℕ)) (k y : ℕ) → get_or ps k None ≡ Some y → k < length ps
inside ps k y e = elim (cases_lt k (length ps)) [ inl lt ↦ lt | inr ge ↦ cc (get_or_past ps k None ge) ]

abbrev Small : List (Option ℕ) → Type 0
Small ps = (k y : ℕ) → get_or ps k None ≡ Some y → y < 256

set_small : (ps : List (Option ℕ)) (at b : ℕ) → b < 256 → Small ps → Small (set ps at (Some b))
set_small (o ∷ ps) zero b h s zero y e = let q : b ≡ y = cc in omega arith
set_small (o ∷ ps) (suc at) b h s (suc k) y e = set_small ps at b h (λ j z q. s (suc j) z q) k y e
set_small ps at b h s k y e = s k y e

empty_small : (n : ℕ) → Small (replicate n None)
empty_small (suc n) (suc k) y e = empty_small n k y e
empty_small n k y e = cc

placed_small : (bs : List Bool) (ps : List (Option ℕ)) (at : ℕ) → Small ps → Small (placed ps at (bytes_in bs))
placed_small (a ∷ b ∷ c ∷ d ∷ e ∷ f ∷ g ∷ h ∷ bs) ps at s =
    let byte : List Bool = a ∷ b ∷ c ∷ d ∷ e ∷ f ∷ g ∷ h ∷ [] in
    placed_small bs (set ps at (Some (number byte))) ((at + 1) % length ps) (set_small ps at (number byte) (number_lt byte) s)
placed_small bs ps at s = s

length_placed : (bs : List ℕ) (ps : List (Option ℕ)) (at : ℕ) → length (placed ps at bs) ≡ length ps
length_placed [] ps at = refl
length_placed (b ∷ bs) ps at = length_placed bs (set ps at (Some b)) ((at + 1) % length ps) ∙ length-set ps at (Some b)

-- a page ends within the array
page_end : (a n m : ℕ) → n ≡ m * 256 → 0 < n → a % n / 256 * 256 + 256 ≤ n
page_end a n m e pos = let lt : a % n < n = mod-lt a pos in omega arith

array_pages : (p : Shape) → 12 ≤ p.bits → array_len p ≡ 2 ^ (p.bits - 8) * 256
array_pages p h = let e : p.bits ≡ p.bits - 8 + 8 = omega arith in ap (λ k. 2 ^ k) e ∙ pow-add 2 (p.bits - 8) 8

-- a put of bytes that ends before the status cell
low_sound : (p : Shape) (place : ℕ) (ps : List (Option ℕ)) → place + length ps ≤ status_at p → Small ps → SoundEntry p (wrote place ps)
low_sound p place ps end s i y e =
    let q = put_in place ps i y e in
    let lt : i - place < length ps = inside ps (i - place) y q.1 in
    record { byte = s (i - place) y q.1; status = λ z. absurd (omega arith); lock = λ z. absurd (omega arith) }

-- a put of one byte
one_put : (place v i y : ℕ) → put_at place (Some v ∷ []) i ≡ Some y → (i ≡ place) × (v ≡ y)
one_put place v i y e =
    let q = put_in place (Some v ∷ []) i y e in
    let lt : i - place < 1 = inside (Some v ∷ []) (i - place) y q.1 in
    let z : i - place ≡ 0 = omega arith in
    let f = rw z at q.1 in
    (omega arith, cc)

status_sound : (p : Shape) (b : ℕ) → b < 256 → SoundEntry p (wrote (status_at p) (Some (kept b) ∷ []))
status_sound p b h i y e =
    let q = one_put (status_at p) (kept b) i y e in
    rw (← q.1) (record { byte = omega arith; status = λ _. omega arith; lock = λ z. absurd (omega arith) })

lock_sound : (p : Shape) → SoundEntry p (wrote (lock_at p) (Some 1 ∷ []))
lock_sound p i y e =
    let q = one_put (lock_at p) 1 i y e in
    rw (← q.1) (record { byte = lit< tt; status = λ z. absurd (omega arith); lock = λ _. lit≤ tt })

if_sound : (p : Shape) (x : Bool) (e : Entry) → (x ≡ true → SoundEntry p e) → SoundList p (if_so x e)
if_sound p true e f = (f refl, tt)
if_sound p false e f = tt

module _ (p : Shape) (law : Lawful p) (w : Bool) (st lk : ℕ) where
  write_sound : (bs : List Bool) → SoundList p (write st p bs)
  write_sound bs =
      let a : ℕ = address bs in
      if_sound p _ _ (λ _. low_sound p (page_of p a) (placed (replicate 256 None) (a % 256) (bytes_in (data_bits bs)))
      (omega (arith, length_placed (bytes_in (data_bits bs)) (replicate 256 None) (a % 256), length-replicate {A = Option ℕ} 256 None, page_end a (array_len p) (2 ^ (p.bits - 8)) (array_pages p law.low) (pow_pos p.bits)))
      (placed_small (data_bits bs) (replicate 256 None) (a % 256) (empty_small 256)))

  wrid_sound : (bs : List Bool) → SoundList p (wrid st lk p bs)
  wrid_sound bs =
      let a : ℕ = address bs in
      if_sound p _ _ (λ _. low_sound p (ident_at p) (placed (replicate p.ident None) (a % p.ident) (bytes_in (data_bits bs)))
      (omega (arith, length_placed (bytes_in (data_bits bs)) (replicate p.ident None) (a % p.ident), length-replicate {A = Option ℕ} p.ident None))
      (placed_small (data_bits bs) (replicate p.ident None) (a % p.ident) (empty_small p.ident)))

  wrsr_sound : (bs : List Bool) → SoundList p (wrsr w st p bs)
  wrsr_sound bs =
      if_sound p _ _ (λ e. let len = eqb-true (length (drop 8 bs)) 8 (and_parts _ _ e).0 in status_sound p (number (drop 8 bs)) (number_below (drop 8 bs) 8 (omega arith)))

  lid_sound : (bs : List Bool) → SoundList p (lid st p bs)
  lid_sound bs = if_sound p _ _ (λ _. lock_sound p)

  either_sound : (t : Bool) (bs : List Bool) → SoundList p (cond t (lid st p bs) (wrid st lk p bs))
  either_sound true bs = lid_sound bs
  either_sound false bs = wrid_sound bs

  lists_sound : (wel : Bool) (i : Instruction) (bs : List Bool) → SoundList p (lists p w st lk wel i bs)
  lists_sound wel name.Wren bs = (tt, tt)
  lists_sound wel name.Wrdi bs = (tt, tt)
  lists_sound true name.Wrsr bs = wrsr_sound bs
  lists_sound true name.Write bs = write_sound bs
  lists_sound true name.WridLid bs = either_sound (a10 (address bs)) bs
  lists_sound wel i bs = tt

  closes_sound : (nt : Noted) (bs : List Bool) → SoundList p (closes p w st lk nt bs)
  closes_sound (noted true wel) bs = lists_sound wel (named (number (take 8 bs))) bs
  closes_sound nt bs = tt

append_sound : (p : Shape) (es more : List Entry) → SoundList p es → SoundList p more → SoundList p (es ++ more)
append_sound p [] more g l = l
append_sound p (e ∷ es) more g l = (g.0, append_sound p es more g.1 l)

cond_sound : (p : Shape) (t : Bool) (es : List Entry) → SoundList p es → SoundList p (cond t [] es)
cond_sound p true es g = tt
cond_sound p false es g = g

latches_sound : (p : Shape) (t : Bool) (j : Journal) → SoundList p j.entries → SoundList p (latches t j).entries
latches_sound p true j g = g
latches_sound p false j g = g

falls_sound : (p : Shape) (birth : List ℕ) (j : Journal) (t : Bool) (nt : Noted) → SoundList p j.entries → SoundList p (cond t (falls j j.last j.sampled) (shifts p birth j nt)).entries
falls_sound p birth j false (noted true wel) g = g
falls_sound p birth j t nt g = g

pub noting_sound : (p : Shape) → Lawful p → (birth : List ℕ) (j : Journal) → SoundList p j.entries → (e : Event) → SoundList p (noting p birth j e).entries
noting_sound p law birth j g (Select true) =
    append_sound p (cond j.held [] (closes p j.w (cell birth j (status_at p)) (cell birth j (lock_at p)) j.note j.bits)) j.entries
    (cond_sound p j.held _ (closes_sound p law j.w (cell birth j (status_at p)) (cell birth j (lock_at p)) j.note j.bits)) g
noting_sound p law birth j g (Clock true) = latches_sound p (not j.s && not j.held) j g
noting_sound p law birth j g (Clock false) = falls_sound p birth j (j.s || j.held) j.note g
noting_sound p law birth j g CycleEnd = (tt, g)
noting_sound p law birth j g Power = (tt, g)
noting_sound p law birth j g e = g
