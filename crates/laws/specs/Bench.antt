-- The twelve bench cases, each from a delivered bench part, as one computed table.
use Rattle.std.specs.Prelude.{◌≡◌, ℕ, zero, suc, ◌+◌, ◌-◌, ◌*◌, ◌/◌, ◌%◌, ◌^◌, Bool, true, false, not, ◌&&◌, List, [], ◌∷◌, ◌++◌, length, take, drop, replicate, None, Ok, Err, Result, ◌==◌, slice_index}
use Rattle.backing.specs.Rows.{Bytes}
use Rattle.backing.specs.declared.refusal.Refusal.{Refusal}
use Rattle.rules.specs.declared.state.Level.{Level}
use Rattle.rules.specs.Shape.{Shape, Lawful, status_at, lock_at}
use Rattle.rules.specs.Tables.{level_number, unfit}
use Rattle.rules.specs.Rules.{View, running, born, step, after, answer}
use Rattle.rules.specs.Calls.{Call, capture}
use Rattle.laws.specs.Journal.{enabled}
use Rattle.laws.specs.Laws.{AtRest, Agree, chip_after, journal_after}

abbrev pub bench : Shape
bench = record { bits = 12; ident = 256 }

abbrev pub counted : ℕ → ℕ → List ℕ
counted zero k = []
counted (suc n) k = k ∷ counted n (k + 1)

-- array and identification page of FFh, 00h to 0Fh as unique ID, 0 in the status and the lock cell
abbrev pub delivered : List ℕ
delivered = replicate 4352 255 ++ (counted 16 0 ++ (0 ∷ 0 ∷ []))

abbrev pub fresh : View
fresh = born bench delivered

-- ---- sending

-- an event of this kind and level; one that is refused, as that of a D that is there already, changes nothing
abbrev pub sent : View → (kind level : ℕ) → View
sent v k l = after v (step bench v k l)

-- the bits of some bytes, the highest of each first
abbrev pub bits_before : ℕ → ℕ → List ℕ → List ℕ
bits_before zero b more = more
bits_before (suc k) b more = b / 2 ^ k % 2 ∷ bits_before k b more

abbrev pub bits_of : List ℕ → List ℕ
bits_of [] = []
bits_of (b ∷ bs) = bits_before 8 b (bits_of bs)

-- D, a rise and a fall of C for each bit
abbrev pub clocked : View → List ℕ → View
clocked v [] = v
clocked v (b ∷ bs) = clocked (sent (sent (sent v 2 b) 1 1) 1 0) bs

-- the same, where HOLD falls and rises while C is high
abbrev pub clocked_pulsing : View → List ℕ → View
clocked_pulsing v [] = v
clocked_pulsing v (b ∷ bs) = clocked_pulsing (sent (sent (sent (sent (sent v 2 b) 1 1) 4 0) 4 1) 1 0) bs

-- stretches: of bits, of bytes
abbrev pub selected : View → View
selected v = sent v 0 0

abbrev pub deselected : View → View
deselected v = sent v 0 1

abbrev pub stretch : View → List ℕ → View
stretch v bs = deselected (clocked (selected v) bs)

abbrev pub sends : View → List ℕ → View
sends v bytes = stretch v (bits_of bytes)

-- after WREN; a write after WREN; and the end of its cycle
abbrev pub enables : View → View
enables v = sends v (0x06 ∷ [])

abbrev pub writes : View → List ℕ → View
writes v bytes = sends (enables v) bytes

abbrev pub finishes : View → View
finishes v = sent v 5 0

abbrev pub wrote : View → List ℕ → View
wrote v bytes = finishes (writes v bytes)

abbrev pub runs : View → Bool
runs v = running v.cycle

-- ---- reading

abbrev pub level : Result Level Refusal → ℕ
level (Ok q) = level_number q
level (Err r) = 255

-- what each fall of C answers
abbrev pub falls : View → List ℕ → List ℕ
falls v [] = []
falls v (b ∷ bs) =
    let u = sent (sent v 2 b) 1 1 in
    level (answer (step bench u 1 0)) ∷ falls (sent u 1 0) bs

-- the levels of n bytes that a command draws, from the fall after its last bit on
abbrev pub reply : View → List ℕ → ℕ → List ℕ
reply v command n = drop (8 * length command - 1) (falls (selected v) (bits_of command ++ replicate (8 * n - 1) 0))

abbrev pub cells_at : View → List ℕ → List ℕ
cells_at v [] = []
cells_at v (i ∷ is) = slice_index v.cells i ∷ cells_at v is

abbrev pub same : List ℕ → List ℕ → Bool
same [] [] = true
same [] (y ∷ ys) = false
same (x ∷ xs) [] = false
same (x ∷ xs) (y ∷ ys) = x == y && same xs ys

-- a command draws these bytes, and no high impedance in between
abbrev pub draws : View → (command bytes : List ℕ) → Bool
draws v command bytes = same (reply v command (length bytes)) (bits_of bytes)

abbrev pub status_is : View → ℕ → Bool
status_is v b = draws v (0x05 ∷ []) (b ∷ [])

-- ---- the cases

-- the write of case 2, and one byte to place 0
abbrev pub three_bytes : List ℕ
three_bytes = 0x02 ∷ 0x00 ∷ 0x00 ∷ 0xFE ∷ 0x11 ∷ 0x22 ∷ 0x33 ∷ []

abbrev pub one_byte : List ℕ
one_byte = 0x02 ∷ 0x00 ∷ 0x00 ∷ 0x00 ∷ 0x5A ∷ []

-- a write of it that is cut off
abbrev pub cut : ℕ → View
cut n = stretch (enables fresh) (take n (bits_of three_bytes))

-- 257 bytes to place 0 on: 00h, 01h, .. FFh, and 5Ah
abbrev pub long_write : List ℕ
long_write = 0x02 ∷ 0x00 ∷ 0x00 ∷ 0x00 ∷ (counted 256 0 ++ (0x5A ∷ []))

-- 40 good bits of a write, then HOLD falls while C is low, so that the chip is held
abbrev pub held_in_write : View
held_in_write = sent (clocked (selected (enables fresh)) (bits_of one_byte)) 4 0

-- a write whose every bit has a pulse of HOLD while C is high
abbrev pub pulsed : View
pulsed = deselected (clocked_pulsing (selected (enables fresh)) (bits_of one_byte))

-- the levels of two bytes of RDSR in a cycle that ends after the fourth bit of the first
abbrev pub cycle_ends_within : List ℕ
cycle_ends_within =
    let v = clocked (selected (writes fresh one_byte)) (take 7 (bits_of (0x05 ∷ []))) in
    let first = 1 ∷ 0 ∷ 0 ∷ 0 ∷ [] in
    falls v first ++ falls (finishes (clocked v first)) (replicate 12 0)

-- what a rise of C, the two pulses of HOLD and the fall answer, bit by bit
abbrev pub pulse_levels : View → List ℕ → List ℕ
pulse_levels v [] = []
pulse_levels v (b ∷ bs) =
    let u = sent (sent v 2 b) 1 1 in
    level (answer (step bench u 4 0)) ∷ level (answer (step bench (sent u 4 0) 4 1)) ∷ level (answer (step bench u 1 0)) ∷ pulse_levels (sent (sent (sent u 4 0) 4 1) 1 0) bs

-- each level three times, the first two as of the bit before
abbrev pub thrice : ℕ → List ℕ → List ℕ
thrice was [] = []
thrice was (q ∷ qs) = was ∷ was ∷ q ∷ thrice q qs

abbrev pub quarter : View
quarter = wrote fresh (0x01 ∷ 0x04 ∷ [])

abbrev pub all_set : View
all_set = wrote fresh (0x01 ∷ 0xFF ∷ [])

-- bytes at the last and the first place of the array
abbrev pub at_both_ends : View
at_both_ends = wrote (wrote fresh (0x02 ∷ 0x00 ∷ 0x0F ∷ 0xFF ∷ 0xA5 ∷ [])) (0x02 ∷ 0x00 ∷ 0x00 ∷ 0x00 ∷ 0xC3 ∷ [])

-- LID with a data byte
abbrev pub lid : ℕ → List ℕ
lid b = 0x82 ∷ 0x00 ∷ 0x04 ∷ 0x00 ∷ b ∷ []

abbrev pub wrid : List ℕ
wrid = 0x82 ∷ 0x00 ∷ 0x00 ∷ 0x00 ∷ 0x5A ∷ []

abbrev pub cases : List Bool
cases =
    -- 1: RDSR after WREN
    status_is (enables fresh) 0x02 ∷
    -- 2: three bytes from FEh on roll within the page; RDSR after the cycle
    same (cells_at (wrote fresh three_bytes) (0xFE ∷ 0xFF ∷ 0x00 ∷ [])) (0x11 ∷ 0x22 ∷ 0x33 ∷ []) ∷
    status_is (wrote fresh three_bytes) 0x00 ∷
    -- 3: cut off at 39 bits; at 41 bits
    (not (runs (cut 39)) && status_is (cut 39) 0x02) ∷
    (not (runs (cut 41)) && status_is (cut 41) 0x02) ∷
    -- 4: no data byte, where one would have counted
    (not (runs (cut 32)) && runs (cut 40)) ∷
    -- 5: below the protected quarter; in it
    runs (writes quarter (0x02 ∷ 0x00 ∷ 0x0B ∷ 0xFF ∷ 0x5A ∷ [])) ∷
    not (runs (writes quarter (0x02 ∷ 0x00 ∷ 0x0C ∷ 0x00 ∷ 0x5A ∷ []))) ∷
    -- 6: the last of 257 bytes stands at place 0, those before it stay
    same (cells_at (wrote fresh long_write) (0 ∷ 1 ∷ 255 ∷ 256 ∷ [])) (0x5A ∷ 1 ∷ 255 ∷ 0xFF ∷ []) ∷
    -- 7: held at the rise of S, where the write would have counted
    (held_in_write.shift.held && (not (runs (deselected held_in_write)) && runs (writes fresh one_byte))) ∷
    -- 8: pulses of HOLD while C is high
    (runs pulsed && same (cells_at (finishes pulsed) (0 ∷ 1 ∷ [])) (0x5A ∷ 0xFF ∷ [])) ∷
    same (pulse_levels (selected (enables fresh)) (bits_of (0x05 ∷ 0x00 ∷ []))) (thrice 2 (falls (selected (enables fresh)) (bits_of (0x05 ∷ 0x00 ∷ [])))) ∷
    -- 9: READ from the last place of the array on
    draws at_both_ends (0x03 ∷ 0x00 ∷ 0x0F ∷ 0xFF ∷ []) (0xA5 ∷ 0xC3 ∷ []) ∷
    -- 10: WRSR of FFh; then with W high; with W low
    same (cells_at all_set (status_at bench ∷ [])) (0x8C ∷ []) ∷
    runs (writes all_set (0x01 ∷ 0x00 ∷ [])) ∷
    not (runs (writes (sent all_set 3 0) (0x01 ∷ 0x00 ∷ []))) ∷
    -- 11: RDSR in a cycle; a cycle that ends within the byte
    status_is (writes fresh one_byte) 0x03 ∷
    same cycle_ends_within (bits_of (0x03 ∷ 0x00 ∷ [])) ∷
    -- 12: LID of FDh; of 02h; then WRID, which counts on an open page
    (status_is (writes fresh (lid 0xFD)) 0x02 && same (cells_at (wrote fresh (lid 0xFD)) (lock_at bench ∷ [])) (0 ∷ [])) ∷
    same (cells_at (wrote fresh (lid 0x02)) (lock_at bench ∷ [])) (1 ∷ []) ∷
    (not (runs (writes (wrote fresh (lid 0x02)) wrid)) && runs (writes fresh wrid)) ∷
    []

abbrev pub BenchCases : Type 0
BenchCases =
    cases ≡
    true ∷ true ∷ true ∷ true ∷ true ∷ true ∷ true ∷ true ∷ true ∷ true ∷
    true ∷ true ∷ true ∷ true ∷ true ∷ true ∷ true ∷ true ∷ true ∷ true ∷ true ∷ []

-- ---- the laws speak of something

-- a history of one capture, the records of a WREN
abbrev pub pulses : ℕ → List ℕ → List ℕ
pulses zero more = more
pulses (suc n) more = 1 ∷ 1 ∷ 1 ∷ 0 ∷ pulses n more

abbrev pub wren : List Call
wren = capture (0 ∷ 0 ∷ pulses 5 (2 ∷ 1 ∷ pulses 2 (2 ∷ 0 ∷ pulses 1 (0 ∷ 1 ∷ [])))) 20 ∷ []

-- a delivered part is fit, deselected and idle, at its birth and after WREN, and these two histories do not agree
pub record Rests : Type 0 where
  pub lawful : Lawful bench
  pub bytes : Bytes delivered
  pub fit : unfit bench fresh.cells ≡ None
  pub rests : AtRest fresh
  pub still_fit : unfit bench (chip_after bench delivered wren).cells ≡ None
  pub still_rests : AtRest (chip_after bench delivered wren)
  pub not_enabled : enabled (journal_after bench delivered []).entries ≡ false
  pub is_enabled : enabled (journal_after bench delivered wren).entries ≡ true
  pub apart : Agree bench delivered delivered (journal_after bench delivered []) (journal_after bench delivered wren) → ⊥
