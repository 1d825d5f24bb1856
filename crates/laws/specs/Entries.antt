-- The entries of the tables that the rules and the journal share, seen from outside: what short runs on a delivered
-- bench part come to, as one computed table.
use Rattle.std.specs.Prelude.{◌≡◌, ℕ, Bool, true, not, ◌&&◌, List, [], ◌∷◌, ◌++◌, take, drop, replicate, Some, None, Ok, Err, Option, Result}
use Rattle.backing.specs.Faults.{number as refusal_number, position}
use Rattle.backing.specs.declared.refusal.Refusal.{Refusal}
use Rattle.backing.specs.declared.fault.Fault.{Fault}
use Rattle.rules.specs.declared.state.Level.{Level}
use Rattle.rules.specs.Tables.{level_number, unfit}
use Rattle.rules.specs.Rules.{View, born, step, answer}
use Rattle.rules.specs.Calls.{Call, event, capture, copy, outcome}
use Rattle.laws.specs.Bench.{bench, counted, fresh, sent, bits_of, clocked, selected, deselected, stretch, sends, enables, writes, finishes, wrote, runs, level, falls, cells_at, same, draws, status_is, one_byte, quarter, lid, wrid, pulses}

-- an answer by its numbers: a value n as 0, n; a fault as refusal, layer, record
abbrev pub by_numbers : Result ℕ Fault → List ℕ
by_numbers (Ok n) = 0 ∷ n ∷ []
by_numbers (Err e) = refusal_number e.refusal ∷ position e.layer ∷ e.«record» ∷ []

-- the refusal that each of these events, two bytes each, would draw; 0 where it is taken
abbrev pub turned : Result Level Refusal → ℕ
turned (Ok q) = 0
turned (Err r) = refusal_number r

abbrev pub refusals : View → List ℕ → List ℕ
refusals v [] = []
refusals v (k ∷ []) = []
refusals v (k ∷ l ∷ more) = turned (answer (step bench v k l)) ∷ refusals v more

-- why a chip over a row is not fit; 0 where it is fit
abbrev pub cause : Option Refusal → ℕ
cause None = 0
cause (Some r) = refusal_number r

abbrev pub unfit_by : List ℕ → ℕ
unfit_by row = cause (unfit bench (take 4370 row))

-- a delivered row with other bytes in the status and the lock cell
abbrev pub delivered_with : ℕ → ℕ → List ℕ
delivered_with st lk = replicate 4352 255 ++ (counted 16 0 ++ (st ∷ lk ∷ []))

-- Q by its numbers
abbrev pub q_numbers : List Level → List ℕ
q_numbers [] = []
q_numbers (q ∷ qs) = level_number q ∷ q_numbers qs

abbrev pub call_says : View → Call → List ℕ
call_says v x = by_numbers (outcome bench v x).says

-- in a cycle
abbrev pub in_cycle : View
in_cycle = writes fresh one_byte

abbrev pub half : View
half = wrote fresh (0x01 ∷ 0x08 ∷ [])

abbrev pub whole : View
whole = wrote fresh (0x01 ∷ 0x0C ∷ [])

-- an instruction in a cycle that ends after its eighth bit
abbrev pub outlasts : List ℕ → View
outlasts bytes = deselected (finishes (clocked (selected in_cycle) (bits_of bytes)))

-- the records of an RDSR up to its eighth bit, S falling first
abbrev pub rdsr_records : List ℕ
rdsr_records = 0 ∷ 0 ∷ pulses 5 (2 ∷ 1 ∷ pulses 1 (2 ∷ 0 ∷ pulses 1 (2 ∷ 1 ∷ pulses 1 [])))

-- the eighth bit of WREN latched, C high
abbrev pub wren_latched : View
wren_latched = sent (sent (clocked (selected fresh) (take 7 (bits_of (0x06 ∷ [])))) 2 0) 1 1

-- RDSR of 02h: the bit before bit 1 shifted, and C high again
abbrev pub before_bit_6 : View
before_bit_6 = sent (clocked (selected (enables fresh)) (bits_of (0x05 ∷ []) ++ replicate 5 0)) 1 1

abbrev pub entries : List Bool
entries =
    -- events that are refused at birth, and two that are not
    same (refusals fresh (7 ∷ 9 ∷ 7 ∷ 0 ∷ 255 ∷ 0 ∷ 0 ∷ 2 ∷ 4 ∷ 2 ∷ 5 ∷ 1 ∷ 6 ∷ 1 ∷ 0 ∷ 1 ∷ 1 ∷ 0 ∷ 2 ∷ 0 ∷ 3 ∷ 1 ∷ 4 ∷ 1 ∷ 5 ∷ 0 ∷ 6 ∷ 0 ∷ 0 ∷ 0 ∷ []))
    (4 ∷ 4 ∷ 4 ∷ 5 ∷ 5 ∷ 5 ∷ 5 ∷ 6 ∷ 6 ∷ 6 ∷ 6 ∷ 6 ∷ 7 ∷ 0 ∷ 0 ∷ []) ∷
    -- power off and on with S low; in a cycle; with both; with a level that it has not
    (same (refusals (selected fresh) (6 ∷ 0 ∷ 6 ∷ 1 ∷ [])) (8 ∷ 5 ∷ []) && (same (refusals in_cycle (6 ∷ 0 ∷ [])) (9 ∷ []) && same (refusals (selected in_cycle) (6 ∷ 0 ∷ [])) (8 ∷ []))) ∷
    -- a row that is too short; one that is just long enough; status cells; lock cells; and which goes first
    same (unfit_by (take 4369 (delivered_with 0x8D 2)) ∷ unfit_by (delivered_with 0x8C 1) ∷ unfit_by (delivered_with 0x8D 0) ∷ unfit_by (delivered_with 0x40 0) ∷ unfit_by (delivered_with 0 2) ∷ unfit_by (delivered_with 0x01 2) ∷ [])
    (1 ∷ 0 ∷ 2 ∷ 2 ∷ 3 ∷ 2 ∷ []) ∷
    -- the protected half
    (runs (writes half (0x02 ∷ 0x00 ∷ 0x07 ∷ 0xFF ∷ 0x5A ∷ [])) && not (runs (writes half (0x02 ∷ 0x00 ∷ 0x08 ∷ 0x00 ∷ 0x5A ∷ [])))) ∷
    -- all protected: no WRITE, no WRID, no LID; WRSR counts
    (not (runs (writes whole one_byte)) && (not (runs (writes whole wrid)) && (not (runs (writes whole (lid 0x02))) && runs (writes whole (0x01 ∷ 0x00 ∷ []))))) ∷
    -- address bits that the part has not: 001C00h is page 0Ch, 001000h page 0
    (not (runs (writes quarter (0x02 ∷ 0x00 ∷ 0x1C ∷ 0x00 ∷ 0x5A ∷ []))) && same (cells_at (wrote quarter (0x02 ∷ 0x00 ∷ 0x10 ∷ 0x00 ∷ 0x5A ∷ [])) (0 ∷ [])) (0x5A ∷ [])) ∷
    -- WREN in a cycle that ends after its eighth bit; WREN after the cycle
    (status_is (outlasts (0x06 ∷ [])) 0x00 && status_is (stretch (finishes in_cycle) (bits_of (0x06 ∷ []))) 0x02) ∷
    -- WRDI
    status_is (sends (enables fresh) (0x04 ∷ [])) 0x00 ∷
    -- power off and on clears WEL
    status_is (sent (enables fresh) 6 0) 0x00 ∷
    -- READ in a cycle gives nothing
    same (falls (clocked (selected in_cycle) (bits_of (0x03 ∷ 0x00 ∷ 0x00 ∷ 0x01 ∷ []))) (0 ∷ 0 ∷ [])) (2 ∷ 2 ∷ []) ∷
    -- RDUID rolls after 16 bytes; RDID after the page; RDLS gives the lock for every byte
    draws fresh (0x81 ∷ 0x00 ∷ 0x00 ∷ 0x1E ∷ []) (0x0E ∷ 0x0F ∷ 0x00 ∷ []) ∷
    draws (wrote fresh (0x82 ∷ 0x00 ∷ 0x01 ∷ 0xFF ∷ 0x11 ∷ 0x22 ∷ [])) (0x83 ∷ 0x00 ∷ 0x00 ∷ 0xFF ∷ []) (0x11 ∷ 0x22 ∷ 0xFF ∷ []) ∷
    draws (wrote fresh (lid 0x02)) (0x83 ∷ 0x00 ∷ 0x04 ∷ 0x00 ∷ []) (0x01 ∷ 0x01 ∷ []) ∷
    -- captures: odd length before a short answer buffer; a short one; the empty one; one that is taken; a refused record
    (same (call_says fresh (capture (0 ∷ 0 ∷ 1 ∷ []) 0)) (10 ∷ 3 ∷ 0 ∷ []) && same (call_says fresh (capture (0 ∷ 0 ∷ 0 ∷ 0 ∷ []) 1)) (11 ∷ 3 ∷ 0 ∷ [])) ∷
    (same (call_says fresh (capture [] 0)) (0 ∷ 0 ∷ []) && same (call_says fresh (capture (0 ∷ 0 ∷ 1 ∷ 1 ∷ []) 2)) (0 ∷ 2 ∷ [])) ∷
    same (call_says fresh (capture (0 ∷ 0 ∷ 0 ∷ 0 ∷ 1 ∷ 1 ∷ []) 3)) (6 ∷ 2 ∷ 1 ∷ []) ∷
    -- the levels that a capture answers: the last fall of an RDSR shifts a low bit
    same (q_numbers (drop 18 (outcome bench fresh (capture rdsr_records 20)).levels)) (2 ∷ 0 ∷ []) ∷
    -- page copies: the last page; no such page, before a short buffer; a short buffer, before the cycle; in a cycle
    same (call_says fresh (copy 15 44 300)) (0 ∷ 256 ∷ []) ∷
    (same (call_says fresh (copy 16 0 0)) (12 ∷ 4 ∷ 0 ∷ []) && (same (call_says in_cycle (copy 0 45 300)) (13 ∷ 4 ∷ 0 ∷ []) && same (call_says in_cycle (copy 9 0 256)) (14 ∷ 4 ∷ 0 ∷ []))) ∷
    -- the status and the lock cell by their places
    same (cells_at (wrote (wrote fresh (lid 0x02)) (0x01 ∷ 0xFF ∷ [])) (4367 ∷ 4368 ∷ 4369 ∷ [])) (0x0F ∷ 0x8C ∷ 0x01 ∷ []) ∷
    -- an event on an unfit chip: making's refusal before its own
    same (call_says (born bench (delivered_with 0 2)) (event 7 9)) (3 ∷ 1 ∷ 0 ∷ []) ∷
    -- HOLD falls while C is high: Q stays, the fall that starts the hold shifts, and the bit shows when the hold ends
    same (level (answer (step bench before_bit_6 4 0)) ∷ level (answer (step bench (sent before_bit_6 4 0) 1 0)) ∷ level (answer (step bench (sent (sent before_bit_6 4 0) 1 0) 4 1)) ∷ [])
    (0 ∷ 2 ∷ 1 ∷ []) ∷
    -- WREN: S rises while HOLD is low and no hold has begun; while the chip is held
    (status_is (sent (sent (deselected (sent wren_latched 4 0)) 1 0) 4 1) 0x02 && status_is (sent (deselected (sent (sent wren_latched 1 0) 4 0)) 4 1) 0x00) ∷
    -- in a cycle the cells stay
    (same (cells_at in_cycle (0 ∷ [])) (0xFF ∷ []) && status_is (writes fresh (0x01 ∷ 0x8C ∷ [])) 0x03) ∷
    -- a second data byte: LID; WRSR
    not (runs (writes fresh (0x82 ∷ 0x00 ∷ 0x04 ∷ 0x00 ∷ 0x02 ∷ 0x02 ∷ []))) ∷
    not (runs (writes fresh (0x01 ∷ 0x04 ∷ 0x04 ∷ []))) ∷
    -- the status cell is replaced
    same (cells_at (wrote half (0x01 ∷ 0x04 ∷ [])) (4368 ∷ [])) (0x04 ∷ []) ∷
    -- WRID with A8 set stays in the identification page
    same (cells_at (wrote fresh (0x82 ∷ 0x00 ∷ 0x01 ∷ 0x00 ∷ 0x5A ∷ [])) (4096 ∷ 4352 ∷ [])) (0x5A ∷ 0x00 ∷ []) ∷
    []

abbrev pub TableEntries : Type 0
TableEntries =
    entries ≡
    true ∷ true ∷ true ∷ true ∷ true ∷ true ∷ true ∷ true ∷ true ∷ true ∷ true ∷ true ∷ true ∷ true ∷
    true ∷ true ∷ true ∷ true ∷ true ∷ true ∷ true ∷ true ∷ true ∷ true ∷ true ∷ true ∷ true ∷ true ∷ []
