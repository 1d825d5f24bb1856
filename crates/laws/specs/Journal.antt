-- The journal: what a history comes to, from the calls and their arguments alone.
use Rattle.std.specs.Prelude.{ℕ, ◌+◌, ◌-◌, ◌*◌, ◌/◌, ◌%◌, Bool, true, false, cond, not, ◌&&◌, ◌||◌, List, [], ◌∷◌, ◌++◌, length, take, drop, replicate, Some, None, Ok, Err, Option, Result, ◌==◌, nat_le, slice_index, slice_index_or, slice_set}
use Rattle.backing.specs.declared.refusal.Refusal.{Refusal}
use Rattle.rules.specs.declared.state.Level.{Level}
use Rattle.rules.specs.declared.state.Level.TheVariants.{Float}
use Rattle.rules.specs.declared.state.Event.{Event}
use Rattle.rules.specs.declared.state.Event.TheVariants.{Select, Clock, Data, Protect, Hold, CycleEnd, Power}
use Rattle.rules.specs.declared.state.Instruction.{Instruction}
use Rattle.rules.specs.declared.state.Instruction.TheVariants.{Wren, Wrdi, Rdsr, Wrsr, Read, Write, RdidRdls, WridLid, Rduid, Unknown}
use Rattle.rules.specs.Shape.{Shape, array_len, ident_at, unique_at, status_at, lock_at, cell_count}
use Rattle.rules.specs.Tables.{to_number, decoded, refused_event, unfit, refused_capture, kept, named, accepted, a10, page_open, status_open, ident_open, locks, page_of, status_byte, bit_of, level_of, or}
use Rattle.rules.specs.Calls.{Call, event, capture, copy}

-- ---- entries, the latest first

-- a counting write has the byte that it puts into each cell from a place on
pub data Entry : Type 0 where
  wren_done wrdi_done cycle_end power_cycle : Entry
  wrote : (place : ℕ) (bytes : List (Option ℕ)) → Entry

-- enabled: the latest of birth, WREN done, WRDI done, cycle end and power off and on was a WREN done
abbrev pub enabled : List Entry → Bool
enabled [] = false
enabled (wren_done ∷ es) = true
enabled (wrdi_done ∷ es) = false
enabled (cycle_end ∷ es) = false
enabled (power_cycle ∷ es) = false
enabled (wrote place bytes ∷ es) = enabled es

-- a cycle runs: the latest of counting writes and cycle ends was a counting write
abbrev pub cycle_runs : List Entry → Bool
cycle_runs [] = false
cycle_runs (wren_done ∷ es) = cycle_runs es
cycle_runs (wrdi_done ∷ es) = cycle_runs es
cycle_runs (cycle_end ∷ es) = false
cycle_runs (power_cycle ∷ es) = cycle_runs es
cycle_runs (wrote place bytes ∷ es) = true

-- what a write of these bytes from a place on puts into cell i
abbrev pub put_at : ℕ → List (Option ℕ) → ℕ → Option ℕ
put_at place bytes i = elim (nat_le place i) [ true ↦ slice_index_or bytes (i - place) None | false ↦ None ]

-- the byte of cell i: that of the last counting write there with a cycle end after it, else the birth byte
abbrev pub byte_of : List ℕ → ℕ → (ended : Bool) → List Entry → ℕ
byte_of birth i ended [] = slice_index birth i
byte_of birth i ended (wren_done ∷ es) = byte_of birth i ended es
byte_of birth i ended (wrdi_done ∷ es) = byte_of birth i ended es
byte_of birth i ended (cycle_end ∷ es) = byte_of birth i true es
byte_of birth i ended (power_cycle ∷ es) = byte_of birth i ended es
byte_of birth i true (wrote place bytes ∷ es) = or (put_at place bytes i) (byte_of birth i true es)
byte_of birth i false (wrote place bytes ∷ es) = byte_of birth i false es

-- ---- the bits of a stretch

abbrev pub number_after : ℕ → List Bool → ℕ
number_after acc [] = acc
number_after acc (b ∷ bs) = number_after (2 * acc + to_number b) bs

-- bits as a number, the highest first
abbrev pub number : List Bool → ℕ
number bs = number_after 0 bs

-- the whole bytes of some bits
abbrev pub bytes_in : List Bool → List ℕ
bytes_in [] = []
bytes_in (a ∷ []) = []
bytes_in (a ∷ b ∷ []) = []
bytes_in (a ∷ b ∷ c ∷ []) = []
bytes_in (a ∷ b ∷ c ∷ d ∷ []) = []
bytes_in (a ∷ b ∷ c ∷ d ∷ e ∷ []) = []
bytes_in (a ∷ b ∷ c ∷ d ∷ e ∷ f ∷ []) = []
bytes_in (a ∷ b ∷ c ∷ d ∷ e ∷ f ∷ g ∷ []) = []
bytes_in (a ∷ b ∷ c ∷ d ∷ e ∷ f ∷ g ∷ h ∷ bs) = number (a ∷ b ∷ c ∷ d ∷ e ∷ f ∷ g ∷ h ∷ []) ∷ bytes_in bs

-- bytes put into a page one after the other from a place on, after its last place at its first
abbrev pub placed : List (Option ℕ) → ℕ → List ℕ → List (Option ℕ)
placed page at [] = page
placed page at (b ∷ bs) = placed (slice_set page at (Some b)) ((at + 1) % length page) bs

-- an address comes first, in 24 bits
abbrev pub address : List Bool → ℕ
address bs = number (take 24 (drop 8 bs))

abbrev pub data_bits : List Bool → List Bool
data_bits bs = drop 32 bs

abbrev pub one_byte : List Bool → Bool
one_byte ds = length ds == 8

abbrev pub whole_bytes : List Bool → Bool
whole_bytes ds = nat_le 8 (length ds) && length ds % 8 == 0

-- at the eighth bit: whether the instruction was accepted, and the write enable latch
pub data Noted : Type 0 where
  unread : Noted
  noted : (accepts wel : Bool) → Noted

-- the levels, held, the bits latched in this stretch, what was noted at the eighth, the last bit shifted (Float: none),
-- the status byte as sampled, and the entries
pub record Journal : Type 0 where
  pub s : Bool
  pub c : Bool
  pub d : Bool
  pub w : Bool
  pub h : Bool
  pub held : Bool
  pub bits : List Bool
  pub note : Noted
  pub last : Level
  pub sampled : ℕ
  pub entries : List Entry

-- ---- what a rise of S lists, of the bits of the stretch

abbrev pub if_so : Bool → Entry → List Entry
if_so true e = e ∷ []
if_so false e = []

-- w is the level of W; st and lk are the status and the lock cell
abbrev pub wrsr : Bool → ℕ → Shape → List Bool → List Entry
wrsr w st p bs = if_so (one_byte (drop 8 bs) && status_open st w) (wrote (status_at p) (Some (kept (number (drop 8 bs))) ∷ []))

abbrev pub write : ℕ → Shape → List Bool → List Entry
write st p bs =
    if_so (whole_bytes (data_bits bs) && page_open p st (page_of p (address bs)))
    (wrote (page_of p (address bs)) (placed (replicate 256 None) (address bs % 256) (bytes_in (data_bits bs))))

abbrev pub wrid : ℕ → ℕ → Shape → List Bool → List Entry
wrid st lk p bs =
    if_so (whole_bytes (data_bits bs) && ident_open st lk)
    (wrote (ident_at p) (placed (replicate p.ident None) (address bs % p.ident) (bytes_in (data_bits bs))))

abbrev pub lid : ℕ → Shape → List Bool → List Entry
lid st p bs = if_so (one_byte (data_bits bs) && locks st (number (data_bits bs))) (wrote (lock_at p) (Some 1 ∷ []))

-- an accepted instruction; wel is the latch at its eighth bit
abbrev pub lists : Shape → Bool → (st lk : ℕ) → (wel : Bool) → Instruction → List Bool → List Entry
lists p w st lk wel Wren bs = wren_done ∷ []
lists p w st lk wel Wrdi bs = wrdi_done ∷ []
lists p w st lk wel Rdsr bs = []
lists p w st lk wel Read bs = []
lists p w st lk wel RdidRdls bs = []
lists p w st lk wel Rduid bs = []
lists p w st lk wel Unknown bs = []
lists p w st lk wel Wrsr bs = cond wel (wrsr w st p bs) []
lists p w st lk wel Write bs = cond wel (write st p bs) []
lists p w st lk wel WridLid bs = cond wel (cond (a10 (address bs)) (lid st p bs) (wrid st lk p bs)) []

abbrev pub closes : Shape → Bool → (st lk : ℕ) → Noted → List Bool → List Entry
closes p w st lk unread bs = []
closes p w st lk (noted false wel) bs = []
closes p w st lk (noted true wel) bs = lists p w st lk wel (named (number (take 8 bs))) bs

-- ---- what a shifting fall of C puts out, with n bits latched

-- the cell of output byte j of a read
abbrev pub read_place : Shape → Instruction → (address j : ℕ) → ℕ
read_place p Read a j = (a + j) % array_len p
read_place p RdidRdls a j = cond (a10 a) (lock_at p) (ident_at p + (a + j) % p.ident)
read_place p Rduid a j = unique_at p + (a + j) % 16
read_place p Wren a j = 0
read_place p Wrdi a j = 0
read_place p Rdsr a j = 0
read_place p Wrsr a j = 0
read_place p Write a j = 0
read_place p WridLid a j = 0
read_place p Unknown a j = 0

-- output bit n − 32 of a read that has its address
abbrev pub read_bit : Shape → (ℕ → ℕ) → Instruction → List Bool → Level → Level
read_bit p byte i bs last =
    cond (nat_le 32 (length bs))
    (level_of (bit_of (byte (read_place p i (address bs) ((length bs - 32) / 8))) ((length bs - 32) % 8)))
    last

-- the last bit shifted after it; byte gives the cells, sample is the status byte in use
abbrev pub puts_out : Shape → (ℕ → ℕ) → (sample : ℕ) → Instruction → List Bool → Level → Level
puts_out p byte sample Rdsr bs last = level_of (bit_of sample ((length bs - 8) % 8))
puts_out p byte sample Read bs last = read_bit p byte Read bs last
puts_out p byte sample RdidRdls bs last = read_bit p byte RdidRdls bs last
puts_out p byte sample Rduid bs last = read_bit p byte Rduid bs last
puts_out p byte sample Wren bs last = last
puts_out p byte sample Wrdi bs last = last
puts_out p byte sample Wrsr bs last = last
puts_out p byte sample Write bs last = last
puts_out p byte sample WridLid bs last = last
puts_out p byte sample Unknown bs last = last

-- the status byte in use: sampled at the fall that shifts bit 7 of each byte
abbrev pub samples : (status sampled : ℕ) → Instruction → List Bool → ℕ
samples status sampled Rdsr bs = cond ((length bs - 8) % 8 == 0) status sampled
samples status sampled Wren bs = sampled
samples status sampled Wrdi bs = sampled
samples status sampled Wrsr bs = sampled
samples status sampled Read bs = sampled
samples status sampled Write bs = sampled
samples status sampled RdidRdls bs = sampled
samples status sampled WridLid bs = sampled
samples status sampled Rduid bs = sampled
samples status sampled Unknown bs = sampled

-- ---- the journal itself

abbrev pub blank : Journal
blank =
    record { s = true; c = false; d = false; w = true; h = true; held = false; bits = []; note = unread; last = Float; sampled = 0; entries = [] }

abbrev pub refuses : Journal → Event → Option Refusal
refuses j e = refused_event j.s j.c j.d j.w j.h (cycle_runs j.entries) e

abbrev pub cell : List ℕ → Journal → ℕ → ℕ
cell birth j i = byte_of birth i false j.entries

-- at the eighth bit
abbrev pub notes : List Entry → List Bool → Noted → Noted
notes es bs note = cond (length bs == 8) (noted (accepted (cycle_runs es) (named (number bs))) (enabled es)) note

-- a rise of C: in a stretch, not held, the level of D is the next bit
abbrev pub latches : Bool → Journal → Journal
latches true j =
    record {
      s = j.s;
      c = true;
      d = j.d;
      w = j.w;
      h = j.h;
      held = j.held;
      bits = j.bits ++ (j.d ∷ []);
      note = notes j.entries (j.bits ++ (j.d ∷ [])) j.note;
      last = j.last;
      sampled = j.sampled;
      entries = j.entries;
    }
latches false j =
    record {
      s = j.s;
      c = true;
      d = j.d;
      w = j.w;
      h = j.h;
      held = j.held;
      bits = j.bits;
      note = j.note;
      last = j.last;
      sampled = j.sampled;
      entries = j.entries;
    }

-- a fall of C: the last bit shifted and the status sampled
abbrev pub falls : Journal → Level → ℕ → Journal
falls j last sampled =
    record {
      s = j.s;
      c = false;
      d = j.d;
      w = j.w;
      h = j.h;
      held = not j.s && not j.h;
      bits = j.bits;
      note = j.note;
      last = last;
      sampled = sampled;
      entries = j.entries;
    }

-- a shifting one
abbrev pub shifts : Shape → List ℕ → Journal → Noted → Journal
shifts p birth j unread = falls j j.last j.sampled
shifts p birth j (noted false wel) = falls j j.last j.sampled
shifts p birth j (noted true wel) =
    let i = named (number (take 8 j.bits)) in
    let status = status_byte (cell birth j (status_at p)) (enabled j.entries) (cycle_runs j.entries) in
    let sample = samples status j.sampled i j.bits in
    falls j (puts_out p (cell birth j) sample i j.bits j.last) sample

-- the end of a stretch
abbrev pub ends : Journal → List Entry → Journal
ends j es =
    record {
      s = true;
      c = j.c;
      d = j.d;
      w = j.w;
      h = j.h;
      held = false;
      bits = [];
      note = unread;
      last = Float;
      sampled = 0;
      entries = es ++ j.entries;
    }

-- a taken event
abbrev pub noting : Shape → List ℕ → Journal → Event → Journal
noting p birth j (Select true) =
    ends j (cond j.held [] (closes p j.w (cell birth j (status_at p)) (cell birth j (lock_at p)) j.note j.bits))
noting p birth j (Select false) =
    record {
      s = false;
      c = j.c;
      d = j.d;
      w = j.w;
      h = j.h;
      held = not j.c && not j.h;
      bits = [];
      note = unread;
      last = Float;
      sampled = 0;
      entries = j.entries;
    }
noting p birth j (Clock true) = latches (not j.s && not j.held) j
noting p birth j (Clock false) = cond (j.s || j.held) (falls j j.last j.sampled) (shifts p birth j j.note)
noting p birth j (Data l) =
    record { s = j.s; c = j.c; d = l; w = j.w; h = j.h; held = j.held; bits = j.bits; note = j.note; last = j.last; sampled = j.sampled; entries = j.entries }
noting p birth j (Protect l) =
    record { s = j.s; c = j.c; d = j.d; w = l; h = j.h; held = j.held; bits = j.bits; note = j.note; last = j.last; sampled = j.sampled; entries = j.entries }
noting p birth j (Hold l) =
    record { s = j.s; c = j.c; d = j.d; w = j.w; h = l; held = cond (j.s || j.c) j.held (not l); bits = j.bits; note = j.note; last = j.last; sampled = j.sampled; entries = j.entries }
noting p birth j CycleEnd =
    record { s = j.s; c = j.c; d = j.d; w = j.w; h = j.h; held = j.held; bits = j.bits; note = j.note; last = j.last; sampled = j.sampled; entries = cycle_end ∷ j.entries }
noting p birth j Power =
    record { s = j.s; c = j.c; d = j.d; w = j.w; h = j.h; held = j.held; bits = j.bits; note = j.note; last = j.last; sampled = j.sampled; entries = power_cycle ∷ j.entries }

-- Q: high impedance while S is high or the chip is held, else the last bit shifted in this stretch
abbrev pub q_of : Journal → Level
q_of j = cond (j.s || j.held) Float j.last

-- what an event comes to
pub data Noting : Type 0 where
  took : Journal → Noting
  turned : Refusal → Noting

abbrev pub unless : Option Refusal → Journal → Noting
unless None j = took j
unless (Some r) j = turned r

abbrev pub notes_event : Shape → List ℕ → Journal → Result Event Refusal → Noting
notes_event p birth j (Ok e) = unless (refuses j e) (noting p birth j e)
notes_event p birth j (Err r) = turned r

abbrev pub journal_step : Shape → List ℕ → Journal → (kind level : ℕ) → Noting
journal_step p birth j k l = notes_event p birth j (decoded k l)

abbrev pub after_noting : Journal → Noting → Journal
after_noting j (took i) = i
after_noting j (turned r) = j

abbrev pub journal_answer : Noting → Result Level Refusal
journal_answer (took j) = Ok (q_of j)
journal_answer (turned r) = Err r

-- a capture's records one by one, up to and with the first refused
abbrev pub journal_records : Shape → List ℕ → Journal → List ℕ → Journal
journal_records p birth j [] = j
journal_records p birth j (k ∷ []) = j
journal_records p birth j (k ∷ l ∷ more) =
    elim (journal_step p birth j k l) as (λ _. Journal) [ took i ↦ journal_records p birth i more | turned r ↦ j ]

abbrev pub kept_by : Option Refusal → Journal → Journal → Journal
kept_by None j i = i
kept_by (Some r) j i = j

abbrev pub fit_noted : Shape → List ℕ → Journal → Call → Journal
fit_noted p birth j (event k l) = after_noting j (journal_step p birth j k l)
fit_noted p birth j (capture bytes room) = kept_by (refused_capture bytes room) j (journal_records p birth j bytes)
fit_noted p birth j (copy page at room) = j

-- a call in the journal: a chip that is born unfit refuses it
abbrev pub noted_call : Shape → List ℕ → Journal → Call → Journal
noted_call p birth j x = kept_by (unfit p (take (cell_count p) birth)) j (fit_noted p birth j x)

-- the journal of a history on a birth row, the first call first
abbrev pub journal_of : Shape → List ℕ → Journal → List Call → Journal
journal_of p birth j [] = j
journal_of p birth j (x ∷ xs) = journal_of p birth (noted_call p birth j x) xs
