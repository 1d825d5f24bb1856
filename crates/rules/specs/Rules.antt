-- The rules: what an event makes of what a chip shows.
use Rattle.std.specs.Prelude.{ℕ, zero, suc, ◌+◌, ◌-◌, ◌*◌, ◌%◌, Bool, true, false, not, ◌&&◌, List, [], ◌∷◌, take, replicate, Some, None, Ok, Err, Option, Result, is_some, ◌==◌, nat_lt, slice_index, slice_index_or, slice_set}
use Rattle.backing.specs.declared.refusal.Refusal.{Refusal}
use Rattle.rules.specs.declared.state.Level.{Level}
use Rattle.rules.specs.declared.state.Level.TheVariants.{Float}
use Rattle.rules.specs.declared.state.Event.{Event}
use Rattle.rules.specs.declared.state.Event.TheVariants.{Select, Clock, Data, Protect, Hold, CycleEnd, Power}
use Rattle.rules.specs.declared.state.Instruction.{Instruction}
use Rattle.rules.specs.declared.state.Instruction.TheVariants as name
use Rattle.rules.specs.declared.state.Access.{Access}
use Rattle.rules.specs.declared.state.Access.TheVariants as access
use Rattle.rules.specs.declared.state.Region.{Region}
use Rattle.rules.specs.declared.state.Region.TheVariants as region
use Rattle.rules.specs.declared.state.Target.{Target}
use Rattle.rules.specs.declared.state.Target.TheVariants as target
use Rattle.rules.specs.declared.state.Got.{Got}
use Rattle.rules.specs.declared.state.Got.TheVariants.{Nothing, One, More}
use Rattle.rules.specs.declared.state.Page.{Page}
use Rattle.rules.specs.declared.state.Pending.{Pending}
use Rattle.rules.specs.declared.state.Pins.{Pins}
use Rattle.rules.specs.declared.state.Shift.{Shift}
use Rattle.rules.specs.declared.state.Phase.{Phase}
use Rattle.rules.specs.declared.state.Phase.TheVariants.{Deselected, Instruction as Instructing, Ignored, Enable, Disable, Status, Address, Output, Input}
use Rattle.rules.specs.Shape.{Shape, array_len, ident_at, unique_at, status_at, lock_at, cell_count}
use Rattle.rules.specs.Tables.{to_number, decoded, refused_event, kept, named, accepted, a10, page_open, status_open, ident_open, locks, page_of, status_byte, bit_of, level_of, or}

-- what a chip shows: its levels, WEL, the cycle with its pending write, the stretch, the output side, the part's cells
pub record View : Type 0 where
  pub pins : Pins
  pub wel : Bool
  pub cycle : Option Pending
  pub stretch : Phase
  pub shift : Shift
  pub cells : List ℕ

-- a cycle runs while its write waits for its end
abbrev pub running : Option Pending → Bool
running cycle = is_some cycle

-- S is high
abbrev pub is_off : Phase → Bool
is_off Deselected = true
is_off (Instructing n v) = false
is_off Ignored = false
is_off Enable = false
is_off Disable = false
is_off (Status k) = false
is_off (Address a wel n v) = false
is_off (Output r a k) = false
is_off (Input g) = false

-- ---- latching a bit

-- a register of 8 bits, and one of 24, takes one more
abbrev pub pushed : ℕ → Bool → ℕ
pushed v d = 2 * (v % 128) + to_number d

abbrev pub pushed_address : ℕ → Bool → ℕ
pushed_address v d = 2 * (v % 8388608) + to_number d

-- one on, after the last the first
abbrev pub rolled : ℕ → ℕ → ℕ
rolled at last = elim (nat_lt at last) [ true ↦ at + 1 | false ↦ 0 ]

abbrev pub empty : Target → Bool → (start at last : ℕ) → Page
empty t wel start at last =
    record { target = t; wel = wel; start = start; at = at; last = last; bit = 0; value = 0; got = Nothing; bytes = replicate 256 None }

-- an accepted instruction; wel is the latch at its eighth bit
abbrev pub begun : Bool → Instruction → Phase
begun wel name.Wren = Enable
begun wel name.Wrdi = Disable
begun wel name.Rdsr = Status 0
begun wel name.Wrsr = Input (empty target.Status wel 0 0 0)
begun wel name.Read = Address access.Read wel 0 0
begun wel name.Write = Address access.Write wel 0 0
begun wel name.RdidRdls = Address access.ReadIdent wel 0 0
begun wel name.WridLid = Address access.WriteIdent wel 0 0
begun wel name.Rduid = Address access.ReadUnique wel 0 0
begun wel name.Unknown = Ignored

-- the eighth bit: an instruction is accepted or ignored
abbrev pub judged : (accepts wel : Bool) → Instruction → Phase
judged true wel i = begun wel i
judged false wel i = Ignored

-- the last address bit: where reading or writing begins
abbrev pub aimed : ℕ → Access → Bool → ℕ → Phase
aimed ident access.Read wel a = Output region.Array a 0
aimed ident access.Write wel a = Input (empty target.Array wel a (a % 256) 255)
aimed ident access.ReadIdent wel a = elim (a10 a) [ true ↦ Output region.Lock a 0 | false ↦ Output region.Ident a 0 ]
aimed ident access.WriteIdent wel a =
    elim (a10 a) [ true ↦ Input (empty target.Lock wel a 0 0) | false ↦ Input (empty target.Ident wel a (a % ident) (ident - 1)) ]
aimed ident access.ReadUnique wel a = Output region.Unique a 0

abbrev pub one_more : Got → Got
one_more Nothing = One
one_more One = More
one_more More = More

-- a data bit; the eighth puts the byte into the page
abbrev pub filled : Page → Bool → Page
filled g d =
    elim (nat_lt g.bit 7) [
      | true ↦ record { target = g.target; wel = g.wel; start = g.start; at = g.at; last = g.last; bit = g.bit + 1; value = pushed g.value d; got = g.got; bytes = g.bytes }
      | false ↦ record { target = g.target; wel = g.wel; start = g.start; at = rolled g.at g.last; last = g.last; bit = 0; value = 0; got = one_more g.got; bytes = slice_set g.bytes g.at (Some (pushed g.value d)) }
    ]

-- a rise of C latches the level of D; runs and wel are those of this moment
abbrev pub latched : ℕ → (runs wel d : Bool) → Phase → Phase
latched ident runs wel d Deselected = Deselected
latched ident runs wel d (Instructing n v) =
    elim (nat_lt n 7) [ true ↦ Instructing (n + 1) (pushed v d) | false ↦ judged (accepted runs (named (pushed v d))) wel (named (pushed v d)) ]
latched ident runs wel d Ignored = Ignored
latched ident runs wel d Enable = Enable
latched ident runs wel d Disable = Disable
latched ident runs wel d (Status k) = Status (rolled k 7)
latched ident runs wel d (Address a was n v) =
    elim (nat_lt n 23) [ true ↦ Address a was (n + 1) (pushed_address v d) | false ↦ aimed ident a was (pushed_address v d) ]
latched ident runs wel d (Output r a k) =
    elim (nat_lt k 7) [ true ↦ Output r a (k + 1) | false ↦ Output r ((a + 1) % 4294967296) 0 ]
latched ident runs wel d (Input g) = Input (filled g d)

-- ---- shifting a bit out

-- the cell that a read of a region puts out at an address
abbrev pub place : Shape → Region → ℕ → ℕ
place p region.Array a = a % array_len p
place p region.Ident a = ident_at p + a % p.ident
place p region.Unique a = unique_at p + a % 16
place p region.Lock a = lock_at p

-- nothing is shifted
abbrev pub same_shown : Shift → Bool → Shift
same_shown s held = record { held = held; shown = s.shown; sample = s.sample }

-- bit k of the byte that is sampled at bit 0 of it, the highest
abbrev pub shift_out : Bool → ℕ → ℕ → ℕ → Shift
shift_out held sample fresh k =
    let byte = elim (k == 0) as (λ _. ℕ) [ true ↦ fresh | false ↦ sample ] in
    record { held = held; shown = level_of (bit_of byte k); sample = byte }

-- a shifting fall of C; held is the latch after it
abbrev pub shifted : Shape → View → Bool → Phase → Shift
shifted p v held Deselected = same_shown v.shift held
shifted p v held (Instructing n b) = same_shown v.shift held
shifted p v held Ignored = same_shown v.shift held
shifted p v held Enable = same_shown v.shift held
shifted p v held Disable = same_shown v.shift held
shifted p v held (Status k) = shift_out held v.shift.sample (status_byte (slice_index v.cells (status_at p)) v.wel (running v.cycle)) k
shifted p v held (Address a was n b) = same_shown v.shift held
shifted p v held (Output r a k) = shift_out held v.shift.sample (slice_index v.cells (place p r a)) k
shifted p v held (Input g) = same_shown v.shift held

-- ---- a rise of S

abbrev pub some_byte : Got → Bool
some_byte Nothing = false
some_byte One = true
some_byte More = true

abbrev pub one_byte : Got → Bool
one_byte Nothing = false
one_byte One = true
one_byte More = false

-- the byte at a page's first place
abbrev pub head_byte : List (Option ℕ) → ℕ
head_byte bytes = or (slice_index_or bytes 0 None) 0

-- the first place of a write, and how many it may reach
abbrev pub base : Shape → Target → ℕ → ℕ
base p target.Array a = page_of p a
base p target.Ident a = ident_at p
base p target.Status a = status_at p
base p target.Lock a = lock_at p

abbrev pub reach : Shape → Target → ℕ
reach p target.Array = 256
reach p target.Ident = p.ident
reach p target.Status = 1
reach p target.Lock = 1

-- w is the level of W; st and lk are the status and the lock cell
abbrev pub allowed : Shape → Bool → (st lk : ℕ) → Target → (start : ℕ) → Got → (byte : ℕ) → Bool
allowed p w st lk target.Array start got b = some_byte got && page_open p st (page_of p start)
allowed p w st lk target.Ident start got b = some_byte got && ident_open st lk
allowed p w st lk target.Status start got b = one_byte got && status_open st w
allowed p w st lk target.Lock start got b = one_byte got && locks st b

-- a write counts
abbrev pub counts : Shape → Bool → (st lk : ℕ) → Page → Bool
counts p w st lk g = g.wel && (g.bit == 0 && allowed p w st lk g.target g.start g.got (head_byte g.bytes))

-- the bytes that it puts
abbrev pub put_bytes : Target → List (Option ℕ) → List (Option ℕ)
put_bytes target.Array bytes = bytes
put_bytes target.Ident bytes = bytes
put_bytes target.Status bytes = slice_set bytes 0 (Some (kept (head_byte bytes)))
put_bytes target.Lock bytes = slice_set bytes 0 (Some 1)

abbrev pub pending : Page → Pending
pending g = record { target = g.target; start = g.start; bytes = put_bytes g.target g.bytes }

-- the output side of a deselected chip
abbrev pub at_rest : Shift
at_rest = record { held = false; shown = Float; sample = 0 }

abbrev pub deselected : View → Bool → Option Pending → View
deselected v wel cycle = record { pins = v.pins; wel = wel; cycle = cycle; stretch = Deselected; shift = at_rest; cells = v.cells }

-- a rise of S that is not held
abbrev pub closed : Shape → View → Phase → View
closed p v Deselected = deselected v v.wel v.cycle
closed p v (Instructing n b) = deselected v v.wel v.cycle
closed p v Ignored = deselected v v.wel v.cycle
closed p v Enable = deselected v true v.cycle
closed p v Disable = deselected v false v.cycle
closed p v (Status k) = deselected v v.wel v.cycle
closed p v (Address a was n b) = deselected v v.wel v.cycle
closed p v (Output r a k) = deselected v v.wel v.cycle
closed p v (Input g) =
    elim (counts p v.pins.protect (slice_index v.cells (status_at p)) (slice_index v.cells (lock_at p)) g)
    [ true ↦ deselected v v.wel (Some (pending g)) | false ↦ deselected v v.wel v.cycle ]

-- ---- events

abbrev pub with_clock : Pins → Bool → Pins
with_clock x l = record { clock = l; input = x.input; protect = x.protect; hold = x.hold }

abbrev pub with_data : Pins → Bool → Pins
with_data x l = record { clock = x.clock; input = l; protect = x.protect; hold = x.hold }

abbrev pub with_protect : Pins → Bool → Pins
with_protect x l = record { clock = x.clock; input = x.input; protect = l; hold = x.hold }

abbrev pub with_hold : Pins → Bool → Pins
with_hold x l = record { clock = x.clock; input = x.input; protect = x.protect; hold = l }

-- S moves
abbrev pub selects : View → View
selects v =
    record {
      pins = v.pins;
      wel = v.wel;
      cycle = v.cycle;
      stretch = Instructing 0 0;
      shift = record { held = not v.pins.clock && not v.pins.hold; shown = Float; sample = 0 };
      cells = v.cells;
    }

abbrev pub rises_s : Shape → View → Bool → View
rises_s p v true = deselected v v.wel v.cycle
rises_s p v false = closed p v v.stretch

-- C moves to a level
abbrev pub clocks : View → Bool → Phase → Shift → View
clocks v l ph s = record { pins = with_clock v.pins l; wel = v.wel; cycle = v.cycle; stretch = ph; shift = s; cells = v.cells }

-- a rise and a fall of C; the last argument is held just before
abbrev pub rises_c : Shape → View → Bool → View
rises_c p v true = clocks v true v.stretch v.shift
rises_c p v false = clocks v true (latched p.ident (running v.cycle) v.wel v.pins.input v.stretch) v.shift

-- held after a fall of C, or after a move of HOLD to h while C is low: never while S is high
abbrev pub held_now : Phase → Bool → Bool
held_now ph h = not (is_off ph) && not h

abbrev pub falls_c : Shape → View → Bool → View
falls_c p v true = clocks v false v.stretch (same_shown v.shift (held_now v.stretch v.pins.hold))
falls_c p v false = clocks v false v.stretch (shifted p v (held_now v.stretch v.pins.hold) v.stretch)

abbrev pub with_pins : View → Pins → View
with_pins v x = record { pins = x; wel = v.wel; cycle = v.cycle; stretch = v.stretch; shift = v.shift; cells = v.cells }

-- HOLD moves to h; the last argument is the level of C
abbrev pub holds : View → Bool → Bool → View
holds v h true = with_pins v (with_hold v.pins h)
holds v h false =
    record {
      pins = with_hold v.pins h;
      wel = v.wel;
      cycle = v.cycle;
      stretch = v.stretch;
      shift = same_shown v.shift (held_now v.stretch h);
      cells = v.cells;
    }

-- bytes over a row from its front on
abbrev pub over : List ℕ → List (Option ℕ) → List ℕ
over [] bytes = []
over (x ∷ xs) [] = x ∷ xs
over (x ∷ xs) (o ∷ bytes) = or o x ∷ over xs bytes

-- and from a place on
abbrev pub laid : List ℕ → ℕ → List (Option ℕ) → List ℕ
laid xs zero bytes = over xs bytes
laid [] (suc n) bytes = []
laid (x ∷ xs) (suc n) bytes = x ∷ laid xs n bytes

-- the cycle ends: its write is put, WEL is cleared
abbrev pub ended : Shape → View → Option Pending → View
ended p v None = v
ended p v (Some w) =
    record {
      pins = v.pins;
      wel = false;
      cycle = None;
      stretch = v.stretch;
      shift = v.shift;
      cells = laid v.cells (base p w.target w.start) (take (reach p w.target) w.bytes);
    }

abbrev pub powered : View → View
powered v = record { pins = v.pins; wel = false; cycle = v.cycle; stretch = v.stretch; shift = v.shift; cells = v.cells }

-- what a taken event makes of a view
abbrev pub moved : Shape → View → Event → View
moved p v (Select true) = rises_s p v v.shift.held
moved p v (Select false) = selects v
moved p v (Clock true) = rises_c p v v.shift.held
moved p v (Clock false) = falls_c p v v.shift.held
moved p v (Data l) = with_pins v (with_data v.pins l)
moved p v (Protect l) = with_pins v (with_protect v.pins l)
moved p v (Hold l) = holds v l v.pins.clock
moved p v CycleEnd = ended p v v.cycle
moved p v Power = powered v

-- Q as it is seen
abbrev pub seen : Shift → Level
seen s = elim s.held [ true ↦ Float | false ↦ s.shown ]

-- what an event comes to
pub data Done : Type 0 where
  taken : View → Done
  refused : Refusal → Done

abbrev pub refuses : View → Event → Option Refusal
refuses v e =
    refused_event (is_off v.stretch) v.pins.clock v.pins.input v.pins.protect v.pins.hold (running v.cycle) e

abbrev pub unless : Option Refusal → View → Done
unless None v = taken v
unless (Some r) v = refused r

abbrev pub does : Shape → View → Result Event Refusal → Done
does p v (Ok e) = unless (refuses v e) (moved p v e)
does p v (Err r) = refused r

-- an event of two bytes, on a fit chip
abbrev pub step : Shape → View → (kind level : ℕ) → Done
step p v k l = does p v (decoded k l)

abbrev pub after : View → Done → View
after v (taken u) = u
after v (refused r) = v

abbrev pub answer : Done → Result Level Refusal
answer (taken v) = Ok (seen v.shift)
answer (refused r) = Err r

-- a chip at its birth, over a row
abbrev pub born : Shape → List ℕ → View
born p row =
    record {
      pins = record { clock = false; input = false; protect = true; hold = true };
      wel = false;
      cycle = None;
      stretch = Deselected;
      shift = at_rest;
      cells = take (cell_count p) row;
    }
