-- What a call answers.
use Rattle.std.specs.Prelude.{◌≡◌, ℕ, Bool, true, false, Some, None, Ok, Err, Option, Result, ◌==◌, nat_lt, slice_index}
use Rattle.backing.specs.Faults.{raised}
use Rattle.backing.specs.declared.refusal.Refusal.{Refusal}
use Rattle.backing.specs.declared.refusal.Refusal.TheVariants.{StatusBits, LockValue}
use Rattle.backing.specs.declared.fault.Fault.{Fault}
use Rattle.rules.specs.declared.state.Event.{Event}
use Rattle.rules.specs.declared.state.Level.{Level}
use Rattle.rules.specs.declared.state.Pins.{Pins}
use Rattle.rules.specs.declared.state.Phase.{Phase}
use Rattle.rules.specs.declared.state.Phase.TheVariants.{Deselected, Instruction, Ignored, Enable, Disable, Status, Address, Output, Input}
use Rattle.rules.specs.Shape.{Shape, status_at}
use Rattle.rules.specs.Tables.{kept, level_number, refused_event, status_byte}
use Rattle.rules.specs.Rules.{View, Done, taken, refused, seen, running, place}

-- a refusal, if there is one, as the answer of a check
abbrev pub checked : Option Refusal → Result (Unit {0}) Fault
checked None = Ok tt
checked (Some r) = Err (raised r 0)

-- an event, unless it is refused
abbrev pub spared : Option Refusal → Event → Result Event Fault
spared None e = Ok e
spared (Some r) e = Err (raised r 0)

-- the event of two bytes, by what they decode to; s is the level of S
abbrev pub admitted : (s : Bool) → Pins → (running : Bool) → Result Event Refusal → Result Event Fault
admitted s x running (Ok e) = spared (refused_event s x.clock x.input x.protect x.hold running e) e
admitted s x running (Err r) = Err (raised r 0)

-- what an event comes to, as its answer
abbrev pub answered : Done → Result Level Fault
answered (taken v) = Ok (seen v.shift)
answered (refused r) = Err (raised r 0)

-- an answer by the number of its level
abbrev pub numbered : Result Level Fault → Result ℕ Fault
numbered (Ok q) = Ok (level_number q)
numbered (Err e) = Err e

-- why these status and lock cells are not lawful
abbrev pub unlawful : ℕ → ℕ → Option Refusal
unlawful st lk =
    elim (kept st == st) [ false ↦ Some StatusBits | true ↦ elim (nat_lt 1 lk) [ true ↦ Some LockValue | false ↦ None ] ]

-- a fresh byte is the one asked for where it is due: at bit 0 of an output byte, the highest
abbrev pub Due : (k fresh byte : ℕ) → Type 0
Due k fresh byte = k ≡ 0 → fresh ≡ byte

-- what a fall of C may begin to put out, by the stretch
abbrev pub FreshIn : Shape → View → Phase → ℕ → Type 0
FreshIn p v Deselected fresh = Unit {0}
FreshIn p v (Instruction n b) fresh = Unit {0}
FreshIn p v Ignored fresh = Unit {0}
FreshIn p v Enable fresh = Unit {0}
FreshIn p v Disable fresh = Unit {0}
FreshIn p v (Status k) fresh = Due k fresh (status_byte (slice_index v.cells (status_at p)) v.wel (running v.cycle))
FreshIn p v (Address a wel n b) fresh = Unit {0}
FreshIn p v (Output r a k) fresh = Due k fresh (slice_index v.cells (place p r a))
FreshIn p v (Input g) fresh = Unit {0}

abbrev pub Fresh : Shape → View → ℕ → Type 0
Fresh p v fresh = FreshIn p v v.stretch fresh
