-- The tables that the rules and the journal share.
use Rattle.std.specs.Prelude.{ℕ, ◌+◌, ◌-◌, ◌*◌, ◌/◌, ◌%◌, ◌^◌, Bool, true, false, not, ◌&&◌, ◌||◌, List, length, Some, None, Ok, Err, Option, Result, ◌==◌, nat_lt, slice_index}
use Rattle.std.specs.Bool.{beq}
use Rattle.backing.specs.declared.refusal.Refusal.{Refusal}
use Rattle.backing.specs.declared.refusal.Refusal.TheVariants.{ShortBacking, StatusBits, LockValue, UnknownKind, BadLevel, PinAlreadyThere, NoCycle, PowerSelected, PowerInCycle, OddLength, ShortAnswers, NoSuchPage, ShortBuffer, CycleRunning}
use Rattle.rules.specs.declared.state.Event.{Event}
use Rattle.rules.specs.declared.state.Event.TheVariants.{Select, Clock, Data, Protect, Hold, CycleEnd, Power}
use Rattle.rules.specs.declared.state.Level.{Level}
use Rattle.rules.specs.declared.state.Level.TheVariants.{Low, High, Float}
use Rattle.rules.specs.declared.state.Instruction.{Instruction}
use Rattle.rules.specs.declared.state.Instruction.TheVariants.{Wren, Wrdi, Rdsr, Wrsr, Read, Write, RdidRdls, WridLid, Rduid, Unknown}
use Rattle.rules.specs.Shape.{Shape, array_len, status_at, lock_at, cell_count}

abbrev pub to_number : Bool → ℕ
to_number true = 1
to_number false = 0

-- Q by its numbers
abbrev pub level_number : Level → ℕ
level_number Low = 0
level_number High = 1
level_number Float = 2

-- a level byte: 0 is low, 1 is high
abbrev pub pin_event : (Bool → Event) → ℕ → Result Event Refusal
pin_event pin l = elim (l == 0) [ true ↦ Ok (pin false) | false ↦ elim (l == 1) [ true ↦ Ok (pin true) | false ↦ Err BadLevel ] ]

-- an event that has level 0 only
abbrev pub bare_event : Event → ℕ → Result Event Refusal
bare_event e l = elim (l == 0) [ true ↦ Ok e | false ↦ Err BadLevel ]

-- a kind and a level as an event
abbrev pub decoded : ℕ → ℕ → Result Event Refusal
decoded k l =
    elim (k == 0) [
      | true ↦ pin_event Select l
      | false ↦
          elim (k == 1) [
            | true ↦ pin_event Clock l
            | false ↦
                elim (k == 2) [
                  | true ↦ pin_event Data l
                  | false ↦
                      elim (k == 3) [
                        | true ↦ pin_event Protect l
                        | false ↦
                            elim (k == 4) [
                              | true ↦ pin_event Hold l
                              | false ↦
                                  elim (k == 5) [
                                    | true ↦ bare_event CycleEnd l
                                    | false ↦
                                        elim (k == 6) [ true ↦ bare_event Power l | false ↦ Err UnknownKind ]
                                  ]
                            ]
                      ]
                ]
          ]
    ]

-- a check's answer: the refusal, where there is one
abbrev pub passed : Option Refusal → Result (Unit {0}) Refusal
passed None = Ok tt
passed (Some r) = Err r

-- a pin that is to go where it is
abbrev pub there : Bool → Bool → Option Refusal
there level l = elim (beq level l) [ true ↦ Some PinAlreadyThere | false ↦ None ]

-- which events are refused, by the levels and by whether a cycle runs
abbrev pub refused_event : (s c d w h running : Bool) → Event → Option Refusal
refused_event s c d w h running (Select l) = there s l
refused_event s c d w h running (Clock l) = there c l
refused_event s c d w h running (Data l) = there d l
refused_event s c d w h running (Protect l) = there w l
refused_event s c d w h running (Hold l) = there h l
refused_event s c d w h running CycleEnd = elim running [ true ↦ None | false ↦ Some NoCycle ]
refused_event s c d w h running Power =
    elim s [ false ↦ Some PowerSelected | true ↦ elim running [ true ↦ Some PowerInCycle | false ↦ None ] ]

-- bits 7, 3 and 2 of a byte
abbrev pub kept : ℕ → ℕ
kept b = b / 128 * 128 + b / 4 % 4 * 4

-- why a chip with these cells is not fit
abbrev pub unfit : Shape → List ℕ → Option Refusal
unfit p cells =
    elim (nat_lt (length cells) (cell_count p)) [
      | true ↦ Some ShortBacking
      | false ↦
          elim (kept (slice_index cells (status_at p)) == slice_index cells (status_at p)) [
            | false ↦ Some StatusBits
            | true ↦
                elim (nat_lt 1 (slice_index cells (lock_at p))) [ true ↦ Some LockValue | false ↦ None ]
          ]
    ]

-- a capture that is refused ahead of its records
abbrev pub refused_capture : List ℕ → ℕ → Option Refusal
refused_capture bytes room =
    elim (length bytes % 2 == 0) [
      | false ↦ Some OddLength
      | true ↦
          elim (nat_lt room (length bytes / 2)) [ true ↦ Some ShortAnswers | false ↦ None ]
    ]

-- a page copy that is refused
abbrev pub refused_copy : Shape → Bool → (page at room : ℕ) → Option Refusal
refused_copy p running page at room =
    elim (nat_lt page (array_len p / 256)) [
      | false ↦ Some NoSuchPage
      | true ↦
          elim (nat_lt room (at + 256)) [
            | true ↦ Some ShortBuffer
            | false ↦
                elim running [ true ↦ Some CycleRunning | false ↦ None ]
          ]
    ]

-- the instructions by their bytes
abbrev pub named : ℕ → Instruction
named b =
    elim (b == 6) [
      | true ↦ Wren
      | false ↦
          elim (b == 4) [
            | true ↦ Wrdi
            | false ↦
                elim (b == 5) [
                  | true ↦ Rdsr
                  | false ↦
                      elim (b == 1) [
                        | true ↦ Wrsr
                        | false ↦
                            elim (b == 3) [
                              | true ↦ Read
                              | false ↦
                                  elim (b == 2) [
                                    | true ↦ Write
                                    | false ↦
                                        elim (b == 131) [
                                          | true ↦ RdidRdls
                                          | false ↦
                                              elim (b == 130) [
                                                | true ↦ WridLid
                                                | false ↦
                                                    elim (b == 129) [ true ↦ Rduid | false ↦ Unknown ]
                                              ]
                                        ]
                                  ]
                            ]
                      ]
                ]
          ]
    ]

-- while a cycle runs only RDSR is accepted
abbrev pub accepted : Bool → Instruction → Bool
accepted running Wren = not running
accepted running Wrdi = not running
accepted running Rdsr = true
accepted running Wrsr = not running
accepted running Read = not running
accepted running Write = not running
accepted running RdidRdls = not running
accepted running WridLid = not running
accepted running Rduid = not running
accepted running Unknown = false

-- A10 of an address
abbrev pub a10 : ℕ → Bool
a10 a = a / 1024 % 2 == 1

-- of the status cell: BP1 BP0, and the first array place that is protected
abbrev pub bp : ℕ → ℕ
bp st = st / 4 % 4

abbrev pub fence : Shape → ℕ → ℕ
fence p st =
    elim (bp st == 0) [
      | true ↦ array_len p
      | false ↦
          elim (bp st == 1) [
            | true ↦ array_len p - array_len p / 4
            | false ↦
                elim (bp st == 2) [ true ↦ array_len p / 2 | false ↦ 0 ]
          ]
    ]

-- what each write asks besides its bits: the page, the level of W, the status and the lock cell, the data byte
abbrev pub page_open : Shape → ℕ → ℕ → Bool
page_open p st base = nat_lt base (fence p st)

abbrev pub status_open : ℕ → Bool → Bool
status_open st w = nat_lt st 128 || w

abbrev pub ident_open : ℕ → ℕ → Bool
ident_open st lk = lk == 0 && not (bp st == 3)

abbrev pub locks : ℕ → ℕ → Bool
locks st b = b / 2 % 2 == 1 && not (bp st == 3)

-- the first place of the page of an address
abbrev pub page_of : Shape → ℕ → ℕ
page_of p a = a % array_len p / 256 * 256

-- the status byte that RDSR puts out
abbrev pub status_byte : ℕ → Bool → Bool → ℕ
status_byte st wel running = kept st + (2 * to_number wel + to_number running)

-- bit k of a byte, the highest first
abbrev pub bit_of : ℕ → ℕ → ℕ
bit_of b k = b / 2 ^ (7 - k) % 2

abbrev pub level_of : ℕ → Level
level_of bit = elim (bit == 0) [ true ↦ Low | false ↦ High ]

-- the byte that is put, where one is
abbrev pub or : Option ℕ → ℕ → ℕ
or None x = x
or (Some y) x = y
