-- The laws over whole runs: rules and journal agree, refused calls change nothing, and when two chips are the same.
use Rattle.std.specs.Prelude.{◌≡◌, ℕ, ◌+◌, ◌*◌, ◌<◌, Bool, true, ◌&&◌, T, ◌↔◌, List, [], ◌∷◌, ◌++◌, length, take, drop, Some, None, Ok, Err, Option, Result, nat_lt, slice_index}
use Rattle.backing.specs.Faults.{raised}
use Rattle.backing.specs.Rows.{Bytes}
use Rattle.backing.specs.declared.refusal.Refusal.{Refusal}
use Rattle.backing.specs.declared.fault.Fault.{Fault}
use Rattle.rules.specs.declared.state.Level.{Level}
use Rattle.rules.specs.declared.state.Phase.TheVariants.{Deselected}
use Rattle.rules.specs.Shape.{Shape, Lawful, cell_count}
use Rattle.rules.specs.Tables.{level_number, unfit, refused_capture, refused_copy}
use Rattle.rules.specs.Rules.{View, refused, step, born}
use Rattle.rules.specs.Calls.{Call, event, capture, copy, Outcome, outcome, called, after_calls}
use Rattle.laws.specs.Journal.{Journal, blank, enabled, cycle_runs, cell, took, turned, q_of, journal_step, journal_answer, noted_call, journal_of}

-- a further action on a chip: an event of two bytes
pub data Action : Type 0 where
  send : (kind level : ℕ) → Action

abbrev pub call_of : Action → Call
call_of (send k l) = event k l

-- the answers that a list of actions draws from a chip, one by one
abbrev pub answers : Shape → View → List Action → List (Result ℕ Fault)
answers p v [] = []
answers p v (a ∷ more) = (outcome p v (call_of a)).says ∷ answers p (called p v (call_of a)) more

-- what the journal says of an event: making's refusal, the event's own, or Q
abbrev pub as_number : Result Level Refusal → Result ℕ Fault
as_number (Ok q) = Ok (level_number q)
as_number (Err r) = Err (raised r 0)

abbrev pub first_of : Option Refusal → Result ℕ Fault → Result ℕ Fault
first_of None a = a
first_of (Some r) a = Err (raised r 0)

abbrev pub journal_says : Shape → List ℕ → Journal → Action → Result ℕ Fault
journal_says p birth j (send k l) = first_of (unfit p (take (cell_count p) birth)) (as_number (journal_answer (journal_step p birth j k l)))

abbrev pub journal_answers : Shape → List ℕ → Journal → List Action → List (Result ℕ Fault)
journal_answers p birth j [] = []
journal_answers p birth j (a ∷ more) = journal_says p birth j a ∷ journal_answers p birth (noted_call p birth j (call_of a)) more

-- the chip after a history on a birth row, and its journal
abbrev pub chip_after : Shape → List ℕ → List Call → View
chip_after p birth h = after_calls p (born p birth) h

abbrev pub journal_after : Shape → List ℕ → List Call → Journal
journal_after p birth h = journal_of p birth blank h

-- answers: after every history each further event's answer is the journal's
abbrev pub AnswersStand : Type 0
AnswersStand =
    (p : Shape) → Lawful p → (birth : List ℕ) (h : List Call) (xs : List Action) →
    answers p (chip_after p birth h) xs ≡ journal_answers p birth (journal_after p birth h) xs

-- what the journal says of a capture's records from number i on: the levels one by one, and the answer
pub record Telling : Type 0 where
  pub levels : List Level
  pub says : Result ℕ Fault

abbrev pub tells_more : Level → Telling → Telling
tells_more q t = record { levels = q ∷ t.levels; says = t.says }

abbrev pub journal_tells : Shape → List ℕ → Journal → ℕ → List ℕ → Telling
journal_tells p birth j i [] = record { levels = []; says = Ok i }
journal_tells p birth j i (k ∷ []) = record { levels = []; says = Ok i }
journal_tells p birth j i (k ∷ l ∷ more) =
    elim (journal_step p birth j k l) as (λ _. Telling) [
      | took x ↦ tells_more (q_of x) (journal_tells p birth x (i + 1) more)
      | turned r ↦ record { levels = []; says = Err (raised r i) }
    ]

-- a capture that is refused ahead of its records tells nothing
abbrev pub told_first : Option Refusal → Telling → Telling
told_first None t = t
told_first (Some r) t = record { levels = []; says = Err (raised r 0) }

abbrev pub journal_capture : Shape → List ℕ → Journal → List ℕ → ℕ → Telling
journal_capture p birth j bytes room =
    told_first (unfit p (take (cell_count p) birth)) (told_first (refused_capture bytes room) (journal_tells p birth j 0 bytes))

-- captures: after every history each further capture draws the journal's levels and answer
abbrev pub CapturesStand : Type 0
CapturesStand =
    (p : Shape) → Lawful p → (birth : List ℕ) (h : List Call) (bytes : List ℕ) (room : ℕ) →
    ((outcome p (chip_after p birth h) (capture bytes room)).levels ≡ (journal_capture p birth (journal_after p birth h) bytes room).levels)
    × ((outcome p (chip_after p birth h) (capture bytes room)).says ≡ (journal_capture p birth (journal_after p birth h) bytes room).says)

-- what the journal says of a page copy
abbrev pub journal_copy : Shape → List ℕ → Journal → (page at room : ℕ) → Result ℕ Fault
journal_copy p birth j page at room =
    first_of (unfit p (take (cell_count p) birth)) (first_of (refused_copy p (cycle_runs j.entries) page at room) (Ok 256))

-- page copies: after every history each is answered as the journal says, and changes nothing
abbrev pub CopiesStand : Type 0
CopiesStand =
    (p : Shape) → Lawful p → (birth : List ℕ) (h : List Call) (page at room : ℕ) →
    ((outcome p (chip_after p birth h) (copy page at room)).says ≡ journal_copy p birth (journal_after p birth h) page at room)
    × (called p (chip_after p birth h) (copy page at room) ≡ chip_after p birth h)

-- the row of a chip's backing: its part's cells, and past them what stood there at birth, which no call touches
abbrev pub row_of : Shape → List ℕ → View → List ℕ
row_of p birth v = v.cells ++ drop (cell_count p) birth

-- cells: after every history they are the journal's; their number stays, the row's length, what lies past the part, and
-- the chip's fitness
pub record Cells (p : Shape) (birth : List ℕ) (v : View) (j : Journal) : Type 0 where
  pub count : length v.cells ≡ length (take (cell_count p) birth)
  pub len : length (row_of p birth v) ≡ length birth
  pub past : drop (cell_count p) (row_of p birth v) ≡ drop (cell_count p) birth
  pub bytes : (i : ℕ) → i < length v.cells → slice_index v.cells i ≡ cell birth j i
  pub fitness : unfit p v.cells ≡ unfit p (take (cell_count p) birth)

abbrev pub CellsStand : Type 0
CellsStand =
    (p : Shape) → Lawful p → (birth : List ℕ) (h : List Call) →
    Cells p birth (chip_after p birth h) (journal_after p birth h)

-- a chip born unfit answers its number to every call, and no call changes it
abbrev pub UnfitStand : Type 0
UnfitStand =
    (p : Shape) (birth : List ℕ) (r : Refusal) → unfit p (take (cell_count p) birth) ≡ Some r → (h : List Call) (x : Call) →
    (chip_after p birth h ≡ born p birth) × ((outcome p (chip_after p birth h) x).says ≡ Err (raised r 0))

-- a refused event leaves the chip; a refused capture leaves it as its records before the refused one did
abbrev pub RefusedEventStands : Type 0
RefusedEventStands =
    (p : Shape) (v : View) (k l : ℕ) (e : Fault) → (outcome p v (event k l)).says ≡ Err e → called p v (event k l) ≡ v

-- the records ahead of a refused one, with room for their answers
abbrev pub ahead_of : Shape → View → List ℕ → Fault → Outcome
ahead_of p v bytes e = outcome p v (capture (take (2 * e.«record») bytes) e.«record»)

-- where the capture is not refused ahead of its records, those before the refused one are taken, and that one is refused
pub record RefusedAt (p : Shape) (v : View) (bytes : List ℕ) (e : Fault) : Type 0 where
  pub before : (ahead_of p v bytes e).says ≡ Ok e.«record»
  pub here :
      step p (ahead_of p v bytes e).view (slice_index bytes (2 * e.«record»)) (slice_index bytes (2 * e.«record» + 1)) ≡ refused e.refusal
  pub fault : e ≡ raised e.refusal e.«record»

pub record RefusedCapture (p : Shape) (v : View) (bytes : List ℕ) (room : ℕ) (e : Fault) : Type 0 where
  pub view : called p v (capture bytes room) ≡ (ahead_of p v bytes e).view
  pub levels : (outcome p v (capture bytes room)).levels ≡ (ahead_of p v bytes e).levels
  pub at : unfit p v.cells ≡ None → refused_capture bytes room ≡ None → RefusedAt p v bytes e

abbrev pub RefusedCaptureStands : Type 0
RefusedCaptureStands =
    (p : Shape) (v : View) (bytes : List ℕ) (room : ℕ) (e : Fault) → (outcome p v (capture bytes room)).says ≡ Err e →
    RefusedCapture p v bytes room e

-- ---- sameness

-- deselected, with no cycle running
pub record AtRest (v : View) : Type 0 where
  pub deselected : v.stretch ≡ Deselected
  pub idle : v.cycle ≡ None

-- an action's two bytes are bytes
abbrev pub of_bytes : List Action → Bool
of_bytes [] = true
of_bytes (send k l ∷ more) = (nat_lt k 256 && nat_lt l 256) && of_bytes more

-- every further list of actions draws the same answers, refusals too
abbrev pub Alike : Shape → View → View → Type 0
Alike p u v = (xs : List Action) → T (of_bytes xs) → answers p u xs ≡ answers p v xs

-- two histories agree, by their journals and birth rows
pub record Agree (p : Shape) (birth birth' : List ℕ) (j j' : Journal) : Type 0 where
  pub same_c : j.c ≡ j'.c
  pub same_d : j.d ≡ j'.d
  pub same_w : j.w ≡ j'.w
  pub same_h : j.h ≡ j'.h
  pub same_enabled : enabled j.entries ≡ enabled j'.entries
  pub same_cells : (i : ℕ) → i < cell_count p → cell birth j i ≡ cell birth' j' i

-- two chips of one part, both fit, deselected and idle, are alike exactly when their histories agree
abbrev pub Sameness : Shape → Type 0
Sameness p =
    (birth birth' : List ℕ) (h h' : List Call) → Bytes birth → Bytes birth' →
    unfit p (chip_after p birth h).cells ≡ None → unfit p (chip_after p birth' h').cells ≡ None →
    AtRest (chip_after p birth h) → AtRest (chip_after p birth' h') →
    Alike p (chip_after p birth h) (chip_after p birth' h') ↔ Agree p birth birth' (journal_after p birth h) (journal_after p birth' h')

abbrev pub SamenessStands : Type 0
SamenessStands = (p : Shape) → Lawful p → Sameness p
