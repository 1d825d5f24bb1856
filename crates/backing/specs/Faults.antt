-- The sixteen refusals and the six layers by their numbers.
use Rattle.std.specs.Prelude.{◌≡◌, ℕ}
use Rattle.backing.specs.declared.refusal.Refusal.{Refusal}
use Rattle.backing.specs.declared.refusal.Refusal.TheVariants.{ShortBacking, StatusBits, LockValue, UnknownKind, BadLevel, PinAlreadyThere, NoCycle, PowerSelected, PowerInCycle, OddLength, ShortAnswers, NoSuchPage, ShortBuffer, CycleRunning, PastRow, LongInput}
use Rattle.backing.specs.declared.layer.Layer.{Layer}
use Rattle.backing.specs.declared.layer.Layer.TheVariants.{Making, Event, Capture, PageCopy, Backing, Program}
use Rattle.backing.specs.declared.fault.Fault.{Fault}

-- the number of a refusal
abbrev pub number : Refusal → ℕ
number ShortBacking = 1
number StatusBits = 2
number LockValue = 3
number UnknownKind = 4
number BadLevel = 5
number PinAlreadyThere = 6
number NoCycle = 7
number PowerSelected = 8
number PowerInCycle = 9
number OddLength = 10
number ShortAnswers = 11
number NoSuchPage = 12
number ShortBuffer = 13
number CycleRunning = 14
number PastRow = 15
number LongInput = 16

-- the number of a layer
abbrev pub position : Layer → ℕ
position Making = 1
position Event = 2
position Capture = 3
position PageCopy = 4
position Backing = 5
position Program = 6

-- the layer that raises a refusal
abbrev pub raiser : Refusal → Layer
raiser ShortBacking = Making
raiser StatusBits = Making
raiser LockValue = Making
raiser UnknownKind = Event
raiser BadLevel = Event
raiser PinAlreadyThere = Event
raiser NoCycle = Event
raiser PowerSelected = Event
raiser PowerInCycle = Event
raiser OddLength = Capture
raiser ShortAnswers = Capture
raiser NoSuchPage = PageCopy
raiser ShortBuffer = PageCopy
raiser CycleRunning = PageCopy
raiser PastRow = Backing
raiser LongInput = Program

-- the fault of a refusal at a record
abbrev pub raised : Refusal → ℕ → Fault
raised cause at = record { refusal = cause; «record» = at; layer = raiser cause }

-- the same fault at another record
abbrev pub moved_to : Fault → ℕ → Fault
moved_to e at = record { refusal = e.refusal; «record» = at; layer = e.layer }

-- a fault by its three numbers: refusal, layer, record
abbrev pub Shows : ℕ → ℕ → ℕ → Fault → Type 0
Shows n layer at e = (number e.refusal ≡ n) × (position e.layer ≡ layer) × (e.«record» ≡ at)

-- no other refusal has the number
abbrev pub Only : Refusal → ℕ → Type 0
Only cause n = (other : Refusal) → number other ≡ n → other ≡ cause

-- no other layer has the number
abbrev pub OnlyLayer : Layer → ℕ → Type 0
OnlyLayer layer n = (other : Layer) → position other ≡ n → other ≡ layer
