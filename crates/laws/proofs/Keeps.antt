-- The journal keeps what the chip shows.
use Rattle.std.proofs.Common.{◌≡◌, ℕ, ◌%◌, ◌<◌, Bool, true, false, not, ◌&&◌, eqb, ltb, ◌⊎◌, List, [], ◌∷◌, ◌++◌, length, get_or, take, refl, ap, ◌∙◌, inl, inr, Option, None, Some}
use Rattle.rules.specs.declared.state.Level.{Level}
use Rattle.rules.specs.declared.state.Level.TheVariants.{Float}
use Rattle.rules.specs.declared.state.Instruction.{Instruction}
use Rattle.rules.specs.declared.state.Instruction.TheVariants as name
use Rattle.rules.specs.declared.state.Access.{Access}
use Rattle.rules.specs.declared.state.Access.TheVariants as access
use Rattle.rules.specs.declared.state.Shift.{Shift}
use Rattle.rules.specs.declared.state.Pending.{Pending}
use Rattle.rules.specs.declared.state.Phase.{Phase}
use Rattle.rules.specs.declared.state.Phase.TheVariants.{Deselected, Instruction as Instructing, Ignored, Status, Address, Output}
use Rattle.rules.specs.Shape.{Shape, cell_count}
use Rattle.rules.specs.Tables.{named, accepted, a10}
use Rattle.rules.specs.Rules as rule
use Rattle.rules.specs.Rules.{View, running, is_off, judged, begun, latched, place, at_rest, pushed, filled, aimed, laid, base, reach, moved, shifted, shift_out, same_shown, closed, counts}
use Rattle.laws.specs.Journal.{Journal, Noted, unread, noted, Entry, enabled, cycle_runs, byte_of, number}
use Rattle.laws.proofs.Bits.{goes_on, pick, goes_on_stays}
use Rattle.laws.proofs.Regions.{status_phase}

-- the cells as they will be once a running cycle has ended
abbrev pub pend : Shape → Option Pending → List ℕ → List ℕ
pend p None cells = cells
pend p (Some w) cells = laid cells (base p w.target w.start) (take (reach p w.target) w.bytes)

-- the memory: the cycle and the cells are the journal's
pub record Mem (p : Shape) (birth : List ℕ) (es : List Entry) (cy : Option Pending) (cells : List ℕ) : Type 0 where
  pub run_is : running cy ≡ cycle_runs es
  pub len_is : length cells ≡ cell_count p
  pub now_is : (i : ℕ) → i < cell_count p → get_or cells i 0 ≡ byte_of birth i false es
  pub then_is : (i : ℕ) → i < cell_count p → get_or (pend p cy cells) i 0 ≡ byte_of birth i true es

-- the phase of a stretch after the eight bits that were judged, and the rest
abbrev pub judged_on : ℕ → (accepts wel : Bool) → (eight rest : List Bool) → Phase
judged_on ident a wel eight rest = goes_on ident (judged a wel (named (number eight))) rest

-- the sample of the output side: the status byte as the journal has it, or the cell that is being read; not yet while
-- the fall for the byte's first bit is to come
abbrev pub SampleOk : Shape → List ℕ → (due : Bool) → Phase → (sample sampled : ℕ) → Type 0
SampleOk p cells due (Instructing n v) sample sampled = sample ≡ sampled
SampleOk p cells due (Status k) sample sampled = sample ≡ sampled
SampleOk p cells due (Output r a k) sample sampled = (due && eqb k 0) ≡ false → sample ≡ get_or cells (place p r a) 0
SampleOk p cells due ph sample sampled = Unit {0}

-- how the stretch stands
pub data Fits (p : Shape) (cells : List ℕ) (es : List Entry) : (s c held : Bool) → List Bool → Noted → Level → ℕ → Phase → Shift → Type 0 where
  resting : {c : Bool} → Fits p cells es true c false [] unread Float 0 Deselected at_rest
  young : {c held : Bool} {bits : List Bool} {last : Level} {sampled : ℕ} → length bits < 8 →
      Fits p cells es false c held bits unread last sampled (Instructing (length bits) (number bits)) (record { held = held; shown = last; sample = sampled })
  old : {c held : Bool} {last : Level} {sampled : ℕ} (eight rest : List Bool) (a wel : Bool) (sample : ℕ) → length eight ≡ 8 →
      (a ≡ true → accepted (cycle_runs es) (named (number eight)) ≡ true) →
      SampleOk p cells (c && not held) (judged_on p.ident a wel eight rest) sample sampled →
      Fits p cells es false c held (eight ++ rest) (noted a wel) last sampled
      (judged_on p.ident a wel eight rest) (record { held = held; shown = last; sample = sample })

abbrev pub jr : (s c d w h held : Bool) → List Bool → Noted → Level → ℕ → List Entry → Journal
jr s c d w h held bits nt last sampled es =
    record { s = s; c = c; d = d; w = w; h = h; held = held; bits = bits; note = nt; last = last; sampled = sampled; entries = es }

abbrev pub vw : (c d w h wel : Bool) → Option Pending → Phase → Shift → List ℕ → View
vw c d w h wel cy ph sh cells =
    record { pins = record { clock = c; input = d; protect = w; hold = h }; wel = wel; cycle = cy; stretch = ph; shift = sh; cells = cells }

pub data Tracks (p : Shape) (birth : List ℕ) : Journal → View → Type 0 where
  tracks : {s c d w h held : Bool} {bits : List Bool} {nt : Noted} {last : Level} {sampled : ℕ} {es : List Entry} {cy : Option Pending} {ph : Phase} {sh : Shift} {cells : List ℕ} →
      Fits p cells es s c held bits nt last sampled ph sh → Mem p birth es cy cells →
      Tracks p birth (jr s c d w h held bits nt last sampled es) (vw c d w h (enabled es) cy ph sh cells)

-- ---- a stretch stays one, and is judged once

abbrev late : Phase → Bool
late Deselected = false
late (Instructing n v) = false
late ph = true

late_off : (ph : Phase) → late ph ≡ true → is_off ph ≡ false
late_off Deselected e = cc
late_off ph e = refl

late_aimed : (ident : ℕ) (a : Access) (wel : Bool) (v : ℕ) → late (aimed ident a wel v) ≡ true
late_aimed ident access.ReadIdent wel v = pick (λ ph. late ph ≡ true) (a10 v) _ _ refl refl
late_aimed ident access.WriteIdent wel v = pick (λ ph. late ph ≡ true) (a10 v) _ _ refl refl
late_aimed ident a wel v = refl

late_on : (ident : ℕ) (d : Bool) (ph : Phase) → late ph ≡ true → late (latched ident false false d ph) ≡ true
late_on ident d Deselected e = e
late_on ident d (Instructing n v) e = cc
late_on ident d (Address a wel n v) e =
    pick (λ ph. late ph ≡ true) (ltb n 23) _ _ refl (late_aimed ident a wel (rule.pushed_address v d))
late_on ident d (Output r a k) e = pick (λ ph. late ph ≡ true) (ltb k 7) _ _ refl refl
late_on ident d ph e = refl

late_goes : (ident : ℕ) (bs : List Bool) (ph : Phase) → late ph ≡ true → late (goes_on ident ph bs) ≡ true
late_goes ident [] ph e = e
late_goes ident (b ∷ bs) ph e = late_goes ident bs (latched ident false false b ph) (late_on ident b ph e)

late_judged : (a wel : Bool) (i : Instruction) → late (judged a wel i) ≡ true
late_judged false wel i = refl
late_judged true wel name.Wren = refl
late_judged true wel i = refl

pub late_old : (ident : ℕ) (a wel : Bool) (i : Instruction) (rest : List Bool) → late (goes_on ident (judged a wel i) rest) ≡ true
late_old ident a wel i rest = late_goes ident rest (judged a wel i) (late_judged a wel i)

pub old_off : (ident : ℕ) (a wel : Bool) (eight rest : List Bool) → is_off (judged_on ident a wel eight rest) ≡ false
old_off ident a wel eight rest = late_off _ (late_old ident a wel (named (number eight)) rest)

-- after the eighth bit the cycle and WEL of the moment do not matter to a latch
pub latched_late : (ident : ℕ) (runs wel d : Bool) (ph : Phase) → late ph ≡ true → latched ident runs wel d ph ≡ latched ident false false d ph
latched_late ident runs wel d (Instructing n v) e = cc
latched_late ident runs wel d ph e = refl

-- the sample through a latch
sample_aimed : (p : Shape) (cells : List ℕ) (ident : ℕ) (a : Access) (wel : Bool) (v sample sampled : ℕ) → SampleOk p cells true (aimed ident a wel v) sample sampled
sample_aimed p cells ident access.Write wel v sample sampled = tt
sample_aimed p cells ident access.ReadIdent wel v sample sampled = pick (λ ph. SampleOk p cells true ph sample sampled) (a10 v) _ _ (λ e. cc) (λ e. cc)
sample_aimed p cells ident access.WriteIdent wel v sample sampled = pick (λ ph. SampleOk p cells true ph sample sampled) (a10 v) _ _ tt tt
sample_aimed p cells ident a wel v sample sampled = λ e. cc

pub sample_latched : (p : Shape) (cells : List ℕ) (ident : ℕ) (d : Bool) (ph : Phase) (sample sampled : ℕ) → late ph ≡ true → SampleOk p cells false ph sample sampled → SampleOk p cells true (latched ident false false d ph) sample sampled
sample_latched p cells ident d (Instructing n v) sample sampled e h = cc
sample_latched p cells ident d (Status k) sample sampled e h = h
sample_latched p cells ident d (Address a wel n v) sample sampled e h =
    pick (λ ph. SampleOk p cells true ph sample sampled) (ltb n 23) _ _ tt (sample_aimed p cells ident a wel (rule.pushed_address v d) sample sampled)
sample_latched p cells ident d (Output r a k) sample sampled e h =
    pick (λ ph. SampleOk p cells true ph sample sampled) (ltb k 7) _ _ (λ _. h refl) (λ z. cc)
sample_latched p cells ident d ph sample sampled e h = tt

-- an instruction that is accepted while a cycle runs is RDSR
pub only_rdsr : (i : Instruction) → accepted true i ≡ true → i ≡ name.Rdsr
only_rdsr name.Rdsr e = refl
only_rdsr i e = cc

-- in a cycle a stretch that is judged is ignored or reads the status
pub calm : (ident : ℕ) (a wel : Bool) (i : Instruction) (rest : List Bool) → (a ≡ true → accepted true i ≡ true) →
    (goes_on ident (judged a wel i) rest ≡ Ignored) ⊎ (goes_on ident (judged a wel i) rest ≡ Status (length rest % 8))
calm ident false wel i rest ok = inl (goes_on_stays ident Ignored (λ _. refl) rest)
calm ident true wel i rest ok =
    inr (ap (λ x. goes_on ident (begun wel x) rest) (only_rdsr i (ok refl)) ∙ status_phase ident rest)
