-- Calls on a chip: what they answer and what they leave, every refusal in its order.
use Rattle.std.specs.Prelude.{ℕ, ◌+◌, ◌*◌, List, [], ◌∷◌, ◌++◌, map, length, take, drop, Some, None, Ok, Err, Option, Result}
use Rattle.backing.specs.Faults.{raised}
use Rattle.backing.specs.declared.refusal.Refusal.{Refusal}
use Rattle.backing.specs.declared.fault.Fault.{Fault}
use Rattle.rules.specs.declared.state.Level.{Level}
use Rattle.rules.specs.Shape.{Shape}
use Rattle.rules.specs.Tables.{level_number, unfit, refused_capture, refused_copy}
use Rattle.rules.specs.Rules.{View, Done, taken, refused, step, seen, running}

-- a call with its arguments: an event's kind and level; a capture's bytes and the length of the answer buffer; a page
-- copy's page, place in the buffer and the buffer's length
pub data Call : Type 0 where
  event : (kind level : ℕ) → Call
  capture : (bytes : List ℕ) (room : ℕ) → Call
  copy : (page at room : ℕ) → Call

-- what a call comes to: the chip after it, the levels that it answered record by record, and its answer
pub record Outcome : Type 0 where
  pub view : View
  pub levels : List Level
  pub says : Result ℕ Fault

abbrev pub with_level : Level → Outcome → Outcome
with_level q o = record { view = o.view; levels = q ∷ o.levels; says = o.says }

-- records from number i on, one by one, up to the first refused
abbrev pub records : Shape → View → ℕ → List ℕ → Outcome
records p v i [] = record { view = v; levels = []; says = Ok i }
records p v i (k ∷ []) = record { view = v; levels = []; says = Ok i }
records p v i (k ∷ l ∷ more) =
    elim (step p v k l) as (λ _. Outcome) [
      | taken u ↦ with_level (seen u.shift) (records p u (i + 1) more)
      | refused r ↦ record { view = v; levels = []; says = Err (raised r i) }
    ]

abbrev pub one_event : View → Done → Outcome
one_event v (taken u) = record { view = u; levels = seen u.shift ∷ []; says = Ok (level_number (seen u.shift)) }
one_event v (refused r) = record { view = v; levels = []; says = Err (raised r 0) }

-- a call that is refused ahead of all else
abbrev pub unless : Option Refusal → View → Outcome → Outcome
unless None v o = o
unless (Some r) v o = record { view = v; levels = []; says = Err (raised r 0) }

-- a call on a fit chip
abbrev pub fit_call : Shape → View → Call → Outcome
fit_call p v (event k l) = one_event v (step p v k l)
fit_call p v (capture bytes room) = unless (refused_capture bytes room) v (records p v 0 bytes)
fit_call p v (copy page at room) =
    unless (refused_copy p (running v.cycle) page at room) v (record { view = v; levels = []; says = Ok 256 })

-- a call: making's refusals come first
abbrev pub outcome : Shape → View → Call → Outcome
outcome p v x = unless (unfit p v.cells) v (fit_call p v x)

abbrev pub called : Shape → View → Call → View
called p v x = (outcome p v x).view

-- a chip after these calls, the first call first
abbrev pub after_calls : Shape → View → List Call → View
after_calls p v [] = v
after_calls p v (x ∷ xs) = after_calls p (called p v x) xs

-- ---- what goes into the caller's buffers

-- an answer buffer after these levels: each as its number, the bytes past them as they were
abbrev pub written : List Level → List ℕ → List ℕ
written levels old = map level_number levels ++ drop (length levels) old

-- the bytes of a page of these cells
abbrev pub page_in : List ℕ → ℕ → List ℕ
page_in cells page = take 256 (drop (page * 256) cells)

-- a buffer after a page copy that answers so: the page's bytes from a place on, and every other byte as it was
abbrev pub copied : Result ℕ Fault → (bytes : List ℕ) (at : ℕ) (old : List ℕ) → List ℕ
copied (Ok n) bytes at old = take at old ++ (bytes ++ drop (at + 256) old)
copied (Err e) bytes at old = old
