-- How many records a capture takes.
use Rattle.std.proofs.Common.{◌≡◌, ℕ, ◌+◌, ◌*◌, ◌≤◌, List, [], ◌∷◌, map, length, take, drop, Some, None, Err, Option, Result, arith}
use Rattle.std.proofs.lemmas.List.{length-map, take_at}
use Rattle.backing.specs.Faults.{raised}
use Rattle.backing.specs.declared.fault.Fault.{Fault}
use Rattle.backing.specs.declared.refusal.Refusal.{Refusal}
use Rattle.rules.specs.declared.state.Level.{Level}
use Rattle.rules.specs.Shape.{Shape}
use Rattle.rules.specs.Tables.{level_number, unfit, refused_capture}
use Rattle.rules.specs.Rules.{View, taken, refused, step, seen}
use Rattle.rules.specs.Calls.{Outcome, records, with_level, unless, outcome, capture, written}
use Rattle.laws.specs.Bench.{bench, fresh}
use Rattle.edges_text.specs.Edges.{taken_of, ran}

-- the levels count from i on, and each has two bytes
pub record Takes (i most : ℕ) (o : Outcome) : Type 0 where
  pub count : taken_of o.says ≡ i + length o.levels
  pub few : 2 * length o.levels ≤ most

records_take : (p : Shape) (v : View) (i : ℕ) (bytes : List ℕ) → Takes i (length bytes) (records p v i bytes)
records_take p v i [] = record { count = omega arith; few = omega arith }
records_take p v i (k ∷ []) = record { count = omega arith; few = omega arith }
records_take p v i (k ∷ l ∷ more) =
    elim (step p v k l) as (λ d. Takes i (length (k ∷ l ∷ more)) (elim d as (λ _. Outcome) [
      | taken u ↦ with_level (seen u.shift) (records p u (i + 1) more)
      | refused r ↦ record { view = v; levels = []; says = Err (raised r i) }
    ])) [
      | taken u ↦ (let t = records_take p u (i + 1) more in record { count = omega arith; few = omega arith })
      | refused r ↦ record { count = omega arith; few = omega arith }
    ]

unless_takes : (r : Option Refusal) (v : View) (o : Outcome) (most : ℕ) → Takes 0 most o → Takes 0 most (unless r v o)
unless_takes None v o most t = t
unless_takes (Some r) v o most t = record { count = omega arith; few = omega arith }

capture_takes : (p : Shape) (v : View) (bytes : List ℕ) (room : ℕ) → Takes 0 (length bytes) (outcome p v (capture bytes room))
capture_takes p v bytes room =
    unless_takes (unfit p v.cells) v _ (length bytes) (unless_takes (refused_capture bytes room) v _ (length bytes) (records_take p v 0 bytes))

ran_takes : (input : List ℕ) → Takes 0 (length input) (ran input)
unfolding ran
ran_takes input = capture_takes bench fresh input 30000

-- as many levels as records taken
pub levels_taken : (input : List ℕ) (says : Result ℕ Fault) (n : ℕ) → says ≡ (ran input).says → n ≡ taken_of says → n ≡ length (ran input).levels
levels_taken input says n e f = let t = ran_takes input in rw (f, e) (omega arith)

-- which find room
pub room_taken : (input : List ℕ) (n : ℕ) → n ≡ length (ran input).levels → length input ≤ 60000 → n ≤ 30000
room_taken input n e h = let t = ran_takes input in omega arith

pub answers_taken : (qs : List Level) (answers old : List ℕ) (n : ℕ) → answers ≡ written qs old → n ≡ length qs → take n answers ≡ map level_number qs
answers_taken qs answers old n e f =
    rw (e, take_at (map level_number qs) (drop (length qs) old) n (omega (arith, length-map qs level_number)))
