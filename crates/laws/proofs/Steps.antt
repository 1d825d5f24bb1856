-- An event, taken or refused, keeps the tie and draws the same answer from journal and chip.
use Rattle.std.proofs.Common.{◌≡◌, ℕ, true, List, Some, None, Ok, Err, Option, Result, refl, ap}
use Rattle.backing.specs.declared.refusal.Refusal.{Refusal}
use Rattle.rules.specs.declared.state.Event.{Event}
use Rattle.rules.specs.Shape.{Shape, Lawful}
use Rattle.rules.specs.Rules as rule
use Rattle.rules.specs.Rules.{View, moved, seen, running}
use Rattle.laws.specs.Journal as note
use Rattle.laws.specs.Journal.{Journal, Noted, Entry, cycle_runs, enabled, noting, q_of}
use Rattle.laws.proofs.Keeps.{resting, Tracks, tracks}
use Rattle.laws.proofs.Moves.{off_is, keeps}

-- Q is the journal's
seen_is : {p : Shape} {birth : List ℕ} {j : Journal} {v : View} → Tracks p birth j v → seen v.shift ≡ q_of j
seen_is (tracks resting m) = refl
seen_is (tracks {held = true} f m) = refl
seen_is (tracks f m) = refl

refuses_alike : {p : Shape} {birth : List ℕ} {j : Journal} {v : View} → Tracks p birth j v → (e : Event) → rule.refuses v e ≡ note.refuses j e
refuses_alike (tracks f m) e = rw (off_is f, m.run_is)

-- an event as it comes
abbrev pub Both : Shape → List ℕ → rule.Done → note.Noting → View → Journal → Type 0
Both p birth d n v j = Tracks p birth (note.after_noting j n) (rule.after v d) × (rule.answer d ≡ note.journal_answer n)

both : (p : Shape) (birth : List ℕ) (v u : View) (j i : Journal) (o o' : Option Refusal) → o ≡ o' → Tracks p birth j v → (o' ≡ None → Tracks p birth i u) → Both p birth (rule.unless o u) (note.unless o' i) v j
both p birth v u j i None None e t k = (k refl, ap Ok (seen_is (k refl)))
both p birth v u j i (Some r) None e t k = cc
both p birth v u j i None (Some r) e t k = cc
both p birth v u j i (Some r) (Some r') e t k = (t, cc)

pub together : (p : Shape) → Lawful p → (birth : List ℕ) (j : Journal) (v : View) → Tracks p birth j v → (r : Result Event Refusal) → Both p birth (rule.does p v r) (note.notes_event p birth j r) v j
together p law birth j v t (Err r) = (t, refl)
together p law birth j v t (Ok e) =
    both p birth v (moved p v e) j (noting p birth j e) (rule.refuses v e) (note.refuses j e) (refuses_alike t e) t (λ n. keeps p law birth e j v t n)
