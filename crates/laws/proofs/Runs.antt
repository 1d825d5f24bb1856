-- After every history the journal keeps what the chip shows.
use Rattle.std.proofs.Common.{◌≡◌, ℕ, ◌+◌, ◌<◌, ◌≤◌, false, List, [], ◌∷◌, length, get_or, take, Some, None, Ok, Err, Option, Result, refl, arith, length-take}
use Rattle.std.proofs.lemmas.Bool.{eq-eqb, le-ltb}
use Rattle.std.proofs.lemmas.List.{get_or-take}
use Rattle.backing.specs.Faults.{raised}
use Rattle.backing.specs.declared.refusal.Refusal.{Refusal}
use Rattle.rules.specs.declared.state.Event.{Event}
use Rattle.rules.specs.Shape.{Shape, Lawful, status_at, lock_at, cell_count}
use Rattle.rules.specs.Tables.{decoded, kept, unfit, refused_capture, refused_copy}
use Rattle.rules.specs.Rules as rule
use Rattle.rules.specs.Rules.{View, Done, taken, refused, step, does, seen, born}
use Rattle.rules.specs.Calls as call
use Rattle.rules.specs.Calls.{Call, event, capture, copy, Outcome, records, outcome, called, after_calls}
use Rattle.laws.specs.Journal as note
use Rattle.laws.specs.Journal.{Journal, blank, Noting, took, turned, journal_step, journal_records, kept_by, noted_call, journal_of}
use Rattle.laws.specs.Laws.{Telling, tells_more, journal_tells}
use Rattle.laws.proofs.Keeps.{resting, Tracks, tracks}
use Rattle.laws.proofs.Plain.{view_is}
use Rattle.laws.proofs.Steps.{together}
use Rattle.laws.proofs.Sound.{SoundList, byte_by, noting_sound}
use Rattle.laws.proofs.Tell.{fit_length, fit_status, fit_lock}

-- the tie that every history keeps
pub record Stands (p : Shape) (birth : List ℕ) (j : Journal) (v : View) : Type 0 where
  pub tie : Tracks p birth j v
  pub sound : SoundList p j.entries

-- ---- fitness

made_fit : (p : Shape) (cells : List ℕ) → cell_count p ≤ length cells → kept (get_or cells (status_at p) 0) ≡ get_or cells (status_at p) 0 → get_or cells (lock_at p) 0 ≤ 1 → unfit p cells ≡ None
made_fit p cells long s l = rw (le-ltb (length cells) (cell_count p) long, eq-eqb (kept (get_or cells (status_at p) 0)) (get_or cells (status_at p) 0) s, le-ltb 1 (get_or cells (lock_at p) 0) l, unfit)

abbrev born_cells : Shape → List ℕ → List ℕ
born_cells p birth = take (cell_count p) birth

abbrev LawfulCell : Shape → ℕ → ℕ → Type 0
LawfulCell p i x = (i ≡ status_at p → kept x ≡ x) × (i ≡ lock_at p → x ≤ 1)

birth_lawful : (p : Shape) (birth : List ℕ) → unfit p (born_cells p birth) ≡ None → (i : ℕ) → LawfulCell p i (get_or birth i 0)
birth_lawful p birth f i = (
  (λ e. rw (e, ← get_or-take (cell_count p) birth (status_at p) 0 (omega arith)) (fit_status p (born_cells p birth) f)),
  (λ e. rw (e, ← get_or-take (cell_count p) birth (lock_at p) 0 (omega arith)) (fit_lock p (born_cells p birth) f)),
)

pub stays_fit : (p : Shape) (birth : List ℕ) (j : Journal) (v : View) → unfit p (born_cells p birth) ≡ None → Stands p birth j v → unfit p v.cells ≡ None
stays_fit p birth j v f s = by s.tie s.sound
  where
    by : {j : Journal} {v : View} → Tracks p birth j v → SoundList p j.entries → unfit p v.cells ≡ None
    by (tracks {es = es} {cells = cells} ft m) sound =
        let lawful : (i : ℕ) → i < cell_count p → LawfulCell p i (get_or cells i 0) =
        λ i h. rw (m.now_is i h) (byte_by p (LawfulCell p) (λ n x g. (g.status, g.lock)) birth (birth_lawful p birth f) es sound i false) in
        made_fit p cells (omega arith) ((lawful (status_at p) (omega arith)).0 refl) ((lawful (lock_at p) (omega arith)).1 refl)

-- ---- birth

pub birth_stands : (p : Shape) (birth : List ℕ) → unfit p (born_cells p birth) ≡ None → Stands p birth blank (born p birth)
birth_stands p birth f =
    let at : (i : ℕ) → i < cell_count p → get_or (born_cells p birth) i 0 ≡ get_or birth i 0 = λ i h. get_or-take (cell_count p) birth i 0 h in
    let long : cell_count p ≤ length (born_cells p birth) = fit_length p (born_cells p birth) f in
    let len : length (born_cells p birth) ≡ cell_count p = omega (arith, length-take (cell_count p) birth) in
    record { tie = tracks resting (record { run_is = refl; len_is = len; now_is = at; then_is = at }); sound = tt }

-- ---- an event

-- the records after a first one that came to d
abbrev pub follow : Shape → View → ℕ → Done → List ℕ → Outcome
follow p v i d more =
    elim d as (λ _. Outcome) [
      | taken u ↦ call.with_level (seen u.shift) (records p u (i + 1) more)
      | refused r ↦ record { view = v; levels = []; says = Err (raised r i) }
    ]

-- what is told is what the journal tells
abbrev pub Told : Outcome → Telling → Type 0
Told o t = (o.levels ≡ t.levels) × (o.says ≡ t.says)

module _ (p : Shape) (law : Lawful p) (birth : List ℕ) where
  noted_sound : (j : Journal) (r : Result Event Refusal) → SoundList p j.entries → SoundList p (note.after_noting j (note.notes_event p birth j r)).entries
  noted_sound j (Err r) g = g
  noted_sound j (Ok e) g = by (note.refuses j e)
    where
      by : (o : Option Refusal) → SoundList p (note.after_noting j (note.unless o (note.noting p birth j e))).entries
      by None = noting_sound p law birth j g e
      by (Some r) = g

  pub event_stands : (j : Journal) (v : View) → Stands p birth j v → (k l : ℕ) → Stands p birth (note.after_noting j (journal_step p birth j k l)) (rule.after v (step p v k l))
  event_stands j v s k l =
      record { tie = (together p law birth j v s.tie (decoded k l)).0; sound = noted_sound j (decoded k l) s.sound }

  pub event_alike : (j : Journal) (v : View) → Stands p birth j v → (k l : ℕ) → rule.answer (step p v k l) ≡ note.journal_answer (journal_step p birth j k l)
  event_alike j v s k l = (together p law birth j v s.tie (decoded k l)).1

  -- ---- the records of a capture

  pub recorded : (bytes : List ℕ) (i : ℕ) (j : Journal) (v : View) → Stands p birth j v →
      Stands p birth (journal_records p birth j bytes) (records p v i bytes).view × Told (records p v i bytes) (journal_tells p birth j i bytes)
  recorded [] i j v s = (s, (refl, refl))
  recorded (k ∷ []) i j v s = (s, (refl, refl))
  recorded (k ∷ l ∷ more) i j v s =
      by (step p v k l) (journal_step p birth j k l) (event_stands j v s k l) (event_alike j v s k l) (λ x u t. recorded more (i + 1) x u t)
    where
      by : (d : Done) (n : Noting) → Stands p birth (note.after_noting j n) (rule.after v d) → rule.answer d ≡ note.journal_answer n →
          ((x : Journal) (u : View) → Stands p birth x u → Stands p birth (journal_records p birth x more) (records p u (i + 1) more).view × Told (records p u (i + 1) more) (journal_tells p birth x (i + 1) more)) →
          Stands p birth (elim n as (λ _. Journal) [ took x ↦ journal_records p birth x more | turned r ↦ j ]) (follow p v i d more).view
          × Told (follow p v i d more) (elim n as (λ _. Telling) [ took x ↦ tells_more (note.q_of x) (journal_tells p birth x (i + 1) more) | turned r ↦ record { levels = []; says = Err (raised r i) } ])
      by (taken u) (took x) t e go = let rest = go x u t in (rest.0, (cc (rest.1.0), rest.1.1))
      by (taken u) (turned r) t e go = cc
      by (refused r) (took x) t e go = cc
      by (refused r) (turned q) t e go = (t, (refl, cc))

  -- ---- a call on a fit chip

  fit_stands : (x : Call) (j : Journal) (v : View) → Stands p birth j v → Stands p birth (note.fit_noted p birth j x) (call.fit_call p v x).view
  fit_stands (event k l) j v s = rw (view_is v (step p v k l)) (event_stands j v s k l)
  fit_stands (capture bytes room) j v s = by (refused_capture bytes room)
    where
      by : (o : Option Refusal) → Stands p birth (kept_by o j (journal_records p birth j bytes)) (call.unless o v (records p v 0 bytes)).view
      by None = (recorded bytes 0 j v s).0
      by (Some r) = s
  fit_stands (copy page at room) j v s = by (refused_copy p (rule.running v.cycle) page at room)
    where
      by : (o : Option Refusal) → Stands p birth j (call.unless o v (record { view = v; levels = []; says = Ok 256 })).view
      by None = s
      by (Some r) = s

  module _ (fit : unfit p (born_cells p birth) ≡ None) where
    pub call_stands : (x : Call) (j : Journal) (v : View) → Stands p birth j v → Stands p birth (noted_call p birth j x) (called p v x)
    call_stands x j v s = rw (fit, stays_fit p birth j v fit s, called) (fit_stands x j v s)

    pub history_stands : (h : List Call) (j : Journal) (v : View) → Stands p birth j v → Stands p birth (journal_of p birth j h) (after_calls p v h)
    history_stands [] j v s = s
    history_stands (x ∷ h) j v s = history_stands h (noted_call p birth j x) (called p v x) (call_stands x j v s)

-- ---- a chip that is born unfit

module _ (p : Shape) (r : Refusal) where
  pub unfit_call : (v : View) → unfit p v.cells ≡ Some r → (x : Call) → (called p v x ≡ v) × ((outcome p v x).says ≡ Err (raised r 0))
  unfit_call v e x = (rw (e, called), rw e)

  pub unfit_history : (v : View) → unfit p v.cells ≡ Some r → (h : List Call) → after_calls p v h ≡ v
  unfit_history v e [] = refl
  unfit_history v e (x ∷ h) = rw (unfit_call v e x).0 (unfit_history v e h)

  pub unfit_journal : (birth : List ℕ) → unfit p (born_cells p birth) ≡ Some r → (j : Journal) (h : List Call) → journal_of p birth j h ≡ j
  unfit_journal birth e j [] = refl
  unfit_journal birth e j (x ∷ h) = rw (e, noted_call) (unfit_journal birth e j h)
