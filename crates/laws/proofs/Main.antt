-- The laws over whole runs.
use Rattle.std.proofs.Common.{◌≡◌, ℕ, suc, ◌+◌, ◌*◌, ◌/◌, ◌%◌, ◌<◌, ◌≤◌, false, List, [], ◌∷◌, ◌++◌, length, get_or, take, drop, Some, None, Ok, Err, Option, sym, refl, ap, ◌∙◌, inl, inr, arith, lit<, length-take}
use Rattle.std.proofs.lemmas.Bool.{eq-eqb, le-ltb, cases_lt}
use Rattle.std.proofs.lemmas.List.{get_or-take, get_or_past, ext_get_or, length-append, length-drop, length-take-le, drop_all, drop_at}
use Rattle.backing.specs.Faults.{raised}
use Rattle.backing.specs.Rows.{Bytes}
use Rattle.backing.specs.declared.refusal.Refusal.{Refusal}
use Rattle.backing.specs.declared.fault.Fault.{Fault}
use Rattle.rules.specs.declared.state.Phase.TheVariants.{Deselected}
use Rattle.rules.specs.Shape.{Shape, Lawful, cell_count}
use Rattle.rules.specs.Tables.{unfit, refused_capture, refused_copy}
use Rattle.rules.specs.Rules as rule
use Rattle.rules.specs.Rules.{View, Done, taken, refused, step, born, is_off, at_rest}
use Rattle.rules.specs.Calls as call
use Rattle.rules.specs.Calls.{Call, event, capture, copy, Outcome, records, outcome, called, after_calls}
use Rattle.laws.specs.Journal.{Journal, blank, enabled, cell, noted_call, journal_of}
use Rattle.laws.specs.Journal as note
use Rattle.laws.specs.Laws as law
use Rattle.laws.specs.Laws.{Action, send, call_of, answers, as_number, first_of, journal_says, journal_answers, chip_after, Telling, tells_more, journal_tells, told_first, journal_capture, AnswersStand, CapturesStand, Cells, CellsStand, CopiesStand, journal_copy, UnfitStand, RefusedEventStands, ahead_of, RefusedCapture, RefusedCaptureStands, AtRest, Alike, Agree, Sameness, SamenessStands}
use Rattle.laws.proofs.Keeps.{Tracks, tracks, resting, young, old, old_off}
use Rattle.laws.proofs.Sound.{SoundList, byte_by}
use Rattle.laws.proofs.Plain.{fit_says}
use Rattle.laws.proofs.Tell.{tells, fit_length}
use Rattle.laws.proofs.Runs.{Stands, follow, Told, recorded, stays_fit, birth_stands, event_alike, call_stands, history_stands, unfit_call, unfit_history, unfit_journal}

-- a history on a fit birth row
stands : (p : Shape) → Lawful p → (birth : List ℕ) → unfit p (take (cell_count p) birth) ≡ None → (h : List Call) → Stands p birth (law.journal_after p birth h) (chip_after p birth h)
stands p lw birth fit h = history_stands p lw birth fit h blank (born p birth) (birth_stands p birth fit)

-- ---- answers

fit_answers : (p : Shape) → Lawful p → (birth : List ℕ) → unfit p (take (cell_count p) birth) ≡ None → (xs : List Action) (j : Journal) (v : View) → Stands p birth j v → answers p v xs ≡ journal_answers p birth j xs
fit_answers p lw birth fit [] j v s = refl
fit_answers p lw birth fit (send k l ∷ xs) j v s =
    let says : (outcome p v (event k l)).says ≡ journal_says p birth j (send k l) =
    rw fit (fit_says p v k l (stays_fit p birth j v fit s) ∙ ap as_number (event_alike p lw birth j v s k l)) in
    let rest = fit_answers p lw birth fit xs (noted_call p birth j (event k l)) (called p v (event k l)) (call_stands p lw birth fit (event k l) j v s) in
    λ i. says i ∷ rest i

unfit_answers : (p : Shape) (birth : List ℕ) (r : Refusal) → unfit p (take (cell_count p) birth) ≡ Some r → (xs : List Action) (j : Journal) (v : View) → unfit p v.cells ≡ Some r → answers p v xs ≡ journal_answers p birth j xs
unfit_answers p birth r e [] j v f = refl
unfit_answers p birth r e (send k l ∷ xs) j v f =
    let says : (outcome p v (event k l)).says ≡ journal_says p birth j (send k l) = rw (f, e) in
    let rest : answers p (called p v (event k l)) xs ≡ journal_answers p birth (noted_call p birth j (event k l)) xs =
    ap (λ u. answers p u xs) (unfit_call p r v f (event k l)).0 ∙ unfit_answers p birth r e xs (noted_call p birth j (event k l)) v f in
    λ i. says i ∷ rest i

pub answers_stand : AnswersStand
answers_stand p lw birth h xs = by (unfit p (take (cell_count p) birth)) refl
  where
    by : (o : Option Refusal) → unfit p (take (cell_count p) birth) ≡ o → answers p (chip_after p birth h) xs ≡ journal_answers p birth (law.journal_after p birth h) xs
    by None e = fit_answers p lw birth e xs _ _ (stands p lw birth e h)
    by (Some r) e =
        rw (unfit_history p r (born p birth) e h) (unfit_answers p birth r e xs (law.journal_after p birth h) (born p birth) e)

-- ---- cells

-- a row whose front has as many cells as at birth
row_length : (p : Shape) (birth cells : List ℕ) → length cells ≡ length (take (cell_count p) birth) → length (cells ++ drop (cell_count p) birth) ≡ length birth
row_length p birth cells e = omega (arith, length-append cells (drop (cell_count p) birth), length-take (cell_count p) birth, length-drop (cell_count p) birth)

row_past : (p : Shape) (birth cells : List ℕ) → length cells ≡ length (take (cell_count p) birth) → drop (cell_count p) (cells ++ drop (cell_count p) birth) ≡ drop (cell_count p) birth
row_past p birth cells e =
    elim (cases_lt (length birth) (cell_count p)) [
      | inl short ↦
          let len = row_length p birth cells e in
          drop_all (cell_count p) (cells ++ drop (cell_count p) birth) (omega arith) ∙ sym (drop_all (cell_count p) birth (omega arith))
      | inr long ↦ drop_at cells (drop (cell_count p) birth) (cell_count p) (e ∙ length-take-le (cell_count p) birth long)
    ]

fit_cells : (p : Shape) (birth : List ℕ) → unfit p (take (cell_count p) birth) ≡ None → (j : Journal) (v : View) → Stands p birth j v → Cells p birth v j
fit_cells p birth fit j v s = by s.tie (stays_fit p birth j v fit s)
  where
    by : {j : Journal} {v : View} → Tracks p birth j v → unfit p v.cells ≡ None → Cells p birth v j
    by (tracks {cells = cells} ft m) f =
        let long : cell_count p ≤ length (take (cell_count p) birth) = fit_length p (take (cell_count p) birth) fit in
        let count : length cells ≡ length (take (cell_count p) birth) = omega (arith, length-take (cell_count p) birth) in
        record {
          count = count;
          len = row_length p birth _ count;
          past = row_past p birth _ count;
          bytes = λ i h. m.now_is i (omega arith);
          fitness = f ∙ sym fit;
        }

born_cells : (p : Shape) (birth : List ℕ) → Cells p birth (born p birth) blank
born_cells p birth =
    record { count = refl; len = row_length p birth (take (cell_count p) birth) refl; past = row_past p birth (take (cell_count p) birth) refl; bytes = λ i h. get_or-take (cell_count p) birth i 0 (omega (arith, length-take (cell_count p) birth)); fitness = refl }

pub cells_stand : CellsStand
cells_stand p lw birth h = by (unfit p (take (cell_count p) birth)) refl
  where
    by : (o : Option Refusal) → unfit p (take (cell_count p) birth) ≡ o → Cells p birth (chip_after p birth h) (law.journal_after p birth h)
    by None e = fit_cells p birth e _ _ (stands p lw birth e h)
    by (Some r) e =
        rw (unfit_history p r (born p birth) e h, unfit_journal p r birth e blank h) (born_cells p birth)

-- ---- captures

told_by : (p : Shape) → Lawful p → (birth : List ℕ) (j : Journal) (v : View) (bytes : List ℕ) (o o' : Option Refusal) → (o ≡ None → Stands p birth j v) →
    Told (call.unless o v (call.unless o' v (records p v 0 bytes))) (told_first o (told_first o' (journal_tells p birth j 0 bytes)))
told_by p lw birth j v bytes (Some r) o' s = (refl, refl)
told_by p lw birth j v bytes None (Some r) s = (refl, refl)
told_by p lw birth j v bytes None None s = (recorded p lw birth bytes 0 j v (s refl)).1

pub captures_stand : CapturesStand
captures_stand p lw birth h bytes room =
    rw (cells_stand p lw birth h).fitness
    (told_by p lw birth (law.journal_after p birth h) (chip_after p birth h) bytes (unfit p (take (cell_count p) birth)) (refused_capture bytes room) (λ z. stands p lw birth z h))

pub unfit_stand : UnfitStand
unfit_stand p birth r e h x =
    let same = unfit_history p r (born p birth) e h in
    (same, ap (λ v. (outcome p v x).says) same ∙ (unfit_call p r (born p birth) e x).1)

-- ---- sameness

rest_shift : {p : Shape} {birth : List ℕ} {j : Journal} {v : View} → Tracks p birth j v → v.stretch ≡ Deselected → v.shift ≡ at_rest
rest_shift (tracks resting m) e = refl
rest_shift (tracks (young lt) m) e = cc
rest_shift {p} (tracks (old eight rest a wel sample e8 ok so) m) e =
    let q = rw e at (old_off p.ident a wel eight rest) in cc

-- the bytes of a chip born over a row of bytes
cells_bytes : (p : Shape) (birth : List ℕ) → Bytes birth → (j : Journal) (v : View) → Stands p birth j v → Bytes v.cells
cells_bytes p birth bs j v s = by s.tie s.sound
  where
    by : {j : Journal} {v : View} → Tracks p birth j v → SoundList p j.entries → Bytes v.cells
    by (tracks {es = es} {cells = cells} ft m) sound i =
        elim (cases_lt i (cell_count p)) [
          | inl h ↦ rw (m.now_is i h) (byte_by p (λ n x. x < 256) (λ n x g. g.byte) birth bs es sound i false)
          | inr h ↦ rw (get_or_past cells i 0 (omega arith)) (lit< tt)
        ]

-- a chip that is fit was born fit
birth_fit : (p : Shape) (birth : List ℕ) (h : List Call) → unfit p (chip_after p birth h).cells ≡ None → unfit p (take (cell_count p) birth) ≡ None
birth_fit p birth h f = by (unfit p (take (cell_count p) birth)) refl
  where
    by : (o : Option Refusal) → unfit p (take (cell_count p) birth) ≡ o → unfit p (take (cell_count p) birth) ≡ None
    by None e = e
    by (Some r) e = cc (ap (λ v. unfit p v.cells) (unfit_history p r (born p birth) e h))

-- what agrees is one view
one_view : {p : Shape} {birth birth' : List ℕ} {j j' : Journal} {u v : View} → Tracks p birth j u → Tracks p birth' j' v → AtRest u → AtRest v → u.shift ≡ v.shift → Agree p birth birth' j j' → u ≡ v
one_view {p} (tracks {cells = cells} ft m) (tracks {cells = cells'} ft' m') ru rv sh ag =
    let same : cells ≡ cells' = ext_get_or 0 cells cells' (m.len_is ∙ sym m'.len_is)
    (λ i h. let k : i < cell_count p = omega arith in m.now_is i k ∙ (ag.same_cells i k ∙ sym (m'.now_is i k))) in
    λ i. record {
      pins = record { clock = ag.same_c i; input = ag.same_d i; protect = ag.same_w i; hold = ag.same_h i };
      wel = ag.same_enabled i;
      cycle = (ru.idle ∙ sym rv.idle) i;
      stretch = (ru.deselected ∙ sym rv.deselected) i;
      shift = sh i;
      cells = same i;
    }

-- what is alike agrees
alike_agree : {p : Shape} {birth birth' : List ℕ} {j j' : Journal} {u v : View} → Tracks p birth j u → Tracks p birth' j' v →
    (u.pins ≡ v.pins) × (u.wel ≡ v.wel) × ((i : ℕ) → i < cell_count p → get_or u.cells i 0 ≡ get_or v.cells i 0) → Agree p birth birth' j j'
alike_agree (tracks ft m) (tracks ft' m') same =
    record {
      same_c = ap (λ x. x.clock) same.0;
      same_d = ap (λ x. x.input) same.0;
      same_w = ap (λ x. x.protect) same.0;
      same_h = ap (λ x. x.hold) same.0;
      same_enabled = same.1;
      same_cells = λ i h. sym (m.now_is i h) ∙ (same.2 i h ∙ m'.now_is i h);
    }

pub sameness_stands : SamenessStands
sameness_stands p lw birth birth' h h' bs bs' f f' r r' =
    let s = stands p lw birth (birth_fit p birth h f) h in
    let s' = stands p lw birth' (birth_fit p birth' h' f') h' in (
      (λ alike. alike_agree s.tie s'.tie
          (tells p lw (chip_after p birth h) (chip_after p birth' h') r r' (rest_shift s.tie r.deselected) (rest_shift s'.tie r'.deselected)
          (cells_bytes p birth bs _ _ s) (cells_bytes p birth' bs' _ _ s') f f' alike)),
      (λ ag xs _. ap (λ v. answers p v xs) (one_view s.tie s'.tie r r' (rest_shift s.tie r.deselected ∙ sym (rest_shift s'.tie r'.deselected)) ag)),
    )

-- ---- a refused capture

-- n records, and then a refused one
record Stops (p : Shape) (v : View) (i : ℕ) (bytes : List ℕ) (e : Fault) : Type 0 where
  n : ℕ
  at : e.«record» ≡ i + n
  some : 2 * n ≤ length bytes
  same : (records p v i bytes).view ≡ (records p v i (take (2 * n) bytes)).view
  levels : (records p v i bytes).levels ≡ (records p v i (take (2 * n) bytes)).levels
  before : (records p v i (take (2 * n) bytes)).says ≡ Ok (i + n)
  here : step p (records p v i (take (2 * n) bytes)).view (get_or bytes (2 * n) 0) (get_or bytes (2 * n + 1) 0) ≡ refused e.refusal
  fault : e ≡ raised e.refusal e.«record»

stops : (p : Shape) (bytes : List ℕ) (v : View) (i : ℕ) (e : Fault) → (records p v i bytes).says ≡ Err e → Stops p v i bytes e
stops p [] v i e q = cc
stops p (k ∷ []) v i e q = cc
stops p (k ∷ l ∷ more) v i e q = by (step p v k l) refl q (λ u z. stops p more u (i + 1) e z)
  where
    by : (d : Done) → step p v k l ≡ d → (follow p v i d more).says ≡ Err e → ((u : View) → (records p u (i + 1) more).says ≡ Err e → Stops p u (i + 1) more e) → Stops p v i (k ∷ l ∷ more) e
    by (refused r) s z go =
        let f : raised r i ≡ e = cc in
        record {
          n = 0;
          at = rw (← f) (omega arith);
          some = omega arith;
          same = rw (s, records);
          levels = rw (s, records);
          before = ap Ok (omega arith);
          here = rw (s, ← f);
          fault = rw (← f);
        }
    by (taken u) s z go =
        let c = go u z in
        let two : 2 * (c.n + 1) ≡ suc (suc (2 * c.n)) = omega arith in
        let three : suc (suc (2 * c.n)) + 1 ≡ suc (suc (2 * c.n + 1)) = omega arith in
        record {
          n = c.n + 1;
          at = omega arith;
          some = omega arith;
          same = rw (two, s, records) c.same;
          levels = rw (two, s, records) (ap (λ qs. rule.seen u.shift ∷ qs) c.levels);
          before = rw (two, s, records) (c.before ∙ ap Ok (omega arith));
          here = rw (two, three, s, records) c.here;
          fault = c.fault;
        }

ready : (bytes : List ℕ) (n : ℕ) → 2 * n ≤ length bytes → refused_capture (take (2 * n) bytes) n ≡ None
ready bytes n h =
    let len = length-take-le (2 * n) bytes h in
    rw (eq-eqb (length (take (2 * n) bytes) % 2) 0 (omega arith), le-ltb n (length (take (2 * n) bytes) / 2) (omega arith), refused_capture)

pub refused_capture_stands : RefusedCaptureStands
refused_capture_stands p v bytes room e says = by (unfit p v.cells) refl (refused_capture bytes room) refl says
  where
    by : (o : Option Refusal) → unfit p v.cells ≡ o → (o' : Option Refusal) → refused_capture bytes room ≡ o' → (call.unless o v (call.unless o' v (records p v 0 bytes))).says ≡ Err e → RefusedCapture p v bytes room e
    by (Some r) f o' g q = record { view = rw (f, called); levels = rw f; at = λ n _. cc }
    by None f (Some r) g q =
        let zero : e.«record» ≡ 0 = cc in
        record { view = rw (f, g, zero, called); levels = rw (f, g, zero); at = λ _ n. cc }
    by None f None g q =
        let c = stops p bytes v 0 e q in
        let n : e.«record» ≡ c.n = omega arith in
        let fits = ready bytes c.n c.some in
        record {
          view = rw (f, g, n, fits, called) c.same;
          levels = rw (f, g, n, fits) c.levels;
          at = λ _ _. record { before = rw (f, n, fits) (c.before ∙ ap Ok (omega arith)); here = rw (f, n, fits) c.here; fault = c.fault };
        }

-- ---- page copies

copied : (v : View) (o o' : Option Refusal) →
    ((call.unless o v (call.unless o' v (record { view = v; levels = []; says = Ok 256 }))).says ≡ first_of o (first_of o' (Ok 256)))
    × ((call.unless o v (call.unless o' v (record { view = v; levels = []; says = Ok 256 }))).view ≡ v)
copied v (Some r) o' = (refl, refl)
copied v None (Some r) = (refl, refl)
copied v None None = (refl, refl)

pub copies_stand : CopiesStand
copies_stand p lw birth h page at room =
    let v = chip_after p birth h in
    let o' = refused_copy p (rule.running v.cycle) page at room in
    (rw (cells_stand p lw birth h).fitness (by (unfit p (take (cell_count p) birth)) refl), (copied v (unfit p v.cells) o').1)
  where
    runs_same : {j : Journal} {v : View} → Tracks p birth j v → rule.running v.cycle ≡ note.cycle_runs j.entries
    runs_same (tracks ft m) = m.run_is

    by : (o : Option Refusal) → unfit p (take (cell_count p) birth) ≡ o →
        (call.unless o (chip_after p birth h) (call.unless (refused_copy p (rule.running (chip_after p birth h).cycle) page at room) (chip_after p birth h) (record { view = chip_after p birth h; levels = []; says = Ok 256 }))).says
        ≡ first_of o (first_of (refused_copy p (note.cycle_runs (law.journal_after p birth h).entries) page at room) (Ok 256))
    by (Some r) e = refl
    by None e = rw (← runs_same (stands p lw birth e h).tie) (copied (chip_after p birth h) None (refused_copy p (rule.running (chip_after p birth h).cycle) page at room)).0
