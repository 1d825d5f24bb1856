-- A capture taken record by record.
use Rattle.std.proofs.Common.{◌≡◌, ℕ, zero, suc, ◌+◌, ◌*◌, ◌/◌, ◌<◌, ◌≤◌, List, [], ◌∷◌, ◌++◌, map, length, get_or, take, drop, set, Ok, Err, Result, sym, ap, ◌∙◌, append_assoc, zero-add, lit<, arith}
use base.Fml.{GName}
use Rattle.std.proofs.lemmas.List.{get_or-take, get_or-drop, drop_more, drop_all, take_more_set, drop-set-lt, drop-drop, append-nil, length-take-le, length-map, take-append-drop}
use Rattle.std.specs.Simd.{first_chunks}
use Rattle.backing.specs.Faults.{raised, moved_to}
use Rattle.backing.specs.declared.fault.Fault.{Fault}
use Rattle.rules.specs.declared.state.Level.{Level}
use Rattle.rules.specs.Shape.{Shape}
use Rattle.rules.specs.Tables.{level_number}
use Rattle.rules.specs.Rules.{View, Done, taken, refused, step, after, seen}
use Rattle.rules.specs.Calls.{Outcome, with_level, records, written}
use Rattle.chip.specs.Answers.{answered}
use Rattle.chip.specs.Shows.{Kept}

pub kept_on : {B : Type 0} (p : Shape) (row past : B → List ℕ) (held : B → List GName) (x y z : B) → Kept p row past held x y → Kept p row past held y z → Kept p row past held x z
kept_on p row past held x y z a b =
    record {
      same_held = b.same_held ∙ a.same_held;
      same_past = b.same_past ∙ a.same_past;
      same_length = b.same_length ∙ a.same_length;
      same_rest = b.same_rest ∙ a.same_rest;
    }

-- what one record makes of what is to come
abbrev then : Shape → View → ℕ → List ℕ → Done → Outcome
then p v i more (taken u) = with_level (seen u.shift) (records p u (i + 1) more)
then p v i more (refused r) = record { view = v; levels = []; says = Err (raised r i) }

records_then : (p : Shape) (v : View) (i k l : ℕ) (more : List ℕ) (d : Done) → step p v k l ≡ d → records p v i (k ∷ l ∷ more) ≡ then p v i more d
records_then p v i k l more d e =
    ap (λ x. elim x as (λ _. Outcome) [
      | taken u ↦ with_level (seen u.shift) (records p u (i + 1) more)
      | refused r ↦ record { view = v; levels = []; says = Err (raised r i) }
    ]) e

-- the two bytes of a record, where a capture is cut into records
pair_byte : (n i k : ℕ) (xs : List ℕ) → i < n → k < 2 → get_or (get_or (first_chunks 2 n xs) i []) k 0 ≡ get_or xs (2 * i + k) 0
pair_byte zero i k xs h lt = absurd (omega arith)
pair_byte (suc n) zero k xs h lt = get_or-take 2 xs k 0 lt ∙ ap (λ m. get_or xs m 0) (sym (zero-add k))
pair_byte (suc n) (suc i) k xs h lt =
    let e : 2 + (2 * i + k) ≡ 2 * suc i + k = omega arith in
    pair_byte n i k (drop 2 xs) (omega arith) lt ∙ get_or-drop 2 xs (2 * i + k) 0 ∙ ap (λ m. get_or xs m 0) e

pub pair_step : (p : Shape) (v : View) (recs : List ℕ) (pairs : List (List ℕ)) (i : ℕ) → pairs ≡ first_chunks 2 (length recs / 2) recs → i < length recs / 2 →
    step p v (get_or recs (2 * i) 0) (get_or recs (2 * i + 1) 0) ≡ step p v (get_or (get_or pairs i []) 0 0) (get_or (get_or pairs i []) 1 0)
pair_step p v recs pairs i e h =
    let z : 2 * i + 0 ≡ 2 * i = omega arith in
    let kind : get_or recs (2 * i) 0 ≡ get_or (get_or pairs i []) 0 0 = sym (ap (λ ps. get_or (get_or ps i []) 0 0) e ∙ pair_byte (length recs / 2) i 0 recs h (lit< tt) ∙ ap (λ m. get_or recs m 0) z) in
    let level : get_or recs (2 * i + 1) 0 ≡ get_or (get_or pairs i []) 1 0 = sym (ap (λ ps. get_or (get_or ps i []) 1 0) e ∙ pair_byte (length recs / 2) i 1 recs h (lit< tt)) in
    ap (λ k. step p v k (get_or recs (2 * i + 1) 0)) kind ∙ ap (λ l. step p v (get_or (get_or pairs i []) 0 0) l) level

-- i records are taken: what is to come gives the same chip and the same answer, its levels follow the answers so far,
-- and the answer bytes from i on are as they were
pub record Midway (p : Shape) (v₀ v : View) (recs old new : List ℕ) (i : ℕ) : Type 0 where
  pub view : (records p v₀ 0 recs).view ≡ (records p v i (drop (2 * i) recs)).view
  pub says : (records p v₀ 0 recs).says ≡ (records p v i (drop (2 * i) recs)).says
  pub levels : map level_number (records p v₀ 0 recs).levels ≡ take i new ++ map level_number (records p v i (drop (2 * i) recs)).levels
  pub rest : drop i new ≡ drop i old

drop_two : (recs : List ℕ) (i : ℕ) → 2 * i + 1 < length recs → drop (2 * i) recs ≡ get_or recs (2 * i) 0 ∷ get_or recs (2 * i + 1) 0 ∷ drop (2 * (i + 1)) recs
drop_two recs i h =
    let e : 2 * i + 1 + 1 ≡ 2 * (i + 1) = omega arith in
    drop_more recs (2 * i) 0 (omega arith)
    ∙ ap (λ xs. get_or recs (2 * i) 0 ∷ xs) (drop_more recs (2 * i + 1) 0 h ∙ ap (λ m. get_or recs (2 * i + 1) 0 ∷ drop m recs) e)

ahead : (p : Shape) (v : View) (recs : List ℕ) (i : ℕ) → 2 * i + 1 < length recs → (d : Done) → step p v (get_or recs (2 * i) 0) (get_or recs (2 * i + 1) 0) ≡ d → records p v i (drop (2 * i) recs) ≡ then p v i (drop (2 * (i + 1)) recs) d
ahead p v recs i h d e =
    ap (records p v i) (drop_two recs i h) ∙ records_then p v i (get_or recs (2 * i) 0) (get_or recs (2 * i + 1) 0) (drop (2 * (i + 1)) recs) d e

-- one record that is taken
midway_taken : (p : Shape) (v₀ v u : View) (recs old new : List ℕ) (i : ℕ) → 2 * i + 1 < length recs → i < length new → step p v (get_or recs (2 * i) 0) (get_or recs (2 * i + 1) 0) ≡ taken u → Midway p v₀ v recs old new i → Midway p v₀ u recs old (set new i (level_number (seen u.shift))) (i + 1)
midway_taken p v₀ v u recs old new i h k e m =
    let f = ahead p v recs i h (taken u) e in
    let q = level_number (seen u.shift) in
    let next = records p u (i + 1) (drop (2 * (i + 1)) recs) in
    record {
      view = m.view ∙ ap (λ z. z.view) f;
      says = m.says ∙ ap (λ z. z.says) f;
      levels = m.levels ∙ ap (λ z. take i new ++ map level_number z.levels) f ∙ sym (append_assoc (take i new) (q ∷ []) (map level_number next.levels)) ∙ ap (λ z. z ++ map level_number next.levels) (sym (take_more_set new i q k));
      rest = drop-set-lt (i + 1) new i q (omega arith) ∙ sym (drop-drop 1 i new) ∙ ap (drop 1) m.rest ∙ drop-drop 1 i old;
    }

-- a record that is answered
pub midway_more : (p : Shape) (v₀ v v' : View) (recs old new : List ℕ) (i b : ℕ) (q : Level) (d : Done) → 2 * i + 1 < length recs → i < length new
    → step p v (get_or recs (2 * i) 0) (get_or recs (2 * i + 1) 0) ≡ d → Ok q ≡ answered d → v' ≡ after v d → b ≡ level_number q
    → Midway p v₀ v recs old new i → Midway p v₀ v' recs old (set new i b) (i + 1)
midway_more p v₀ v v' recs old new i b q (taken u) h k e a w n m =
    let s : q ≡ seen u.shift = cc in
    let t : level_number (seen u.shift) ≡ b = ap level_number (sym s) ∙ sym n in
    rw (w, sym t) (midway_taken p v₀ v u recs old new i h k e m)
midway_more p v₀ v v' recs old new i b q (refused r) h k e a w n m =
    let z : ◌≡◌ {A = ℕ} 0 1 = cc in
    absurd (omega arith)

-- a run that has ended at record i with this answer
pub record Ended (p : Shape) (v₀ v : View) (recs old new : List ℕ) (r : Result ℕ Fault) : Type 0 where
  pub view : v ≡ (records p v₀ 0 recs).view
  pub says : r ≡ (records p v₀ 0 recs).says
  pub answers : new ≡ written (records p v₀ 0 recs).levels old

laid_at : (levels : List Level) (old new : List ℕ) (i : ℕ) → i ≤ length new → map level_number levels ≡ take i new → drop i new ≡ drop i old → new ≡ written levels old
laid_at levels old new i h e d =
    let n : length levels ≡ i = sym (length-map levels level_number) ∙ ap length e ∙ length-take-le i new h in
    sym (take-append-drop i new) ∙ ap (λ z. take i new ++ z) d ∙ ap (λ z. z ++ drop i old) (sym e) ∙ ap (λ k. map level_number levels ++ drop k old) (sym n)

ended : (p : Shape) (v₀ v : View) (recs old new : List ℕ) (i : ℕ) (r : Result ℕ Fault) → i ≤ length new
    → records p v i (drop (2 * i) recs) ≡ record { view = v; levels = []; says = r } → Midway p v₀ v recs old new i → Ended p v₀ v recs old new r
ended p v₀ v recs old new i r h e m =
    record {
      view = sym (m.view ∙ ap (λ z. z.view) e);
      says = sym (m.says ∙ ap (λ z. z.says) e);
      answers = laid_at (records p v₀ 0 recs).levels old new i h (m.levels ∙ ap (λ z. take i new ++ map level_number z.levels) e ∙ append-nil (take i new)) m.rest;
    }

-- a record that is refused ends a run, and so does the last record
pub ended_refused : (p : Shape) (v₀ v v' : View) (recs old new : List ℕ) (i : ℕ) (f : Fault) (d : Done) → 2 * i + 1 < length recs → i ≤ length new
    → step p v (get_or recs (2 * i) 0) (get_or recs (2 * i + 1) 0) ≡ d → ◌≡◌ {A = Result Level Fault} (Err f) (answered d) → v' ≡ after v d
    → Midway p v₀ v recs old new i → Ended p v₀ v' recs old new (Err (moved_to f i))
ended_refused p v₀ v v' recs old new i f (taken u) h k e a w m =
    let z : ◌≡◌ {A = ℕ} 0 1 = cc in
    absurd (omega arith)
ended_refused p v₀ v v' recs old new i f (refused r) h k e a w m =
    let t : f ≡ raised r 0 = cc in
    rw (w, t) (ended p v₀ v recs old new i (Err (raised r i)) k (ahead p v recs i h (refused r) e) m)

pub ended_all : (p : Shape) (v₀ v : View) (recs old new : List ℕ) (i : ℕ) → length recs ≤ 2 * i → i ≤ length new → Midway p v₀ v recs old new i → Ended p v₀ v recs old new (Ok i)
ended_all p v₀ v recs old new i h k m = ended p v₀ v recs old new i (Ok i) k (ap (records p v i) (drop_all (2 * i) recs h)) m
