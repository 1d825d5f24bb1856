-- Chips as outcomes of histories: what is equal is alike, and the other way round.
use Rattle.std.proofs.Common.{◌≡◌, ℕ, Bool, true, false, ◌↔◌, List, take, Some, None, Ok, Err, Option, Result, sym, refl, ap, ◌∙◌, subst, true≢false}
use Rattle.std.specs.Result.{result_err}
use Rattle.backing.specs.Rows.{Bytes}
use Rattle.backing.specs.declared.fault.Fault.{Fault}
use Rattle.rules.specs.declared.state.Pending.{Pending}
use Rattle.rules.specs.declared.state.Phase.{Phase}
use Rattle.rules.specs.declared.state.Phase.TheVariants.{Deselected, Instruction, Ignored, Enable, Disable, Status, Address, Output, Input}
use Rattle.rules.specs.Shape.{Shape, Lawful, cell_count}
use Rattle.rules.specs.Tables.{unfit}
use Rattle.rules.specs.Rules.{View, born, running, is_off}
use Rattle.rules.specs.Calls.{Call}
use Rattle.laws.specs.Journal.{Journal, blank}
use Rattle.laws.specs.Laws.{chip_after, journal_after, AtRest, Alike, Agree}
use Rattle.laws.proofs.Keeps.{Tracks, tracks}
use Rattle.laws.proofs.Main.{cells_stand, sameness_stands}
use Rattle.laws.proofs.Runs.{birth_stands, history_stands}
use Rattle.chip.specs.Answers.{checked}
use Rattle.chip.specs.Sameness.{Equal, first_of, first_fault, SameLaw, Compared}
use Rattle.chip.specs.declared.sameness.Comparison.{Comparison}
use Rattle.chip.specs.declared.sameness.Comparison.TheVariants.{Selected, Running, Same, Different}

-- ---- one test each

pub off : (ph : Phase) → is_off ph ≡ true → ph ≡ Deselected
off Deselected e = refl
off (Instruction n v) e = absurd (true≢false (sym e))
off Ignored e = absurd (true≢false (sym e))
off Enable e = absurd (true≢false (sym e))
off Disable e = absurd (true≢false (sym e))
off (Status k) e = absurd (true≢false (sym e))
off (Address a wel n v) e = absurd (true≢false (sym e))
off (Output r a k) e = absurd (true≢false (sym e))
off (Input g) e = absurd (true≢false (sym e))

pub idle : (cy : Option Pending) → running cy ≡ false → cy ≡ None
idle None e = refl
idle (Some w) e = absurd (true≢false e)

abbrev is_same : Result Comparison Fault → Bool
is_same (Ok Selected) = false
is_same (Ok Running) = false
is_same (Ok Same) = true
is_same (Ok Different) = false
is_same (Err e) = false

-- ---- what is equal, by the journals

module _ (p : Shape) (birth birth' : List ℕ) where
  equal_agree : {j j' : Journal} {u v : View} → Tracks p birth j u → Tracks p birth' j' v → Equal p u v → Agree p birth birth' j j'
  equal_agree (tracks ft m) (tracks ft' m') q =
      record {
        same_c = ap (λ x. x.clock) q.same_pins;
        same_d = ap (λ x. x.input) q.same_pins;
        same_w = ap (λ x. x.protect) q.same_pins;
        same_h = ap (λ x. x.hold) q.same_pins;
        same_enabled = q.same_wel;
        same_cells = λ i h. sym (m.now_is i h) ∙ (q.same_cells i h ∙ m'.now_is i h);
      }

  agree_equal : {j j' : Journal} {u v : View} → Tracks p birth j u → Tracks p birth' j' v → Agree p birth birth' j j' → Equal p u v
  agree_equal (tracks ft m) (tracks ft' m') ag =
      record {
        same_pins = λ i. record { clock = ag.same_c i; input = ag.same_d i; protect = ag.same_w i; hold = ag.same_h i };
        same_wel = ag.same_enabled;
        same_cells = λ i h. m.now_is i h ∙ (ag.same_cells i h ∙ sym (m'.now_is i h));
      }

-- the tie of a fit chip to its journal
tie_of : (p : Shape) → Lawful p → (birth : List ℕ) (h : List Call) (v : View) → v ≡ chip_after p birth h → unfit p v.cells ≡ None → Tracks p birth (journal_after p birth h) v
tie_of p lw birth h v e f =
    let born_fit : unfit p (take (cell_count p) birth) ≡ None = sym (cells_stand p lw birth h).fitness ∙ (ap (λ w. unfit p w.cells) (sym e) ∙ f) in
    subst (λ w. Tracks p birth (journal_after p birth h) w) (sym e)
    (history_stands p lw birth born_fit h blank (born p birth) (birth_stands p birth born_fit)).tie

-- ---- the law of two chips

abbrev LawAt : (p : Shape) (agree : Type 0) (u v : View) → Type 0
LawAt p agree u v = unfit p u.cells ≡ None → unfit p v.cells ≡ None → AtRest u → AtRest v → Alike p u v ↔ agree

same_law : (p : Shape) → Lawful p → (u v : View) → SameLaw p u v
same_law p lw u v birth birth' h h' bs bs' e e' =
    let agree : Type 0 = Agree p birth birth' (journal_after p birth h) (journal_after p birth' h') in
    subst (λ w. LawAt p agree w v) (sym e)
    (subst (λ w. LawAt p agree (chip_after p birth h) w) (sym e') (sameness_stands p lw birth birth' h h' bs bs'))

-- ---- fit chips at rest

module _ (p : Shape) (lw : Lawful p) (u v : View) (fit : unfit p u.cells ≡ None) (fit' : unfit p v.cells ≡ None)
    (s : is_off u.stretch ≡ true) (s' : is_off v.stretch ≡ true) (c : running u.cycle ≡ false) (c' : running v.cycle ≡ false) where
  rest : AtRest u
  rest = record { deselected = off u.stretch s; idle = idle u.cycle c }

  rest' : AtRest v
  rest' = record { deselected = off v.stretch s'; idle = idle v.cycle c' }

  no_fault : result_err (first_fault p u v) ≡ None
  no_fault = ap (λ o. result_err (first_of (checked o) (checked (unfit p v.cells)))) fit ∙ ap (λ o. result_err (checked o)) fit'

  module _ (birth birth' : List ℕ) (h h' : List Call) (bs : Bytes birth) (bs' : Bytes birth') (e : u ≡ chip_after p birth h) (e' : v ≡ chip_after p birth' h') where
    by_law : Alike p u v ↔ Agree p birth birth' (journal_after p birth h) (journal_after p birth' h')
    by_law = same_law p lw u v birth birth' h h' bs bs' e e' fit fit' rest rest'

    equal_alike : Equal p u v → Alike p u v
    equal_alike q = by_law.1 (equal_agree p birth birth' (tie_of p lw birth h u e fit) (tie_of p lw birth' h' v e' fit') q)

    alike_equal : Alike p u v → Equal p u v
    alike_equal al = agree_equal p birth birth' (tie_of p lw birth h u e fit) (tie_of p lw birth' h' v e' fit') (by_law.0 al)

  pub compared_same : Equal p u v → Compared p u v (Ok Same)
  compared_same q =
      record {
        faults = sym no_fault;
        answer = ((rest, rest'), q);
        alike = λ birth birth' h h' bs bs' e e'. ((λ _. equal_alike birth birth' h h' bs bs' e e' q), λ z. absurd (true≢false (ap is_same z)));
        law = same_law p lw u v;
      }

  pub compared_different : (Equal p u v → ⊥) → Compared p u v (Ok Different)
  compared_different n =
      record {
        faults = sym no_fault;
        answer = ((rest, rest'), n);
        alike = λ birth birth' h h' bs bs' e e'. ((λ z. absurd (true≢false (sym (ap is_same z)))), λ _ al. n (alike_equal birth birth' h h' bs bs' e e' al));
        law = same_law p lw u v;
      }
