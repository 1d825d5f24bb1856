-- A call on a chip that is the outcome of a history, by the laws.
use Rattle.std.proofs.Common.{◌≡◌, ℕ, List, [], ◌∷◌, ◌++◌, Ok, Result, sym, refl, ap, ◌∙◌, subst}
use Rattle.backing.specs.declared.fault.Fault.{Fault}
use Rattle.rules.specs.declared.state.Level.{Level}
use Rattle.rules.specs.Shape.{Shape, Lawful}
use Rattle.rules.specs.Rules.{View, born}
use Rattle.rules.specs.Calls.{Call, event, capture, outcome, called, after_calls, written}
use Rattle.laws.specs.Laws.{send, chip_after, journal_after, Cells}
use Rattle.laws.proofs.Main.{answers_stand, captures_stand, cells_stand}
use Rattle.chip.specs.Answers.{numbered}
use Rattle.chip.specs.Histories.{EventLaw, CaptureLaw}

-- one call more
after_more : (p : Shape) (v : View) (h : List Call) (x : Call) → after_calls p v (h ++ (x ∷ [])) ≡ called p (after_calls p v h) x
after_more p v [] x = refl
after_more p v (y ∷ h) x = after_more p (called p v y) h x

cells_more : (p : Shape) → Lawful p → (birth : List ℕ) (h : List Call) (x : Call) (u v : View) → u ≡ chip_after p birth h → v ≡ called p u x → Cells p birth v (journal_after p birth (h ++ (x ∷ [])))
cells_more p law birth h x u v e f =
    subst (λ w. Cells p birth w (journal_after p birth (h ++ (x ∷ [])))) (after_more p (born p birth) h x ∙ ap (λ w. called p w x) (sym e) ∙ sym f) (cells_stand p law birth (h ++ (x ∷ [])))

abbrev head_or : Result ℕ Fault → List (Result ℕ Fault) → Result ℕ Fault
head_or r [] = r
head_or r (x ∷ xs) = x

pub event_law : (p : Shape) → Lawful p → (u v : View) (k l : ℕ) (r : Result Level Fault) → numbered r ≡ (outcome p u (event k l)).says → v ≡ (outcome p u (event k l)).view → EventLaw p u v k l r
event_law p law u v k l r says view birth h e =
    record {
      answer = says ∙ ap (λ w. (outcome p w (event k l)).says) e ∙ ap (head_or (Ok 0)) (answers_stand p law birth h (send k l ∷ []));
      cells = cells_more p law birth h (event k l) u v e view;
    }

pub capture_law : (p : Shape) → Lawful p → (u v : View) (bytes old new : List ℕ) (room : ℕ) (r : Result ℕ Fault) → r ≡ (outcome p u (capture bytes room)).says → new ≡ written (outcome p u (capture bytes room)).levels old → v ≡ (outcome p u (capture bytes room)).view → CaptureLaw p u v bytes old new room r
capture_law p law u v bytes old new room r says answers view birth h e =
    let c = captures_stand p law birth h bytes room in
    record {
      answer = says ∙ ap (λ w. (outcome p w (capture bytes room)).says) e ∙ c.1;
      levels = answers ∙ ap (λ w. written (outcome p w (capture bytes room)).levels old) e ∙ ap (λ qs. written qs old) c.0;
      cells = cells_more p law birth h (capture bytes room) u v e view;
    }
